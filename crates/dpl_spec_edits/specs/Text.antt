-- The text that lists edits: a line for each.
use Rattle.std.specs.Prelude.{◌≡◌, ◌≢◌, ◌⊎◌, ◌+◌, ◌≤◌, ℕ, List, ◌∷◌, ◌++◌, codes, length, map}
use Rattle.std.specs.List.{AllByRecursion}
use Rattle.dpl_cert.specs.Grammar.{IsRect, rect_words}
use Rattle.dpl_cert.specs.Lines.{line, lines, text}
use Rattle.dpl_spec_edits.specs.declared.Edit.{Edit}
use Rattle.dpl_spec_edits.specs.declared.Edit.TheVariants.{Add, Remove}
use Rattle.dpl_spec_edits.specs.Edits.{rect_of}

-- the words of an edit: what is done, and the rectangle's left, lower, right and upper edge
abbrev pub edit_words : Edit → List (List ℕ)
edit_words (Add r) = codes "add" ∷ rect_words r
edit_words (Remove r) = codes "remove" ∷ rect_words r

-- a rectangle with some square, whose corners lie within 1,000,000,000 of 0
abbrev pub IsEdit : Edit → Type 0
IsEdit e = IsRect (rect_of e)

-- how many edits a text may list
abbrev pub most_edits : ℕ
most_edits = 100000

abbrev pub edit_lines : List Edit → List (List ℕ)
edit_lines es = map (λ e. line (edit_words e)) es

-- The text lists these edits, each in a line of its own that a line feed ends. A number is spelled one way: no plus, no leading zero, one space between words.
pub record IsListed (es : List Edit) (bytes : List ℕ) : Type 0 where
  pub each : AllByRecursion IsEdit es
  pub few : length es ≤ most_edits
  pub is : bytes ≡ text (edit_lines es)

-- the line is that of no edit
abbrev pub IsNoEdit : List ℕ → Type 0
IsNoEdit l = (e : Edit) → IsEdit e → l ≢ line (edit_words e)

-- The first line of a text by which it lists no edits, counted from 1: the lines before it are those of edits, and it is none, or one too many.
-- A last line without a line feed is that of no edit.
pub record IsFirstBad (bytes : List ℕ) (n : ℕ) : Type 0 where
  pub before : List Edit
  pub each : AllByRecursion IsEdit before
  pub few : length before ≤ most_edits
  pub bad : List ℕ
  pub rest : List (List ℕ)
  pub are : lines bytes ≡ edit_lines before ++ bad ∷ rest
  pub at : n ≡ length before + 1
  pub why : IsNoEdit bad ⊎ (length before ≡ most_edits)
