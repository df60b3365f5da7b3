-- Texts of edits and their lines.
use Rattle.std.proofs.Common.{◌≡◌, ℕ, suc, ◌<◌, List, [], ◌∷◌, ◌++◌, length, get_or, drop, refl, sym, ap, ◌∙◌, append_assoc, arith, inl, inr, length-append}
use Rattle.std.specs.List.{AllByRecursion, join_with_byte}
use Rattle.std.proofs.lemmas.Bool.{cases_lt}
use Rattle.std.proofs.lemmas.List.{append-nil}
use Rattle.dpl_spec_split.specs.declared.Rect.{Rect}
use Rattle.dpl_cert.specs.Lines.{line, lines, text, AreWords}
use Rattle.dpl_cert.specs.Grammar.{IsRect, rect_words}
use Rattle.dpl_parse.specs.Spelled.{signed_word}
use Rattle.dpl_parse.proofs.Texts.{line_injective, lines_at, joined_lacks}
use Rattle.dpl_parse.proofs.Numerals.{coordinate_same}
use Rattle.dpl_spec_edits.specs.declared.Edit.{Edit}
use Rattle.dpl_spec_edits.specs.declared.Edit.TheVariants.{Add, Remove}
use Rattle.dpl_spec_edits.specs.Text.{edit_words, edit_lines, IsEdit, IsListed, IsNoEdit, IsFirstBad}

rect_are_words : (r : Rect) → IsRect r → AreWords (rect_words r)
rect_are_words r f = (signed_word r.x0 f.x0, (signed_word r.y0 f.y0, (signed_word r.x1 f.x1, signed_word r.y1 f.y1)))

-- the words of an edit have no space and no line feed
pub edit_are_words : (e : Edit) → IsEdit e → AreWords (edit_words e)
edit_are_words (Add r) f = (refl, rect_are_words r f)
edit_are_words (Remove r) f = (refl, rect_are_words r f)

rect_same : (r s : Rect) → IsRect r → IsRect s → rect_words r ≡ rect_words s → r ≡ s
rect_same r s f g e =
    let x0 = coordinate_same r.x0 s.x0 f.x0 g.x0 cc in
    let y0 = coordinate_same r.y0 s.y0 f.y0 g.y0 cc in
    let x1 = coordinate_same r.x1 s.x1 f.x1 g.x1 cc in
    let y1 = coordinate_same r.y1 s.y1 f.y1 g.y1 cc in
    λ i. record { x0 = x0 i; y0 = y0 i; x1 = x1 i; y1 = y1 i }

other_kinds : {xs ys : List ℕ} → 97 ∷ xs ≡ 114 ∷ ys → ⊥
other_kinds e = let n : ◌≡◌ {A = ℕ} 97 114 = ap (λ (l : List ℕ). get_or l 0 0) e in omega (arith, n)

-- an edit is known by its line
edit_same : (d e : Edit) → IsEdit d → IsEdit e → line (edit_words d) ≡ line (edit_words e) → d ≡ e
edit_same (Add r) (Add s) f g e =
    let words : edit_words (Add r) ≡ edit_words (Add s) = line_injective _ _ (edit_are_words (Add r) f) (edit_are_words (Add s) g) e in
    let same = rect_same r s f g (ap (drop 1) words) in λ i. Add (same i)
edit_same (Remove r) (Remove s) f g e =
    let words : edit_words (Remove r) ≡ edit_words (Remove s) = line_injective _ _ (edit_are_words (Remove r) f) (edit_are_words (Remove s) g) e in
    let same = rect_same r s f g (ap (drop 1) words) in λ i. Remove (same i)
edit_same (Add r) (Remove s) f g e = absurd (other_kinds e)
edit_same (Remove r) (Add s) f g e = absurd (other_kinds (sym e))

edits_same : (ds es : List Edit) → AllByRecursion IsEdit ds → AllByRecursion IsEdit es → edit_lines ds ≡ edit_lines es → ds ≡ es
edits_same [] [] f g e = refl
edits_same [] (y ∷ es) f g e = absurd cc
edits_same (x ∷ ds) [] f g e = absurd cc
edits_same (x ∷ ds) (y ∷ es) f g e =
    let first = edit_same x y f.0 g.0 (ap (λ (ls : List (List ℕ)). get_or ls 0 []) e) in
    let rest = edits_same ds es f.1 g.1 (ap (drop 1) e) in λ i. first i ∷ rest i

-- the lines of the text of edits are theirs
pub lines-edits : (es : List Edit) → AllByRecursion IsEdit es → lines (text (edit_lines es)) ≡ edit_lines es
lines-edits [] h = refl
lines-edits (e ∷ es) h =
    let words = edit_words e in
    let joined = join_with_byte 32 words in
    let rest = text (edit_lines es) in
    ap lines (append_assoc joined (10 ∷ []) rest) ∙ lines_at joined rest (joined_lacks words (edit_are_words e h.0))
    ∙ ap (λ (ls : List (List ℕ)). line words ∷ ls) (lines-edits es h.1)

pub listed_lines : (es : List Edit) (bytes : List ℕ) → IsListed es bytes → lines bytes ≡ edit_lines es
listed_lines es bytes a = ap lines a.is ∙ lines-edits es a.each

pub length-lines : (es : List Edit) → length (edit_lines es) ≡ length es
length-lines [] = refl
length-lines (e ∷ es) = ap suc (length-lines es)

-- the line behind some of the edits that more lines are of
edit_after : (before es : List Edit) (bad : List ℕ) (rest more : List (List ℕ)) → length before < length es → AllByRecursion IsEdit es
    → edit_lines es ++ more ≡ edit_lines before ++ (bad ∷ rest) → IsNoEdit bad → ⊥
edit_after before [] bad rest more lt f e none = absurd (omega arith)
edit_after [] (x ∷ es) bad rest more lt f e none = none x f.0 (sym (ap (λ (ls : List (List ℕ)). get_or ls 0 []) e))
edit_after (y ∷ before) (x ∷ es) bad rest more lt f e none = edit_after before es bad rest more (omega arith) f.1 (ap (drop 1) e) none

-- a line that is bad behind some edits isn't behind fewer of them
not_earlier : (bytes : List ℕ) (m n : ℕ) (a : IsFirstBad bytes m) (b : IsFirstBad bytes n) → length a.before < length b.before → ⊥
not_earlier bytes m n a b lt =
    elim a.why [
      | inl none ↦ edit_after a.before b.before a.bad a.rest (b.bad ∷ b.rest) lt b.each (sym b.are ∙ a.are) none
      | inr most ↦ let few = b.few in omega arith
    ]

pub one_first_bad : (bytes : List ℕ) (m n : ℕ) → IsFirstBad bytes m → IsFirstBad bytes n → m ≡ n
one_first_bad bytes m n a b =
    elim (cases_lt (length a.before) (length b.before)) [
      | inl lt ↦ absurd (not_earlier bytes m n a b lt)
      | inr le ↦ elim (cases_lt (length b.before) (length a.before)) [
        | inl lt ↦ absurd (not_earlier bytes n m b a lt)
        | inr other ↦ omega (arith, a.at, b.at)
      ]
    ]

pub one_list : (es fs : List Edit) (bytes : List ℕ) → IsListed es bytes → IsListed fs bytes → es ≡ fs
one_list es fs bytes a b = edits_same es fs a.each b.each (sym (listed_lines es bytes a) ∙ listed_lines fs bytes b)

pub good_or_bad : (es : List Edit) (bytes : List ℕ) (n : ℕ) → IsListed es bytes → IsFirstBad bytes n → ⊥
good_or_bad es bytes n a b =
    let same : edit_lines es ++ [] ≡ edit_lines b.before ++ (b.bad ∷ b.rest) = append-nil (edit_lines es) ∙ sym (listed_lines es bytes a) ∙ b.are in
    let longer : length b.before < length es = omega
    (arith, ap length same, length-append (edit_lines es) [], length-append (edit_lines b.before) (b.bad ∷ b.rest), length-lines es, length-lines b.before) in
    elim b.why [
      | inl none ↦ edit_after b.before es b.bad b.rest [] longer a.each same none
      | inr most ↦ let few = a.few in omega arith
    ]
