-- The iterator of `clap` over the values of an argument reads the numbers that their texts write.
use Rattle.std.proofs.Common.{◌≡◌, ◌∙◌, ◌∷◌, [], ℕ, Bool, cond, false, List, true, true≢false, refl, sym, ap, subst, unwrap_or, Some, None, Option, is_some}
use Rattle.std.specs.Prelude.{All, Ok, Err, IsOk, Result, find, map, option_map}
use Rattle.std.specs.Borrow.{Bor}
use Rattle.std.specs.Str.{bytes_eq}
use Rattle.std.specs.Str.Parse.{ParsesUnsigned}
use Rattle.std.proofs.lemmas.List.Elements.{All-head, All-tail}
use Rattle.std.proofs.lemmas.Simd.{map-map}
use Rattle.clap.specs.Facts.{Entry}
use Rattle.clap.specs.Matches.{StepsValues, matched_of, typed_values}
use Rattle.clap.specs.Values.{read_as}
use Rattle.clap.specs.Walk.{Row, Text, many_of, row_of, rows_of, texts}
use Rattle.clap.specs.declared.parser.matches.Found.{Found}
use Rattle.clap.specs.declared.parser.matches.MatchedArg.{MatchedArg}
use Rattle.dpl_words.specs.Meaning.{number_below, numbers_in}
use Rattle.dpl_words.specs.Ranges.{AreFrom}
use Rattle.dpl_words.proofs.Numbers.{reads}
use Rattle.dpl_words.proofs.Ranges.{some_from}

-- each of the texts writes a number
abbrev pub Write : ℕ → List Text → Type 0
Write k ts = All (λ t. is_some (number_below k t) ≡ true) ts

pub from_write : (k low high : ℕ) (ts : List Text) → AreFrom k low high (Some ts) → Write k ts
from_write k low high ts h = λ i d l. some_from low high _ (h.1 i d l)

-- texts that write numbers are there
pub are_there : {A : Type 0} (left : A → List Text) (k low high : ℕ) (o : Option A) → AreFrom k low high (option_map left o) → is_some o ≡ true
are_there left k low high None h = absurd h
are_there left k low high (Some x) h = refl

module _ {E : Type 0} (k : ℕ) (G : List ℕ → Result ℕ E → Type 0) (only : (t : Text) (x : Result ℕ E) → G t x → ParsesUnsigned k 10 t x) where
  -- a step over texts that write numbers reads one
  pub step_reads : (left after : List Text) (x : Result ℕ E) → Write k left → StepsValues G left after (Some x) → IsOk x
  step_reads [] after x write h = absurd h
  step_reads (t ∷ rest) after x write h = go x h.0
    where
      go : (x : Result ℕ E) → G t x → IsOk x
      go (Ok v) g = refl
      go (Err e) g = absurd (true≢false (sym (All-head (λ t. is_some (number_below k t) ≡ true) t rest write)
          ∙ ap (λ (o : Option ℕ). is_some o) (sym (reads k G t None (only t) (e, g)))))

  -- and leaves such texts
  pub step_leaves : (left after : List Text) (x : Result ℕ E) → Write k left → StepsValues G left after (Some x) → Write k after
  step_leaves [] after x write h = absurd h
  step_leaves (t ∷ rest) after x write h = subst (Write k) (sym h.1) (All-tail (λ t. is_some (number_below k t) ≡ true) t rest write)

  -- the number that a step reads is the first of those that are left
  pub stepped : (left after : List Text) (x : Result ℕ E) (v : ℕ) → x ≡ Ok v → StepsValues G left after (Some x)
      → map (λ t. unwrap_or (number_below k t) 0) left ≡ v ∷ map (λ t. unwrap_or (number_below k t) 0) after
  stepped left after x v is h = go left (subst (λ y. StepsValues G left after (Some y)) is h)
    where
      go : (left : List Text) → StepsValues {T = ℕ} G left after (Some (Ok v))
          → map (λ t. unwrap_or (number_below k t) 0) left ≡ v ∷ map (λ t. unwrap_or (number_below k t) 0) after
      go [] h = absurd h
      go (t ∷ rest) h = rw (h.1, ← reads k G t (Some v) (only t) h.0) refl

  -- at the end none is left
  pub stepped_out : (left after : List Text) → StepsValues {T = ℕ} G left after None → map (λ t. unwrap_or (number_below k t) 0) left ≡ []
  stepped_out [] after h = refl
  stepped_out (t ∷ rest) after h = absurd h

typed_read : (a : MatchedArg) → typed_values a ≡ map (read_as a.reading) (texts a.vals.items)
typed_read a = sym (map-map (read_as a.reading) (λ (s : Bor Text). s.now) a.vals.items)

abbrev IsManyRead : Option MatchedArg → Option Row → Type 0
IsManyRead a r = option_map typed_values a ≡ option_map (λ (r : Row). map (read_as r.reading) r.values) r

-- what `get_many` reads is what the row of the id has
pub many_read : (f : Found) (id : Text) → option_map typed_values (matched_of f id) ≡ many_of id (rows_of f)
many_read f id = go f.entries.items
  where
    go : (es : List Entry) → IsManyRead (option_map (λ (e : Entry). e.1) (find (λ (e : Entry). bytes_eq e.0.now id) es)) (find (λ (r : Row). bytes_eq r.id id) (map row_of es))
    go [] = refl
    go (e ∷ es) = by (go es) (bytes_eq e.0.now id)
      where
        by : IsManyRead (option_map (λ (e : Entry). e.1) (find (λ (e : Entry). bytes_eq e.0.now id) es)) (find (λ (r : Row). bytes_eq r.id id) (map row_of es))
            → (b : Bool) → IsManyRead (option_map (λ (e : Entry). e.1) (cond b (Some e) (find (λ (e : Entry). bytes_eq e.0.now id) es)))
            (cond b (Some (row_of e)) (find (λ (r : Row). bytes_eq r.id id) (map row_of es)))
        by rest true = ap (λ (xs : List Text). Some xs) (typed_read e.1)
        by rest false = rest

-- the numbers of the id are those that its texts write
pub many_some : (k : ℕ) (f : Found) (id : Text) (ts : List Text) → many_of id (rows_of f) ≡ Some ts
    → numbers_in k id (rows_of f) ≡ map (λ t. unwrap_or (number_below k t) 0) ts
many_some k f id ts some = ap (λ (o : Option (List Text)). map (λ t. unwrap_or (number_below k t) 0) (unwrap_or o [])) some
