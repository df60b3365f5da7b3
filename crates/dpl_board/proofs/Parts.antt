-- Parts of the posted tiles and their summaries, with a part more, or one in place of two.
use Rattle.std.proofs.Common.{◌≡◌, ◌<◌, ℕ, List, [], ◌∷◌, ◌++◌, length, get_or, zero, suc, sym, ap, subst, ◌∙◌, arith, append_assoc}
use Rattle.std.specs.List.{AllZip}
use Rattle.std.specs.List.Sorted.{IsPermutation}
use Rattle.std.proofs.lemmas.List.{map-append}
use Rattle.std.proofs.lemmas.List.Sorted.{IsPermutation-cons, IsPermutation-middle, IsPermutation-sym, IsPermutation-to_front, IsPermutation-trans}
use Rattle.std.proofs.lemmas.Grind.{flat_map-append}
use Rattle.dpl_stars.specs.declared.joined.Joined.{Joined}
use Rattle.dpl_stars.specs.Sums.{Sums}
use Rattle.dpl_board.specs.declared.entry.Entry.{Entry}
use Rattle.dpl_board.specs.Sheets.{Sheet}
use Rattle.dpl_board.specs.Summing.{AreSums, edges_in, tiles_in, tiles_of}

zip-append : {A B : Type 0} (R : A → B → Type 0) (xs us : List A) (ys vs : List B) → AllZip R xs ys → AllZip R us vs → AllZip R (xs ++ us) (ys ++ vs)
zip-append R [] us [] vs first second = second
zip-append R [] us (y ∷ ys) vs first second = absurd first
zip-append R (x ∷ xs) us [] vs first second = absurd first
zip-append R (x ∷ xs) us (y ∷ ys) vs first second = (first.0, zip-append R xs us ys vs first.1 second)

zip-parts : {A B : Type 0} (R : A → B → Type 0) (xs us : List A) (ys vs : List B) → length ys ≡ length xs → AllZip R (xs ++ us) (ys ++ vs) → AllZip R xs ys × AllZip R us vs
zip-parts R [] us [] vs same both = (tt, both)
zip-parts R [] us (y ∷ ys) vs same both = absurd (omega (arith, same))
zip-parts R (x ∷ xs) us [] vs same both = absurd (omega (arith, same))
zip-parts R (x ∷ xs) us (y ∷ ys) vs same both = (let rest = zip-parts R xs us ys vs (omega (arith, same)) both.1 in ((both.0, rest.0), rest.1))

-- what holds at a place of both
pub zip-at : {A B : Type 0} (R : A → B → Type 0) (xs : List A) (ys : List B) (i : ℕ) (d : A) (e : B) → AllZip R xs ys → i < length xs → R (get_or xs i d) (get_or ys i e)
zip-at R [] ys i d e h l = absurd (omega (arith, l))
zip-at R (x ∷ xs) [] i d e h l = absurd h
zip-at R (x ∷ xs) (y ∷ ys) zero d e h l = h.0
zip-at R (x ∷ xs) (y ∷ ys) (suc i) d e h l = zip-at R xs ys i d e h.1 (omega (arith, l))

tiles-append : (ps qs : List (List ℕ)) → tiles_in (ps ++ qs) ≡ tiles_in ps ++ tiles_in qs
tiles-append ps qs = flat_map-append (λ (tiles : List ℕ). tiles) ps qs

tiles-push : (es : List Entry) (e : Entry) → tiles_of (es ++ e ∷ []) ≡ tiles_of es ++ e.tile ∷ []
tiles-push es e = map-append (λ (e : Entry). e.tile) es (e ∷ [])

-- one tile more, in a part of its own
pub posted-more : (before after : List (List ℕ)) (es : List Entry) (e : Entry) → IsPermutation (tiles_in (before ++ after)) (tiles_of es)
    → IsPermutation (tiles_in (before ++ (e.tile ∷ []) ∷ after)) (tiles_of (es ++ e ∷ []))
posted-more before after es e old =
    let A = tiles_in before in
    let B = tiles_in after in
    let T = tiles_of es in
    let one : IsPermutation (A ++ e.tile ∷ B) (e.tile ∷ (A ++ B)) = IsPermutation-middle A e.tile B in
    let was : IsPermutation (A ++ B) T = subst (λ xs. IsPermutation xs T) (tiles-append before after) old in
    let two : IsPermutation (e.tile ∷ (A ++ B)) (e.tile ∷ T) = IsPermutation-cons e.tile (A ++ B) T was in
    let three : IsPermutation (e.tile ∷ T) (T ++ e.tile ∷ []) = IsPermutation-sym (T ++ e.tile ∷ []) (e.tile ∷ T) (IsPermutation-to_front T e.tile) in
    let all : IsPermutation (A ++ e.tile ∷ B) (T ++ e.tile ∷ []) = IsPermutation-trans _ _ _ one (IsPermutation-trans _ _ _ two three) in
    subst (λ xs. IsPermutation xs (tiles_of (es ++ e ∷ []))) (sym (tiles-append before ((e.tile ∷ []) ∷ after)))
    (subst (λ ys. IsPermutation (A ++ e.tile ∷ B) ys) (sym (tiles-push es e)) all)

-- one part in place of two that stood side by side
pub tiles-folded : (before after : List (List ℕ)) (left right whole : List ℕ) → whole ≡ left ++ right
    → tiles_in (before ++ whole ∷ after) ≡ tiles_in (before ++ left ∷ right ∷ after)
tiles-folded before after left right whole is =
    tiles-append before (whole ∷ after)
    ∙ (ap (λ xs. tiles_in before ++ xs) (ap (λ xs. xs ++ tiles_in after) is ∙ append_assoc left right (tiles_in after))
    ∙ sym (tiles-append before (left ∷ right ∷ after)))

module _ (sheet : Sheet) where
  abbrev R : List ℕ → Joined → Type 0
  R tiles j = Sums (edges_in sheet tiles) j

  -- a part more, with its summary
  pub sums-more : (before after : List (List ℕ)) (first last : List Joined) (tiles : List ℕ) (sum : Joined) → length first ≡ length before
      → AreSums sheet (before ++ after) (first ++ last) → Sums (edges_in sheet tiles) sum → AreSums sheet (before ++ tiles ∷ after) (first ++ sum ∷ last)
  sums-more before after first last tiles sum same old new =
      let both = zip-parts R before after first last same old in
      zip-append R before (tiles ∷ after) first (sum ∷ last) both.0 (new, both.1)

  -- a part in place of two, with its summary
  pub sums-folded : (before after : List (List ℕ)) (first last : List Joined) (left right whole : List ℕ) (l r sum : Joined) → length first ≡ length before
      → AreSums sheet (before ++ left ∷ right ∷ after) (first ++ l ∷ r ∷ last) → Sums (edges_in sheet whole) sum → AreSums sheet (before ++ whole ∷ after) (first ++ sum ∷ last)
  sums-folded before after first last left right whole l r sum same old new =
      let both = zip-parts R before (left ∷ right ∷ after) first (l ∷ r ∷ last) same old in
      zip-append R before (whole ∷ after) first (sum ∷ last) both.0 (new, both.1.1.1)
