-- Keeping distinct points.
use Rattle.std.proofs.Common.{◌≡◌, ℕ, ◌+◌, ◌-◌, ◌<◌, ◌≤◌, List, [], ◌∷◌, ◌++◌, length, get_or, take, drop, refl, sym, ap, ◌∙◌, arith, append_assoc}
use Rattle.std.proofs.lemmas.List.{take_all, take_more, append-nil}
use Rattle.dpl_spec_split.specs.declared.Pt.{Pt}
use Rattle.dpl_spec_elements.specs.Paths.{distinct_after, distinct}

-- all points after the first were gone over
pub distinct-done : (ps items kept none : List Pt) (n : ℕ) (d : Pt) → 1 ≤ length ps → none ≡ [] → kept ≡ none ++ get_or ps 0 d ∷ []
    → length (take (length ps - 1) (drop 1 ps)) ≤ n → items ++ [] ≡ kept ++ distinct_after (get_or ps 0 d)
    (take n (take (length ps - 1) (drop 1 ps)) ++ []) → items ≡ distinct ps
distinct-done [] items kept none n d some none_is kept_is all h = absurd (omega (arith, some))
distinct-done (p ∷ ps) items kept none n d some none_is kept_is all h =
    let whole : take (length (p ∷ ps) - 1) ps ≡ ps = take_all (length (p ∷ ps) - 1) ps (omega arith) in
    let rest : List Pt = take (length (p ∷ ps) - 1) ps in
    let gone : take n rest ++ [] ≡ ps = append-nil (take n rest) ∙ (take_all n rest all ∙ whole) in
    let one : kept ≡ p ∷ [] = kept_is ∙ ap (λ l. l ++ p ∷ []) none_is in
    sym (append-nil items) ∙ (h ∙ (ap (λ l. l ++ distinct_after p (take n rest ++ [])) one ∙ ap (λ l. p ∷ distinct_after p l) gone))

-- one more point is kept, or equals the last one
pub keeps-on : (start kept longer : List Pt) (first last next : Pt) (xs : List Pt) (i : ℕ) (d : Pt) → i < length xs
    → ((rest : List Pt) → kept ++ distinct_after last rest ≡ start ++ distinct_after first (take i xs ++ rest))
    → ((rest : List Pt) → longer ++ distinct_after next rest ≡ kept ++ distinct_after last (get_or xs i d ∷ rest))
    → (rest : List Pt) → longer ++ distinct_after next rest ≡ start ++ distinct_after first (take (i + 1) xs ++ rest)
keeps-on start kept longer first last next xs i d h before one rest =
    let e : take (i + 1) xs ++ rest ≡ take i xs ++ (get_or xs i d ∷ rest) = rw (take_more xs i d h, append_assoc) refl in
    one rest ∙ (before (get_or xs i d ∷ rest) ∙ ap (λ l. start ++ distinct_after first l) (sym e))
