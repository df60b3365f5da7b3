-- Rows, place by place.
use Rattle.std.proofs.Common.{◌≡◌, ℕ, ◌+◌, inl, inr, List, [], ◌∷◌, ◌++◌, refl, ap, ◌∙◌, arith}
use Rattle.std.proofs.lemmas.Bool.{cases_lt}
use Rattle.std.proofs.lemmas.List.{get_or_append_left, get_or_push, length_push}
use Rattle.dpl_stars.specs.declared.list.Star.{Star}
use Rattle.dpl_stars.specs.Places.{row_at, AreRows}

pub rows-none : (numbers roots levels : List ℕ) → AreRows numbers roots levels 0 []
rows-none numbers roots levels = record { len = refl; each = λ i d l. absurd (omega (arith, l)) }

pub rows-more : (numbers roots levels : List ℕ) (n : ℕ) (rows : List Star) (r : Star) → AreRows numbers roots levels n rows
    → r ≡ row_at numbers roots levels n → AreRows numbers roots levels (n + 1) (rows ++ r ∷ [])
rows-more numbers roots levels n rows r h is = record {
  len = length_push rows r ∙ ap (λ k. k + 1) h.len;
  each = λ i d l. elim (cases_lt i n) [
    | inl below ↦ get_or_append_left rows (r ∷ []) d i (let len = h.len in omega (arith, below, len)) ∙ h.each i d below
    | inr above ↦ (let same : n ≡ i = omega (arith, l, above) in
        get_or_push rows r d i (h.len ∙ same) ∙ (is ∙ ap (row_at numbers roots levels) same))
  ];
}
