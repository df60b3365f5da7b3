-- Numbers noted for zones one by one, each so many later.
use Rattle.std.proofs.Common.{◌≡◌, ℕ, ◌+◌, ◌<◌, ◌⊎◌, inl, inr, List, length, get_or, sym, ap, ◌∙◌, arith}
use Rattle.std.proofs.Math.ListN.{set}
use Rattle.std.proofs.lemmas.Bool.{cases_eq}
use Rattle.std.proofs.lemmas.List.{get_or-set_same, get_or-set_other, get_or_default, length-set}
use Rattle.dpl_sides.specs.Noted.{AreMoved}

-- the first n of the given numbers were noted
pub record AreMovedBelow (n from : ℕ) (own given old new : List ℕ) : Type 0 where
  pub each : length new ≡ length old
  pub moved : (j : ℕ) → ((i : ℕ) × (i < n) × (get_or own i 0 ≡ j) × (get_or new j 0 ≡ from + get_or given i 0))
      ⊎ (((i : ℕ) → i < n → get_or own i 0 ≡ j → ⊥) × (get_or new j 0 ≡ get_or old j 0))

pub moved-next : (n from : ℕ) (own given old mid new : List ℕ) (x : ℕ) → get_or own n 0 < length mid → x ≡ from + get_or given n 0
    → new ≡ set mid (get_or own n 0) x → AreMovedBelow n from own given old mid → AreMovedBelow (n + 1) from own given old new
moved-next n from own given old mid new x o_in x_is new_is h =
    let o : ℕ = get_or own n 0 in
    rw new_is (record {
      each = length-set mid o x ∙ h.each;
      moved = λ j. elim (cases_eq j o) [
        | inl e ↦ inl (n, omega arith, sym e, ap (λ k. get_or (set mid o x) k 0) e ∙ (get_or-set_same mid o x 0 o_in ∙ x_is))
        | inr ne ↦ (
            let kept : get_or (set mid o x) j 0 ≡ get_or mid j 0 = get_or-set_other mid o j x 0 ne in
            elim (h.moved j) [
              | inl (i, l, is, value) ↦ inl (i, omega (arith, l), is, kept ∙ value)
              | inr (none, same) ↦ inr (
                λ i l is. elim (cases_eq i n) [ inl e ↦ ne (sym is ∙ ap (λ k. get_or own k 0) e) | inr other ↦ none i (omega (arith, l, other)) is ],
                kept ∙ same,
              )
            ])
      ];
    })

pub moved-all : (n from : ℕ) (own given old new : List ℕ) → n ≡ length own → AreMovedBelow n from own given old new → AreMoved from own given old new
moved-all n from own given old new all h = record {
  each = h.each;
  moved = λ j. elim (h.moved j) [
    | inl (i, l, is, value) ↦ inl (i, omega (arith, l, all), is, value)
    | inr (none, same) ↦ inr (λ (i, i_in, is). none i (omega (arith, i_in, all)) (get_or_default own i 0 j i_in ∙ is), same)
  ];
}
