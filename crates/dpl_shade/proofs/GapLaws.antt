-- Gaps found from below.
use Rattle.std.proofs.Common.{◌≡◌, ℕ, ◌+◌, ◌<◌, ◌≤◌, ◌⊎◌, inl, inr, List, [], ◌∷◌, ◌++◌, length, get_or, sym, refl, ap, ◌∙◌, subst, arith}
use Rattle.std.specs.Prelude.{ℤ, pos, ◌-ℤ◌, ◌≤ℤ◌, ◌<ℤ◌, ◌↔◌}
use Rattle.std.specs.List.{Contains}
use Rattle.std.proofs.lemmas.Int.{ints, by_lt_z}
use Rattle.std.proofs.lemmas.Bool.{cases_lt, cases_eq}
use Rattle.std.proofs.lemmas.List.{get_or_default}
use Rattle.std.proofs.lemmas.List.Elements.{Contains-append_left, Contains-push, Contains-push_cases}
use Rattle.dpl_shade.specs.declared.rows.Span.{Span}
use Rattle.dpl_shade.specs.Rows.{SomeRow, AreTall, RiseByFrom, IsGap, AddsSpan}
use Rattle.dpl_shade.specs.Walks.{IsWalked}

pub same_span : (s t : Span) → s.from ≡ t.from → s.to ≡ t.to → s ≡ t
same_span s t e f =
    let mk : ℤ → ℤ → Span = λ a b. record { from = a; to = b } in
    ap (λ a. mk a s.to) e ∙ ap (λ b. mk t.from b) f

pub span-added : (free : List Span) (low end : ℤ) (s : Span) → low <ℤ end → s.from ≡ low → s.to ≡ end → AddsSpan low end free (free ++ s ∷ [])
span-added free low end s l e f t = (
  λ h. elim (Contains-push_cases free s t h) [
    | inl a ↦ inl a
    | inr same ↦ inr (l, ap (λ u. let v : Span = u in v.from) (sym same) ∙ e, ap (λ u. let v : Span = u in v.to) (sym same) ∙ f)
  ],
  λ h. elim h [
    | inl a ↦ Contains-append_left free (s ∷ []) t a
    | inr (a, b, c) ↦ subst (λ u. Contains (free ++ s ∷ []) u) (same_span s t (e ∙ sym b) (f ∙ sym c)) (Contains-push free s)
  ],
)

pub span-none : (free : List Span) (low end : ℤ) → end ≤ℤ low → AddsSpan low end free free
span-none free low end l t = (λ h. inl h, λ h. elim h [ inl a ↦ a | inr (a, b, c) ↦ absurd (omega (arith, ints, l, a)) ])

module _ (low high : ℤ) (spans : List Span) (y end : ℤ) (from : low ≤ℤ y) (bottom : (y ≡ low) ⊎ SomeRow spans (y -ℤ pos 1))
    (clear : (z : ℤ) → y ≤ℤ z → z <ℤ end → ¬ SomeRow spans z) (inside : end ≤ℤ high) (stop : y <ℤ end
    → (end ≡ high) ⊎ SomeRow spans end) where
  found-gap : (g : Span) → y <ℤ end → g.from ≡ y → g.to ≡ end → IsGap low high spans g
  found-gap g some e f =
      record {
        from = omega (arith, ints, from, e);
        some = omega (arith, ints, some, e, f);
        to = omega (arith, ints, inside, f);
        free = λ z h. (let a = h.from in let b = h.below in clear z (omega (arith, ints, a, e)) (omega (arith, ints, b, f)));
        bottom = elim bottom [ inl a ↦ inl (e ∙ a) | inr a ↦ inr (subst (λ z. SomeRow spans (z -ℤ pos 1)) (sym e) a) ];
        top = elim (stop some) [ inl a ↦ inl (f ∙ a) | inr a ↦ inr (subst (λ z. SomeRow spans z) (sym f) a) ];
      }

  gap-found : (g : Span) → IsGap low high spans g → y ≤ℤ g.from → g.from <ℤ end → (y <ℤ end) × (g.from ≡ y) × (g.to ≡ end)
  gap-found g gap above below =
      let some = gap.some in
      let first : g.from ≤ℤ y = by_lt_z y g.from
      (λ l. elim gap.bottom [
        | inl e ↦ absurd (omega (arith, ints, e, l, from))
        | inr r ↦ absurd (clear (g.from -ℤ pos 1) (omega (arith, ints, l)) (omega (arith, ints, below)) r)
      ])
      (λ l. l) in
      let last : g.to ≤ℤ end = by_lt_z end g.to
      (λ l. elim (stop (omega (arith, ints, above, below))) [
        | inl e ↦ (let to = gap.to in omega (arith, ints, e, to))
        | inr r ↦ absurd (gap.free end (record { from = omega (arith, ints, below); below = l }) r)
      ])
      (λ l. l) in
      let most : end ≤ℤ g.to = by_lt_z g.to end
      (λ l. elim gap.top [
        | inl e ↦ omega (arith, ints, e, inside)
        | inr r ↦ absurd (clear g.to (omega (arith, ints, above, some)) l r)
      ])
      (λ l. l) in
      (omega (arith, ints, above, below), omega (arith, ints, first, above), omega (arith, ints, last, most))

module _ (low high : ℤ) (spans : List Span) (tall : AreTall spans) (rise : RiseByFrom spans) where
  pub walked-none : IsWalked low high spans 0 low []
  walked-none =
      record {
        from = omega (arith, ints);
        passed = λ k d l. absurd (omega (arith, l));
        bottom = inl refl;
        found = λ g. (λ (k, l, is). absurd (omega (arith, l)), λ (gap, l). (let from = gap.from in absurd (omega (arith, ints, from, l))));
      }

  tall_at : (k : ℕ) (s : Span) → k < length spans → get_or spans k s ≡ s → s.from <ℤ s.to
  tall_at k s k_in k_is = subst (λ u. let v : Span = u in v.from <ℤ v.to) k_is (tall k s k_in)

  module _ (i : ℕ) (y : ℤ) (free : List Span) (w : IsWalked low high spans i y free) where
    module _ (s : Span) (i_in : i < length spans) (is : s ≡ get_or spans i s) (end next : ℤ) (new : List Span)
        (end_is : ((s.from ≤ℤ high) × (end ≡ s.from)) ⊎ ((high ≤ℤ s.from) × (end ≡ high)))
        (next_is : ((s.to ≤ℤ y) × (next ≡ y)) ⊎ ((y ≤ℤ s.to) × (next ≡ s.to)))
        (adds : AddsSpan y end free new) where
      s_tall : s.from <ℤ s.to
      s_tall = tall_at i s i_in (sym is)

      before_s : (z : ℤ) → y ≤ℤ z → z <ℤ s.from → ¬ SomeRow spans z
      before_s z a b (k, t, k_in, k_is, has) = elim (cases_lt k i) [
        | inl l ↦ (let p = subst (λ u. let v : Span = u in v.to ≤ℤ y) k_is (w.passed k t l k_in) in
            let c = has.below in omega (arith, ints, p, c, a))
        | inr l ↦ (let p = subst (λ u. let v : Span = u in (get_or spans i t).from ≤ℤ v.from) k_is (rise i k t l k_in) in
            let e = ap (λ u. let v : Span = u in v.from) (get_or_default spans i t s i_in ∙ sym is) in
            let c = has.from in omega (arith, ints, p, e, c, b))
      ]

      end_by : (end ≤ℤ s.from) × (end ≤ℤ high)
      end_by = elim end_is [ inl (a, b) ↦ (omega (arith, ints, b), omega (arith, ints, a, b)) | inr (a, b) ↦ (omega (arith, ints, a, b), omega (arith, ints, b)) ]

      next_by : (y ≤ℤ next) × (s.to ≤ℤ next)
      next_by = elim next_is [ inl (a, b) ↦ (omega (arith, ints, b), omega (arith, ints, a, b)) | inr (a, b) ↦ (omega (arith, ints, a, b), omega (arith, ints, b)) ]

      clear_s : (z : ℤ) → y ≤ℤ z → z <ℤ end → ¬ SomeRow spans z
      clear_s z a b = let c = end_by.0 in before_s z a (omega (arith, ints, b, c))

      stop_s : y <ℤ end → (end ≡ high) ⊎ SomeRow spans end
      stop_s l = elim end_is [
        | inl (a, b) ↦ inr (i, s, i_in, sym is, record { from = omega (arith, ints, b); below = (let c = s_tall in omega (arith, ints, b, c)) })
        | inr (a, b) ↦ inl b
      ]

      before_end : (g : Span) → IsGap low high spans g → y ≤ℤ g.from → g.from <ℤ next → g.from <ℤ end
      before_end g gap above below =
          let some = gap.some in
          let to = gap.to in
          let s_before : g.from <ℤ s.from = by_lt_z g.from s.from (λ l. l)
          (λ l. elim next_is [
            | inl (a, b) ↦ absurd (omega (arith, ints, b, above, below))
            | inr (a, b) ↦ absurd (gap.free g.from (record { from = omega (arith, ints); below = some })
                (i, s, i_in, sym is, record { from = l; below = omega (arith, ints, b, below) }))
          ]) in
          elim end_is [ inl (a, b) ↦ omega (arith, ints, b, s_before) | inr (a, b) ↦ omega (arith, ints, b, some, to) ]

      pub walked-more : IsWalked low high spans (i + 1) next new
      walked-more =
          record {
            from = (let a = next_by.0 in let b = w.from in omega (arith, ints, a, b));
            passed = λ k d l k_in. elim (cases_eq k i) [
              | inl e ↦ (let g : get_or spans k d ≡ s = ap (λ m. get_or spans m d) e ∙ (get_or_default spans i d s i_in ∙ sym is) in
                  let h = ap (λ u. let v : Span = u in v.to) g in
                  let a = next_by.1 in omega (arith, ints, a, h))
              | inr ne ↦ (let p = w.passed k d (omega (arith, l, ne)) k_in in let a = next_by.0 in omega (arith, ints, p, a))
            ];
            bottom = elim next_is [
              | inl (a, b) ↦ elim w.bottom [ inl e ↦ inl (b ∙ e) | inr r ↦ inr (subst (λ z. SomeRow spans (z -ℤ pos 1)) (sym b) r) ]
              | inr (a, b) ↦ inr (i, s, i_in, sym is, (let c = s_tall in record { from = omega (arith, ints, b, c); below = omega (arith, ints, b) }))
            ];
            found = λ g. (
              λ h. elim ((adds g).0 h) [
                | inl a ↦ (let (gap, l) = (w.found g).0 a in let n = next_by.0 in (gap, omega (arith, ints, l, n)))
                | inr (a, b, c) ↦ (
                  found-gap low high spans y end w.from w.bottom clear_s end_by.1 stop_s g a b c,
                  (let n = next_by.1 in let e = end_by.0 in let t = s_tall in omega (arith, ints, a, b, n, e, t)),
                )
              ],
              λ (gap, l). (adds g).1 (by_lt_z g.from y (λ m. inl ((w.found g).1 (gap, m)))
                  (λ m. inr (gap-found low high spans y end w.from w.bottom clear_s end_by.1 stop_s g gap m (before_end g gap m l)))),
            );
          }

    pub walked-all : (new : List Span) → length spans ≤ i → AddsSpan y high free new → (g : Span) → Contains new g ↔ IsGap low high spans g
    walked-all new all adds g = (
      λ h. elim ((adds g).0 h) [
        | inl a ↦ ((w.found g).0 a).0
        | inr (a, b, c) ↦ found-gap low high spans y high w.from w.bottom past (omega (arith, ints)) (λ l. inl refl) g a b c
      ],
      λ gap. (adds g).1 (by_lt_z g.from y (λ m. inl ((w.found g).1 (gap, m)))
          (λ m. inr (gap-found low high spans y high w.from w.bottom past (omega (arith, ints)) (λ l. inl refl) g gap m
          (let some = gap.some in let to = gap.to in omega (arith, ints, some, to))))),
    )
      where
        past : (z : ℤ) → y ≤ℤ z → z <ℤ high → ¬ SomeRow spans z
        past z a b (k, t, k_in, k_is, has) =
            let p = subst (λ u. let v : Span = u in v.to ≤ℤ y) k_is (w.passed k t (omega (arith, all, k_in)) k_in) in
            let c = has.below in omega (arith, ints, p, c, a)
