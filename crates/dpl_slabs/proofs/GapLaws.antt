-- Gaps taken out of bars of the same rows.
use Rattle.std.proofs.Common.{◌≡◌, ℕ, ◌+◌, ◌≤◌, ◌<◌, ◌⊎◌, inl, inr, List, length, get_or, take, true, false, refl, sym, ◌∙◌, subst, arith}
use Rattle.std.specs.Prelude.{◌↔◌, ℤ, pos, ◌+ℤ◌, ◌≤ℤ◌, ◌<ℤ◌}
use Rattle.std.specs.List.{Contains}
use lib.Signed.{le_z}
use Rattle.std.proofs.lemmas.Bool.{cases_order}
use Rattle.std.proofs.lemmas.Int.{ints, by_lt_z}
use Rattle.std.proofs.lemmas.List.{get_or_default, take_all}
use Rattle.std.proofs.lemmas.List.Elements.{Contains-push_cases}
use Rattle.dpl_spec_split.specs.declared.Pt.{Pt}
use Rattle.dpl_spec_split.specs.declared.Rect.{Rect}
use Rattle.dpl_spec_split.specs.Squares.{Has, Covers}
use Rattle.dpl_spec_split.specs.Slabs.{IsSolid, AreSlabsOf}
use Rattle.dpl_spec_split.proofs.SlabLaws.{Covers-member, member-Covers}
use Rattle.dpl_slabs.specs.Rows.{AreLevel, IsLeftOf, AreSpaced}
use Rattle.dpl_bars.specs.Alone.{ReachTo}
use Rattle.dpl_slabs.specs.Slices.{Without}
use Rattle.dpl_slabs.specs.Gaps.{AddsColumns, LieBefore, IsCutUpTo, AddsBarWithout, AreLeftSoFar}
use Rattle.dpl_slabs.proofs.LoopLaws.{covers-pushed}
use Rattle.dpl_slabs.proofs.SetLaws.{without-none}
use Rattle.dpl_slabs.proofs.RowLaws.{covers-step, level-on, spaced-pushed, spaced-canonical}
use Rattle.dpl_bars.proofs.AloneLaws.{end-more}

-- what a test of two numbers says
pub le-true : (a b : ℤ) → le_z a b ≡ true → a ≤ℤ b
le-true a b h = grind (arith, ints)

pub le-false : (a b : ℤ) → le_z a b ≡ false → b <ℤ a
le-false a b h = grind (arith, ints)

-- spaced bars begin further and further right
pub spaced-rise : (bars : List Rect) (n k : ℕ) (bar d : Rect) → AreSpaced bars → n ≤ k → k < length bars → bar ≡ get_or bars n bar → bar.x0 ≤ℤ (get_or bars k d).x0
spaced-rise bars n k bar d s l k_in bar_is = elim (cases_order n k) [
  | inl e ↦ (let same : get_or bars k d ≡ bar = rw e at here in rw same (omega (arith, ints)))
  | inr o ↦ elim o [
    | inl less ↦ (let apart = (s.left n k d less k_in).apart in
        let wide = (s.row.solid bar (n, n_in, sym bar_is)).wide in
        let after : bar.x1 <ℤ (get_or bars k d).x0 = rw here at apart in
        omega (arith, ints, wide, after))
    | inr more ↦ absurd (omega (arith, more, l))
  ]
]
  where
    n_in : n < length bars
    n_in = omega (arith, l, k_in)

    here : get_or bars n d ≡ bar
    here = get_or_default bars n d bar n_in ∙ sym bar_is

-- the squares of the columns that were added
added : (bar : Rect) (from to : ℤ) (old new : List Rect) (p : Pt) → AddsColumns bar from to old new
    → Covers new p ↔ (Covers old p ⊎ ((from ≤ℤ p.x) × (p.x <ℤ to) × (bar.y0 ≤ℤ p.y) × (p.y <ℤ bar.y1)))
added bar from to old new p (inl (l, e)) = rw e (
  λ c. inl c,
  λ h. elim h [ inl c ↦ c | inr k ↦ (let a = k.0 in let b = k.1 in absurd (omega (arith, ints, a, b, l))) ],
)
added bar from to old new p (inr (l, e)) = rw e (covers-pushed (λ q. (from ≤ℤ q.x) × (q.x <ℤ to) × (bar.y0 ≤ℤ q.y) × (q.y <ℤ bar.y1)) old
    (record { x0 = from; y0 = bar.y0; x1 = to; y1 = bar.y1 })
    (λ q. (λ h. (h.left, h.right, h.low, h.high), λ (a, b, c, d). record { left = a; right = b; low = c; high = d })) p)

-- bars left of a column, and columns of a bar from there on
before-columns : (bar : Rect) (x y z : ℤ) (old new : List Rect) → IsSolid bar → LieBefore bar x old → x ≤ℤ z → y <ℤ z → AddsColumns bar x y old new → LieBefore bar z new
before-columns bar x y z old new solid b l m (inl (k, e)) = rw e (record {
  spaced = b.spaced;
  level = b.level;
  ends = λ r r_in. (let h = b.ends r r_in in omega (arith, ints, h, l));
})
before-columns bar x y z old new solid b l m (inr (k, e)) = rw e (record {
  spaced = spaced-pushed old columns b.spaced (record { wide = k; tall = solid.tall })
      (λ r r_in. record { apart = b.ends r r_in; level = record { low = (b.level r r_in).low; high = (b.level r r_in).high } });
  level = λ r r_in. elim (Contains-push_cases old columns r r_in) [ inl h ↦ b.level r h | inr same ↦ subst (λ t. AreLevel t bar) same (record { low = refl; high = refl }) ];
  ends = λ r r_in. elim (Contains-push_cases old columns r r_in) [ inl h ↦ (let a = b.ends r h in omega (arith, ints, a, l)) | inr same ↦ subst (λ t. t.x1 <ℤ z) same m ];
})
  where
    columns : Rect
    columns = record { x0 = x; y0 = bar.y0; x1 = y; y1 = bar.y1 }

module _ (bar : Rect) (gaps : List Rect) (solid : IsSolid bar) (spaced : AreSpaced gaps) (level : (gap : Rect) → Contains gaps gap → AreLevel bar gap) (old : List Rect) where
  -- no gap lies between those passed and those ahead
  free : (n : ℕ) (x y : ℤ) → ReachTo gaps n x → ((k : ℕ) (d : Rect) → n ≤ k → k < length gaps → y ≤ℤ (get_or gaps k d).x0) → (p : Pt) → x ≤ℤ p.x → p.x <ℤ y → Covers gaps p → ⊥
  free n x y passed ahead p l m c =
      let (gap, (k, k_in, gap_is), has) = member-Covers gaps p c in
      let left = has.left in
      let right = has.right in
      let further : n ≤ k → ⊥ = λ h. (let a = subst (λ t. y ≤ℤ t.x0) gap_is (ahead k gap h k_in) in omega (arith, ints, a, left, m)) in
      elim (cases_order k n) [
        | inl e ↦ further (omega (arith, e))
        | inr o ↦ elim o [
          | inl less ↦ (let a = subst (λ t. t.x1 ≤ℤ x) gap_is (passed k gap less k_in) in omega (arith, ints, a, right, l))
          | inr more ↦ further (omega (arith, more))
        ]
      ]

  -- a gap has the bar's squares in its columns
  taken : (n : ℕ) (gap : Rect) (p : Pt) → n < length gaps → gap ≡ get_or gaps n gap → Has bar p → gap.x0 ≤ℤ p.x → p.x <ℤ gap.x1 → Covers gaps p
  taken n gap p n_in gap_is has l m =
      let gap_in : Contains gaps gap = (n, n_in, sym gap_is) in
      let beside = level gap gap_in in
      let low = beside.low in
      let high = beside.high in
      let a = has.low in
      let b = has.high in
      Covers-member gaps gap p gap_in (record { left = l; right = m; low = omega (arith, ints, low, a); high = omega (arith, ints, high, b) })

  -- columns x to y - 1 have no square of a gap, and columns y to z - 1 have no other
  covers-columns : (x y z : ℤ) (now new : List Rect) (p : Pt) → bar.x0 ≤ℤ x → y ≤ℤ bar.x1 → x ≤ℤ z → y <ℤ z
      → (x ≤ℤ p.x → p.x <ℤ y → Covers gaps p → ⊥) → (Has bar p → x ≤ℤ p.x → y ≤ℤ p.x → p.x <ℤ z → Covers gaps p)
      → Covers now p ↔ (Covers old p ⊎ (Has bar p × (p.x <ℤ x) × ¬ Covers gaps p)) → AddsColumns bar x y now new
      → Covers new p ↔ (Covers old p ⊎ (Has bar p × (p.x <ℤ z) × ¬ Covers gaps p))
  covers-columns x y z now new p from to l m none all covers adds = (
    λ c. elim ((added bar x y now new p adds).0 c) [
      | inl k ↦ elim (covers.0 k) [ inl o ↦ inl o | inr (has, a, free_here) ↦ inr (has, omega (arith, ints, a, l), free_here) ]
      | inr (a, b, low, high) ↦ inr (
        record { left = omega (arith, ints, a, from); right = omega (arith, ints, b, to); low = low; high = high },
        omega (arith, ints, b, m),
        none a b,
      )
    ],
    λ h. elim h [
      | inl o ↦ (added bar x y now new p adds).1 (inl (covers.1 (inl o)))
      | inr (has, a, free_here) ↦ by_lt_z p.x x
          (λ b. (added bar x y now new p adds).1 (inl (covers.1 (inr (has, b, free_here)))))
          (λ b. by_lt_z p.x y
          (λ d. (added bar x y now new p adds).1 (inr (b, d, has.low, has.high)))
          (λ d. absurd (free_here (all has b d a))))
    ],
  )

  -- no gap has squares of the bar from there on
  pub cut-end : (n m : ℕ) (x : ℤ) (now new : List Rect) → IsCutUpTo bar gaps old n x now → m ≤ n
      → ((k : ℕ) (d : Rect) → n ≤ k → k < length gaps → bar.x1 ≤ℤ (get_or gaps k d).x0) → AddsColumns bar x bar.x1 now new
      → AddsBarWithout bar gaps old new m
  cut-end n m x now new s more ahead adds =
      let from = s.from in
      let room = s.ahead in
      let end : ℤ = bar.x1 +ℤ pos 1 in
      record {
        before = before-columns bar x bar.x1 end now new solid s.before (omega (arith, ints, room)) (omega (arith, ints)) adds;
        passed = λ k d less k_in. (let h = s.passed k d (omega (arith, less, more)) k_in in omega (arith, ints, h, room));
        covers = λ p. (let both = covers-columns x bar.x1 end now new p from (omega (arith, ints)) (omega (arith, ints, room)) (omega (arith, ints))
            (λ l k. free n x bar.x1 s.passed ahead p l k)
            (λ has l k a. (let right = has.right in absurd (omega (arith, ints, right, k)))) (s.covers p) adds in (
              (λ c. elim (both.0 c) [ inl o ↦ inl o | inr (has, a, none) ↦ inr (has, none) ]),
              λ h. elim h [ inl o ↦ both.1 (inl o) | inr (has, none) ↦ (let right = has.right in both.1 (inr (has, omega (arith, ints, right), none))) ],
            ));
      }

  module _ (n : ℕ) (x next : ℤ) (gap : Rect) (now new : List Rect) (s : IsCutUpTo bar gaps old n x now) (n_in : n < length gaps)
      (gap_is : gap ≡ get_or gaps n gap) (meets : gap.x0 <ℤ bar.x1) (over : x ≤ℤ next) (past : gap.x1 ≤ℤ next)
      (known : (next ≡ x) ⊎ (next ≡ gap.x1)) (adds : AddsColumns bar x gap.x0 now new) where
    wide : gap.x0 <ℤ gap.x1
    wide = (spaced.row.solid gap (n, n_in, sym gap_is)).wide

    -- the columns up to the gap, and what the gap takes of those up to column z
    up-to : (z : ℤ) (p : Pt) → x ≤ℤ z → gap.x0 <ℤ z → (Has bar p → x ≤ℤ p.x → p.x <ℤ z → p.x <ℤ gap.x1) → Covers new p ↔ (Covers old p ⊎ (Has bar p × (p.x <ℤ z) × ¬ Covers gaps p))
    up-to z p l m within =
        covers-columns x gap.x0 z now new p s.from (omega (arith, ints, meets)) l m
        (λ a b. free n x gap.x0 s.passed (λ k d h k_in. spaced-rise gaps n k gap d spaced h k_in gap_is) p a b)
        (λ has a b d. taken n gap p n_in gap_is has b (within has a d)) (s.covers p) adds

    -- the gap ends in the bar
    pub cut-next : next <ℤ bar.x1 → IsCutUpTo bar gaps old (n + 1) next new
    cut-next room =
        let from = s.from in
        record {
          before = before-columns bar x gap.x0 next now new solid s.before over (omega (arith, ints, wide, past)) adds;
          passed = end-more gaps n gap x next n_in gap_is over past s.passed;
          covers = λ p. up-to next p over (omega (arith, ints, wide, past))
              (λ has a b. elim known [ inl e ↦ absurd (omega (arith, ints, e, a, b)) | inr e ↦ omega (arith, ints, e, b) ]);
          from = omega (arith, ints, from, over);
          ahead = room;
        }

    -- the gap reaches to the bar's end
    pub cut-last : bar.x1 ≤ℤ next → AddsBarWithout bar gaps old new n
    cut-last done =
        let room = s.ahead in
        let end : ℤ = bar.x1 +ℤ pos 1 in
        record {
          before = before-columns bar x gap.x0 end now new solid s.before (omega (arith, ints, room)) (omega (arith, ints, meets)) adds;
          passed = λ k d less k_in. (let h = s.passed k d less k_in in omega (arith, ints, h, room));
          covers = λ p. (let both = up-to end p (omega (arith, ints, room)) (omega (arith, ints, meets))
              (λ has a b. (let right = has.right in elim known [ inl e ↦ absurd (omega (arith, ints, e, done, room)) | inr e ↦ omega (arith, ints, e, done, right) ])) in (
                (λ c. elim (both.0 c) [ inl o ↦ inl o | inr (has, a, none) ↦ inr (has, none) ]),
                λ h. elim h [ inl o ↦ both.1 (inl o) | inr (has, none) ↦ (let right = has.right in both.1 (inr (has, omega (arith, ints, right), none))) ],
              ));
        }

-- no gaps take nothing
pub left-whole : (bars gaps : List Rect) → AreSpaced bars → length gaps ≤ 0 → AreSlabsOf (Without bars gaps) bars
left-whole bars gaps s none = record { canonical = spaced-canonical bars s; covers = λ p. without-none bars gaps p none }

pub left-next : (bars gaps old new : List Rect) (n m next : ℕ) (bar : Rect) → AreSpaced bars → n < length bars → bar ≡ get_or bars n bar
    → AreLeftSoFar bars gaps n m old → AddsBarWithout bar gaps old new next → AreLeftSoFar bars gaps (n + 1) next new
left-next bars gaps old new n m next bar spaced n_in bar_is s a = record {
  spaced = a.before.spaced;
  covers = λ p. (
    (λ c. elim ((a.covers p).0 c) [
      | inl o ↦ (let k = (s.covers p).0 o in ((covers-step bars n bar p n_in bar_is).1 (inl k.0), k.1))
      | inr k ↦ ((covers-step bars n bar p n_in bar_is).1 (inr k.0), k.1)
    ]),
    λ (c, none). elim ((covers-step bars n bar p n_in bar_is).0 c) [
      | inl k ↦ (a.covers p).1 (inl ((s.covers p).1 (k, none)))
      | inr has ↦ (a.covers p).1 (inr (has, none))
    ],
  );
  before = λ k d l k_in. (let after = right k d l k_in in record {
    spaced = a.before.spaced;
    level = λ r r_in. level-on r bar (get_or bars k d) (a.before.level r r_in) after.level;
    ends = λ r r_in. (let h = a.before.ends r r_in in let x = after.apart in omega (arith, ints, h, x));
  });
  passed = λ k d l k_in j e less j_in. (let h = a.passed j e less j_in in let x = (right k d l k_in).apart in omega (arith, ints, h, x));
}
  where
    right : (k : ℕ) (d : Rect) → n + 1 ≤ k → k < length bars → IsLeftOf bar (get_or bars k d)
    right k d l k_in =
        let here : get_or bars n d ≡ bar = get_or_default bars n d bar n_in ∙ sym bar_is in
        rw here at (spaced.left n k d (omega (arith, l)) k_in)

pub left-all : (bars gaps left : List Rect) (n m : ℕ) → length bars ≤ n → AreLeftSoFar bars gaps n m left → AreSlabsOf (Without bars gaps) left
left-all bars gaps left n m all s =
    let whole : take n bars ≡ bars = take_all n bars all in
    record { canonical = spaced-canonical left s.spaced; covers = rw whole at s.covers }
