-- Bars that stand apart from all else.
use Rattle.std.proofs.Common.{◌≡◌, ℕ, ◌+◌, ◌≤◌, ◌<◌, ◌⊎◌, inl, inr, List, [], ◌∷◌, ◌++◌, length, get_or, take, length-take, false, Ordering, sym, refl, ap, ◌∙◌, subst, arith}
use Rattle.std.specs.Prelude.{◌↔◌, ℤ, ◌≤ℤ◌, ◌<ℤ◌}
use Rattle.std.specs.Ordering.{is_lt, int_cmp}
use Rattle.std.specs.declared.cmp.Ordering.TheVariants.{Less, Equal, Greater}
use Rattle.std.specs.List.{AllPairs, Contains}
use Rattle.std.specs.List.Sorted.{IsSortedByKey}
use Rattle.std.proofs.lemmas.Bool.{cases_order}
use Rattle.std.proofs.lemmas.Cmp.{int_ranked, int_cmp_total}
use Rattle.std.proofs.lemmas.Int.{ints}
use Rattle.std.proofs.lemmas.List.{get_or_default, get_or-take, take_more}
use Rattle.std.proofs.lemmas.List.Elements.{Contains-append_left, Contains-get_or, Contains-push, Contains-push_cases}
use Rattle.std.proofs.lemmas.List.Quantifiers.{all_pairs_push}
use Rattle.std.proofs.lemmas.List.Sorted.{sorted_far, ranks_by}
use Rattle.dpl_spec_split.specs.declared.Pt.{Pt}
use Rattle.dpl_spec_split.specs.declared.Rect.{Rect}
use Rattle.dpl_spec_split.specs.Squares.{Has, Covers}
use Rattle.dpl_spec_split.specs.Slabs.{StandApart}
use Rattle.dpl_bars.specs.Alone.{LeftsRise, ReachTo, IsPrefixAt, AreAlone, AddsTouching}
use Rattle.dpl_bars.proofs.Steps.{covers-pushed, covers-step}

at_most : (x y : ℤ) (r : Ordering) → r ≡ int_cmp x y → is_lt r ≡ false → y ≤ℤ x
at_most x y Less e h = cc
at_most x y Equal e h = let same : x ≡ y = int_ranked x y Equal e in omega (arith, ints)
at_most x y Greater e h = let l : y <ℤ x = int_ranked x y Greater e in omega (arith, ints)

-- what a sort by left column leaves
pub lefts-rise : (rs : List Rect) → IsSortedByKey (λ r. r.x0) int_cmp rs → LeftsRise rs
lefts-rise rs h i j d l within =
    at_most (get_or rs j d).x0 (get_or rs i d).x0 _ refl
    (sorted_far (λ a b. is_lt (int_cmp a.x0 b.x0)) (ranks_by int_cmp_total (λ r. r.x0)) rs h i j d l within)

-- one more rectangle was passed
pub end-more : (rs : List Rect) (n : ℕ) (r : Rect) (x y : ℤ) → n < length rs → r ≡ get_or rs n r → x ≤ℤ y → r.x1 ≤ℤ y → ReachTo rs n x → ReachTo rs (n + 1) y
end-more rs n r x y n_in r_is l m h k d k_less k_in = elim (cases_order k n) [
  | inl e ↦ (let same : get_or rs k d ≡ r = ap (λ i. get_or rs i d) e ∙ (get_or_default rs n d r n_in ∙ sym r_is) in rw same m)
  | inr o ↦ elim o [
    | inl less ↦ (let a = h k d less k_in in omega (arith, ints, a, l))
    | inr more ↦ absurd (omega (arith, more, k_less))
  ]
]

-- the first of those ahead begins right of the column, so all of them do
pub prefix-here : (rs : List Rect) (n : ℕ) (r : Rect) (x reach : ℤ) → LeftsRise rs → n < length rs → r ≡ get_or rs n r → x <ℤ r.x0 → ReachTo rs n reach → IsPrefixAt rs x n reach
prefix-here rs n r x reach rise n_in r_is l h = record {
  passed = h;
  ahead = λ k d more k_in.
      let same : get_or rs n d ≡ r = get_or_default rs n d r n_in ∙ sym r_is in
      let m = rw same at (rise n k d more k_in) in
      omega (arith, ints, l, m);
}

-- a bar between those passed and those ahead stands apart from all
pub prefix-apart : (rs : List Rect) (bar : Rect) (n : ℕ) (reach : ℤ) → IsPrefixAt rs bar.x1 n reach → reach <ℤ bar.x0 → (r : Rect) → Contains rs r → StandApart bar r
prefix-apart rs bar n reach prefix l r (k, k_in, r_is) =
    let ahead : n ≤ k → StandApart bar r = λ m. inl (subst (λ t. bar.x1 <ℤ t.x0) r_is (prefix.ahead k r m k_in)) in
    elim (cases_order k n) [
      | inl e ↦ ahead (omega (arith, e))
      | inr o ↦ elim o [
        | inl less ↦ (let m = subst (λ t. t.x1 ≤ℤ reach) r_is (prefix.passed k r less k_in) in inr (omega (arith, ints, l, m)))
        | inr more ↦ ahead (omega (arith, more))
      ]
    ]

flip : (r s : Rect) → StandApart r s → StandApart s r
flip r s (inl l) = inr l
flip r s (inr l) = inl l

module _ (bars beside old new alone : List Rect) (n : ℕ) (bar : Rect) (n_in : n < length bars) (bar_is : bar ≡ get_or bars n bar)
    (apart : AllPairs StandApart bars) (a : AreAlone (take n bars) beside old new alone) where
  earlier : (r : Rect) → Contains (take n bars) r → StandApart r bar
  earlier r (k, k_in, r_is) =
      let less : k < n = omega (arith, k_in, length-take n bars) in
      let here : get_or bars n r ≡ bar = get_or_default bars n r bar n_in ∙ sym bar_is in
      let there : get_or bars k r ≡ r = sym (get_or-take n bars k r less) ∙ r_is in
      rw (here, there) at (apart k n r less n_in)

  step : take (n + 1) bars ≡ take n bars ++ bar ∷ []
  step = take_more bars n bar n_in ∙ ap (λ b. take n bars ++ b ∷ []) (sym bar_is)

  later : (r : Rect) → Contains (take n bars) r → Contains (take (n + 1) bars) r
  later r h = rw step (Contains-append_left (take n bars) (bar ∷ []) r h)

  last : Contains (take (n + 1) bars) bar
  last = rw step (Contains-push (take n bars) bar)

  pushed : (rs : List Rect) (p : Pt) → Covers (rs ++ bar ∷ []) p ↔ (Covers rs p ⊎ Has bar p)
  pushed rs = covers-pushed rs bar

  -- a bar that stands apart from all else is one more
  pub alone-more : ((r : Rect) → Contains old r ⊎ Contains beside r → StandApart bar r) → AreAlone (take (n + 1) bars) beside old new (alone ++ bar ∷ [])
  alone-more off = record {
    apart = all_pairs_push StandApart alone bar a.apart (λ k d k_in. (let there = Contains-get_or alone k d k_in in
        earlier (get_or alone k d) (a.members (get_or alone k d) there)));
    members = λ r r_in. elim (Contains-push_cases alone bar r r_in) [ inl h ↦ later r (a.members r h) | inr e ↦ subst (Contains (take (n + 1) bars)) e last ];
    others = λ r r_in. elim (a.others r r_in) [ inl h ↦ inl h | inr h ↦ inr (later r h) ];
    off = λ r s r_in s_in. elim (Contains-push_cases alone bar r r_in) [
      | inl h ↦ a.off r s h s_in
      | inr e ↦ subst (λ t. StandApart t s) e (elim (a.others s s_in) [ inl h ↦ off s (inl h) | inr h ↦ flip s bar (earlier s h) ])
    ];
    off_beside = λ r s r_in s_in. elim (Contains-push_cases alone bar r r_in) [
      | inl h ↦ a.off_beside r s h s_in
      | inr e ↦ subst (λ t. StandApart t s) e (off s (inr s_in))
    ];
    covers = λ p. (
      (λ h. elim h [
        | inl c ↦ elim ((pushed alone p).0 c) [
          | inl k ↦ elim ((a.covers p).0 (inl k)) [ inl b ↦ inl ((covers-step bars n bar p n_in bar_is).1 (inl b)) | inr o ↦ inr o ]
          | inr has ↦ inl ((covers-step bars n bar p n_in bar_is).1 (inr has))
        ]
        | inr c ↦ elim ((a.covers p).0 (inr c)) [ inl b ↦ inl ((covers-step bars n bar p n_in bar_is).1 (inl b)) | inr o ↦ inr o ]
      ]),
      λ h. elim h [
        | inl c ↦ elim ((covers-step bars n bar p n_in bar_is).0 c) [
          | inl b ↦ elim ((a.covers p).1 (inl b)) [ inl k ↦ inl ((pushed alone p).1 (inl k)) | inr o ↦ inr o ]
          | inr has ↦ inl ((pushed alone p).1 (inr has))
        ]
        | inr o ↦ elim ((a.covers p).1 (inr o)) [ inl k ↦ inl ((pushed alone p).1 (inl k)) | inr q ↦ inr q ]
      ],
    );
  }

  -- another bar is one of the others
  pub beside-more : AreAlone (take (n + 1) bars) beside old (new ++ bar ∷ []) alone
  beside-more = record {
    apart = a.apart;
    members = λ r r_in. later r (a.members r r_in);
    others = λ r r_in. elim (Contains-push_cases new bar r r_in) [
      | inl h ↦ elim (a.others r h) [ inl k ↦ inl k | inr k ↦ inr (later r k) ]
      | inr e ↦ inr (subst (Contains (take (n + 1) bars)) e last)
    ];
    off = λ r s r_in s_in. elim (Contains-push_cases new bar s s_in) [
      | inl h ↦ a.off r s r_in h
      | inr e ↦ subst (StandApart r) e (earlier r (a.members r r_in))
    ];
    off_beside = a.off_beside;
    covers = λ p. (
      (λ h. elim h [
        | inl c ↦ elim ((a.covers p).0 (inl c)) [ inl b ↦ inl ((covers-step bars n bar p n_in bar_is).1 (inl b)) | inr o ↦ inr o ]
        | inr c ↦ elim ((pushed new p).0 c) [
          | inl k ↦ elim ((a.covers p).0 (inr k)) [ inl b ↦ inl ((covers-step bars n bar p n_in bar_is).1 (inl b)) | inr o ↦ inr o ]
          | inr has ↦ inl ((covers-step bars n bar p n_in bar_is).1 (inr has))
        ]
      ]),
      λ h. elim h [
        | inl c ↦ elim ((covers-step bars n bar p n_in bar_is).0 c) [
          | inl b ↦ elim ((a.covers p).1 (inl b)) [ inl k ↦ inl k | inr o ↦ inr ((pushed new p).1 (inl o)) ]
          | inr has ↦ inr ((pushed new p).1 (inr has))
        ]
        | inr o ↦ elim ((a.covers p).1 (inr o)) [ inl k ↦ inl k | inr q ↦ inr ((pushed new p).1 (inl q)) ]
      ],
    );
  }

module _ (bars beside old new : List Rect) (n : ℕ) (bar : Rect) (n_in : n < length bars) (bar_is : bar ≡ get_or bars n bar) (a : AddsTouching (take n bars) beside old new) where
  one-more : take (n + 1) bars ≡ take n bars ++ bar ∷ []
  one-more = take_more bars n bar n_in ∙ ap (λ b. take n bars ++ b ∷ []) (sym bar_is)

  before : (r : Rect) → Contains (take n bars) r → Contains (take (n + 1) bars) r
  before r h = rw one-more (Contains-append_left (take n bars) (bar ∷ []) r h)

  which : (r : Rect) → Contains (take (n + 1) bars) r → Contains (take n bars) r ⊎ (bar ≡ r)
  which r h = Contains-push_cases (take n bars) bar r (rw one-more at h)

  -- a bar that stands apart isn't added
  pub touching-apart : ((s : Rect) → Contains beside s → StandApart bar s) → AddsTouching (take (n + 1) bars) beside old new
  touching-apart off = record {
    kept = a.kept;
    others = λ r r_in. elim (a.others r r_in) [ inl h ↦ inl h | inr h ↦ inr (before r h) ];
    apart = λ r r_in. elim (which r r_in) [ inl h ↦ a.apart r h | inr e ↦ inr (subst (λ t. (s : Rect) → Contains beside s → StandApart t s) e off) ];
  }

  pub touching-more : AddsTouching (take (n + 1) bars) beside old (new ++ bar ∷ [])
  touching-more = record {
    kept = λ r h. Contains-append_left new (bar ∷ []) r (a.kept r h);
    others = λ r r_in. elim (Contains-push_cases new bar r r_in) [
      | inl h ↦ elim (a.others r h) [ inl k ↦ inl k | inr k ↦ inr (before r k) ]
      | inr e ↦ inr (rw one-more (subst (Contains (take n bars ++ bar ∷ [])) e (Contains-push (take n bars) bar)))
    ];
    apart = λ r r_in. elim (which r r_in) [
      | inl h ↦ elim (a.apart r h) [ inl k ↦ inl (Contains-append_left new (bar ∷ []) r k) | inr off ↦ inr off ]
      | inr e ↦ inl (subst (Contains (new ++ bar ∷ [])) e (Contains-push new bar))
    ];
  }
