-- Horizontal and vertical zones, joined feature by feature.
use Rattle.std.proofs.Common.{◌≡◌, ℕ, ◌+◌, ◌-◌, ◌^◌, ◌<◌, ◌≤◌, ◌⊎◌, inl, inr, List, [], ◌++◌, length, get_or, take, drop, sym, ap, ◌∙◌, subst, arith}
use Rattle.std.specs.Prelude.{pos, ◌↔◌}
use Rattle.std.specs.List.{Contains}
use Rattle.std.specs.List.Sorted.{IsPermutation}
use Rattle.std.proofs.lemmas.Bool.{cases_eq, cases_lt}
use Rattle.std.proofs.lemmas.List.{get_or_default, get_or-drop, get_or-take, length-drop, length-take}
use Rattle.std.proofs.lemmas.List.Elements.{Contains-append_cases, Contains-append_left, Contains-append_right}
use Rattle.std.proofs.lemmas.List.Sorted.{Contains-permutation, IsPermutation-sym}
use Rattle.dpl_spec_split.specs.declared.Rect.{Rect}
use Rattle.dpl_spec_split.specs.declared.Zone.{Zone}
use Rattle.dpl_spec_split.specs.Loops.{farthest}
use Rattle.dpl_spec_split.specs.Squares.{IsSolidWithin}
use Rattle.dpl_zone.specs.Layers.{FeaturesRise, IsPassed, TouchIn, TouchesOwn}
use Rattle.dpl_zone.proofs.Keeping.{KeptOf}

abbrev pub no_zone : Zone
no_zone = record { rect = record { x0 = pos 0; y0 = pos 0; x1 = pos 0; y1 = pos 0 }; feature = 0 }

abbrev pub IsWithin : Zone → Type 0
IsWithin z = IsSolidWithin farthest z.rect

pub solid-farther : (r : Rect) → IsSolidWithin farthest r → IsSolidWithin (2 ^ 61) r
solid-farther r h =
    let a = h.left in
    let b = h.right in
    let c = h.low in
    let d = h.high in
    record { wide = h.wide; tall = h.tall; left = omega (arith, a); right = omega (arith, b); low = omega (arith, c); high = omega (arith, d) }

-- ---- a few zones, one by one

-- none of the first n zones touches the zone within its feature
abbrev pub NoneTouch : List Zone → Zone → ℕ → Type 0
NoneTouch flat z n = (k : ℕ) (d : Zone) → k < n → k < length flat → TouchIn (get_or flat k d) z → ⊥

pub lone-start : (flat : List Zone) (z : Zone) → NoneTouch flat z 0
lone-start flat z k d l k_in t = omega (arith, l)

pub lone-more : (flat : List Zone) (z h : Zone) (n : ℕ) → n < length flat → h ≡ get_or flat n h → (TouchIn h z → ⊥) → NoneTouch flat z n → NoneTouch flat z (n + 1)
lone-more flat z h n n_in is free before k d l k_in t = elim (cases_eq k n) [
  | inl same ↦
      (let here : get_or flat k d ≡ h = ap (λ (m : ℕ). get_or flat m d) same ∙ (get_or_default flat n d h n_in ∙ sym is) in
      free (subst (λ (u : Zone). TouchIn u z) here t))
  | inr ne ↦ before k d (omega (arith, l, ne)) k_in t
]

pub lone-found : (flat : List Zone) (z h : Zone) (n : ℕ) → n < length flat → h ≡ get_or flat n h → TouchIn h z → TouchesOwn flat z
lone-found flat z h n n_in is (own, touch) = (h, (n, n_in, sym is), own, touch)

pub lone-none : (flat : List Zone) (z : Zone) (n : ℕ) → length flat ≤ n → NoneTouch flat z n → TouchesOwn flat z → ⊥
lone-none flat z n all none (h, (k, k_in, k_is), own, touch) = none k h (omega (arith, all, k_in)) k_in (subst (λ (u : Zone). TouchIn u z) (sym k_is) (own, touch))

-- ---- runs of features

-- the zones from place start up to but not end are of features below k
abbrev pub AreBelow : List Zone → ℕ → ℕ → ℕ → Type 0
AreBelow zones start k end = (i : ℕ) (d : Zone) → start ≤ i → i < end → i < length zones → (get_or zones i d).feature < k

pub below-none : (zones : List Zone) (start k : ℕ) → AreBelow zones start k start
below-none zones start k i d a b i_in = absurd (omega (arith, a, b))

pub below-more : (zones : List Zone) (start k n : ℕ) → n < length zones → AreBelow zones start k n → (get_or zones n no_zone).feature < k → AreBelow zones start k (n + 1)
below-more zones start k n n_in before here i d a b i_in = elim (cases_eq i n) [
  | inl same ↦
      (let is : get_or zones i d ≡ get_or zones n no_zone = ap (λ (m : ℕ). get_or zones m d) same ∙ get_or_default zones n d no_zone n_in in
      subst (λ (u : Zone). u.feature < k) (sym is) here)
  | inr ne ↦ before i d a (omega (arith, b, ne)) i_in
]

pub passed-at : (zones : List Zone) (start k n : ℕ) → start ≤ n → n < length zones → AreBelow zones start k n → k ≤ (get_or zones n no_zone).feature → IsPassed zones start k n
passed-at zones start k n from n_in before here = record {
  from = from;
  within = omega (arith, n_in);
  before = before;
  after = λ d l. subst (λ (u : Zone). k ≤ u.feature) (get_or_default zones n no_zone d n_in) here;
}

pub passed-all : (zones : List Zone) (start k : ℕ) → start ≤ length zones → AreBelow zones start k (length zones) → IsPassed zones start k (length zones)
passed-all zones start k from before = record { from = from; within = omega arith; before = before; after = λ d l. absurd (omega (arith, l)) }

in-portion : {X : Type 0} (xs : List X) (a b : ℕ) (x : X) → b ≤ length xs → Contains (take (b - a) (drop a xs)) x
    → (j : ℕ) × (a ≤ j) × (j < b) × (j < length xs) × (get_or xs j x ≡ x)
in-portion xs a b x within (k, k_in, k_is) =
    let t = length-take (b - a) (drop a xs) in
    let d = length-drop a xs in
    let l : k < b - a = omega (arith, k_in, t, d) in
    (a + k, omega arith, omega (arith, l), omega (arith, l, within), sym (get_or-take (b - a) (drop a xs) k x l ∙ get_or-drop a xs k x) ∙ k_is)

to-portion : {X : Type 0} (xs : List X) (a b : ℕ) (x : X) (j : ℕ) → b ≤ length xs → a ≤ j → j < b → get_or xs j x ≡ x → Contains (take (b - a) (drop a xs)) x
to-portion xs a b x j within low high is =
    let t = length-take (b - a) (drop a xs) in
    let d = length-drop a xs in
    let l : j - a < b - a = omega (arith, low, high) in
    let back : a + (j - a) ≡ j = omega (arith, low) in
    (j - a, omega (arith, l, t, d, within), get_or-take (b - a) (drop a xs) (j - a) x l ∙ (get_or-drop a xs (j - a) x ∙ (ap (λ (m : ℕ). get_or xs m x) back ∙ is)))

-- the features of the horizontal zones before a place are below those of the vertical ones from another place on
abbrev pub IsBehind : List Zone → ℕ → List Zone → ℕ → Type 0
IsBehind flat from upright start =
    (i j : ℕ) (d e : Zone) → i < from → i < length flat → start ≤ j → j < length upright → (get_or flat i d).feature < (get_or upright j e).feature

pub behind-none : (flat upright : List Zone) → IsBehind flat 0 upright 0
behind-none flat upright i j d e l i_in m j_in = absurd (omega (arith, l))

pub run-none : (flat upright kept : List Zone) → kept ≡ [] → (w : Zone) → Contains kept w ↔ KeptOf flat upright 0 w
run-none flat upright kept none w = (
  λ c. absurd (let (k, k_in, is) = subst (λ (zs : List Zone). Contains zs w) none c in omega (arith, k_in)),
  λ (k, l, k_in, k_is, f). absurd (omega (arith, l)),
)

pub run-all : (flat upright kept : List Zone) (n : ℕ) → length upright ≤ n → ((w : Zone) → Contains kept w ↔ KeptOf flat upright n w)
    → (w : Zone) → Contains kept w ↔ (Contains upright w × (TouchesOwn flat w → ⊥))
run-all flat upright kept n all h w = (
  λ a. (let (k, l, k_in, k_is, free) = (h w).0 a in ((k, k_in, k_is), free)),
  λ ((k, k_in, k_is), free). (h w).1 (k, omega (arith, all, k_in), k_in, k_is, free),
)

module _ (flat upright : List Zone) (flat_rise : FeaturesRise flat) (upright_rise : FeaturesRise upright) (from start end low high : ℕ) (k : ℕ) (e : Zone)
    (k_is : k ≡ (get_or upright start e).feature) (start_in : start < length upright) (behind : IsBehind flat from upright start)
    (own : IsPassed upright start (k + 1) end) (skipped : IsPassed flat from k low) (run : IsPassed flat low (k + 1) high) where
  pub farther : start < end
  farther = elim (cases_lt start end) [
    | inl l ↦ l
    | inr m ↦ (let a = own.from in
        let same : end ≡ start = omega (arith, a, m) in
        let after = own.after e (omega (arith, same, start_in)) in
        let is = ap (λ (n : ℕ). (get_or upright n e).feature) same in
        absurd (omega (arith, after, is, k_is)))
  ]

  -- the zones before the run are of earlier features
  earlier : (i : ℕ) (d : Zone) → i < low → i < length flat → (get_or flat i d).feature < k
  earlier i d l i_in = elim (cases_lt i from) [
    | inl m ↦ (let b = behind i start d e m i_in (omega arith) start_in in omega (arith, b, k_is))
    | inr m ↦ skipped.before i d m l i_in
  ]

  later : (j : ℕ) (d : Zone) → end ≤ j → j < length upright → k + 1 ≤ (get_or upright j d).feature
  later j d l j_in = let after = own.after d (omega (arith, l, j_in)) in let more = upright_rise end j d l j_in in omega (arith, after, more)

  pub behind-more : IsBehind flat high upright end
  behind-more i j d f l i_in m j_in =
      let more = later j f m j_in in
      elim (cases_lt i low) [
        | inl b ↦ (let less = earlier i d b i_in in omega (arith, less, more))
        | inr b ↦ (let less = run.before i d b l i_in in omega (arith, less, more))
      ]

  of-run : (w : Zone) (j : ℕ) → start ≤ j → j < end → j < length upright → get_or upright j w ≡ w → w.feature ≡ k
  of-run w j a b j_in is =
      let most = own.before j w a b j_in in
      let least = upright_rise start j w a j_in in
      let first = ap (λ (u : Zone). u.feature) (get_or_default upright start e w start_in) in
      let here = ap (λ (u : Zone). u.feature) is in
      omega (arith, most, least, first, here, k_is)

  touch-to : (w : Zone) → w.feature ≡ k → TouchesOwn flat w → TouchesOwn (take (high - low) (drop low flat)) w
  touch-to w w_is (h, (i, i_in, i_is), same, touch) =
      let here : (get_or flat i h).feature ≡ k = ap (λ (u : Zone). u.feature) i_is ∙ (same ∙ w_is) in
      let a : low ≤ i = elim (cases_lt i low) [ inl l ↦ absurd (let less = earlier i h l i_in in omega (arith, less, here)) | inr m ↦ m ] in
      let b : i < high = elim (cases_lt i high) [
        | inl l ↦ l
        | inr m ↦ absurd (let after = run.after h (omega (arith, m, i_in)) in let more = flat_rise high i h m i_in in omega (arith, after, more, here))
      ] in
      (h, to-portion flat low high h i run.within a b i_is, same, touch)

  touch-from : (w : Zone) → TouchesOwn (take (high - low) (drop low flat)) w → TouchesOwn flat w
  touch-from w (h, c, same, touch) = let (i, a, b, i_in, i_is) = in-portion flat low high h run.within c in (h, (i, i_in, i_is), same, touch)

  pub run-more : (old new : List Zone) → ((w : Zone) → Contains old w ↔ KeptOf flat upright start w)
      → ((w : Zone) → Contains new w ↔ (Contains old w ⊎ (Contains (take (end - start) (drop start upright)) w × (TouchesOwn (take (high - low) (drop low flat)) w → ⊥))))
      → (w : Zone) → Contains new w ↔ KeptOf flat upright end w
  run-more old new before step w =
      let on = farther in (
        λ c. elim ((step w).0 c) [
          | inl a ↦ (let (j, l, j_in, is, free) = (before w).0 a in (j, omega (arith, l, on), j_in, is, free))
          | inr (a, free) ↦
              (let (j, l, m, j_in, is) = in-portion upright start end w own.within a in
              (j, m, j_in, is, λ t. free (touch-to w (of-run w j l m j_in is) t)))
        ],
        λ (j, l, j_in, is, free). (step w).1 (elim (cases_lt j start) [
          | inl m ↦ inl ((before w).1 (j, m, j_in, is, free))
          | inr m ↦ inr (to-portion upright start end w j own.within m l is, λ t. free (touch-from w t))
        ]),
      )

-- ---- sorted lists joined

touches-sorted : (flat sorted : List Zone) (z : Zone) → IsPermutation flat sorted → TouchesOwn flat z → TouchesOwn sorted z
touches-sorted flat sorted z same (h, c, e, touch) = (h, Contains-permutation flat sorted h same c, e, touch)

pub joined-sorted : (flat upright low high kept : List Zone) → IsPermutation flat low → IsPermutation upright high
    → ((w : Zone) → Contains kept w ↔ (Contains high w × (TouchesOwn low w → ⊥)))
    → (w : Zone) → Contains (low ++ kept) w ↔ (Contains flat w ⊎ (Contains upright w × (TouchesOwn flat w → ⊥)))
joined-sorted flat upright low high kept flat_same upright_same are w = (
  λ c. elim (Contains-append_cases low kept w c) [
    | inl a ↦ inl (Contains-permutation low flat w (IsPermutation-sym flat low flat_same) a)
    | inr a ↦ (let (b, free) = (are w).0 a in
        inr (Contains-permutation high upright w (IsPermutation-sym upright high upright_same) b, λ t. free (touches-sorted flat low w flat_same t)))
  ],
  λ h. elim h [
    | inl a ↦ Contains-append_left low kept w (Contains-permutation flat low w flat_same a)
    | inr (b, free) ↦ Contains-append_right low kept w
        ((are w).1 (Contains-permutation upright high w upright_same b, λ t. free (touches-sorted low flat w (IsPermutation-sym flat low flat_same) t)))
  ],
)
