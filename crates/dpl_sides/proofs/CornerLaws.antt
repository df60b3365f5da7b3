-- Corners of slabs and of zones, in order.
use Rattle.std.proofs.Common.{◌≡◌, ℕ, ◌+◌, ◌<◌, ◌≤◌, ◌⊎◌, inl, inr, List, [], ◌∷◌, ◌++◌, length, get_or, map, true, false, refl, sym, ap, ◌∙◌, subst, arith}
use Rattle.std.specs.Prelude.{◌↔◌, ℤ}
use Rattle.std.specs.List.{All, AllWithin, Contains}
use Rattle.std.specs.List.Sorted.{IsPermutation, IsNonDecreasingBy, IsPartitionedBy, IsPartitionPoint}
use Rattle.std.specs.Ordering.{is_lt, int_cmp, ordering_index}
use Rattle.std.specs.Cmp.{IsTotalOrder}
use Rattle.std.specs.declared.cmp.Ordering.{Ordering}
use Rattle.std.specs.declared.cmp.Ordering.TheVariants.{Less, Equal, Greater}
use Rattle.std.proofs.lemmas.Cmp.{int_cmp_total, then_total, on_total, tied_itself}
use Rattle.std.proofs.lemmas.Map.Lookups.{exact_pairs, exact_signed}
use Rattle.std.proofs.lemmas.List.Sorted.{Contains-permutation, IsPermutation-sym, searchable_from_sorted}
use Rattle.std.proofs.lemmas.Bool.{cases_eq, false_from_ne_true, false≢true}
use Rattle.std.proofs.lemmas.List.{get_or_default}
use Rattle.std.proofs.lemmas.List.Elements.{All-contains, Contains-get_or, Contains-append_left, Contains-append_right, Contains-append_cases}
use Rattle.dpl_spec_split.specs.declared.Rect.{Rect}
use Rattle.dpl_spec_split.specs.declared.Zone.{Zone}
use Rattle.dpl_spec_split.proofs.Ordered.{Contains-head, Contains-later, Contains-cases, Contains-nil}
use Rattle.dpl_sides.specs.declared.corner.Corner.{Corner}
use Rattle.dpl_sides.specs.declared.corner.Slab.{Slab}
use Rattle.dpl_sides.specs.declared.corner.Kind.{Kind}
use Rattle.dpl_sides.specs.declared.corner.Kind.TheVariants.{LowerLeft, LowerRight, UpperLeft}
use Rattle.dpl_sides.specs.Corners.{corner_at, corner_of, is_before, row_cmp, slab_corner, slab_of, AreSlabsWithin, IsCornerWithin, RiseByCorner}
use Rattle.dpl_sides.specs.Noted.{zone_corner, IsZoneCorner}
use Rattle.dpl_sides.specs.Pieces.{rect_at}

pub rows_total : IsTotalOrder row_cmp
rows_total = then_total (on_total (λ t. t.0) int_cmp_total) (on_total (λ t. t.1) int_cmp_total)

-- the elements of a mapped list
pub Contains-map : {A B : Type 0} (f : A → B) (rs : List A) (c : B) → Contains (map f rs) c → (r : A) × Contains rs r × (f r ≡ c)
Contains-map f [] c h = absurd (Contains-nil c h)
Contains-map f (r ∷ rs) c h = elim (Contains-cases (f r) c (map f rs) h) [
  | inl e ↦ (r, Contains-head r rs, e)
  | inr later ↦ (let (s, s_in, e) = Contains-map f rs c later in (s, Contains-later r s rs s_in, e))
]

pub map-Contains : {A B : Type 0} (f : A → B) (rs : List A) (r : A) → Contains rs r → Contains (map f rs) (f r)
map-Contains f [] r h = absurd (Contains-nil r h)
map-Contains f (s ∷ rs) r h = elim (Contains-cases s r rs h) [
  | inl e ↦ subst (λ t. Contains (f s ∷ map f rs) (f t)) e (Contains-head (f s) (map f rs))
  | inr later ↦ Contains-later (f s) (f r) (map f rs) (map-Contains f rs r later)
]

pub corner-number : (kind : Kind) (k : ℕ) (r : Rect) → (corner_of kind k r).number ≡ k
corner-number LowerLeft k r = refl
corner-number LowerRight k r = refl
corner-number UpperLeft k r = refl

-- the same corner with another number
pub renumber : (kind : Kind) (i k m : ℕ) (r : Rect) (x y : ℤ) → corner_of kind i r ≡ corner_at x y k → corner_of kind m r ≡ corner_at x y m
renumber LowerLeft i k m r x y e = ap (λ t. let u : Corner = t in corner_at u.x u.y m) e
renumber LowerRight i k m r x y e = ap (λ t. let u : Corner = t in corner_at u.x u.y m) e
renumber UpperLeft i k m r x y e = ap (λ t. let u : Corner = t in corner_at u.x u.y m) e

pub number-is : (kind : Kind) (i k : ℕ) (r : Rect) (x y : ℤ) → corner_of kind i r ≡ corner_at x y k → i ≡ k
number-is kind i k r x y e = sym (corner-number kind i r) ∙ ap (λ t. let u : Corner = t in u.number) e

pub only-one : (c d : Corner) → Contains (c ∷ []) d → c ≡ d
only-one c d h = elim (Contains-cases c d [] h) [ inl e ↦ e | inr none ↦ absurd (Contains-nil d none) ]

module _ (parts : List (List Rect)) (from : ℕ) where
  pub slabs-none : AreSlabsWithin parts from from []
  slabs-none s = (λ h. absurd (Contains-nil s h), λ (low, high, s_in). absurd (omega (arith, low, high)))

  pub slabs-next : (n : ℕ) (old new : List Slab) → from ≤ n → AreSlabsWithin parts from n old → new ≡ old ++ map (slab_of n) (get_or parts n [])
      → AreSlabsWithin parts from (n + 1) new
  slabs-next n old new low before new_is s =
      let part : List Rect = get_or parts n [] in (
        λ h. elim (Contains-append_cases old (map (slab_of n) part) s (subst (λ l. Contains l s) new_is h)) [
          | inl a ↦ (let (from_k, l, r_in) = (before s).0 a in (from_k, omega (arith, l), r_in))
          | inr b ↦ (let (r, r_in, is) = Contains-map (slab_of n) part s b in
              subst (λ t. let u : Slab = t in (from ≤ u.number) × (u.number < n + 1) × Contains (get_or parts u.number []) u.rect) is (low, omega arith, r_in))
        ],
        λ (from_k, l, r_in). subst (λ t. Contains t s) (sym new_is) (elim (cases_eq s.number n) [
          | inl e ↦ Contains-append_right old (map (slab_of n) part) s (subst (λ k. Contains (map (slab_of n) part) (slab_of k s.rect)) (sym e)
              (map-Contains (slab_of n) part s.rect (subst (λ k. Contains (get_or parts k []) s.rect) e r_in)))
          | inr ne ↦ Contains-append_left old (map (slab_of n) part) s ((before s).1 (from_k, omega (arith, l, ne), r_in))
        ]),
      )

  -- in another order they are the same slabs
  pub slabs-sorted : (to : ℕ) (old new : List Slab) → IsPermutation old new → AreSlabsWithin parts from to old → AreSlabsWithin parts from to new
  slabs-sorted to old new same h s = (
    λ g. (h s).0 (Contains-permutation new old s (IsPermutation-sym old new same) g),
    λ g. Contains-permutation old new s same ((h s).1 g),
  )

  -- and have the corners that the parts have
  pub slabs-cornered : (kind : Kind) (to : ℕ) (slabs : List Slab) → AreSlabsWithin parts from to slabs
      → (c : Corner) → Contains (map (slab_corner kind) slabs) c ↔ IsCornerWithin kind parts from to c
  slabs-cornered kind to slabs h c = (
    λ g. (let (s, s_in, is) = Contains-map (slab_corner kind) slabs c g in
        let (low, high, r_in) = (h s).0 s_in in (s.number, s.rect, low, high, r_in, is)),
    λ (k, r, low, high, r_in, is). subst (Contains (map (slab_corner kind) slabs)) is
        (map-Contains (slab_corner kind) slabs (slab_of k r) ((h (slab_of k r)).1 (low, high, r_in))),
  )

-- a list in another order has the same corners
pub corners-sorted : (P : Corner → Type 0) (old new : List Corner) → IsPermutation old new → ((c : Corner) → Contains old c ↔ P c)
    → (c : Corner) → Contains new c ↔ P c
corners-sorted P old new same h c = (
  λ g. (h c).0 (Contains-permutation new old c (IsPermutation-sym old new same) g),
  λ g. Contains-permutation old new c same ((h c).1 g),
)

module _ (kind : Kind) (zones : List Zone) (own : List ℕ) where
  pub zones-cornered : (c : Corner) → Contains (map (zone_corner kind zones) own) c ↔ IsZoneCorner kind zones own c
  zones-cornered c = (
    λ h. (let (j, j_in, e) = Contains-map (zone_corner kind zones) own c h in
        let same : j ≡ c.number = number-is kind j c.number (rect_at zones j) c.x c.y e in
        (subst (Contains own) same j_in, subst (λ m. zone_corner kind zones m ≡ c) same e)),
    λ (own_in, is). subst (Contains (map (zone_corner kind zones) own)) is (map-Contains (zone_corner kind zones) own c.number own_in),
  )

  -- their numbers are those of zones
  pub zone-numbers : (corners : List Corner) (n : ℕ) → All (λ j. j < n) own → ((c : Corner) → Contains corners c ↔ IsZoneCorner kind zones own c)
      → All (λ c. c.number < n) corners
  zone-numbers corners n known members i d l =
      All-contains (λ j. j < n) own (get_or corners i d).number known ((members (get_or corners i d)).0 (Contains-get_or corners i d l)).0

-- what comes before something less is less, and what comes before something equal, and isn't less, is equal
index-less : (o p : Ordering) → ordering_index o ≤ ordering_index p → is_lt p ≡ true → is_lt o ≡ true
index-less Less p h t = refl
index-less Equal Less h t = absurd (omega (arith, h))
index-less Greater Less h t = absurd (omega (arith, h))
index-less Equal Equal h t = t
index-less Greater Equal h t = t
index-less Equal Greater h t = t
index-less Greater Greater h t = t

index-equal : (o p : Ordering) → ordering_index o ≤ ordering_index p → is_lt o ≡ false → p ≡ Equal → o ≡ Equal
index-equal Less p h l e = absurd (let f : true ≡ false = l in cc)
index-equal Equal p h l e = refl
index-equal Greater Less h l e = absurd (omega (arith, h))
index-equal Greater Equal h l e = absurd (omega (arith, h))
index-equal Greater Greater h l e = e

module _ (corners : List Corner) (rise : RiseByCorner corners) (x y : ℤ) where
  rises : IsNonDecreasingBy (λ c. ordering_index (row_cmp (c.y, c.x) (y, x))) corners
  rises = searchable_from_sorted rows_total (λ c. (c.y, c.x)) corners (y, x) rise

  pub corners-parted : IsPartitionedBy (λ c. is_lt (row_cmp (c.y, c.x) (y, x))) corners
  corners-parted i j d a b t = index-less (row_cmp ((get_or corners i d).y, (get_or corners i d).x) (y, x))
      (row_cmp ((get_or corners j d).y, (get_or corners j d).x) (y, x)) (rises i j d a b) t

  -- all corners up to one that comes before the point do
  pub corners-under : (n : ℕ) (e : Corner) → n < length corners → is_before x y (get_or corners n e) ≡ true → AllWithin (λ c. is_before x y c ≡ true) corners 0 (n + 1)
  corners-under n e n_in t k d _ l =
      corners-parted k n d (omega (arith, l)) n_in (subst (λ c. is_before x y c ≡ true) (get_or_default corners n e d n_in) t)

  -- no corner from one on that doesn't come before the point does
  pub corners-over : (n : ℕ) (e : Corner) → n < length corners → is_before x y (get_or corners n e) ≡ false
      → AllWithin (λ c. is_before x y c ≡ false) corners n (length corners)
  corners-over n e n_in f k d l k_in = false_from_ne_true (is_before x y (get_or corners k d)) (λ yes.
      false≢true (sym f ∙ subst (λ c. is_before x y c ≡ true) (get_or_default corners n d e n_in) (corners-parted n k d l k_in yes)))

  -- no corner is at the point before those that come before it end, nor from the first one on that is elsewhere
  pub none-elsewhere : (first i k : ℕ) (d : Corner) → IsPartitionPoint (λ c. is_lt (row_cmp (c.y, c.x) (y, x)) ≡ true)
      (λ c. is_lt (row_cmp (c.y, c.x) (y, x)) ≡ false) corners first → first ≤ i → k < length corners
      → (i < length corners → (get_or corners i d).x ≡ x → (get_or corners i d).y ≡ y → ⊥) → ((k < first) ⊎ (i ≤ k)) → (get_or corners k d).x ≡ x → (get_or corners k d).y ≡ y → ⊥
  none-elsewhere first i k d parted l k_in stop where_k at_x at_y =
      let tied : row_cmp ((get_or corners k d).y, (get_or corners k d).x) (y, x) ≡ Equal = rw (at_x, at_y) (tied_itself rows_total (y, x)) in
      elim where_k [
        | inl before ↦ (let less = parted.0 k d (omega arith) before in cc)
        | inr after ↦ (
            let i_in : i < length corners = omega (arith, after, k_in) in
            let same = index-equal (row_cmp ((get_or corners i d).y, (get_or corners i d).x) (y, x))
            (row_cmp ((get_or corners k d).y, (get_or corners k d).x) (y, x)) (rises i k d after k_in) (parted.1 i d l i_in) tied in
            let e = exact_pairs int_cmp int_cmp exact_signed exact_signed ((get_or corners i d).y, (get_or corners i d).x) (y, x) same in
            stop i_in (ap (λ (p : ℤ × ℤ). p.1) e) (ap (λ (p : ℤ × ℤ). p.0) e))
      ]
