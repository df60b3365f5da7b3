-- Features one by one, each with its own zones.
use Rattle.std.proofs.Common.{◌≡◌, ◌≢◌, ℕ, suc, ◌+◌, ◌-◌, ◌≤◌, ◌<◌, ◌⊎◌, inl, inr, false, List, [], ◌∷◌, ◌++◌, length, get_or, map, take, drop, refl, sym, ap, ◌∙◌, subst, arith}
use Rattle.std.specs.Prelude.{◌↔◌}
use Rattle.std.specs.List.{All, Contains, range_with_len}
use Rattle.std.specs.List.Sorted.{IsNonDecreasingBy, IsPermutation, IsSortedByKey}
use Rattle.std.specs.Ordering.{is_lt, nat_cmp, ordering_then}
use Rattle.std.specs.declared.cmp.Ordering.{Ordering}
use Rattle.std.specs.declared.cmp.Ordering.TheVariants.{Less, Equal, Greater}
use Rattle.std.proofs.lemmas.Cmp.{ranked, nat_cmp_total, then_total, on_total}
use Rattle.std.proofs.lemmas.Bool.{cases_eq}
use Rattle.std.proofs.lemmas.List.{append_assoc, get_or_at, get_or_default, get_or-drop, get_or-take, length-append, length-drop, length-take, take-append-drop}
use Rattle.std.proofs.lemmas.List.Elements.{All-contains, All-push, Contains-get_or, Contains-append_left, Contains-append_right, Contains-append_cases}
use Rattle.std.proofs.lemmas.List.FromFn.{length-range_with_len, get_or-range_with_len}
use Rattle.std.proofs.lemmas.List.Sorted.{Contains-permutation, IsPermutation-sym, ranks_by, sorted_far}
use Rattle.std.proofs.Math.Seq.{take-suc}
use Rattle.dpl_spec_split.specs.declared.Rect.{Rect}
use Rattle.dpl_spec_split.specs.declared.Zone.{Zone}
use Rattle.dpl_sides.proofs.CornerLaws.{Contains-map, map-Contains}
use Rattle.dpl_sides.specs.Pieces.{zone_at, rect_at}
use Rattle.dpl_piece.specs.Made.{BeginsAt}
use Rattle.dpl_piece.specs.Pieces.{feature_at, AreHolesOf, AreZonesFrom, AreZonesOf}

-- each number below n, and no other
abbrev pub AreNumbersBelow : ℕ → List ℕ → Type 0
AreNumbersBelow n numbers = (j : ℕ) → Contains numbers j ↔ (j < n)

-- the numbers below n in any order are each number below n, and no other
pub numbers-permuted : (n : ℕ) (sorted : List ℕ) → IsPermutation (range_with_len 0 n) sorted → AreNumbersBelow n sorted
numbers-permuted n sorted same j =
    let l : length (range_with_len 0 n) ≡ n = length-range_with_len 0 n in (
      λ h. (let (i, i_in, is) = Contains-permutation sorted (range_with_len 0 n) j (IsPermutation-sym (range_with_len 0 n) sorted same) h in
          let e = get_or-range_with_len 0 n i j (omega (arith, l, i_in)) in
          omega (arith, l, i_in, is, e)),
      λ j_in. (let e = get_or-range_with_len 0 n j j j_in in Contains-permutation (range_with_len 0 n) sorted j same (j, omega (arith, l, j_in), omega (arith, e))),
    )

first-at_most : (x y z w : ℕ) (r : Ordering) → r ≡ nat_cmp x y → is_lt (ordering_then r (nat_cmp z w)) ≡ false → y ≤ x
first-at_most x y z w Less e h = absurd (cc)
first-at_most x y z w Equal e h = let same : x ≡ y = ranked x y Equal e in omega (arith, same)
first-at_most x y z w Greater e h = let l : y < x = ranked x y Greater e in omega (arith, l)

-- what is sorted by two keys rises by the first
pub firsts-rise : (n : ℕ → ℕ) (xs : List ℕ) → IsSortedByKey (λ j. (n j, j)) (λ (p q : ℕ × ℕ). ordering_then (nat_cmp p.0 q.0) (nat_cmp p.1 q.1)) xs
    → IsNonDecreasingBy n xs
firsts-rise n xs h i j d l within =
    let key : ℕ → ℕ × ℕ = λ a. (n a, a) in
    first-at_most (n (get_or xs j d)) (n (get_or xs i d)) (get_or xs j d) (get_or xs i d) (nat_cmp (n (get_or xs j d)) (n (get_or xs i d))) refl
    (sorted_far (λ (a b : ℕ). is_lt (ordering_then (nat_cmp (key a).0 (key b).0) (nat_cmp (key a).1 (key b).1)))
    (ranks_by (then_total (on_total (λ (t : ℕ × ℕ). t.0) nat_cmp_total) (on_total (λ (t : ℕ × ℕ). t.1) nat_cmp_total)) key) xs h i j d l within)

-- one more number of a zone of the feature
pub own-next : (zones : List Zone) (numbers : List ℕ) (i n : ℕ) → i < length numbers → feature_at zones (get_or numbers i 0) ≡ n
    → All (λ j. feature_at zones j ≡ n) (take i numbers) → All (λ j. feature_at zones j ≡ n) (take (i + 1) numbers)
own-next zones numbers i n i_in is own =
    let one : i + 1 ≡ suc i = omega arith in
    subst (All (λ j. feature_at zones j ≡ n)) (sym (ap (λ k. take k numbers) one ∙ take-suc numbers i 0 i_in))
    (All-push (λ j. feature_at zones j ≡ n) (take i numbers) (get_or numbers i 0) own is)

pub zones-from : (zones : List Zone) (sorted : List ℕ) → AreNumbersBelow (length zones) sorted → IsNonDecreasingBy (feature_at zones) sorted → AreZonesFrom zones 0 sorted
zones-from zones sorted are rise = record { rise = rise; members = λ j. (λ h. ((are j).0 h, omega arith), λ h. (are j).1 h.0) }

-- the numbers in front of a place, and those from it on
module _ (rest : List ℕ) (m : ℕ) where
  two : take m rest ++ drop m rest ≡ rest
  two = take-append-drop m rest

  in-rest : (j : ℕ) → Contains (take m rest) j ⊎ Contains (drop m rest) j → Contains rest j
  in-rest j (inl a) = subst (λ l. Contains l j) two (Contains-append_left (take m rest) (drop m rest) j a)
  in-rest j (inr a) = subst (λ l. Contains l j) two (Contains-append_right (take m rest) (drop m rest) j a)

  front-or_back : (j : ℕ) → Contains rest j → Contains (take m rest) j ⊎ Contains (drop m rest) j
  front-or_back j h = Contains-append_cases (take m rest) (drop m rest) j (subst (λ l. Contains l j) (sym two) h)

-- the zones of the features after number f are those from the place on where the first of them is
module _ (zones : List Zone) (rest : List ℕ) (n m f : ℕ) (h : AreZonesFrom zones n rest) (from : n ≤ f + 1) (low : All (λ j. feature_at zones j ≤ f) (take m rest))
    (high : m < length rest → (d : ℕ) → f < feature_at zones (get_or rest m d)) where
  back-later : (j : ℕ) → Contains (drop m rest) j → f + 1 ≤ feature_at zones j
  back-later j (i, i_in, is) =
      let m_in : m < length rest = omega (arith, i_in, length-drop m rest) in
      let up = h.rise m (m + i) j (omega arith) (omega (arith, i_in, length-drop m rest)) in
      let at : feature_at zones (get_or rest (m + i) j) ≡ feature_at zones j = ap (feature_at zones) (sym (get_or-drop m rest i j) ∙ is) in
      let later = high m_in j in
      omega (arith, up, at, later)

  pub zones-past : AreZonesFrom zones (f + 1) (drop m rest)
  zones-past = record {
    rise = λ i j d l j_in. rw (get_or-drop m rest i d, get_or-drop m rest j d) (h.rise (m + i) (m + j) d (omega (arith, l)) (omega (arith, j_in, length-drop m rest)));
    members = λ j. (
      λ a. (((h.members j).0 (in-rest rest m j (inr a))).0, back-later j a),
      λ (j_in, l). elim (front-or_back rest m j ((h.members j).1 (j_in, omega (arith, from, l)))) [
        | inl a ↦ absurd
            (let is = All-contains (λ i. feature_at zones i ≤ f) (take m rest) j low a in omega (arith, is, l))
        | inr a ↦ a
      ],
    );
  }

-- the first of the numbers is of the first feature that has a zone among them
pub zones-first : (zones : List Zone) (rest : List ℕ) (n : ℕ) → AreZonesFrom zones n rest → 0 < length rest → AreZonesFrom zones (feature_at zones (get_or rest 0 0)) rest
zones-first zones rest n h some =
    let least = ((h.members (get_or rest 0 0)).0 (Contains-get_or rest 0 0 some)).1 in
    record {
      rise = h.rise;
      members = λ j. (
        λ (i, i_in, is). (
          ((h.members j).0 (i, i_in, is)).0,
          (let up = h.rise 0 i j (omega arith) i_in in
              let first : feature_at zones (get_or rest 0 j) ≡ feature_at zones (get_or rest 0 0) = ap (feature_at zones) (get_or_default rest 0 j 0 some) in
              let at : feature_at zones (get_or rest i j) ≡ feature_at zones j = ap (feature_at zones) is in
              omega (arith, up, first, at)),
        ),
        λ (j_in, l). (h.members j).1 (j_in, omega (arith, least, l)),
      );
    }

pub zones-first-is : (zones : List Zone) (sorted : List ℕ) (place : ℕ) → feature_at zones (get_or (drop place sorted) 0 0) ≡ feature_at zones (get_or sorted place 0)
zones-first-is zones sorted place = ap (feature_at zones) (get_or-drop place sorted 0 0 ∙ ap (λ k. get_or sorted k 0) (omega arith))

-- the zones of the feature whose zones begin at a place, and of those after it
pub zones-begin : (zones : List Zone) (sorted : List ℕ) (place : ℕ) → AreZonesFrom zones 0 sorted → place < length sorted → BeginsAt zones sorted place
    → AreZonesFrom zones (feature_at zones (get_or sorted place 0)) (drop place sorted)
zones-begin zones sorted place h place_in begins = elim (cases_eq place 0) [
  | inl none ↦ rw none (zones-first zones sorted 0 h (omega (arith, place_in)))
  | inr some ↦ (
      let f : ℕ = feature_at zones (get_or sorted (place - 1) 0) in
      let g : ℕ = feature_at zones (get_or sorted place 0) in
      let up = h.rise (place - 1) place 0 (omega arith) place_in in
      let later : f < g = elim begins [
        | inl none ↦ absurd (some none)
        | inr differ ↦ omega (arith, up, differ)
      ] in
      let low : All (λ j. feature_at zones j ≤ f) (take place sorted) = λ i d i_in. (
      let i_place : i < place = omega (arith, i_in, length-take place sorted) in
      let same : get_or (take place sorted) i d ≡ get_or sorted i 0 = get_or-take place sorted i d i_place ∙ get_or_default sorted i d 0 (omega (arith, i_place, place_in)) in
      rw same (h.rise i (place - 1) 0 (omega (arith, i_place)) (omega (arith, place_in)))) in
      let high : place < length sorted → (d : ℕ) → f < feature_at zones (get_or sorted place d) = λ l d. rw (get_or_default sorted place d 0 place_in) later in
      let first : get_or (drop place sorted) 0 0 ≡ get_or sorted place 0 = get_or-drop place sorted 0 0 ∙ ap (λ k. get_or sorted k 0) (omega arith) in
      rw first at (zones-first zones (drop place sorted) (f + 1) (zones-past zones sorted 0 place f h (omega arith) low high) (omega (arith, place_in, length-drop place sorted))))
]

-- the rectangles of a feature's zones
module _ (zones : List Zone) (n : ℕ) (own : List ℕ) (are : AreZonesOf zones n own) where
  pub zones-known : All (λ j. j < length zones) own
  zones-known i d i_in = ((are (get_or own i d)).0 (Contains-get_or own i d i_in)).0

  pub zones-holes : AreHolesOf zones n (map (rect_at zones) own)
  zones-holes r = (
    λ r_in. (let (j, j_in, is) = Contains-map (rect_at zones) own r r_in in
        let (known, mine) = (are j).0 j_in in
        (zone_at zones j, (j, known, get_or_default zones j (zone_at zones j) (zone_at [] 0) known), mine, is)),
    λ (z, (j, j_in, z_is), mine, is). (
        let at : zone_at zones j ≡ z = get_or_default zones j (zone_at [] 0) z j_in ∙ z_is in
        let feature : feature_at zones j ≡ n = ap (λ y. let u : Zone = y in u.feature) at ∙ mine in
        subst (Contains (map (rect_at zones) own)) (ap (λ y. let u : Zone = y in u.rect) at ∙ is)
        (map-Contains (rect_at zones) own j ((are j).1 (j_in, feature)))),
  )

-- the zones of the first of some features, which come first
module _ (zones : List Zone) (rest : List ℕ) (n m : ℕ) (h : AreZonesFrom zones n rest)
    (own : All (λ j. feature_at zones j ≡ n) (take m rest)) (next : m < length rest → (d : ℕ) → feature_at zones (get_or rest m d) ≢ n) where
  pub zones-after : AreZonesFrom zones (n + 1) (drop m rest)
  zones-after = zones-past zones rest n m n h (omega arith) (λ i d i_in. (let is = own i d i_in in omega (arith, is)))
      (λ m_in d. (let low = ((h.members (get_or rest m d)).0 (Contains-get_or rest m d m_in)).1 in let differ = next m_in d in omega (arith, low, differ)))

  pub own-known : All (λ j. j < length zones) (take m rest)
  own-known i d i_in = ((h.members (get_or (take m rest) i d)).0 (in-rest rest m (get_or (take m rest) i d) (inl (Contains-get_or (take m rest) i d i_in)))).0

  -- each zone of the feature is among them
  pub own-there : (j : ℕ) → j < length zones → feature_at zones j ≡ n → Contains (take m rest) j
  own-there j j_in feature = elim (front-or_back rest m j ((h.members j).1 (j_in, omega (arith, feature)))) [
    | inl a ↦ a
    | inr a ↦ absurd (let l = ((zones-after.members j).0 a).1 in omega (arith, l, feature))
  ]

  -- and no other
  pub own-feature : (j : ℕ) → Contains (take m rest) j → feature_at zones j ≡ n
  own-feature j j_in = All-contains (λ i. feature_at zones i ≡ n) (take m rest) j own j_in

  pub own-zones : AreZonesOf zones n (take m rest)
  own-zones j = (
    λ j_in. (((h.members j).0 (in-rest rest m j (inl j_in))).0, own-feature j j_in),
    λ (j_in, of). own-there j j_in of,
  )

  pub own-holes : AreHolesOf zones n (map (rect_at zones) (take m rest))
  own-holes = zones-holes zones n (take m rest) own-zones

-- one more of a list that is gone through
pub turn : (xs done rest later : List (List Rect)) (x : List Rect) (n : ℕ) → done ++ rest ≡ xs → rest ≡ x ∷ later → n ≡ length done
    → ((done ++ x ∷ []) ++ later ≡ xs) × (n < length xs) × (x ≡ get_or xs n []) × (n + 1 ≡ length (done ++ x ∷ []))
turn xs done rest later x n all next n_is =
    let whole : done ++ (x ∷ later) ≡ xs = ap (λ t. done ++ t) (sym next) ∙ all in
    let long : length done + length (x ∷ later) ≡ length xs = sym (length-append done (x ∷ later)) ∙ ap length whole in (
      append_assoc done (x ∷ []) later ∙ whole,
      omega (arith, n_is, long),
      sym (get_or_at done x later [] n (sym n_is))
          ∙ ap (λ t. get_or t n []) whole,
      omega (arith, n_is, length-append done (x ∷ [])),
    )
