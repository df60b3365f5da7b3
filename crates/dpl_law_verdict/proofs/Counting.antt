-- How many parts and zones there can be within the range of a layer.
use Rattle.std.proofs.Common.{◌≡◌, ℕ, ◌+◌, ◌*◌, ◌<◌, ◌≤◌, inl, inr, List, [], ◌∷◌, length, get_or, refl, sym, ap, ◌∙◌, subst, eqb, arith}
use Rattle.std.specs.Prelude.{pos, ◌+ℤ◌, ◌≢◌, unsigned_abs}
use Rattle.std.specs.List.{AllPairs, Contains}
use Rattle.std.proofs.lemmas.Int.{ints}
use Rattle.std.proofs.lemmas.Bool.{eqb-true}
use Rattle.std.proofs.lemmas.Bool.Decides.{Decides-eqb}
use Rattle.std.proofs.lemmas.Map.Made.{IsDistinct-from_AllPairs}
use Rattle.std.proofs.lemmas.Map.Steps.{length-le_from_distinct_below}
use Rattle.std.proofs.lemmas.Map.Views.{Contains-from_any}
use Rattle.dpl_spec_split.specs.declared.Pt.{Pt}
use Rattle.dpl_spec_split.specs.declared.Rect.{Rect}
use Rattle.dpl_spec_split.specs.declared.Zone.{Zone}
use Rattle.dpl_spec_split.specs.Squares.{Region, Covers, IsLeast, Precedes}
use Rattle.dpl_spec_split.specs.Slabs.{Before}
use Rattle.dpl_spec_split.specs.Components.{AreComponents}
use Rattle.dpl_spec_split.specs.Loops.{AreRectsWithin, farthest}
use Rattle.dpl_spec_split.specs.Zones.{at}
use Rattle.dpl_spec_split.proofs.Ordered.{AllPairs-first, AllPairs-rest, Contains-head, Contains-later}
use Rattle.dpl_spec_split.proofs.SquareLaws.{IsLeast-unique, SameSquares-refl}
use Rattle.dpl_slabs.proofs.LoopLaws.{Inside}
use Rattle.dpl_law_verdict.proofs.Ranges.{covered-inside}

-- the squares within the range, counted by row, then by column
abbrev place : Pt → ℕ
place p = unsigned_abs (p.y +ℤ pos 1000000000) * 2000000000 + unsigned_abs (p.x +ℤ pos 1000000000)

column-below : (p : Pt) → Inside farthest p → unsigned_abs (p.x +ℤ pos 1000000000) < 2000000000
column-below p (a, b, c, d) = omega (arith, ints, a, c)

row-below : (p : Pt) → Inside farthest p → unsigned_abs (p.y +ℤ pos 1000000000) < 2000000000
row-below p (a, b, c, d) = omega (arith, ints, b, d)

place-below : (p : Pt) → Inside farthest p → place p < 4000000000000000000
place-below p h = let a = column-below p h in let b = row-below p h in omega (arith, a, b)

place-less : (p q : Pt) → Inside farthest p → Inside farthest q → Precedes p q → place p < place q
place-less p q h k (inl l) =
    let a = column-below p h in
    let (h0, h1, h2, h3) = h in
    let (k0, k1, k2, k3) = k in
    let rows : unsigned_abs (p.y +ℤ pos 1000000000) + 1 ≤ unsigned_abs (q.y +ℤ pos 1000000000) = omega (arith, ints, l, h1, k1) in
    omega (arith, a, rows)
place-less p q h k (inr (same, l)) =
    let (h0, h1, h2, h3) = h in
    let (k0, k1, k2, k3) = k in
    let rows : unsigned_abs (p.y +ℤ pos 1000000000) ≡ unsigned_abs (q.y +ℤ pos 1000000000) = ap (λ y. unsigned_abs (y +ℤ pos 1000000000)) same in
    let columns : unsigned_abs (p.x +ℤ pos 1000000000) < unsigned_abs (q.x +ℤ pos 1000000000) = omega (arith, ints, l, h0, k0) in
    omega (arith, rows, columns)

-- things with a square each, in the order of these
module _ {X : Type 0} (L : X → Pt → Type 0) (one : (x : X) (p q : Pt) → L x p → L x q → p ≡ q) where
  abbrev Rises : X → X → Type 0
  Rises x y = (p q : Pt) × L x p × L y q × Precedes p q

  climbs : (x : X) (p : Pt) (xs : List X) → L x p → Inside farthest p → AllPairs Rises (x ∷ xs)
      → ((y : X) (q : Pt) → Contains xs y → L y q → Inside farthest q) → place p + length (x ∷ xs) ≤ 4000000000000000000
  climbs x p [] is p_in all within = (let h = place-below p p_in in omega (arith, h))
  climbs x p (y ∷ ys) is p_in all within =
      let (u, v, u_is, v_is, before) = AllPairs-first Rises x y (y ∷ ys) all (Contains-head y ys) in
      let same : u ≡ p = one x u p u_is is in
      let v_in = within y v (Contains-head y ys) v_is in
      let less = place-less p v p_in v_in (subst (λ t. Precedes t v) same before) in
      let rest = climbs y v ys v_is v_in (AllPairs-rest Rises x (y ∷ ys) all) (λ z q z_in. within z q (Contains-later y z ys z_in)) in
      omega (arith, less, rest)

  few : (xs : List X) → AllPairs Rises xs → ((y : X) (q : Pt) → Contains xs y → L y q → Inside farthest q) → length xs ≤ 4000000000000000000
  few [] all within = omega arith
  few (x ∷ []) all within = omega arith
  few (x ∷ y ∷ ys) all within =
      let (u, v, u_is, v_is, before) = AllPairs-first Rises x y (y ∷ ys) all (Contains-head y ys) in
      let h = climbs x u (y ∷ ys) u_is (within x u (Contains-head x (y ∷ ys)) u_is) all (λ z q z_in. within z q (Contains-later x z (y ∷ ys) z_in)) in
      omega (arith, h)

pub few-parts : (layer : List Rect) (a : Region) (parts : List (List Rect)) → AreRectsWithin farthest layer
    → ((p : Pt) → a p → Covers layer p) → AreComponents a parts → length parts ≤ 4000000000000000000
few-parts layer a parts within inside are =
    few (λ part p. IsLeast (Covers part) p) (λ part p q x y. IsLeast-unique (Covers part) (Covers part) p q (SameSquares-refl (Covers part)) x y) parts
    (λ i j d l j_in. (let f = are.ordered i j d l j_in in (f.first, f.second, f.first_is, f.second_is, f.precedes)))
    (λ part p (k, k_in, k_is) least. covered-inside layer p within (inside p ((are.together p).0 (k, part, k_in, k_is, least.inside))))

-- the lower left square of a zone
abbrev pub corner : Zone → Pt
corner z = at z.rect.x0 z.rect.y0

pub few-zones : (zones : List Zone) → AllPairs (λ (y z : Zone). Before y.rect z.rect) zones → ((z : Zone) → Contains zones z → Inside farthest (corner z)) → length zones ≤ 4000000000000000000
few-zones zones ordered within =
    few (λ (z : Zone) (p : Pt). p ≡ corner z) (λ z p q x y. x ∙ sym y) zones
    (λ i j d l j_in. (corner (get_or zones i d), corner (get_or zones j d), refl, refl, ordered i j d l j_in))
    (λ z p z_in is. subst (λ (t : Pt). Inside farthest t) (sym is) (within z z_in))

-- different numbers below n are at most n
pub few-numbers : (n : ℕ) (xs : List ℕ) → AllPairs (λ x y. x ≢ y) xs → ((x : ℕ) → Contains xs x → x < n) → length xs ≤ n
few-numbers n xs apart below =
    length-le_from_distinct_below xs n (IsDistinct-from_AllPairs {eq = eqb} Decides-eqb xs apart)
    (λ q found. below q (Contains-from_any {eq = eqb} (λ x y e. eqb-true x y e) q xs found))
