-- Pieces on one side of a zone, slab by slab.
use Rattle.std.proofs.Common.{◌≡◌, ℕ, suc, ◌+◌, ◌≤◌, ◌<◌, ◌⊎◌, inl, inr, List, [], ◌++◌, ◌∷◌, length, get_or, take, set, sym, ap, refl, ◌∙◌, subst, arith}
use Rattle.std.specs.Prelude.{ℤ}
use Rattle.std.specs.List.{Any, Contains}
use Rattle.std.proofs.lemmas.Bool.{cases_eq}
use Rattle.std.proofs.lemmas.List.{get_or-map, get_or-set_same, get_or-set_other, length-map, length-set}
use Rattle.std.proofs.lemmas.List.Elements.{Contains-append_left, Contains-push, Contains-push_cases}
use Rattle.std.proofs.Math.Seq.{take-suc}
use Rattle.dpl_spec_split.specs.declared.Rect.{Rect}
use Rattle.dpl_spec_split.specs.declared.Zone.{Zone}
use Rattle.dpl_sides.specs.declared.standing.Side.{Side}
use Rattle.dpl_sides.specs.declared.standing.Side.TheVariants.{Before, After}
use Rattle.dpl_sides.specs.declared.corner.Corner.{Corner}
use Rattle.dpl_sides.specs.declared.corner.Kind.{Kind}
use Rattle.dpl_sides.specs.declared.corner.Kind.TheVariants.{LowerLeft, LowerRight, UpperLeft}
use Rattle.dpl_sides.specs.Standing.{SlabStands, StandsFrom}
use Rattle.dpl_sides.specs.Corners.{corner_at, corner_of, IsCornerWithin}
use Rattle.dpl_sides.specs.Noted.{AreSidesNoted}
use Rattle.dpl_sides.specs.declared.piece.Piece.{Piece}
use Rattle.dpl_sides.specs.Pieces.{parts_in, zone_at}

-- part number k, which is one from a number on, has a slab on that side of the zone
pub record HasSlab (side : Side) (parts : List (List Rect)) (from : ℕ) (z : Zone) (k : ℕ) : Type 0 where
  pub low : from ≤ k
  pub high : k < length parts
  pub slab : Any (SlabStands side z.rect) (get_or parts k [])

corner-same : (x y v w : ℤ) (k : ℕ) → x ≡ v → y ≡ w → corner_at x y k ≡ corner_at v w k
corner-same x y v w k e f = ap (λ i. corner_at i y k) e ∙ ap (λ j. corner_at v j k) f

-- a slab of part number k with a corner at a point
abbrev CornerIs : Kind → Rect → ℕ → ℤ → ℤ → Type 0
CornerIs kind r k x y = corner_of kind k r ≡ corner_at x y k

module _ (parts : List (List Rect)) (from : ℕ) (z : Zone) (k : ℕ) (low : from ≤ k) (high : k < length parts) where
  at-corner : (kind : Kind) (r : Rect) (x y : ℤ) → Contains (get_or parts k []) r → CornerIs kind r k x y → IsCornerWithin kind parts from (length parts) (corner_at x y k)
  at-corner kind r x y r_in is = (k, r, low, high, r_in, is)

  to-stands : (side : Side) → Any (SlabStands side z.rect) (get_or parts k []) → StandsFrom side parts from z k
  to-stands Before (i, r, i_in, is, inl (x, y)) = inl (at-corner LowerRight r z.rect.x0 z.rect.y0 (i, i_in, is) (corner-same _ _ _ _ k x y))
  to-stands Before (i, r, i_in, is, inr (x, y)) = inr (at-corner UpperLeft r z.rect.x0 z.rect.y0 (i, i_in, is) (corner-same _ _ _ _ k x y))
  to-stands After (i, r, i_in, is, inl (x, y)) = inl (at-corner LowerLeft r z.rect.x1 z.rect.y0 (i, i_in, is) (corner-same _ _ _ _ k x y))
  to-stands After (i, r, i_in, is, inr (x, y)) = inr (at-corner LowerLeft r z.rect.x0 z.rect.y1 (i, i_in, is) (corner-same _ _ _ _ k x y))

pub stands-from : (side : Side) (parts : List (List Rect)) (from : ℕ) (z : Zone) (k : ℕ) → HasSlab side parts from z k → StandsFrom side parts from z k
stands-from side parts from z k h = to-stands parts from z k h.low h.high side h.slab

-- what a corner says of its slab
module _ (parts : List (List Rect)) (from : ℕ) (z : Zone) (k : ℕ) where
  found : (side : Side) (j : ℕ) (r : Rect) → from ≤ j → j < length parts → Contains (get_or parts j []) r → j ≡ k → SlabStands side z.rect r → HasSlab side parts from z k
  found side j r low high (i, i_in, is) e stands = subst (HasSlab side parts from z) e (record { low = low; high = high; slab = (i, r, i_in, is, stands) })

  x-of : (c d : Corner) → c ≡ d → c.x ≡ d.x
  x-of c d e = ap (λ t. let u : Corner = t in u.x) e

  y-of : (c d : Corner) → c ≡ d → c.y ≡ d.y
  y-of c d e = ap (λ t. let u : Corner = t in u.y) e

  number-of : (c d : Corner) → c ≡ d → c.number ≡ d.number
  number-of c d e = ap (λ t. let u : Corner = t in u.number) e

  pub has-slab : (side : Side) → StandsFrom side parts from z k → HasSlab side parts from z k
  has-slab Before (inl (j, r, low, high, r_in, e)) = found Before j r low high r_in (number-of _ _ e) (inl (x-of _ _ e, y-of _ _ e))
  has-slab Before (inr (j, r, low, high, r_in, e)) = found Before j r low high r_in (number-of _ _ e) (inr (x-of _ _ e, y-of _ _ e))
  has-slab After (inl (j, r, low, high, r_in, e)) = found After j r low high r_in (number-of _ _ e) (inl (x-of _ _ e, y-of _ _ e))
  has-slab After (inr (j, r, low, high, r_in, e)) = found After j r low high r_in (number-of _ _ e) (inr (x-of _ _ e, y-of _ _ e))

-- nothing noted yet
pub noted-none : (Stands : Zone → ℕ → Type 0) (zones : List Zone) (own old : List ℕ) → AreSidesNoted Stands zones (take 0 own) old old
noted-none Stands zones own old = record {
  each = refl;
  noted = λ j (i, i_in, is). absurd (omega (arith, i_in));
  kept = λ j none. refl;
}

-- one more zone, for which a part is noted where one stands beside it
module _ (Stands : Zone → ℕ → Type 0) (zones : List Zone) (own old mid new : List ℕ) (i : ℕ) (i_in : i < length own)
    (h : AreSidesNoted Stands zones (take i own) old mid) where
  abbrev number : ℕ
  number = get_or own i 0

  one-more : (j : ℕ) → Contains (take (i + 1) own) j → Contains (take i own) j ⊎ (number ≡ j)
  one-more j j_in =
      let one : i + 1 ≡ suc i = omega arith in
      let same : take (i + 1) own ≡ take i own ++ number ∷ [] = ap (λ n. take n own) one ∙ take-suc own i 0 i_in in
      Contains-push_cases (take i own) number j (subst (λ l. Contains l j) same j_in)

  more-one : (j : ℕ) → Contains (take i own) j ⊎ (number ≡ j) → Contains (take (i + 1) own) j
  more-one j j_in =
      let one : i + 1 ≡ suc i = omega arith in
      let same : take (i + 1) own ≡ take i own ++ number ∷ [] = ap (λ n. take n own) one ∙ take-suc own i 0 i_in in
      subst (λ l. Contains l j) (sym same) (elim j_in [
        | inl a ↦ Contains-append_left (take i own) (number ∷ []) j a
        | inr e ↦ subst (Contains (take i own ++ number ∷ [])) e (Contains-push (take i own) number)
      ])

  pub noted-set : (k : ℕ) → number < length mid → Stands (zone_at zones number) k → new ≡ set mid number k → AreSidesNoted Stands zones (take (i + 1) own) old new
  noted-set k number_in stands new_is = rw new_is (record {
    each = length-set mid number k ∙ h.each;
    noted = λ j j_in m at. elim (cases_eq j number) [
      | inl e ↦ subst (λ n. Stands (zone_at zones n) (get_or (set mid number k) n 0)) (sym e)
          (subst (Stands (zone_at zones number)) (sym (get_or-set_same mid number k 0 number_in)) stands)
      | inr ne ↦ subst (Stands (zone_at zones j)) (sym (get_or-set_other mid number j k 0 ne))
          (elim (one-more j j_in) [ inl a ↦ h.noted j a m at | inr e ↦ absurd (ne (sym e)) ])
    ];
    kept = λ j none. get_or-set_other mid number j k 0 (λ e. none (more-one j (inr (sym e)))) ∙ h.kept j (λ a. none (more-one j (inl a)));
  })

  pub noted-kept : ((k : ℕ) → Stands (zone_at zones number) k → ⊥) → new ≡ mid → AreSidesNoted Stands zones (take (i + 1) own) old new
  noted-kept nothing new_is = rw new_is (record {
    each = h.each;
    noted = λ j j_in m at. elim (one-more j j_in) [
      | inl a ↦ h.noted j a m at
      | inr e ↦ absurd (nothing m (subst (λ n. Stands (zone_at zones n) m) (sym e) at))
    ];
    kept = λ j none. h.kept j (λ a. none (more-one j (inl a)));
  })

-- what is told of a piece's slabs is told of its part
module _ (pieces : List Piece) (k : ℕ) (x : Piece) (slabs : List Rect) (k_in : k < length pieces) (are : slabs ≡ (get_or pieces k x).part) where
  part-is : get_or (parts_in pieces) k [] ≡ slabs
  part-is = get_or-map (λ y. let u : Piece = y in u.part) pieces k x [] k_in ∙ sym are

  pub piece-has : (side : Side) (from : ℕ) (z : Zone) → from ≤ k → Any (SlabStands side z.rect) slabs → StandsFrom side (parts_in pieces) from z k
  piece-has side from z low any = stands-from side (parts_in pieces) from z k (record {
    low = low;
    high = omega (arith, k_in, length-map pieces (λ y. let u : Piece = y in u.part));
    slab = subst (Any (SlabStands side z.rect)) (sym part-is) any;
  })

  pub has-piece : (side : Side) (from : ℕ) (z : Zone) → HasSlab side (parts_in pieces) from z k → Any (SlabStands side z.rect) slabs
  has-piece side from z h = subst (Any (SlabStands side z.rect)) part-is h.slab
