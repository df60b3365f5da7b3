-- The copies of references.
use Rattle.std.proofs.Common.{◌≡◌, ℕ, ℤ, pos, ◌+ℤ◌, ◌*ℤ◌, refl, unwrap_or, arith}
use Rattle.std.proofs.lemmas.Int.{ints}
use Rattle.dpl_spec_format.specs.Tree.{Sref, Aref, is_sref, is_aref}
use Rattle.dpl_spec_layout.specs.Elements.{plain, point_in}
use Rattle.dpl_walk.specs.declared.cells.Copies.{Copies}
use Rattle.dpl_reference.specs.Copies.{IsSingleCopy, IsArrayOfCopies}
use Rattle.dpl_flatten.specs.Cells.{AreCopies}

still : (a : ℤ) (i j : ℕ) → (a +ℤ (pos i *ℤ pos 0)) +ℤ (pos j *ℤ pos 0) ≡ a
still a i j = omega (arith, ints)

pub single_are : (r : Sref) (c : Copies) → IsSingleCopy (unwrap_or r.trans plain) r.xy c → AreCopies (is_sref r) c
single_are r c s = record {
  columns = s.columns;
  rows = s.rows;
  motions = λ i j a b. record {
    reflect = s.reflect;
    turns = s.turns;
    x = rw (s.origin, s.across, s.up) (still (point_in r.xy 0).x i j);
    y = rw (s.origin, s.across, s.up) (still (point_in r.xy 0).y i j);
  };
  turns = s.few;
}

pub array_are : (r : Aref) (c : Copies) → IsArrayOfCopies (unwrap_or r.trans plain) r.columns r.rows r.xy c → AreCopies (is_aref r) c
array_are r c s = record {
  columns = s.columns;
  rows = s.rows;
  motions = λ i j a b. record {
    reflect = s.reflect;
    turns = s.turns;
    x = rw (s.origin, s.across, s.up) refl;
    y = rw (s.origin, s.across, s.up) refl;
  };
  turns = s.few;
}
