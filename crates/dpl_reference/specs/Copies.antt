-- The copies that a reference places.
use Rattle.std.specs.Prelude.{◌≡◌, ℕ, ◌<◌, ℤ, pos, ◌-ℤ◌, int_div, ◌^◌, unsigned_abs, List}
use Rattle.dpl_spec_split.specs.declared.Pt.{Pt}
use Rattle.dpl_spec_format.specs.Tree.{Trans}
use Rattle.dpl_spec_layout.specs.Elements.{point_in, reflects, AreTurns}
use Rattle.dpl_reference.specs.declared.copies.Orientation.{Orientation}
use Rattle.dpl_walk.specs.declared.cells.Copies.{Copies}
use Rattle.dpl_walk.specs.Cells.{IsSmallCopies}

-- count equal spacings lie between two points
abbrev pub spacing_of : Pt → Pt → ℤ → Pt
spacing_of from to count = record { x = int_div (to.x -ℤ from.x) count; y = int_div (to.y -ℤ from.y) count }

-- the reflection and the turns of a transform
pub record IsOrientation (t : Trans) (o : Orientation) : Type 0 where
  pub reflect : o.reflect ≡ reflects t
  pub turns : AreTurns t.angle o.turns
  pub few : o.turns < 4

-- the one copy of a single reference
pub record IsSingleCopy (t : Trans) (xy : List ℕ) (c : Copies) : Type 0 where
  pub reflect : c.reflect ≡ reflects t
  pub turns : AreTurns t.angle c.turns
  pub few : c.turns < 4
  pub origin : c.origin ≡ point_in xy 0
  pub across : c.across ≡ record { x = pos 0; y = pos 0 }
  pub up : c.up ≡ record { x = pos 0; y = pos 0 }
  pub columns : c.columns ≡ 1
  pub rows : c.rows ≡ 1
  pub small : IsSmallCopies (2 ^ 31) c

-- the copies of an array
pub record IsArrayOfCopies (t : Trans) (across_count up_count : ℤ) (xy : List ℕ) (c : Copies) : Type 0 where
  pub reflect : c.reflect ≡ reflects t
  pub turns : AreTurns t.angle c.turns
  pub few : c.turns < 4
  pub origin : c.origin ≡ point_in xy 0
  pub across : c.across ≡ spacing_of (point_in xy 0) (point_in xy 1) across_count
  pub up : c.up ≡ spacing_of (point_in xy 0) (point_in xy 2) up_count
  pub columns : c.columns ≡ unsigned_abs across_count
  pub rows : c.rows ≡ unsigned_abs up_count
  pub small : IsSmallCopies (2 ^ 31) c
