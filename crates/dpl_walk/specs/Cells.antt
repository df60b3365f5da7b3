-- The copies that a structure places.
use Rattle.std.specs.Prelude.{ℕ, ◌<◌, ◌≤◌, ◌*◌, ◌^◌, pos, ◌+ℤ◌, ◌*ℤ◌, unsigned_abs}
use Rattle.dpl_spec_split.specs.declared.Pt.{Pt}
use Rattle.dpl_spec_split.specs.Loops.{IsPointWithin}
use Rattle.dpl_spec_elements.specs.Motions.{Motion}
use Rattle.dpl_walk.specs.declared.cells.Copies.{Copies}

-- the motion of copy (i, j)
abbrev pub copy_motion : Copies → ℕ → ℕ → Motion
copy_motion c i j = record {
  reflect = c.reflect;
  turns = c.turns;
  dx = (c.origin.x +ℤ (pos i *ℤ c.across.x)) +ℤ (pos j *ℤ c.up.x);
  dy = (c.origin.y +ℤ (pos i *ℤ c.across.y)) +ℤ (pos j *ℤ c.up.y);
}

-- n steps lead no farther than bound
pub record IsSpanWithin (bound n : ℕ) (step : Pt) : Type 0 where
  pub column : n * unsigned_abs step.x ≤ bound
  pub row : n * unsigned_abs step.y ≤ bound

-- there are copies, the first of them within reach of 0, and the others no farther than 2 ^ 32 from it
pub record IsSmallCopies (reach : ℕ) (c : Copies) : Type 0 where
  pub origin : IsPointWithin reach c.origin
  pub across : IsSpanWithin (2 ^ 32) c.columns c.across
  pub up : IsSpanWithin (2 ^ 32) c.rows c.up
  pub columns : c.columns < 2 ^ 16
  pub rows : c.rows < 2 ^ 16
  pub some_columns : 0 < c.columns
  pub some_rows : 0 < c.rows

-- the placements of its copies can be worked out
pub record IsReady (reach : ℕ) (c : Copies) : Type 0 where
  pub small : IsSmallCopies reach c
  pub few : c.turns < 4
