use Rattle.std.specs.Prelude.{ℕ, ◌<◌, pos, slice_index_or}
use Rattle.dpl_spec_split.specs.declared.Rect.{Rect}
use Rattle.dpl_spec_split.specs.Slabs.{IsSolid}
use Rattle.dpl_slabs.specs.Rows.{AreLevel}
use Rattle.dpl_slabs.proofs.row.is_row.Given as goal

abbrev pub invariant-loop-i : goal.invariant-loop-i
invariant-loop-i l = (k : ℕ) → k < l.i → (d : Rect) → IsSolid (slice_index_or l.rects k d)
    × AreLevel (slice_index_or l.rects 0 (record { x0 = pos 0; y0 = pos 0; x1 = pos 0; y1 = pos 0 })) (slice_index_or l.rects k d)
