use Rattle.std.proofs.Common.{ℕ, ◌<◌, get_or}
use Rattle.dpl_spec_split.specs.declared.Rect.{Rect}
use Rattle.dpl_sides.specs.Standing.{SlabStands}
use Rattle.dpl_sides.proofs.standing.some_stands.Given as goal

abbrev pub invariant-loop-slab : goal.invariant-loop-slab
invariant-loop-slab l = (k : ℕ) (d : Rect) → k < l.slab-index → ¬ SlabStands l.side l.zone (get_or l.slabs k d)
