use Rattle.std.proofs.Common.{◌≡◌, ◌++◌, map, take, drop}
use Rattle.dpl_spec_split.specs.Zones.{transposed_rect}
use Rattle.dpl_base.proofs.transposing.transpose_all.Given as goal

abbrev pub invariant-loop-i : goal.invariant-loop-i
invariant-loop-i l = l.rects ≡ map transposed_rect (take l.i l.initial.rects) ++ drop l.i l.initial.rects
