use Rattle.std.proofs.Common.{◌≡◌, ◌^◌, List, ◌++◌, take}
use Rattle.std.specs.Prelude.{ℤ}
use Rattle.dpl_spec_split.specs.declared.Pt.{Pt}
use Rattle.dpl_shapes.specs.Strokes.{IsStrokeWithin, loops_left}
use Rattle.dpl_shapes.proofs.bars.bar_loops.Given as goal

abbrev pub invariant-loop-point : goal.invariant-loop-point
invariant-loop-point l = record {
  within : IsStrokeWithin (2 ^ 31) l.stroke;
  drawn : (end : ℤ) (rest : List Pt) → l.loops.items ++ loops_left l.margins.half end l.stroke rest ≡ l.initial.loops.items ++ loops_left
      l.margins.half end l.initial.stroke (take l.point-index l.rest ++ rest);
}
