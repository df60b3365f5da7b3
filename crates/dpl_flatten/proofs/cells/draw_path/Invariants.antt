use Rattle.std.proofs.Common.{◌≡◌, ◌++◌, map}
use Rattle.dpl_flatten.proofs.cells.draw_path.Given as goal

abbrev pub invariant-loop-points : goal.invariant-loop-points
invariant-loop-points l = l.outlines.items ≡ l.initial.outlines.items ++ map (λ qs. record { at = l.at; points = qs }) l.yielded
