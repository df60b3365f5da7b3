use Rattle.std.proofs.Common.{◌≡◌, ◌≤◌, length, take}
use Rattle.dpl_orient.specs.Crossings.{crossings_of}
use Rattle.dpl_orient.proofs.crossing.crossing_count.Given as goal

abbrev pub invariant-loop-side : goal.invariant-loop-side
invariant-loop-side l = record { few : l.count ≤ l.side-index; same : l.count ≡ length (crossings_of l.chart (take l.side-index l.sides)) }
