use Rattle.std.specs.Prelude.{◌-◌, ◌≤◌, ◌↔◌, length}
use Rattle.std.specs.List.{Contains}
use Rattle.dpl_spec_split.specs.declared.Zone.{Zone}
use Rattle.dpl_zone.proofs.Joining.{IsBehind}
use Rattle.dpl_zone.proofs.Keeping.{KeptOf}
use Rattle.dpl_zone.proofs.kept.kept_upright.Given as goal

abbrev pub invariant-loop-start : goal.invariant-loop-start
invariant-loop-start l =
    (l.from ≤ length l.flat) × IsBehind l.flat l.from l.upright l.start × ((w : Zone) → Contains l.kept.items w ↔ KeptOf l.flat l.upright l.start w)

abbrev pub decreases-loop-start : goal.decreases-loop-start
decreases-loop-start l = length l.upright - l.start
