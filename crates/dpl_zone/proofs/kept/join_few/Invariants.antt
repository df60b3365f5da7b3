use Rattle.std.specs.Prelude.{◌↔◌, ◌⊎◌}
use Rattle.std.specs.List.{Contains}
use Rattle.dpl_spec_split.specs.declared.Zone.{Zone}
use Rattle.dpl_zone.proofs.Keeping.{KeptOf}
use Rattle.dpl_zone.proofs.kept.join_few.Given as goal

abbrev pub invariant-loop-z : goal.invariant-loop-z
invariant-loop-z l = (w : Zone) → Contains l.kept.items w ↔ (Contains l.initial.kept.items w ⊎ KeptOf l.flat l.upright l.z-index w)
