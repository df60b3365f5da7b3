use Rattle.std.proofs.Common.{take}
use Rattle.std.specs.List.{AllZip}
use Rattle.dpl_cut.specs.Cutting.{OfAnyCut}
use Rattle.dpl_view.specs.Clashes.{IsToldOf}
use Rattle.dpl_view.proofs.clashes.told.Given as goal

abbrev pub invariant-loop-cycle : goal.invariant-loop-cycle
invariant-loop-cycle l = OfAnyCut l.cut (λ c. AllZip (IsToldOf l.spacing l.overlap c) (take l.cycle-index l.cycles) l.found.items)
