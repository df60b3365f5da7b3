use Rattle.std.proofs.Common.{take}
use Rattle.std.specs.List.{AllZip}
use Rattle.dpl_answer.specs.Many.{IsStartOf}
use Rattle.dpl_answer.proofs.many.all_started.Given as goal

-- the starts of the layers that were met
abbrev pub invariant-loop-cut : goal.invariant-loop-cut
invariant-loop-cut g l = AllZip (IsStartOf l.spacing) (take l.cut-index l.cuts) l.starts.items
