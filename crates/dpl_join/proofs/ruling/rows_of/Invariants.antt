use Rattle.std.proofs.Common.{take}
use Rattle.std.specs.List.{All}
use Rattle.dpl_join.specs.Strips.{LiesWithin}
use Rattle.dpl_join.proofs.ruling.rows_of.Given as goal

abbrev pub invariant-loop-item : goal.invariant-loop-item
invariant-loop-item l = All (LiesWithin l.low l.top) (take l.item-index l.items)
