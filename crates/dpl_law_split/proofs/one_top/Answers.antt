use Rattle.dpl_law_split.proofs.Tops.{top-same, top-fault_same, top-or_fault}
use Rattle.dpl_law_split.proofs.SomeTop.{some-top}
use Rattle.dpl_law_split.proofs.one_top.Goals as goal

pub returns : goal.returns
returns c = record { some = some-top; top = top-same; fault = top-fault_same; apart = top-or_fault }
