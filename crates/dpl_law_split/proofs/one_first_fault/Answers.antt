use Rattle.dpl_law_split.proofs.FirstFaults.{fault-same, faultless-or_fault}
use Rattle.dpl_law_split.proofs.one_first_fault.Goals as goal

pub returns : goal.returns
returns c = record { fault = λ bytes lib top layer. fault-same lib top layer bytes; apart = faultless-or_fault }
