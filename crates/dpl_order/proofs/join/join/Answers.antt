use Rattle.std.proofs.Common.{rules}
use Rattle.dpl_order.proofs.JoinLaws.{joined-deduped}
use Rattle.dpl_order.proofs.join.join.Goals as goal

pub returns : goal.returns
returns c = joined-deduped _ (λ s t piece slab stands left next called. search rules) _ _ _ c.requires.apart c.requires.rise c.dedup_by.ensures.filtered
