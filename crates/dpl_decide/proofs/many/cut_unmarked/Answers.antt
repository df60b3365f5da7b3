use Rattle.std.proofs.Common.{None}
use Rattle.dpl_spec_split.proofs.MarkLaws.{none-marked}
use Rattle.dpl_decide.proofs.many.cut_unmarked.Goals as goal

pub returns-clause-cut : goal.returns-clause-cut
returns-clause-cut g c = c.cut_by.ensures.cut None (none-marked c.empty-unmarked.result c.empty-unmarked.ensures)
