use Rattle.dpl_session.proofs.Deciding.{even_below}
use Rattle.dpl_session.proofs.verdict.coloured.Goals as goal

pub orient-requires-clause-even : goal.orient-requires-clause-even
orient-requires-clause-even c = even_below c.args.count c.args.edges.now c.in_ok-joined.joined c.requires.edges c.in_ok-joined.ensures c.requires.even
