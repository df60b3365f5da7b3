use Rattle.std.proofs.Common.{subst}
use Rattle.dpl_tile.specs.Meetings.{AreItemsOf}
use Rattle.dpl_tile.specs.Plans.{Planned}
use Rattle.dpl_tile.proofs.plans.Plan.items.Goals as goal

pub returns-clause-items : goal.returns-clause-items
returns-clause-items c = subst (λ (plan : Planned). AreItemsOf plan.parts plan.items) c.self.view_is c.self.invariant.listed
