use Rattle.std.proofs.Common.{subst}
use Rattle.dpl_spec_split.specs.declared.Pt.{Pt}
use Rattle.dpl_tile.specs.Plans.{HaveAllNear, Planned}
use Rattle.dpl_tile.proofs.PlanLaws.{all-near}
use Rattle.dpl_tile.proofs.plans.Plan.meetings.Goals as goal

pub returns : goal.returns
returns c =
    let p = c.self.inside in
    rw c.as_slice.ensures.value (subst (λ (plan : Planned). HaveAllNear plan (λ (q : Pt). Unit {0}) p.meetings.items) c.self.view_is
    (all-near p.parts.now p.owners.now p.spacing p.items.items p.meetings.items p.grid p.places.items c.self.invariant))
