use Rattle.std.proofs.Common.{subst}
use Rattle.std.specs.Prelude.{IfSome, slice_get}
use Rattle.dpl_spec_split.specs.Squares.{Has}
use Rattle.dpl_tile.specs.Plans.{HaveAllNear, Planned}
use Rattle.dpl_tile.proofs.PlanLaws.{cell-near}
use Rattle.dpl_tile.proofs.plans.Plan.meetings_in.Goals as goal

pub returns : goal.returns
returns c =
    let p = c.self.inside in
    let found = rw c.as_slice.ensures.value at c.found_at.ensures in
    subst (λ (plan : Planned). IfSome (slice_get plan.cells c.args.tile) (λ cell. HaveAllNear plan (Has cell) c.found_at.result.now)) c.self.view_is
    (cell-near p.parts.now p.owners.now p.spacing p.items.items p.meetings.items p.grid p.places.items c.self.invariant c.args.tile c.index.result.now c.found_at.result.now c.index.ensures found)
