use Rattle.std.proofs.Common.{List, ℕ, sym, subst}
use Rattle.std.specs.Option.{option_copied}
use Rattle.std.specs.Prelude.{Option}
use Rattle.std.proofs.lemmas.Result.{IfOk-weaker, IfOk-from_err}
use Rattle.dpl_tile.specs.Plans.{IsPlan, Planned}
use Rattle.dpl_answer.specs.Anchors.{AreMarkEdges, marks_in}
use Rattle.dpl_answer.proofs.conflicts.tiles_of.Goals as goal

pub returns-clause-plan : goal.returns-clause-plan
returns-clause-plan c =
    let bare = c.args.pieces.now in
    let side = c.side_for-side.result in
    let plan = rw (c.parts-2.ensures, c.owner.ensures.value) at c.in_ok-plan.ensures in
    IfOk-weaker c.of.result _ _ (λ job is. (side, c.side_for-side.ensures, subst (λ (p : Planned). IsPlan bare.parts bare.owners c.args.spacing side p) (sym is) plan)) c.of.ensures.plan

pub returns-clause-marked : goal.returns-clause-marked
returns-clause-marked c =
    let bare = c.args.pieces.now in
    let marks = marks_in (option_copied c.args.marks) in
    let fixed = rw c.parts-3.ensures at c.in_ok-marked.ensures.edges in
    IfOk-weaker c.of.result _ _ (λ job is. subst (λ (o : Option (List (ℕ × ℕ))). AreMarkEdges marks bare.parts o) (sym is) fixed) c.of.ensures.marked

pub returns-in_err-plan-clause-plan : goal.returns-in_err-plan-clause-plan
returns-in_err-plan-clause-plan c = IfOk-from_err _ _ c.from_residual.ensures.0

pub returns-in_err-plan-clause-marked : goal.returns-in_err-plan-clause-marked
returns-in_err-plan-clause-marked c = IfOk-from_err _ _ c.from_residual.ensures.0

pub returns-in_err-marked-clause-plan : goal.returns-in_err-marked-clause-plan
returns-in_err-marked-clause-plan c = IfOk-from_err _ _ c.from_residual-in_err-marked.ensures.0

pub returns-in_err-marked-clause-marked : goal.returns-in_err-marked-clause-marked
returns-in_err-marked-clause-marked c = IfOk-from_err _ _ c.from_residual-in_err-marked.ensures.0
