use Rattle.std.proofs.Common.{[], ℕ, List, subst, ◌∙◌}
use Rattle.std.proofs.lemmas.Result.{IfOk-from_err}
use Rattle.std.proofs.lemmas.List.{get_or_read}
use Rattle.dpl_piece.specs.View.{cut_view}
use Rattle.dpl_view.specs.Clashes.{IsToldOf}
use Rattle.dpl_view.proofs.ViewLaws.{told_more}
use Rattle.dpl_view.proofs.clashes.told.Goals as goal

pub loop-cycle-preserved : goal.loop-cycle-preserved
loop-cycle-preserved c = λ features many.
    let cut = cut_view features c.args.cut.now.pieces in
    told_more c.args.spacing c.args.overlap cut c.args.cycles.now c.loop-cycle.cycle-index c.loop-cycle.found.items c.push.new.self.items c.in_ok-clash.clash
    c.loop-cycle-test.true c.in_ok-push.ensures.items
    (subst (λ (x : List ℕ). IsToldOf c.args.spacing c.args.overlap cut x c.in_ok-clash.clash)
    (c.items.ensures ∙ get_or_read c.args.cycles.now c.loop-cycle.cycle-index c.cycle-item.result c.loop-cycle-test.true c.cycle-item.is []) (c.in_ok-clash.ensures features many))
    (c.loop-cycle.invariant features many)

pub returns-in_err-clash : goal.returns-in_err-clash
returns-in_err-clash c = IfOk-from_err _ _ c.from_residual.ensures.0

pub returns-in_err-push : goal.returns-in_err-push
returns-in_err-push c = IfOk-from_err _ _ c.from_residual-in_err-push.ensures.0
