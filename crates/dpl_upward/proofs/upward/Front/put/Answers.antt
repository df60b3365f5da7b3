use Rattle.dpl_upward.proofs.FrontLaws.{front-put}
use Rattle.dpl_upward.proofs.UpwardLaws.{adds-put}
use Rattle.std.proofs.lemmas.Result.{IfOk-from_err}
use Rattle.dpl_upward.proofs.upward.Front.put.Goals as goal

pub returns-clause-adds : goal.returns-clause-adds
returns-clause-adds c = adds-put c.args.bar _ _ _ _ (rw c.seek-below.ensures.pieces at c.in_ok-number.ensures)

pub returns-clause-front : goal.returns-clause-front
returns-clause-front c =
    let front = c.args.self.now in
    let put = rw c.seek-below.ensures.pieces at c.in_ok-number.ensures in
    λ x past. rw (c.in_ok-push.ensures.items, c.seek-below.ensures.here, c.seek-below.ensures.below)
    (front-put c.args.bar front.pieces.items front.below.items front.passed front.here.items c.requires.front c.requires.solid _ _ _
    c.seek-below.ensures.sought put _ c.seek-below.ensures.passed x past)

pub returns-in_err-number-clause-adds : goal.returns-in_err-number-clause-adds
returns-in_err-number-clause-adds c = IfOk-from_err _ _ c.from_residual.ensures.0

pub returns-in_err-number-clause-front : goal.returns-in_err-number-clause-front
returns-in_err-number-clause-front c = IfOk-from_err _ _ c.from_residual.ensures.0

pub returns-in_err-push-clause-adds : goal.returns-in_err-push-clause-adds
returns-in_err-push-clause-adds c = IfOk-from_err _ _ c.from_residual-in_err-push.ensures.0

pub returns-in_err-push-clause-front : goal.returns-in_err-push-clause-front
returns-in_err-push-clause-front c = IfOk-from_err _ _ c.from_residual-in_err-push.ensures.0
