use Rattle.std.proofs.Common.{ap, subst, sym}
use Rattle.std.proofs.lemmas.Result.{IfOk-weaker}
use Rattle.dpl_board.specs.Boards.{Stands}
use Rattle.dpl_turn.specs.declared.view.SeatView.{SeatView}
use Rattle.dpl_turn.specs.Rule.{AreEntries, IsProper, StartsWith}
use Rattle.dpl_turn.proofs.Replays.{replayed}
use Rattle.dpl_turn.proofs.board.Board.close.Goals as goal

pub returns-clause-seen : goal.returns-clause-seen
returns-clause-seen g c =
    let v = c.args.seat.place.me.0 in
    let t = c.take_state in
    IfOk-weaker c.finish.result _ _ (λ b w. subst (λ l. StartsWith l v.known) (sym w.history)
    (subst (λ (u : SeatView). StartsWith t.result.history u.known) t.ensures.view t.ensures.out.known)) c.finish.ensures

pub returns-clause-own : goal.returns-clause-own
returns-clause-own g c =
    let v = c.args.seat.place.me.0 in
    IfOk-weaker c.finish.result _ _ (λ b w. (subst (λ l. AreEntries l v.own) (sym w.history) c.take_state.ensures.own.0, c.take_state.ensures.own.1)) c.finish.ensures

pub returns-clause-stands : goal.returns-clause-stands
returns-clause-stands g c =
    let v = c.args.seat.place.me.0 in
    let t = c.take_state in
    IfOk-weaker c.finish.result _ _ (λ b w. w.stands v.sheet (subst (λ (u : SeatView). Stands u.sheet t.result) t.ensures.view t.ensures.out.stands)) c.finish.ensures

pub returns-clause-proper : goal.returns-clause-proper
returns-clause-proper g c =
    let v = c.args.seat.place.me.0 in
    let t = c.take_state in
    IfOk-weaker c.finish.result _ _ (λ b w. subst (IsProper v.sheet v.workers) (sym w.history)
    (subst (λ (u : SeatView). IsProper u.sheet u.workers t.result.history) t.ensures.view t.ensures.out.proper)) c.finish.ensures

pub returns-clause-core : goal.returns-clause-core
returns-clause-core g c =
    let v = c.args.seat.place.me.0 in
    let t = c.take_state in
    IfOk-weaker c.finish.result _ _
    (λ b w. replayed v.sheet v.workers b (w.stands v.sheet (subst (λ (u : SeatView). Stands u.sheet t.result) t.ensures.view t.ensures.out.stands))
    (subst (IsProper v.sheet v.workers) (sym w.history) (subst (λ (u : SeatView). IsProper u.sheet u.workers t.result.history) t.ensures.view t.ensures.out.proper)))
    c.finish.ensures
