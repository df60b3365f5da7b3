use Rattle.std.proofs.Common.{ap, subst, sym}
use Rattle.atomic_table.specs.Table.{Me}
use Rattle.dpl_turn.specs.declared.view.SeatView.{SeatView}
use Rattle.dpl_turn.specs.Rule.{HasTurn, Slot}
use Rattle.dpl_turn.proofs.board.Board.take_turn.Goals as goal
use Rattle.dpl_turn.proofs.board.Board.take_turn.Goals.{in-None, in-Some+then-try_turn}

pub returns-clause-turn : goal.returns-clause-turn
returns-clause-turn g c = elim c.match-next.branch [
  | in-None w ↦ let no = w.in-None.ensures.steps in cc
  | in-Some+then-try_turn w ↦
      let here : HasTurn c.loop.seat.me.0 w.try_turn.new.seat.me = w.if-try_turn.ensures.turn in
      let now = subst (λ (m : Me Slot SeatView). HasTurn c.loop.seat.me.0 m) (sym (ap (λ s. s.me) w.seat-is)) here in
      subst (λ (m : Me Slot SeatView). HasTurn m.0 c.match-next.seat.me) c.loop.invariant.3 now
]
