use Rattle.std.proofs.Common.{ap}
use Rattle.dpl_turn.proofs.Turns.{has_out}
use Rattle.dpl_turn.proofs.Posting.{turn_out, turn_own}
use Rattle.dpl_turn.proofs.board.Board.take_state.Goals as goal

pub take_out-requires-clause-holds : goal.take_out-requires-clause-holds
take_out-requires-clause-holds g c = (c.take_turn.ensures.turn.0, ap (λ m. m.1) c.take_turn.ensures.turn.1)

pub returns-clause-out : goal.returns-clause-out
returns-clause-out g c =
    turn_out c.args.seat.now.me.0 _ c.take_out.new.seat.me c.take_out.result c.take_turn.ensures.turn c.take_out.ensures.out c.take_out.ensures.seat
    c.requires.idle.3 c.requires.idle.2

pub returns-clause-view : goal.returns-clause-view
returns-clause-view g c =
    (has_out c.args.seat.now.me.0 _ c.take_out.new.seat.me c.take_out.result c.take_turn.ensures.turn c.take_out.ensures.out c.take_out.ensures.seat).view

pub returns-clause-own : goal.returns-clause-own
returns-clause-own g c = turn_own c.args.seat.now.me.0 _ c.take_out.result c.take_turn.ensures.turn c.take_out.ensures.out
