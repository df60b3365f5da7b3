use Rattle.std.proofs.Common.{arith}
use Rattle.dpl_turn.proofs.Steps.{allows_give}
use Rattle.dpl_turn.proofs.board.Board.give.Goals as goal

pub store-requires : goal.store-requires
store-requires g c = (
  c.requires.table,
  (let two = c.args.self.now.sized.0 in omega arith),
  λ s h len at fits. allows_give _ _ c.args.self.now.table.shared.table_id.slots c.args.seat.now.id c.args.seat.now.me c.requires.turn.0 c.requires.turn.1 c.requires.slot s h at,
)
