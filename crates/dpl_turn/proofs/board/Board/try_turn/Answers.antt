use Rattle.std.proofs.Common.{arith}
use Rattle.dpl_turn.proofs.Steps.{allows_try}
use Rattle.dpl_turn.proofs.board.Board.try_turn.Goals as goal

pub compare_exchange-requires : goal.compare_exchange-requires
compare_exchange-requires g c = (
  c.requires.table,
  (let two = c.args.self.now.sized.0 in omega arith),
  λ s h len at fits. allows_try _ _ c.args.self.now.table.shared.table_id.slots c.args.seat.now.id c.args.seat.now.me c.requires.idle s h at,
)
