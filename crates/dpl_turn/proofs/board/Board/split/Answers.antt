use Rattle.std.proofs.Common.{arith}
use Rattle.dpl_turn.proofs.Steps.{splits}
use Rattle.dpl_turn.proofs.board.Board.split.Goals as goal

pub split_seat-place-requires : goal.split_seat-place-requires
split_seat-place-requires g c = (
  c.requires.table,
  (let two = c.args.self.now.sized.0 in omega arith),
  λ s h at. splits _ _ s c.args.seat.now.place.me.0 c.args.seat.now.place.id h at c.args.seat.now.idle.3,
)
