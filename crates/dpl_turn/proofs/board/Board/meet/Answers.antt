use Rattle.std.proofs.Common.{◌∙◌, arith, refl, []}
use Rattle.atomic_table.specs.Table.{keeps}
use Rattle.dpl_turn.proofs.Meets.{joins, meets}
use Rattle.dpl_turn.proofs.board.Board.meet.Goals as goal

pub join_seat-requires : goal.join_seat-requires
join_seat-requires g c = (
  c.requires.table.0,
  c.requires.table.1,
  c.requires.idle.1.1,
  (let two = c.args.self.now.sized.0 in omega arith),
  λ s h at apart there. joins _ _ s _ _ c.args.seat.now.me.0 c.args.other.me.0 c.requires.idle.0.0 c.requires.idle.1.0 h at apart there,
)

pub load-requires : goal.load-requires
load-requires g c = (
  c.join_seat.ensures.0 ∙ c.requires.table.0,
  (let two = c.args.self.now.sized.0 in omega arith),
  λ s h len at fits. let m = meets _ _ s c.join_seat.new.seat.id c.join_seat.new.seat.me.0 c.join_seat.new.seat.me.1 h at in
      (record c.join_seat.new.seat.me.0 { older = [] }, keeps, tt, m.0, (refl, m.1)),
)
