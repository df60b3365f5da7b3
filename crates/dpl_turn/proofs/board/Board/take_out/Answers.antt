use Rattle.std.proofs.Common.{◌∙◌, ap, sym, Some, ◌∷◌}
use Rattle.atomic_table.specs.Table.{rest}
use Rattle.dpl_turn.proofs.board.Board.take_out.Goals as goal

pub exchange-requires : goal.exchange-requires
exchange-requires g c = (c.requires.table, (Some c.requires.holds.0, c.requires.holds.1 ∙ ap (λ l. (0, Some c.requires.holds.0) ∷ rest l) (sym c.requires.holds.1)))
