use Rattle.dpl_board.proofs.board.BoardState.first_missing.Goals as goal

pub returns : goal.returns
returns c = rw (← c.self.view_is) c.first_missing.ensures
