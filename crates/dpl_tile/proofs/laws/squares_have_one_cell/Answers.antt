use Rattle.dpl_tile.proofs.TileLaws.{squares-one_cell}
use Rattle.dpl_tile.proofs.laws.squares_have_one_cell.Goals as goal

pub returns : goal.returns
returns c = squares-one_cell
