use Rattle.dpl_tile.proofs.Loops.{block-cells, block-small}
use Rattle.dpl_tile.proofs.grid.Grid.cells_met.Goals as goal

pub returns-clause-value : goal.returns-clause-value
returns-clause-value c = block-cells _ _ _ c.block-block.ensures.value c.block-block.ensures.some

pub returns-clause-small : goal.returns-clause-small
returns-clause-small c = block-small c.block-block.result c.block-block.ensures.some
