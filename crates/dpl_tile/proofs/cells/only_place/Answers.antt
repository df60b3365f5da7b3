use Rattle.std.proofs.Common.{refl}
use Rattle.dpl_tile.proofs.Loops.{one-met}
use Rattle.dpl_tile.proofs.cells.only_place.Goals as goal

pub returns : goal.returns
returns c = one-met c.args.grid.now c.args.r.now c.args.s.now c.block-one.result c.block-other.result (c.block-one.result.row0, c.block-one.result.column0) c.block-one.ensures.value
    c.block-other.ensures.value (c.if-not-has_one_cell.ensures.0 refl) (c.if-not-has_one_cell-2.ensures.0 refl) c.if-one-other.false c.if-one-other-2.false refl refl
