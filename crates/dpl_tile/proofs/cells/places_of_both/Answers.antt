use Rattle.dpl_tile.specs.Kept.{IsMet}
use Rattle.dpl_tile.proofs.Loops.{block-adds, both-added}
use Rattle.std.proofs.lemmas.Result.{IfOk-from_err}
use Rattle.dpl_tile.proofs.cells.places_of_both.Goals as goal

pub returns : goal.returns
returns c = both-added (IsMet c.args.grid.now c.args.r.now) (IsMet c.args.grid.now c.args.s.now) _ _ _ _ c.new-places.ensures.items
    (block-adds c.args.grid.now c.args.r.now c.block-one.result _ _ c.block-one.ensures.value c.in_ok-add_block.ensures.added)
    (block-adds c.args.grid.now c.args.s.now c.block-other.result _ _ c.block-other.ensures.value c.in_ok-add_block-2.ensures.added)
    c.put_in_order.ensures.members

pub returns-in_err-add_block : goal.returns-in_err-add_block
returns-in_err-add_block c = IfOk-from_err _ _ c.from_residual.ensures.0

pub returns-in_err-add_block-2 : goal.returns-in_err-add_block-2
returns-in_err-add_block-2 c = IfOk-from_err _ _ c.from_residual-in_err-add_block-2.ensures.0
