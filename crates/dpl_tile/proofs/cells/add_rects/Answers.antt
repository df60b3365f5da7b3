use Rattle.std.proofs.Common.{arith}
use Rattle.dpl_tile.specs.Kept.{IsMet}
use Rattle.dpl_tile.proofs.Loops.{each-none, each-next, each-all, block-adds, rects-count}
use Rattle.dpl_tile.proofs.cells.add_rects.Goals as goal

pub loop-r-init : goal.loop-r-init
loop-r-init c = record { added = each-none (IsMet c.args.grid.now) c.args.rects.now c.args.places.now.items; count = omega arith }

pub loop-r-preserved : goal.loop-r-preserved
loop-r-preserved c =
    record {
      added = each-next (IsMet c.args.grid.now) c.args.rects.now c.loop-r.r-index _ c.args.places.now.items c.loop-r.places.items _ c.loop-r-test.true c.loop-r.invariant.added
          (block-adds c.args.grid.now _ c.block-block.result c.loop-r.places.items _ c.block-block.ensures.value c.in_ok-add_block.ensures.added);
      count = rects-count c.args.grid.now c.args.rects.now c.loop-r.r-index _ c.block-block.result _ _ _ c.loop-r-test.true
          c.block-block.ensures.value c.block-block.ensures.some c.loop-r.invariant.count c.in_ok-add_block.ensures.count;
    }

pub returns-clause-added : goal.returns-clause-added
returns-clause-added c = each-all (IsMet c.args.grid.now) c.args.rects.now c.loop-r.r-index c.args.places.now.items c.loop-r.places.items (omega arith) c.loop-r.invariant.added
