use Rattle.std.proofs.Common.{◌-◌, arith, refl, subst}
use Rattle.dpl_tile.specs.Adding.{Adds}
use Rattle.dpl_tile.proofs.Loops.{block-more, block-count, IsInBlockTo}
use Rattle.dpl_tile.specs.Kept.{IsInRow}
use Rattle.dpl_tile.proofs.Adding.{adds-members}
use Rattle.dpl_tile.proofs.cells.add_block.Goals as goal

pub loop-row-preserved : goal.loop-row-preserved
loop-row-preserved c =
    let from = c.loop-row.invariant.from in
    let count = c.loop-row.invariant.count in
    let more = c.in_ok-add_row.ensures.count in
    let few = c.tidy.ensures.few in
    let product = block-count c.args.block.now c.loop-row.row (c.loop-row.row - c.args.block.now.row0) (c.args.block.now.column1 - c.args.block.now.column0) from refl in
    record {
      from = omega (arith, from);
      added = block-more c.args.block.now c.loop-row.row c.args.places.now.items c.loop-row.places.items _ from c.loop-row.invariant.added
          (adds-members (IsInRow c.loop-row.row c.args.block.now) c.loop-row.places.items _ _ c.tidy.ensures.members c.in_ok-add_row.ensures.added);
      count = omega (arith, count, more, few, product);
    }

pub returns-clause-added : goal.returns-clause-added
returns-clause-added c =
    let some = c.requires.rows in
    subst (λ n. Adds (IsInBlockTo c.args.block.now n) c.args.places.now.items c.loop-row.places.items) (omega (arith, some)) c.loop-row.invariant.added
