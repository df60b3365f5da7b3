use Rattle.std.proofs.Common.{arith, subst}
use Rattle.dpl_tile.specs.Adding.{Adds}
use Rattle.dpl_tile.proofs.Loops.{row-none, row-more, IsInRowTo}
use Rattle.dpl_tile.proofs.cells.add_row.Goals as goal

pub loop-column-init : goal.loop-column-init
loop-column-init c = record { from = omega arith; added = row-none c.args.row c.args.block.now c.args.places.now.items; count = omega arith }

pub loop-column-preserved : goal.loop-column-preserved
loop-column-preserved c =
    let from = c.loop-column.invariant.from in
    let count = c.loop-column.invariant.count in
    let more = c.in_ok-add_place.ensures.count in
    record {
      from = omega (arith, from);
      added = row-more c.args.row c.args.block.now c.loop-column.column c.args.places.now.items c.loop-column.places.items _ from
          c.in_ok-add_place.ensures.added c.loop-column.invariant.added;
      count = omega (arith, from, count, more);
    }

pub returns-clause-added : goal.returns-clause-added
returns-clause-added c =
    let some = c.requires.columns in
    subst (λ n. Adds (IsInRowTo c.args.row c.args.block.now n) c.args.places.now.items c.loop-column.places.items) (omega (arith, some)) c.loop-column.invariant.added
