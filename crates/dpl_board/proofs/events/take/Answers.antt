use Rattle.std.proofs.Common.{get_or}
use Rattle.std.specs.Prelude.{None}
use Rattle.dpl_board.specs.Sheets.{entry}
use Rattle.dpl_board.proofs.Posters.{none-from, some-from, workers-known, workers-more, workers-past}
use Rattle.dpl_board.proofs.events.take.Goals as goal

pub returns-then-place-taken : goal.returns-then-place-taken
returns-then-place-taken c = λ entries old. workers-past _ c.args.taken.now entries (entry c.args.worker c.args.tile) old c.if-place-taken.true

pub returns-then-is_none : goal.returns-then-is_none
returns-then-is_none c = λ entries old. workers-more _ c.args.taken.now entries
    (entry c.args.worker c.args.tile) old c.if-place-taken.false (none-from (get_or c.args.taken.now c.args.tile None) c.if-is_none.ensures)

pub returns-else-is_none : goal.returns-else-is_none
returns-else-is_none c = λ entries old. (
    let some = some-from (get_or c.args.taken.now c.args.tile None) c.if-is_none.ensures in
    workers-known _ some.0 c.args.taken.now entries (entry c.args.worker c.args.tile) old c.if-place-taken.false some.1
    )
