use Rattle.std.proofs.lemmas.Result.{IfOk-from_err}
use Rattle.dpl_walk.specs.Ways.{AreAllWhole, AreCellsShort, HasWays}
use Rattle.dpl_walk.proofs.WayLaws.{same_shown, steep_of, known_of}
use Rattle.dpl_walk.proofs.ways.pass_by.Goals as goal

pub shorten-requires-clause-ways : goal.shorten-requires-clause-ways
shorten-requires-clause-ways c =
    let has : HasWays c.args.cells.now.items c.in_ok-ways.ways.items = rw c.as_slice.ensures.value at c.in_ok-ways.ensures.ways in
    rw c.as_slice-2.ensures.value has

pub returns-clause-known : goal.returns-clause-known
returns-clause-known c =
    let has : HasWays c.args.cells.now.items c.in_ok-ways.ways.items = rw c.as_slice.ensures.value at c.in_ok-ways.ensures.ways in
    let short : AreCellsShort c.in_ok-ways.ways.items c.args.cells.now.items c.shorten.new.cells.items = rw c.as_slice-2.ensures.value at c.in_ok-shorten.ensures.short in
    known_of c.args.cells.now.items c.shorten.new.cells.items c.in_ok-ways.ways.items has.0 has.1 c.requires.known c.requires.few short

pub returns-clause-steep : goal.returns-clause-steep
returns-clause-steep c =
    let has : HasWays c.args.cells.now.items c.in_ok-ways.ways.items = rw c.as_slice.ensures.value at c.in_ok-ways.ensures.ways in
    let short : AreCellsShort c.in_ok-ways.ways.items c.args.cells.now.items c.shorten.new.cells.items = rw c.as_slice-2.ensures.value at c.in_ok-shorten.ensures.short in
    steep_of c.args.cells.now.items c.shorten.new.cells.items c.in_ok-ways.ways.items has.0 has.1 c.requires.known c.requires.few short

pub returns-clause-same : goal.returns-clause-same
returns-clause-same c =
    let has : HasWays c.args.cells.now.items c.in_ok-ways.ways.items = rw c.as_slice.ensures.value at c.in_ok-ways.ensures.ways in
    let short : AreCellsShort c.in_ok-ways.ways.items c.args.cells.now.items c.shorten.new.cells.items = rw c.as_slice-2.ensures.value at c.in_ok-shorten.ensures.short in
    same_shown c.args.cells.now.items c.shorten.new.cells.items c.in_ok-ways.ways.items has.0 has.1 c.requires.known c.requires.few short

pub returns-clause-passed : goal.returns-clause-passed
returns-clause-passed c = λ is.
    (let whole : AreAllWhole c.args.cells.now.items c.in_ok-ways.ways.items = (rw c.as_slice.ensures.value at c.in_ok-ways.ensures.whole) is in
    (rw c.as_slice-2.ensures.value at c.in_ok-shorten.ensures.passed) whole)

pub returns-in_err-ways-clause-each : goal.returns-in_err-ways-clause-each
returns-in_err-ways-clause-each c = IfOk-from_err _ _ c.from_residual.ensures.0

pub returns-in_err-ways-clause-known : goal.returns-in_err-ways-clause-known
returns-in_err-ways-clause-known c = IfOk-from_err _ _ c.from_residual.ensures.0

pub returns-in_err-ways-clause-steep : goal.returns-in_err-ways-clause-steep
returns-in_err-ways-clause-steep c = IfOk-from_err _ _ c.from_residual.ensures.0

pub returns-in_err-ways-clause-same : goal.returns-in_err-ways-clause-same
returns-in_err-ways-clause-same c = IfOk-from_err _ _ c.from_residual.ensures.0

pub returns-in_err-ways-clause-passed : goal.returns-in_err-ways-clause-passed
returns-in_err-ways-clause-passed c = IfOk-from_err _ _ c.from_residual.ensures.0

pub returns-in_err-shorten-clause-each : goal.returns-in_err-shorten-clause-each
returns-in_err-shorten-clause-each c = IfOk-from_err _ _ c.from_residual-in_err-shorten.ensures.0

pub returns-in_err-shorten-clause-known : goal.returns-in_err-shorten-clause-known
returns-in_err-shorten-clause-known c = IfOk-from_err _ _ c.from_residual-in_err-shorten.ensures.0

pub returns-in_err-shorten-clause-steep : goal.returns-in_err-shorten-clause-steep
returns-in_err-shorten-clause-steep c = IfOk-from_err _ _ c.from_residual-in_err-shorten.ensures.0

pub returns-in_err-shorten-clause-same : goal.returns-in_err-shorten-clause-same
returns-in_err-shorten-clause-same c = IfOk-from_err _ _ c.from_residual-in_err-shorten.ensures.0

pub returns-in_err-shorten-clause-passed : goal.returns-in_err-shorten-clause-passed
returns-in_err-shorten-clause-passed c = IfOk-from_err _ _ c.from_residual-in_err-shorten.ensures.0
