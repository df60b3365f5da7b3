use Rattle.std.proofs.Common.{arith}
use Rattle.std.proofs.lemmas.Result.{IfOk-from_err}
use Rattle.dpl_walk.proofs.ShortLaws.{below_start, below_next, below_end, all_ready, all_known, all_within}
use Rattle.dpl_walk.proofs.WayLaws.{passed_of}
use Rattle.dpl_walk.proofs.ways.shorten.Goals as goal

pub loop-structure-init : goal.loop-structure-init
loop-structure-init c = below_start c.args.ways.now c.args.cells.now.items

pub shorten_at-requires-clause-ready : goal.shorten_at-requires-clause-ready
shorten_at-requires-clause-ready c = all_ready c.args.ways.now c.loop-structure.structure c.args.cells.now.items
    c.loop-structure.cells.items c.requires.known c.requires.ways c.loop-structure.invariant

pub shorten_at-requires-clause-known : goal.shorten_at-requires-clause-known
shorten_at-requires-clause-known c = all_known c.args.ways.now c.loop-structure.structure c.args.cells.now.items
    c.loop-structure.cells.items c.requires.known c.requires.ways c.loop-structure.invariant

pub shorten_at-requires-clause-within : goal.shorten_at-requires-clause-within
shorten_at-requires-clause-within c = all_within c.args.cells.now.items c.args.ways.now c.requires.few c.requires.ways

pub loop-structure-preserved : goal.loop-structure-preserved
loop-structure-preserved c = below_next c.args.ways.now c.loop-structure.structure c.args.cells.now.items c.loop-structure.cells.items
    c.shorten_at.new.cells.items c.loop-structure.invariant c.in_ok-shorten_at.ensures

pub returns-clause-passed : goal.returns-clause-passed
returns-clause-passed c =
    passed_of c.args.cells.now.items c.loop-structure.cells.items c.args.ways.now c.requires.ways.0 c.requires.ways.1 c.requires.known c.requires.few
    (below_end c.args.ways.now c.loop-structure.structure c.args.cells.now.items c.loop-structure.cells.items
    (omega (arith, c.len-structure-end.ensures)) c.loop-structure.invariant)

pub returns-clause-short : goal.returns-clause-short
returns-clause-short c = below_end c.args.ways.now c.loop-structure.structure c.args.cells.now.items c.loop-structure.cells.items
    (omega (arith, c.len-structure-end.ensures)) c.loop-structure.invariant

pub returns-in_err-shorten_at-clause-short : goal.returns-in_err-shorten_at-clause-short
returns-in_err-shorten_at-clause-short c = IfOk-from_err _ _ c.from_residual.ensures.0

pub returns-in_err-shorten_at-clause-passed : goal.returns-in_err-shorten_at-clause-passed
returns-in_err-shorten_at-clause-passed c = IfOk-from_err _ _ c.from_residual.ensures.0
