use Rattle.std.proofs.Common.{arith}
use Rattle.std.proofs.lemmas.Result.{IfOk-from_err}
use Rattle.dpl_tile.proofs.Loops.{each-all, each-next, each-none}
use Rattle.dpl_wide.specs.Sheets.{IsPairEdge}
use Rattle.dpl_wide.proofs.touching.add_pairs.Goals as goal

pub loop-pair-init : goal.loop-pair-init
loop-pair-init c = each-none IsPairEdge c.args.pairs.now _

pub loop-pair-preserved : goal.loop-pair-preserved
loop-pair-preserved c = each-next IsPairEdge c.args.pairs.now c.loop-pair.pair-index _ _ c.loop-pair.edges.items _ c.loop-pair-test.true c.loop-pair.invariant c.in_ok-add_pair.ensures

pub returns : goal.returns
returns c = each-all IsPairEdge c.args.pairs.now c.loop-pair.pair-index _ c.loop-pair.edges.items (omega arith) c.loop-pair.invariant

pub returns-in_err-add_pair : goal.returns-in_err-add_pair
returns-in_err-add_pair c = IfOk-from_err _ _ c.from_residual.ensures.0
