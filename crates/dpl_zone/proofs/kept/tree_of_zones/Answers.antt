use Rattle.std.proofs.Common.{arith}
use Rattle.std.proofs.lemmas.Result.{IfOk-weaker, IfOk-from_err}
use Rattle.dpl_zone.proofs.Keeping.{tree-all, tree-more, tree-none}
use Rattle.dpl_zone.proofs.kept.tree_of_zones.Goals as goal

pub loop-z-init : goal.loop-z-init
loop-z-init c = tree-none c.args.zones.now _ c.in_ok-items.ensures

pub loop-z-preserved : goal.loop-z-preserved
loop-z-preserved c = tree-more c.args.zones.now c.loop-z.z-index _ c.loop-z.items _ c.loop-z-test.true c.loop-z.invariant c.in_ok-add.ensures

pub returns : goal.returns
returns c = IfOk-weaker c.of.result _ _ (λ tree same. tree-all c.args.zones.now c.loop-z.z-index c.loop-z.items tree (omega arith) c.loop-z.invariant same) c.of.ensures

pub returns-in_err-items : goal.returns-in_err-items
returns-in_err-items c = IfOk-from_err _ _ c.from_residual.ensures.0

pub returns-in_err-add : goal.returns-in_err-add
returns-in_err-add c = IfOk-from_err _ _ c.from_residual-in_err-add.ensures.0
