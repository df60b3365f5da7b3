use Rattle.std.proofs.Common.{arith}
use Rattle.std.proofs.lemmas.List.Elements.{Contains-get_or}
use Rattle.std.proofs.lemmas.Result.{IfOk-from_err}
use Rattle.dpl_tile.proofs.Loops.{each-all, each-next, each-none}
use Rattle.dpl_crowd.specs.Crowds.{IsFoeAmong}
use Rattle.dpl_crowd.proofs.near.add_all_foes.Goals as goal

pub loop-r-init : goal.loop-r-init
loop-r-init c = each-none (λ r w. IsFoeAmong c.args.spacing c.args.owners.now c.args.k r c.args.tree.now w) c.args.slabs.now _

pub add_foes-requires-clause-slab : goal.add_foes-requires-clause-slab
add_foes-requires-clause-slab c = c.requires.slabs _ (Contains-get_or c.args.slabs.now c.loop-r.r-index _ c.loop-r-test.true)

pub loop-r-preserved : goal.loop-r-preserved
loop-r-preserved c = each-next (λ r w. IsFoeAmong c.args.spacing c.args.owners.now c.args.k r c.args.tree.now w) c.args.slabs.now c.loop-r.r-index _ _ c.loop-r.found.items _ c.loop-r-test.true
    c.loop-r.invariant c.in_ok-add_foes.ensures

pub returns : goal.returns
returns c = each-all (λ r w. IsFoeAmong c.args.spacing c.args.owners.now c.args.k r c.args.tree.now w) c.args.slabs.now c.loop-r.r-index _ c.loop-r.found.items (omega arith) c.loop-r.invariant

pub returns-in_err-add_foes : goal.returns-in_err-add_foes
returns-in_err-add_foes c = IfOk-from_err _ _ c.from_residual.ensures.0
