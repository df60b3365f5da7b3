use Rattle.std.proofs.Common.{refl, arith, rules}
use Rattle.std.proofs.lemmas.Result.{IfOk-from_err}
use Rattle.dpl_zone.proofs.Keeping.{apart-of_list, items-within_list, kept-all, kept-more, kept-none}
use Rattle.dpl_zone.proofs.kept.join_many.Goals as goal

pub loop-z-init : goal.loop-z-init
loop-z-init c = kept-none c.args.kept.now.items c.args.flat.now c.args.upright.now c.args.kept.now.items refl

pub add_apart-requires-clause-items : goal.add_apart-requires-clause-items
add_apart-requires-clause-items c =
    rw c.of-flat_view.ensures (items-within_list c.args.flat.now c.in_ok-flat_tree.flat_tree c.requires.flat c.in_ok-flat_tree.ensures)

pub add_apart-requires-clause-zone : goal.add_apart-requires-clause-zone
add_apart-requires-clause-zone c = c.requires.upright c.loop-z.z-index _ c.loop-z-test.true

pub loop-z-preserved : goal.loop-z-preserved
loop-z-preserved c =
    kept-more c.args.kept.now.items c.args.flat.now c.args.upright.now c.loop-z.z-index _ _ _ (omega arith) (search rules) c.loop-z.invariant
    (apart-of_list c.args.flat.now c.in_ok-flat_tree.flat_tree _ _ _ c.in_ok-flat_tree.ensures (rw c.of-flat_view.ensures at c.in_ok-add_apart.ensures))

pub returns : goal.returns
returns c = kept-all c.args.kept.now.items c.args.flat.now c.args.upright.now c.loop-z.kept.items c.loop-z.z-index (omega arith) c.loop-z.invariant

pub returns-in_err-flat_tree : goal.returns-in_err-flat_tree
returns-in_err-flat_tree c = IfOk-from_err _ _ c.from_residual.ensures.0

pub returns-in_err-add_apart : goal.returns-in_err-add_apart
returns-in_err-add_apart c = IfOk-from_err _ _ c.from_residual-in_err-add_apart.ensures.0
