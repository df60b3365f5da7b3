use Rattle.std.proofs.Common.{refl, arith, rules}
use Rattle.std.proofs.lemmas.Result.{IfOk-from_err}
use Rattle.dpl_zone.proofs.Keeping.{kept-all, kept-more, kept-none}
use Rattle.dpl_zone.proofs.kept.join_few.Goals as goal

pub loop-z-init : goal.loop-z-init
loop-z-init c = kept-none c.args.kept.now.items c.args.flat.now c.args.upright.now c.args.kept.now.items refl

pub add_lone-requires-clause-zone : goal.add_lone-requires-clause-zone
add_lone-requires-clause-zone c = c.requires.upright c.loop-z.z-index _ c.loop-z-test.true

pub loop-z-preserved : goal.loop-z-preserved
loop-z-preserved c =
    kept-more c.args.kept.now.items c.args.flat.now c.args.upright.now c.loop-z.z-index _ _ _ (omega arith) (search rules) c.loop-z.invariant c.in_ok-add_lone.ensures

pub returns : goal.returns
returns c = kept-all c.args.kept.now.items c.args.flat.now c.args.upright.now c.loop-z.kept.items c.loop-z.z-index (omega arith) c.loop-z.invariant

pub returns-in_err-add_lone : goal.returns-in_err-add_lone
returns-in_err-add_lone c = IfOk-from_err _ _ c.from_residual.ensures.0
