use Rattle.std.proofs.lemmas.Result.{IfOk-from_err}
use Rattle.std.proofs.Common.{subst}
use Rattle.std.proofs.lemmas.List.{take_all}
use Rattle.dpl_spec_elements.specs.Motions.{image}
use Rattle.dpl_walk.proofs.KeptLaws.{keeps-none, keeps-one, keeps-more}
use Rattle.dpl_walk.specs.Kept.{Keeps}
use Rattle.dpl_walk.proofs.gathered.gather_all.Goals as goal

pub loop-outline-init : goal.loop-outline-init
loop-outline-init c = keeps-none (image c.args.place.now) c.args.gathered.now

pub loop-outline-preserved : goal.loop-outline-preserved
loop-outline-preserved c =
    keeps-more c.args.outlines.now c.loop-outline.outline-index c.outline-item.result
    (image c.args.place.now) _ _ _ c.loop-outline-test.true c.loop-outline.invariant
    (rw (← c.outline-item.is) (keeps-one c.outline-item.result (image c.args.place.now) _ _ c.in_ok-keep.ensures))

pub keep-requires-clause-points : goal.keep-requires-clause-points
keep-requires-clause-points c = rw c.outline-item.is (c.requires.points c.loop-outline.outline-index c.outline-item.result c.loop-outline-test.true)

pub returns-in_err-keep : goal.returns-in_err-keep
returns-in_err-keep c = IfOk-from_err _ _ c.from_residual.ensures.0

pub returns : goal.returns
returns c = subst (λ os. Keeps os (image c.args.place.now) c.args.gathered.now c.loop-outline.gathered)
    (take_all _ _ c.loop-outline-test.false) c.loop-outline.invariant
