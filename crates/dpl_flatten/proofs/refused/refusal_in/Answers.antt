use Rattle.std.proofs.lemmas.Result.{IfOk-from_err}
use Rattle.dpl_spec_format.specs.Tree.{elements_at}
use Rattle.dpl_spec_split.proofs.Ordered.{Contains-nil}
use Rattle.dpl_flatten.proofs.DrawnLaws.{refusal_is, taken_more, taken_all}
use Rattle.dpl_flatten.proofs.refused.refusal_in.Goals as goal

pub loop-element-init : goal.loop-element-init
loop-element-init c = λ e h. absurd (Contains-nil e h)

pub loop-element-preserved : goal.loop-element-preserved
loop-element-preserved c = taken_more c.args.chosen c.loop-element.element-index c.args.at c.elements-element-items.result.now
    (elements_at c.args.lib.now c.args.structure) _ c.elements-element-items.ensures.same c.loop-element-test.true
    (rw c.in_default.is at c.in_ok-found.ensures) c.loop-element.invariant

pub returns-in-Some : goal.returns-in-Some
returns-in-Some c = refusal_is c.args.lib.now c.args.chosen c.args.structure c.loop-element.element-index c.args.at
    c.elements-element-items.result.now _ c.in-Some.fault c.elements-element-items.ensures.same c.loop-element-test.true
    (rw c.in-Some.is at c.in_ok-found.ensures)

pub returns : goal.returns
returns c = taken_all c.args.chosen c.loop-element.element-index c.args.at c.elements-element-items.result.now
    (elements_at c.args.lib.now c.args.structure) c.elements-element-items.ensures.same c.loop-element-test.false c.loop-element.invariant

pub returns-in_err-found : goal.returns-in_err-found
returns-in_err-found c = IfOk-from_err _ _ c.from_residual.ensures.0
