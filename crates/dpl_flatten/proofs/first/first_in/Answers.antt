use Rattle.std.proofs.lemmas.Result.{IfOk-from_err}
use Rattle.dpl_spec_format.specs.Tree.{elements_at}
use Rattle.dpl_flatten.specs.Wants.{finding_of}
use Rattle.dpl_flatten.proofs.LeastLaws.{least_seen, least_seen_all}
use Rattle.dpl_flatten.proofs.first.first_in.Goals as goal

pub loop-element-preserved : goal.loop-element-preserved
loop-element-preserved c =
    least_seen (finding_of c.args.lib.now c.args.wanted) c.args.structure c.loop-element.element-index c.elements-element-items.result.now
    (elements_at c.args.lib.now c.args.structure) _ c.loop-element.first c.note-first.result c.in_ok-found.found
    c.elements-element-items.ensures.same
    c.loop-element-test.true
    c.in_ok-found.ensures
    c.note-first.ensures
    c.loop-element.invariant

pub returns : goal.returns
returns c =
    least_seen_all (finding_of c.args.lib.now c.args.wanted) c.args.structure c.loop-element.element-index c.elements-element-items.result.now
    (elements_at c.args.lib.now c.args.structure) c.loop-element.first
    c.elements-element-items.ensures.same
    c.loop-element-test.false
    c.loop-element.invariant

pub returns-in_err-found : goal.returns-in_err-found
returns-in_err-found c = IfOk-from_err _ _ c.from_residual.ensures.0
