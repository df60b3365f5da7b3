use Rattle.std.proofs.Common.{◌<◌, length, get_or, rules, w32, arith, FitsSigned}
use Rattle.std.specs.Prelude.{pos}
use Rattle.std.proofs.lemmas.Int.{to_z-of_z}
use Rattle.std.proofs.lemmas.List.{take_all}
use Rattle.dpl_sweep.specs.declared.edge.Edge.{Edge}
use Rattle.dpl_sweep.proofs.StepLaws.{ends-more, ends-permutation}
use Rattle.std.proofs.lemmas.Result.{IfOk-from_err}
use Rattle.dpl_sweep.proofs.spans.ends_of.Goals as goal

abbrev zero : Edge
zero = record { x = pos 0; y0 = pos 0; y1 = pos 0; a = pos 0; b = pos 0 }

pub loop-edge-preserved : goal.loop-edge-preserved
loop-edge-preserved c =
    let here : c.loop-edge.edge-index < length c.args.edges.now = search rules in
    let e : Edge = get_or c.args.edges.now c.loop-edge.edge-index zero in
    let y0 : FitsSigned w32 e.y0 = search rules in
    let y1 : FitsSigned w32 e.y1 = search rules in
    rw (c.in_ok-push-2.ensures.items, c.in_ok-push.ensures.items, to_z-of_z w32 e.y0 y0, to_z-of_z w32 e.y1 y1)
    (ends-more c.args.edges.now c.loop-edge.edge-index zero c.loop-edge.ends.items here c.loop-edge.invariant)

pub returns-clause-ends : goal.returns-clause-ends
returns-clause-ends c = ends-permutation c.args.edges.now _ _ c.sort_rows.ensures.same
    (rw (take_all c.loop-edge.edge-index c.args.edges.now (omega arith)) at c.loop-edge.invariant)

pub returns-in_err-ends-clause-rise : goal.returns-in_err-ends-clause-rise
returns-in_err-ends-clause-rise c = IfOk-from_err _ _ c.from_residual.ensures.0

pub returns-in_err-ends-clause-ends : goal.returns-in_err-ends-clause-ends
returns-in_err-ends-clause-ends c = IfOk-from_err _ _ c.from_residual.ensures.0

pub returns-in_err-push-clause-rise : goal.returns-in_err-push-clause-rise
returns-in_err-push-clause-rise c = IfOk-from_err _ _ c.from_residual-in_err-push.ensures.0

pub returns-in_err-push-clause-ends : goal.returns-in_err-push-clause-ends
returns-in_err-push-clause-ends c = IfOk-from_err _ _ c.from_residual-in_err-push.ensures.0

pub returns-in_err-push-2-clause-rise : goal.returns-in_err-push-2-clause-rise
returns-in_err-push-2-clause-rise c = IfOk-from_err _ _ c.from_residual-in_err-push-2.ensures.0

pub returns-in_err-push-2-clause-ends : goal.returns-in_err-push-2-clause-ends
returns-in_err-push-2-clause-ends c = IfOk-from_err _ _ c.from_residual-in_err-push-2.ensures.0
