use Rattle.std.proofs.Common.{get_or, refl, rules, w32, FitsSigned, arith}
use Rattle.std.specs.Prelude.{pos}
use Rattle.std.proofs.lemmas.Int.{to_z-of_z}
use Rattle.dpl_sweep.specs.declared.edge.Edge.{Edge}
use Rattle.dpl_sweep.specs.declared.run.Run.{Run}
use Rattle.dpl_sweep.proofs.StepLaws.{first-right, ready-start}
use Rattle.std.proofs.lemmas.Result.{IfOk-from_err}
use Rattle.std.proofs.lemmas.List.{take_all}
use Rattle.dpl_sweep.proofs.spans.pieces_by_spans.Goals as goal

abbrev zero : Edge
zero = record { x = pos 0; y0 = pos 0; y1 = pos 0; a = pos 0; b = pos 0 }

pub loop-i-init : goal.loop-i-init
loop-i-init c =
    let first : FitsSigned w32 (get_or c.args.edges.now 0 zero).x = search rules in
    let x = to_z-of_z w32 (get_or c.args.edges.now 0 zero).x first in
    let start : Run = record { from = (get_or c.args.edges.now 0 zero).x; at = (get_or c.args.edges.now 0 zero).x; a = pos 0; b = pos 0 } in
    let items = rw x at (c.in_ok-runs.ensures.items_if_clones_equal (λ y h. search rules)) in
    rw (c.new-pieces.ensures.items, items) (ready-start c.args.rule c.args.edges.now start c.args.spans.now
    (record { none = refl; a = refl; b = refl }) (first-right c.args.edges.now zero c.requires.rise))

pub returns-in_err-runs-clause-apart : goal.returns-in_err-runs-clause-apart
returns-in_err-runs-clause-apart c = IfOk-from_err _ _ c.from_residual.ensures.0

pub returns-in_err-runs-clause-covers : goal.returns-in_err-runs-clause-covers
returns-in_err-runs-clause-covers c = IfOk-from_err _ _ c.from_residual.ensures.0

pub returns-in_err-pass_edge-clause-apart : goal.returns-in_err-pass_edge-clause-apart
returns-in_err-pass_edge-clause-apart c = IfOk-from_err _ _ c.from_residual-in_err-pass_edge.ensures.0

pub returns-in_err-pass_edge-clause-covers : goal.returns-in_err-pass_edge-clause-covers
returns-in_err-pass_edge-clause-covers c = IfOk-from_err _ _ c.from_residual-in_err-pass_edge.ensures.0

pub returns-in_err-shut-clause-apart : goal.returns-in_err-shut-clause-apart
returns-in_err-shut-clause-apart c = IfOk-from_err _ _ c.from_residual-in_err-shut.ensures.0

pub returns-in_err-shut-clause-covers : goal.returns-in_err-shut-clause-covers
returns-in_err-shut-clause-covers c = IfOk-from_err _ _ c.from_residual-in_err-shut.ensures.0

pub shut-requires-clause-ready : goal.shut-requires-clause-ready
shut-requires-clause-ready c = rw c.deref.ensures.value (rw (take_all c.loop-i.i c.args.edges.now (omega arith)) at c.loop-i.invariant)
