use Rattle.std.proofs.Common.{◌<◌, ◌-◌, length, get_or, rules, w32, arith, FitsSigned}
use Rattle.std.specs.Prelude.{pos}
use Rattle.std.proofs.lemmas.Int.{to_z-of_z}
use Rattle.dpl_sweep.specs.declared.edge.Edge.{Edge}
use Rattle.dpl_sweep.specs.Spans.{span_at}
use Rattle.dpl_sweep.proofs.PassLaws.{all-left}
use Rattle.dpl_sweep.proofs.SpanLaws.{shut-all, shut-more, shut-start}
use Rattle.std.proofs.lemmas.Result.{IfOk-from_err}
use Rattle.dpl_sweep.proofs.spans.shut.Goals as goal

abbrev zero : Edge
zero = record { x = pos 0; y0 = pos 0; y1 = pos 0; a = pos 0; b = pos 0 }

pub loop-k-init : goal.loop-k-init
loop-k-init c = shut-start c.args.rule c.args.edges.now c.args.edges.now c.args.spans.now c.args.runs.now c.args.pieces.now.items c.requires.ready

pub loop-k-preserved : goal.loop-k-preserved
loop-k-preserved c =
    let here : c.loop-k.k < length c.args.spans.now = search rules in
    let low : FitsSigned w32 (span_at c.args.spans.now c.loop-k.k).low = search rules in
    let high : FitsSigned w32 (span_at c.args.spans.now c.loop-k.k).high = search rules in
    let last : Edge = get_or c.args.edges.now (length c.args.edges.now - 1) zero in
    let put = rw (to_z-of_z w32 _ low, to_z-of_z w32 _ high) at c.in_ok-put_run.ensures in
    shut-more c.args.rule c.args.edges.now last.x c.args.edges.now c.args.spans.now c.loop-k.k c.args.runs.now _ _
    (all-left c.args.edges.now zero c.requires.rise) c.requires.closed c.requires.spans.order here put c.loop-k.invariant

pub returns-clause-apart : goal.returns-clause-apart
returns-clause-apart c = c.loop-k.invariant.apart

pub returns-clause-covers : goal.returns-clause-covers
returns-clause-covers c = shut-all c.args.rule c.args.edges.now c.args.edges.now c.args.spans.now c.loop-k.k c.args.runs.now _ (omega arith) c.requires.spans c.loop-k.invariant

pub returns-in_err-put_run-clause-apart : goal.returns-in_err-put_run-clause-apart
returns-in_err-put_run-clause-apart c = IfOk-from_err _ _ c.from_residual.ensures.0

pub returns-in_err-put_run-clause-covers : goal.returns-in_err-put_run-clause-covers
returns-in_err-put_run-clause-covers c = IfOk-from_err _ _ c.from_residual.ensures.0
