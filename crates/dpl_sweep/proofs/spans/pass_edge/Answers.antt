use Rattle.std.proofs.Common.{◌≡◌, ◌<◌, ◌≤◌, length, get_or, take, sym, ◌∙◌, subst, rules, w32, arith, FitsSigned, length-take}
use Rattle.std.specs.Prelude.{pos, ◌≤ℤ◌}
use Rattle.std.proofs.lemmas.Int.{ints, to_z-of_z}
use Rattle.std.proofs.lemmas.List.{get_or_default}
use Rattle.std.proofs.lemmas.List.Elements.{All-get_or, Contains-get_or}
use Rattle.dpl_sweep.specs.declared.edge.Edge.{Edge}
use Rattle.dpl_sweep.specs.declared.run.Run.{Run}
use Rattle.dpl_sweep.specs.declared.bands.Bands.{One}
use Rattle.dpl_sweep.specs.Rows.{IsSmall}
use Rattle.dpl_sweep.specs.Few.{EndsOutside, PassesBand}
use Rattle.dpl_sweep.specs.Spans.{run_at_span, span_at}
use Rattle.dpl_sweep.proofs.PassLaws.{take-next}
use Rattle.dpl_sweep.proofs.SpanLaws.{above-all, next-right, passed-end, passed-more, passed-start}
use Rattle.std.proofs.lemmas.Result.{IfOk-from_err}
use Rattle.dpl_sweep.proofs.spans.pass_edge.Goals as goal

abbrev no_run : Run
no_run = record { from = pos 0; at = pos 0; a = pos 0; b = pos 0 }

abbrev zero : Edge
zero = record { x = pos 0; y0 = pos 0; y1 = pos 0; a = pos 0; b = pos 0 }

pub loop-k-init : goal.loop-k-init
loop-k-init c =
    let y0 : FitsSigned w32 (get_or c.args.edges.now c.args.i zero).y0 = search rules in
    passed-start c.args.rule (take c.args.i c.args.edges.now) (get_or c.args.edges.now c.args.i zero) c.args.edges.now c.args.spans.now
    c.first_above-k.result c.args.runs.now.items c.args.pieces.now.items
    (rw (to_z-of_z w32 _ y0) at c.first_above-k.ensures) c.requires.ready

pub pass_band-requires-clause-order : goal.pass_band-requires-clause-order
pass_band-requires-clause-order c =
    let here : c.loop-k.k < length c.args.spans.now = search rules in
    let low : FitsSigned w32 (span_at c.args.spans.now c.loop-k.k).low = search rules in
    let high : FitsSigned w32 (span_at c.args.spans.now c.loop-k.k).high = search rules in
    rw (to_z-of_z w32 _ low, to_z-of_z w32 _ high) (c.requires.spans.order.solid c.loop-k.k here)

pub pass_band-requires-clause-none : goal.pass_band-requires-clause-none
pass_band-requires-clause-none c =
    let here : c.loop-k.k < length c.args.spans.now = search rules in
    let low : FitsSigned w32 (span_at c.args.spans.now c.loop-k.k).low = search rules in
    let high : FitsSigned w32 (span_at c.args.spans.now c.loop-k.k).high = search rules in
    rw (to_z-of_z w32 _ low, to_z-of_z w32 _ high)
    (All-get_or (EndsOutside (span_at c.args.spans.now c.loop-k.k).low (span_at c.args.spans.now c.loop-k.k).high) c.args.edges.now
    c.args.i zero c.requires.within (c.requires.spans.outside c.loop-k.k here))

pub pass_band-requires-clause-rows : goal.pass_band-requires-clause-rows
pass_band-requires-clause-rows c =
    let here : c.loop-k.k < length c.args.spans.now = search rules in
    let len : length c.loop-k.runs.items ≡ length c.args.spans.now = c.loop-k.invariant.len in
    let run_is : run_at_span c.loop-k.runs.items c.loop-k.k ≡ c.index.result.now = get_or_default c.loop-k.runs.items c.loop-k.k no_run
    c.index.result.now (omega (arith, len, here)) ∙ sym c.index.ensures in
    let count : length (take c.args.i c.args.edges.now) ≤ c.args.i = (let h = length-take c.args.i c.args.edges.now in omega (arith, h)) in
    subst (λ r. let q : Run = r in q.at ≤ℤ (get_or c.args.edges.now c.args.i zero).x) run_is
    ((c.loop-k.invariant.after c.loop-k.k (omega arith) here).rows c.args.i zero count c.requires.within)

pub pass_band-requires-clause-sums : goal.pass_band-requires-clause-sums
pass_band-requires-clause-sums c =
    let here : c.loop-k.k < length c.args.spans.now = search rules in
    let len : length c.loop-k.runs.items ≡ length c.args.spans.now = c.loop-k.invariant.len in
    let run_is : run_at_span c.loop-k.runs.items c.loop-k.k ≡ c.index.result.now = get_or_default c.loop-k.runs.items c.loop-k.k no_run
    c.index.result.now (omega (arith, len, here)) ∙ sym c.index.ensures in
    let count : length (take c.args.i c.args.edges.now) ≡ c.args.i = (let h = length-take c.args.i c.args.edges.now in let w = c.requires.within in omega (arith, h, w)) in
    subst (λ r. IsSmall c.args.i (One r)) run_is (subst (λ n. IsSmall n (One (run_at_span c.loop-k.runs.items c.loop-k.k))) count
    (c.loop-k.invariant.after c.loop-k.k (omega arith) here).sums)

pub loop-k-preserved : goal.loop-k-preserved
loop-k-preserved c =
    let here : c.loop-k.k < length c.args.spans.now = search rules in
    let low : FitsSigned w32 (span_at c.args.spans.now c.loop-k.k).low = search rules in
    let high : FitsSigned w32 (span_at c.args.spans.now c.loop-k.k).high = search rules in
    let len : length c.loop-k.runs.items ≡ length c.args.spans.now = c.loop-k.invariant.len in
    let run_is : run_at_span c.loop-k.runs.items c.loop-k.k ≡ c.index.result.now = get_or_default c.loop-k.runs.items c.loop-k.k no_run
    c.index.result.now (omega (arith, len, here)) ∙ sym c.index.ensures in
    let count : length (take c.args.i c.args.edges.now) ≡ c.args.i = (let h = length-take c.args.i c.args.edges.now in let w = c.requires.within in omega (arith, h, w)) in
    let e : Edge = get_or c.args.edges.now c.args.i zero in
    let on = rw (to_z-of_z w32 _ low, to_z-of_z w32 _ high) at c.in_ok-runs.ensures in
    passed-more c.args.rule (take c.args.i c.args.edges.now) e c.args.edges.now c.args.spans.now c.loop-k.k c.loop-k.runs.items
    c.loop-k.pieces.items c.pass_band.new.pieces.items c.in_ok-runs.field-0 c.requires.spans.order here
    (next-right c.args.edges.now c.args.i zero c.requires.rise c.requires.within)
    (subst (λ n. PassesBand c.args.rule e (span_at c.args.spans.now c.loop-k.k).low (span_at c.args.spans.now c.loop-k.k).high n
    (run_at_span c.loop-k.runs.items c.loop-k.k) c.in_ok-runs.field-0 c.loop-k.pieces.items c.pass_band.new.pieces.items) (sym count)
    (subst (λ r. PassesBand c.args.rule e (span_at c.args.spans.now c.loop-k.k).low (span_at c.args.spans.now c.loop-k.k).high c.args.i r
    c.in_ok-runs.field-0 c.loop-k.pieces.items c.pass_band.new.pieces.items) (sym run_is) on))
    c.loop-k.invariant

pub returns-else-spans-k : goal.returns-else-spans-k
returns-else-spans-k c =
    let e : Edge = get_or c.args.edges.now c.args.i zero in
    let e_is : e ≡ get_or c.args.edges.now c.args.i e = get_or_default c.args.edges.now c.args.i zero e c.requires.within in
    let low : FitsSigned w32 (span_at c.args.spans.now c.loop-k.k).low = search rules in
    let y1 : FitsSigned w32 e.y1 = search rules in
    let above : e.y1 ≤ℤ (span_at c.args.spans.now c.loop-k.k).low = (let h = rw (to_z-of_z w32 _ low, to_z-of_z w32 _ y1) at c.if-spans-k.false in grind (arith, ints, h)) in
    rw (take-next c.args.edges.now c.args.i e c.requires.within e_is)
    (passed-end c.args.rule (take c.args.i c.args.edges.now) e c.args.edges.now c.args.spans.now c.loop-k.k c.loop-k.runs.items c.loop-k.pieces.items
    (above-all c.args.spans.now c.loop-k.k e.y1 c.requires.spans.order (λ k_in. above)) c.loop-k.invariant)

pub returns-after-loop-k : goal.returns-after-loop-k
returns-after-loop-k c =
    let e : Edge = get_or c.args.edges.now c.args.i zero in
    let e_is : e ≡ get_or c.args.edges.now c.args.i e = get_or_default c.args.edges.now c.args.i zero e c.requires.within in
    let end : length c.args.spans.now ≤ c.loop-k.k = search rules in
    rw (take-next c.args.edges.now c.args.i e c.requires.within e_is)
    (passed-end c.args.rule (take c.args.i c.args.edges.now) e c.args.edges.now c.args.spans.now c.loop-k.k c.loop-k.runs.items c.loop-k.pieces.items
    (above-all c.args.spans.now c.loop-k.k e.y1 c.requires.spans.order (λ k_in. absurd (omega (arith, end, k_in)))) c.loop-k.invariant)

pub returns-in_err-runs : goal.returns-in_err-runs
returns-in_err-runs c = IfOk-from_err _ _ c.from_residual.ensures.0

pub pass_band-requires-clause-unit : goal.pass_band-requires-clause-unit
pass_band-requires-clause-unit c = c.requires.units _ (Contains-get_or c.args.edges.now c.args.i zero c.requires.within)
