use Rattle.std.proofs.Common.{◌≡◌, ◌<◌, ◌-◌, length, get_or, rules, w32, arith}
use Rattle.std.specs.Prelude.{pos}
use Rattle.std.proofs.lemmas.Int.{to_z-of_z}
use Rattle.std.proofs.lemmas.Result.{on_ok_weaker, IfOk-from_err}
use Rattle.std.proofs.lemmas.List.{get_or_default, take_all}
use Rattle.std.proofs.lemmas.List.Elements.{All-get_or, Contains-get_or}
use Rattle.dpl_sweep.specs.declared.edge.Edge.{Edge}
use Rattle.dpl_sweep.specs.Few.{EndsOutside}
use Rattle.dpl_sweep.proofs.PassLaws.{all-left, first-left}
use Rattle.dpl_sweep.proofs.FewLaws.{band-done, band-next, band-start}
use Rattle.dpl_sweep.proofs.few.sweep_band.Goals as goal

abbrev zero : Edge
zero = record { x = pos 0; y0 = pos 0; y1 = pos 0; a = pos 0; b = pos 0 }

pub loop-i-init : goal.loop-i-init
loop-i-init c =
    rw (to_z-of_z w32 c.args.low c.ranges.low, to_z-of_z w32 c.args.high c.ranges.high)
    (band-start c.args.rule c.args.edges.now c.args.low c.args.high c.args.start c.args.pieces.now.items c.requires.start c.requires.done)

pub pass_band-requires-clause-none : goal.pass_band-requires-clause-none
pass_band-requires-clause-none c =
    let here : c.loop-i.i < length c.args.edges.now = search rules in
    rw (to_z-of_z w32 c.args.low c.ranges.low, to_z-of_z w32 c.args.high c.ranges.high)
    (All-get_or (EndsOutside c.args.low c.args.high) c.args.edges.now c.loop-i.i zero here c.requires.none)

pub pass_band-requires-clause-rows : goal.pass_band-requires-clause-rows
pass_band-requires-clause-rows c =
    let here : c.loop-i.i < length c.args.edges.now = search rules in
    let e : Edge = get_or c.args.edges.now c.loop-i.i zero in
    let there = Contains-get_or c.args.edges.now c.loop-i.i zero here in
    let e_is : e ≡ get_or c.args.edges.now c.loop-i.i e = get_or_default c.args.edges.now c.loop-i.i zero e here in
    c.loop-i.invariant.rows e.x (c.requires.first e there) (first-left c.args.edges.now c.loop-i.i e c.requires.rise here e_is)

pub loop-i-preserved : goal.loop-i-preserved
loop-i-preserved c =
    let here : c.loop-i.i < length c.args.edges.now = search rules in
    let e : Edge = get_or c.args.edges.now c.loop-i.i zero in
    let low = to_z-of_z w32 c.args.low c.ranges.low in
    let high = to_z-of_z w32 c.args.high c.ranges.high in
    rw (low, high)
    (band-next c.args.rule c.args.edges.now c.loop-i.i c.args.low c.args.high c.args.start c.args.pieces.now.items _ _ c.loop-i.run _ e
    here (get_or_default c.args.edges.now c.loop-i.i zero e here)
    (rw (low, high) at c.loop-i.invariant) (rw (low, high) at c.in_ok-run.ensures))

pub returns : goal.returns
returns c =
    let all = take_all c.loop-i.i c.args.edges.now (omega arith) in
    let low = to_z-of_z w32 c.args.low c.ranges.low in
    let high = to_z-of_z w32 c.args.high c.ranges.high in
    let last : Edge = get_or c.args.edges.now (length c.args.edges.now - 1) zero in
    let passed = rw (all, low, high) at c.loop-i.invariant in
    on_ok_weaker c.put_run.result
    (λ puts. band-done c.args.rule c.args.edges.now c.args.low c.args.high last.x c.args.start c.loop-i.run c.args.pieces.now.items _ _
    c.requires.order (all-left c.args.edges.now zero c.requires.rise) c.requires.closed c.requires.done passed puts) (rw (low, high) at c.put_run.ensures)

pub returns-in_err-run : goal.returns-in_err-run
returns-in_err-run c = IfOk-from_err _ _ c.from_residual.ensures.0

pub pass_band-requires-clause-unit : goal.pass_band-requires-clause-unit
pass_band-requires-clause-unit c =
    let here : c.loop-i.i < length c.args.edges.now = search rules in
    c.requires.units _ (Contains-get_or c.args.edges.now c.loop-i.i zero here)
