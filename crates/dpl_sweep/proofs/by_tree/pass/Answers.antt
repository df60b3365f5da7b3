use Rattle.std.proofs.Common.{◌≡◌, ◌<◌, length, get_or, take, rules, arith, length-take}
use Rattle.std.specs.Prelude.{pos}
use Rattle.std.proofs.lemmas.List.{get_or_default, take_all}
use Rattle.std.proofs.lemmas.List.Elements.{Contains-get_or}
use Rattle.dpl_sweep.specs.declared.edge.Edge.{Edge}
use Rattle.dpl_sweep.proofs.PassLaws.{first-left, passed-next}
use Rattle.std.proofs.lemmas.Result.{IfOk-from_err}
use Rattle.dpl_sweep.proofs.by_tree.pass.Goals as goal

abbrev zero : Edge
zero = record { x = pos 0; y0 = pos 0; y1 = pos 0; a = pos 0; b = pos 0 }

pub pass_one-requires-clause-rows : goal.pass_one-requires-clause-rows
pass_one-requires-clause-rows c =
    let here : c.loop-i.i < length c.args.edges.now = search rules in
    let e : Edge = get_or c.args.edges.now c.loop-i.i zero in
    let there = Contains-get_or c.args.edges.now c.loop-i.i zero here in
    let e_is : e ≡ get_or c.args.edges.now c.loop-i.i e = get_or_default c.args.edges.now c.loop-i.i zero e here in
    c.loop-i.invariant.rows e.x (c.requires.first e there) (first-left c.args.edges.now c.loop-i.i e c.requires.rise here e_is)

pub pass_one-requires-clause-sums : goal.pass_one-requires-clause-sums
pass_one-requires-clause-sums c =
    let here : c.loop-i.i < length c.args.edges.now = search rules in
    let len : length (take c.loop-i.i c.args.edges.now) ≡ c.loop-i.i = (let h = length-take c.loop-i.i c.args.edges.now in omega (arith, h, here)) in
    rw len at c.loop-i.invariant.sums

pub loop-i-preserved : goal.loop-i-preserved
loop-i-preserved c =
    let here : c.loop-i.i < length c.args.edges.now = search rules in
    let e : Edge = get_or c.args.edges.now c.loop-i.i zero in
    passed-next _ c.args.edges.now c.loop-i.i _ _ _ _ _ e here (get_or_default c.args.edges.now c.loop-i.i zero e here) c.loop-i.invariant c.in_ok-pass_one.ensures

pub returns : goal.returns
returns c =
    let all : take c.loop-i.i c.args.edges.now ≡ c.args.edges.now = take_all c.loop-i.i c.args.edges.now (omega arith) in
    rw all at c.loop-i.invariant

pub returns-in_err-pass_one : goal.returns-in_err-pass_one
returns-in_err-pass_one c = IfOk-from_err _ _ c.from_residual.ensures.0
