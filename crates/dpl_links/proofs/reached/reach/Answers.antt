use Rattle.std.proofs.Common.{◌<◌, length, get_or, arith}
use Rattle.std.proofs.lemmas.List.Elements.{Contains-get_or}
use Rattle.std.proofs.lemmas.Result.{IfOk-from_err}
use Rattle.dpl_links.specs.Graph.{targets_at}
use Rattle.dpl_links.proofs.SpreadLaws.{Spread-start, Spread-more, Spread-all, noted_below, targets_are}
use Rattle.dpl_links.proofs.reached.reach.Goals as goal

pub loop-vertex-init : goal.loop-vertex-init
loop-vertex-init c =
    Spread-start c.args.graph.now c.args.from c.in_ok-marks.marks.items c.mark.new.marks.items c.mark.new.noted.items
    c.in_ok-marks.ensures
    (rw c.new-noted.ensures.items at c.in_ok-mark.ensures)

pub bounds-graph-vertex : goal.bounds-graph-vertex
bounds-graph-vertex c = noted_below c.args.graph.now c.args.from _ c.loop-vertex.marks.items _ _ c.in-Some.ensures.items c.loop-vertex.invariant

pub mark_all-requires : goal.mark_all-requires
mark_all-requires c =
    let v = c.in-Some.vertex in
    let ts = targets_at c.args.graph.now v in
    let below = noted_below c.args.graph.now c.args.from v c.loop-vertex.marks.items _ _ c.in-Some.ensures.items c.loop-vertex.invariant in
    let are = targets_are c.args.graph.now v _ _ below c.items.ensures c.index-graph-vertex.is in
    λ k d h.
    let i : k < length ts = rw (← are) h in
    let lt = c.requires.graph v (get_or ts k d) (Contains-get_or ts k d i) in
    rw are (omega (arith, lt, c.loop-vertex.invariant.each))

pub loop-vertex-preserved : goal.loop-vertex-preserved
loop-vertex-preserved c =
    let v = c.in-Some.vertex in
    let below = noted_below c.args.graph.now c.args.from v c.loop-vertex.marks.items _ _ c.in-Some.ensures.items c.loop-vertex.invariant in
    let are = targets_are c.args.graph.now v _ _ below c.items.ensures c.index-graph-vertex.is in
    Spread-more c.args.graph.now c.args.from v c.loop-vertex.marks.items c.mark_all.new.marks.items c.loop-vertex.noted.items c.pop.new.self.items c.mark_all.new.noted.items
    c.in-Some.ensures.items
    c.loop-vertex.invariant
    (rw are at c.in_ok-mark_all.ensures)

pub returns : goal.returns
returns c =
    Spread-all c.args.graph.now c.args.from c.loop-vertex.marks.items c.loop-vertex.noted.items
    (omega (arith, c.loop-vertex.noted.ok.0, c.in_default.ensures.cases.0))
    c.loop-vertex.invariant

pub returns-in_err-marks : goal.returns-in_err-marks
returns-in_err-marks c = IfOk-from_err _ _ c.from_residual.ensures.0

pub returns-in_err-mark : goal.returns-in_err-mark
returns-in_err-mark c = IfOk-from_err _ _ c.from_residual-in_err-mark.ensures.0

pub returns-in_err-mark_all : goal.returns-in_err-mark_all
returns-in_err-mark_all c = IfOk-from_err _ _ c.from_residual-in_err-mark_all.ensures.0
