use Rattle.std.proofs.Common.{◌<◌, length, get_or, rules, w32, arith, FitsSigned}
use Rattle.std.specs.Prelude.{pos}
use Rattle.std.proofs.lemmas.Int.{to_z-of_z}
use Rattle.std.proofs.lemmas.List.{take_all}
use Rattle.dpl_sweep.specs.declared.edge.Edge.{Edge}
use Rattle.dpl_sweep.proofs.FewLaws.{within-more}
use Rattle.dpl_sweep.proofs.few.rows_of.Goals as goal

abbrev zero : Edge
zero = record { x = pos 0; y0 = pos 0; y1 = pos 0; a = pos 0; b = pos 0 }

pub loop-edge-preserved : goal.loop-edge-preserved
loop-edge-preserved c =
    let here : c.loop-edge.edge-index < length c.args.edges.now = search rules in
    let e : Edge = get_or c.args.edges.now c.loop-edge.edge-index zero in
    let y0 : FitsSigned w32 e.y0 = search rules in
    let y1 : FitsSigned w32 e.y1 = search rules in
    let r : FitsSigned w32 c.min-low.result = search rules in
    let s : FitsSigned w32 c.max-top.result = search rules in
    rw (to_z-of_z w32 c.min-low.result r, to_z-of_z w32 c.max-top.result s)
    (within-more c.args.edges.now c.loop-edge.edge-index zero _ c.min-low.result _ c.max-top.result here c.min-low.ensures.self_bound c.max-top.ensures.self_bound
    (record { from = rw (to_z-of_z w32 e.y0 y0) at c.min-low.ensures.other_bound; to = rw (to_z-of_z w32 e.y1 y1) at c.max-top.ensures.other_bound }) c.loop-edge.invariant)

pub returns : goal.returns
returns c = rw (take_all c.loop-edge.edge-index c.args.edges.now (omega arith)) at c.loop-edge.invariant
