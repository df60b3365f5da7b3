use Rattle.std.proofs.lemmas.Result.{IfOk-weaker, IfOk-from_err}
use Rattle.dpl_sweep.specs.declared.edge.Rule.TheVariants.{Either}
use Rattle.dpl_sweep.specs.Edges.{Told}
use Rattle.dpl_spec_split.specs.Loops.{LoopCovers}
use Rattle.dpl_slabs.proofs.SetLaws.{slabs-of-same}
use Rattle.dpl_slabs.proofs.LoopLaws.{loop-told, loop-closed, told-inside, slabs-inside}
use Rattle.dpl_slabs.proofs.loops.slabs_of_loop.Goals as goal

pub slabs_of_edges-requires-clause-units : goal.slabs_of_edges-requires-clause-units
slabs_of_edges-requires-clause-units c = c.in_ok-edges.ensures.units

pub slabs_of_edges-requires-clause-closed : goal.slabs_of_edges-requires-clause-closed
slabs_of_edges-requires-clause-closed c = loop-closed c.args.points.now _ c.in_ok-edges.ensures

pub returns-clause-slabs : goal.returns-clause-slabs
returns-clause-slabs c =
    IfOk-weaker c.slabs_of_edges.result _ _
    (λ v is. slabs-of-same (Told Either c.in_ok-edges.edges.items) (LoopCovers c.args.points.now) v.items
    (loop-told c.args.points.now _ c.in_ok-edges.ensures) is) c.slabs_of_edges.ensures

pub returns-clause-within : goal.returns-clause-within
returns-clause-within c =
    IfOk-weaker c.slabs_of_edges.result _ _
    (λ v is. slabs-inside (Told Either c.in_ok-edges.edges.items) 1000000000 v.items
    (λ p. told-inside Either 1000000000 c.in_ok-edges.edges.items p (c.in_ok-edges.ensures.within 1000000000 c.requires) (loop-closed c.args.points.now _ c.in_ok-edges.ensures))
    is) c.slabs_of_edges.ensures

pub returns-in_err-edges-clause-slabs : goal.returns-in_err-edges-clause-slabs
returns-in_err-edges-clause-slabs c = IfOk-from_err _ _ c.from_residual.ensures.0

pub returns-in_err-edges-clause-within : goal.returns-in_err-edges-clause-within
returns-in_err-edges-clause-within c = IfOk-from_err _ _ c.from_residual.ensures.0
