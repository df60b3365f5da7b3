use Rattle.std.specs.Prelude.{◌⊎◌}
use Rattle.dpl_spec_split.specs.Squares.{Covers}
use Rattle.dpl_spec_split.specs.Loops.{SomeLoopCovers}
use Rattle.dpl_slabs.proofs.LoopLaws.{shapes-all}
use Rattle.dpl_slabs.proofs.SetLaws.{slabs-of-same}
use Rattle.std.proofs.lemmas.Result.{IfOk-from_err}
use Rattle.dpl_slabs.proofs.slabs.Slabs.of_shapes_in.Goals as goal

pub rects_of_loops-requires-clause-loops : goal.rects_of_loops-requires-clause-loops
rects_of_loops-requires-clause-loops g c = rw c.deref.ensures.value c.requires.loops

pub slabs_of_rects-requires-clause-within : goal.slabs_of_rects-requires-clause-within
slabs_of_rects-requires-clause-within g c =
    (shapes-all c.args.loops.items c.args.rects.items _ _ c.requires.rects (rw c.deref.ensures.value at c.in_ok-others.ensures) c.in_ok-all.ensures).within

pub returns : goal.returns
returns g c =
    rw c.of_canonical.ensures
    (slabs-of-same (Covers c.in_ok-all.all.items) (λ p. Covers c.args.rects.items p ⊎ SomeLoopCovers c.args.loops.items p) _
    (shapes-all c.args.loops.items c.args.rects.items _ _ c.requires.rects (rw c.deref.ensures.value at c.in_ok-others.ensures) c.in_ok-all.ensures).covers
    c.in_ok-slabs.ensures.slabs)

pub returns-in_err-others : goal.returns-in_err-others
returns-in_err-others g c = IfOk-from_err _ _ c.from_residual.ensures.0

pub returns-in_err-all : goal.returns-in_err-all
returns-in_err-all g c = IfOk-from_err _ _ c.from_residual-in_err-all.ensures.0

pub returns-in_err-slabs : goal.returns-in_err-slabs
returns-in_err-slabs g c = IfOk-from_err _ _ c.from_residual-in_err-slabs.ensures.0
