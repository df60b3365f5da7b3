use Rattle.dpl_spec_split.specs.Squares.{Covers}
use Rattle.dpl_slabs.specs.Slices.{Without}
use Rattle.dpl_slabs.proofs.SetLaws.{slabs-of-same}
use Rattle.dpl_slabs.proofs.SliceLaws.{without-within}
use Rattle.std.proofs.lemmas.Result.{IfOk-from_err}
use Rattle.dpl_slabs.proofs.slices.slabs_without.Goals as goal

pub returns-in-Some-clause-slabs : goal.returns-in-Some-clause-slabs
returns-in-Some-clause-slabs g c =
    let pieces = rw c.in-Some.is at c.in_ok-pieces.ensures in
    slabs-of-same (Covers c.in-Some.pieces.items) (Without c.args.rects.now c.args.holes.now) _ pieces.covers c.slabs_of.ensures

pub returns-in-Some-clause-within : goal.returns-in-Some-clause-within
returns-in-Some-clause-within g c = without-within c.args.rects.now c.args.holes.now _ c.requires.rects c.requires.holes (returns-in-Some-clause-slabs g c)

pub returns-in_err-pieces-clause-slabs : goal.returns-in_err-pieces-clause-slabs
returns-in_err-pieces-clause-slabs g c = IfOk-from_err _ _ c.from_residual.ensures.0

pub returns-in_err-pieces-clause-within : goal.returns-in_err-pieces-clause-within
returns-in_err-pieces-clause-within g c = IfOk-from_err _ _ c.from_residual.ensures.0
