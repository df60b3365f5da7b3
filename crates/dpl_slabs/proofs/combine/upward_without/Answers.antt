use Rattle.std.proofs.lemmas.Option.{IfSome_then}
use Rattle.std.proofs.lemmas.Result.{IfOk-weaker, IfOk-from_err}
use Rattle.dpl_slabs.specs.Slices.{Without}
use Rattle.dpl_slabs.proofs.SliceLaws.{without-sorted}
use Rattle.dpl_slabs.proofs.SetLaws.{slabs-of-same}
use Rattle.dpl_slabs.proofs.combine.upward_without.Goals as goal

pub returns : goal.returns
returns c =
    let firsts = c.in_ok-rects.ensures.same in
    let seconds = c.in_ok-holes.ensures.same in
    IfOk-weaker c.slabs_upward_without.result _ _ (λ found is. IfSome_then found is (λ v slabs.
    slabs-of-same (Without _ _) (Without c.args.rects.now c.args.holes.now) v.items (without-sorted _ _ _ _ firsts seconds) slabs))
    (rw (c.deref.ensures.value, c.deref-2.ensures.value) at c.slabs_upward_without.ensures)

pub returns-in_err-rects : goal.returns-in_err-rects
returns-in_err-rects c = IfOk-from_err _ _ c.from_residual.ensures.0

pub returns-in_err-holes : goal.returns-in_err-holes
returns-in_err-holes c = IfOk-from_err _ _ c.from_residual-in_err-holes.ensures.0
