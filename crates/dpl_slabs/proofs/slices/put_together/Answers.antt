use Rattle.std.proofs.Common.{◌++◌}
use Rattle.std.proofs.lemmas.List.Sorted.{IsPermutation-append_comm, IsPermutation-refl}
use Rattle.std.proofs.lemmas.Result.{IfOk-from_err}
use Rattle.dpl_slabs.proofs.slices.put_together.Goals.{then-len, else-len}
use Rattle.dpl_slabs.proofs.slices.put_together.Goals as goal

pub returns : goal.returns
returns c =
    let first = c.args.first.items in
    let second = c.args.second.items in
    rw (c.in_ok-extend_from_slice.ensures.items, c.deref.ensures.value)
    (elim c.if-len.branch [
      | then-len w ↦ rw w.all-is (IsPermutation-append_comm first second)
      | else-len w ↦ rw w.all-is (IsPermutation-refl (first ++ second))
    ])

pub returns-in_err-extend_from_slice : goal.returns-in_err-extend_from_slice
returns-in_err-extend_from_slice c = IfOk-from_err _ _ c.from_residual.ensures.0
