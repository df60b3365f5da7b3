use Rattle.std.proofs.Common.{inl, inr}
use Rattle.std.proofs.lemmas.List.Elements.{Contains-append_left, Contains-append_right}
use Rattle.std.proofs.lemmas.List.Sorted.{Contains-permutation}
use Rattle.std.proofs.lemmas.Result.{IfOk-from_err}
use Rattle.dpl_bars.proofs.alone.by_left.Goals as goal

pub returns-clause-all : goal.returns-clause-all
returns-clause-all c =
    let same = rw (c.in_ok-extend_from_slice-2.ensures.items, c.in_ok-extend_from_slice.ensures.items, c.in_ok-near.ensures.items) at c.sort_by_left.ensures.same in
    λ r h. Contains-permutation _ _ r same (elim h [
      | inl k ↦ Contains-append_left c.args.others.now c.args.beside.now r k
      | inr k ↦ Contains-append_right c.args.others.now c.args.beside.now r k
    ])

pub returns-in_err-near-clause-all : goal.returns-in_err-near-clause-all
returns-in_err-near-clause-all c = IfOk-from_err _ _ c.from_residual.ensures.0

pub returns-in_err-near-clause-rise : goal.returns-in_err-near-clause-rise
returns-in_err-near-clause-rise c = IfOk-from_err _ _ c.from_residual.ensures.0

pub returns-in_err-extend_from_slice-clause-all : goal.returns-in_err-extend_from_slice-clause-all
returns-in_err-extend_from_slice-clause-all c = IfOk-from_err _ _ c.from_residual-in_err-extend_from_slice.ensures.0

pub returns-in_err-extend_from_slice-clause-rise : goal.returns-in_err-extend_from_slice-clause-rise
returns-in_err-extend_from_slice-clause-rise c = IfOk-from_err _ _ c.from_residual-in_err-extend_from_slice.ensures.0

pub returns-in_err-extend_from_slice-2-clause-all : goal.returns-in_err-extend_from_slice-2-clause-all
returns-in_err-extend_from_slice-2-clause-all c = IfOk-from_err _ _ c.from_residual-in_err-extend_from_slice-2.ensures.0

pub returns-in_err-extend_from_slice-2-clause-rise : goal.returns-in_err-extend_from_slice-2-clause-rise
returns-in_err-extend_from_slice-2-clause-rise c = IfOk-from_err _ _ c.from_residual-in_err-extend_from_slice-2.ensures.0
