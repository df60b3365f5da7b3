use Rattle.std.proofs.Common.{length, drop, ◌∙◌, rules}
use Rattle.std.specs.Prelude.{ℤ}
use Rattle.std.proofs.lemmas.List.Sorted.{answers_always, IsPermutation-trans, length_permutation}
use Rattle.std.proofs.lemmas.Result.{IfOk-from_err}
use Rattle.dpl_sides.specs.declared.piece.Piece.{Piece}
use Rattle.dpl_sides.specs.Pieces.{least_key}
use Rattle.dpl_sides.proofs.Noting.{written-back}
use Rattle.dpl_sides.proofs.sorted.sort_by_least.Goals as goal

pub returns-clause-same : goal.returns-clause-same
returns-clause-same c =
    let arranged = rw c.deref_mut.ensures.value at c.in_ok-arrange.ensures in
    let same = written-back c.arrange.new.pieces (drop (length c.arrange.new.pieces) c.args.pieces.now.items) c.args.pieces.now.len
    (length_permutation _ _ c.in_ok-arrange.ensures ∙ c.deref_mut.ensures.len) in
    IsPermutation-trans _ _ _ arranged (rw same at c.sort_by_key.ensures.permutation)

pub returns-clause-rise : goal.returns-clause-rise
returns-clause-rise c =
    let key : Piece → ℤ × ℤ = λ x. least_key x.part in
    c.sort_by_key.ensures.sorted key (answers_always _ _ _ (λ f a r g q. search rules))

pub returns-in_err-arrange-clause-same : goal.returns-in_err-arrange-clause-same
returns-in_err-arrange-clause-same c = IfOk-from_err _ _ c.from_residual.ensures.0

pub returns-in_err-arrange-clause-rise : goal.returns-in_err-arrange-clause-rise
returns-in_err-arrange-clause-rise c = IfOk-from_err _ _ c.from_residual.ensures.0
