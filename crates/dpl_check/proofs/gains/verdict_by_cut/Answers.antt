use Rattle.std.proofs.Common.{refl, inl, inr}
use Rattle.std.proofs.lemmas.Result.{IfOk-from_err}
use Rattle.std.proofs.lemmas.Bool.{false≢true}
use Rattle.dpl_check.proofs.gains.verdict_by_cut.Goals as goal

pub returns-then-counts_other_pieces : goal.returns-then-counts_other_pieces
returns-then-counts_other_pieces c = λ features marks set. inl (c.counts_other_pieces.ensures.0 c.if-counts_other_pieces.true, refl)

pub returns-in-Some : goal.returns-in-Some
returns-in-Some c = λ features marks set.
    let found = rw (c.deref.ensures.value, c.in_ok-letters.ensures) at (c.in_ok-found.ensures features marks set) in
    let first = rw (c.in-Some.is, c.deref-2.ensures.value) at c.first_bad.ensures.some in
    inr (
      (λ other. false≢true (c.if-counts_other_pieces.ensures.1 other)),
      (c.in_ok-found.found.items, found, inl ((c.in-Some.index, first.is), (c.in-Some.index, first, refl))),
    )

pub returns : goal.returns
returns c = λ features marks set.
    let found = rw (c.deref.ensures.value, c.in_ok-letters.ensures) at (c.in_ok-found.ensures features marks set) in
    let none = rw (c.in-None.is, c.deref-2.ensures.value) at c.first_bad.ensures.none in
    inr (
      (λ other. false≢true (c.if-counts_other_pieces.ensures.1 other)),
      (c.in_ok-found.found.items, found, inr (none, refl)),
    )

pub returns-in_err-letters : goal.returns-in_err-letters
returns-in_err-letters c = λ features marks set. IfOk-from_err _ _ c.from_residual.ensures.0

pub returns-in_err-found : goal.returns-in_err-found
returns-in_err-found c = λ features marks set. IfOk-from_err _ _ c.from_residual-in_err-found.ensures.0
