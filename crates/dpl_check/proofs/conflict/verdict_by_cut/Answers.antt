use Rattle.std.proofs.Common.{refl, inl, inr}
use Rattle.std.proofs.lemmas.Result.{IfOk-from_err}
use Rattle.std.proofs.lemmas.Bool.{false≢true}
use Rattle.dpl_check.proofs.conflict.verdict_by_cut.Goals as goal

pub returns-then-counts_differ : goal.returns-then-counts_differ
returns-then-counts_differ c = λ layer. inl (c.counts_differ.ensures.0 c.if-counts_differ.true, c.counts_of.ensures)

pub returns-in-Some : goal.returns-in-Some
returns-in-Some c = λ layer. inr (
  (λ other. false≢true (c.if-counts_differ.ensures.1 other)),
  (λ features. (let found = rw c.in-Some.is at (c.in_ok-place.ensures features) in inl ((c.in-Some.place, found.inside, found.is), (c.in-Some.place, found, refl)))),
)

pub returns-in-None : goal.returns-in-None
returns-in-None c = λ layer. inr (
  (λ other. false≢true (c.if-counts_differ.ensures.1 other)),
  (λ features. inr (rw c.in-None.is at (c.in_ok-place.ensures features), refl)),
)

pub returns-in_err-place : goal.returns-in_err-place
returns-in_err-place c = λ layer. IfOk-from_err _ _ c.from_residual.ensures.0
