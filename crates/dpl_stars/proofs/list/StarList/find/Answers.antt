use Rattle.std.proofs.Common.{rules}
use Rattle.std.proofs.lemmas.List.Sorted.{answers_always}
use Rattle.dpl_stars.proofs.Finding.{pieces-rise, found-row, absent-row}
use Rattle.dpl_stars.proofs.list.StarList.find.Goals as goal

pub returns-in-Ok : goal.returns-in-Ok
returns-in-Ok c =
    let by_key = c.in-Ok.ensures.position (λ r. r.piece) (answers_always _ _ _ (λ f a r g called. search rules)) in
    rw (← c.self.view_is, ← c.as_slice-rows.ensures.value)
    (found-row (λ r. r.piece) _ (rw c.as_slice-rows.ensures.value (pieces-rise _ c.self.invariant.rising)) c.args.piece _ _
    c.in-Ok.ensures.bound by_key)

pub returns-in-Err : goal.returns-in-Err
returns-in-Err c =
    let by_key = c.in-Err.ensures.position (λ r. r.piece) (answers_always _ _ _ (λ f a r g called. search rules)) in
    rw (← c.self.view_is, ← c.as_slice-rows.ensures.value)
    (absent-row (λ r. r.piece) _ (rw c.as_slice-rows.ensures.value (pieces-rise _ c.self.invariant.rising)) c.args.piece _ by_key)
