use Rattle.std.proofs.Common.{ℕ, rules}
use Rattle.std.proofs.lemmas.List.Sorted.{Contains-permutation, IsPermutation-sym, answers_always}
use Rattle.dpl_tile.specs.declared.meetings.Meeting.{Meeting}
use Rattle.dpl_tile.proofs.MeetingLaws.{rise-by_place}
use Rattle.dpl_tile.proofs.meetings.sort_by_place.Goals as goal

pub returns-clause-same : goal.returns-clause-same
returns-clause-same c = λ m. (
  λ h. Contains-permutation _ _ m (IsPermutation-sym _ _ c.sort_by_key.ensures.permutation) h,
  λ h. Contains-permutation _ _ m c.sort_by_key.ensures.permutation h,
)

pub returns-clause-rise : goal.returns-clause-rise
returns-clause-rise c =
    let key : Meeting → ℕ × ℕ = λ m. m.place in
    rise-by_place _ (c.sort_by_key.ensures.sorted key (answers_always _ _ _ (λ f a r g q. search rules)))
