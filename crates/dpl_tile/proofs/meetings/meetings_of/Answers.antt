use Rattle.std.proofs.lemmas.Result.{IfOk-from_err}
use Rattle.dpl_tile.proofs.meetings.meetings_of.Goals as goal

pub returns : goal.returns
returns c = record {
  all = λ m. (
    λ h. (c.in_ok-meetings.ensures m).0 ((c.sort_by_place.ensures.same m).0 h),
    λ h. (c.sort_by_place.ensures.same m).1 ((c.in_ok-meetings.ensures m).1 h),
  );
  rise = c.sort_by_place.ensures.rise;
}

pub returns-in_err-meetings : goal.returns-in_err-meetings
returns-in_err-meetings c = IfOk-from_err _ _ c.from_residual.ensures.0
