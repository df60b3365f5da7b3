-- What is broken first, by what is found broken in part.
use Rattle.std.proofs.Common.{ℕ, inl, inr, Option, Some, None}
use Rattle.dpl_spec_split.specs.declared.Spacing.{Spacing}
use Rattle.dpl_spec_split.specs.Marks.{Marks}
use Rattle.dpl_spec_verdict.specs.declared.Verdict.{Verdict}
use Rattle.dpl_spec_verdict.specs.Masks.{Claim, VerdictFromMarked, VerdictFromOverlap, VerdictFromPieces}
use Rattle.dpl_check.specs.Claims.{IsBrokenByMarks, IsBrokenOnMasks}

module _ (marks : Option Marks) (spacing : Spacing) (overlap : ℕ) (c : Claim) (v : Verdict) where
  pub found-on-masks : IsBrokenOnMasks spacing c (Some v) → VerdictFromOverlap marks spacing overlap c v
  found-on-masks (inl doubled) = inl doubled
  found-on-masks (inr (listed, inl near)) = inr (listed, inl near)
  found-on-masks (inr (listed, inr (apart, near))) = inr (listed, inr (apart, inl near))

  pub nothing-on-masks : IsBrokenOnMasks spacing c None → VerdictFromMarked marks spacing overlap c v → VerdictFromOverlap marks spacing overlap c v
  nothing-on-masks (listed, (apart_a, apart_b)) told = inr (listed, inr (apart_a, inr (apart_b, told)))

  pub found-by-marks : IsBrokenByMarks marks overlap c (Some v) → VerdictFromMarked marks spacing overlap c v
  found-by-marks (inl misplaced) = inl misplaced
  found-by-marks (inr (placed, bad)) = inr (placed, inl bad)

  pub nothing-by-marks : IsBrokenByMarks marks overlap c None → VerdictFromPieces marks spacing overlap c v → VerdictFromMarked marks spacing overlap c v
  nothing-by-marks (placed, right) told = inr (placed, inr (right, told))
