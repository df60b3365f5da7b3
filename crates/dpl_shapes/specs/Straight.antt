-- Points whose neighbours lie in one row or one column, and the ways that segments go.
use Rattle.std.specs.Prelude.{◌≡◌, ℕ, ◌+◌, ◌<◌, List, slice_index_or}
use Rattle.dpl_spec_split.specs.declared.Pt.{Pt}
use Rattle.dpl_spec_split.specs.Loops.{IsLevelOrUpright}
use Rattle.dpl_spec_elements.specs.Paths.{heading, back}

-- each segment between the first n points is parallel to an axis
abbrev pub IsStraightBelow : List Pt → ℕ → Type 0
IsStraightBelow ps n = (k : ℕ) (d : Pt) → k + 1 < n → IsLevelOrUpright (slice_index_or ps k d) (slice_index_or ps (k + 1) d)

-- no two consecutive segments between the first n points have opposite directions
abbrev pub GoesOnBelow : List Pt → ℕ → Type 0
GoesOnBelow ps n = (k : ℕ) (d : Pt) → k + 2 < n → heading (slice_index_or ps (k + 1) d) (slice_index_or ps (k + 2) d) ≡ back
    (heading (slice_index_or ps k d) (slice_index_or ps (k + 1) d)) → ⊥
