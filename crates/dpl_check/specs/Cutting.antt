-- The counts of a cut, and those of a certificate.
use Rattle.std.specs.Prelude.{◌≡◌, ◌≢◌, ◌⊎◌, Bool, List, Option, length}
use Rattle.dpl_spec_split.specs.declared.Spacing.{Spacing}
use Rattle.dpl_spec_split.specs.declared.Rect.{Rect}
use Rattle.dpl_spec_split.specs.Decomposition.{Cut}
use Rattle.dpl_spec_split.specs.Marks.{Marks}
use Rattle.dpl_cert.specs.declared.cert.Gain.{Gain}
use Rattle.dpl_cert.specs.declared.cert.Head.{Head}
use Rattle.dpl_spec_verdict.specs.declared.Verdict.{Verdict}
use Rattle.dpl_spec_verdict.specs.declared.Verdict.TheVariants.{Counts}
use Rattle.dpl_piece.specs.View.{cut_view}
use Rattle.dpl_spec_verdict.specs.Conflicts.{Claim, VerdictOfCycle}
use Rattle.dpl_spec_verdict.specs.Gains.{HasOtherPieces, ShowsOtherPieces, VerdictOfLines}
use Rattle.dpl_spec_verdict.specs.Order.{FirstOf}
use Rattle.dpl_cut.specs.declared.LayerCut.{LayerCut}

-- the counts of a cut
abbrev pub ShowsCountsOf : LayerCut → Verdict → Type 0
ShowsCountsOf c v = v ≡ Counts c.features (length c.pieces.parts) (length c.pieces.zones)

-- the certificate counts other pieces or zones
abbrev pub CountsOtherPieces : Head → LayerCut → Type 0
CountsOtherPieces head c = (length c.pieces.parts ≢ head.pieces) ⊎ (length c.pieces.zones ≢ head.zones)

-- the certificate counts other features, pieces or zones
abbrev pub HasOtherCounts : Head → LayerCut → Type 0
HasOtherCounts head c = (c.features ≢ head.features) ⊎ ((length c.pieces.parts ≢ head.pieces) ⊎ (length c.pieces.zones ≢ head.zones))

-- what is said of lines of gains by a cut
abbrev pub VerdictOfGainsByCut : Option Marks → Spacing → Cut → Head → List Bool → List Gain → Verdict → Type 0
VerdictOfGainsByCut marks spacing cut head colours lines = FirstOf (HasOtherPieces cut head) ShowsOtherPieces (VerdictOfLines marks spacing cut colours lines)

-- what is said of an odd cycle by a cut; it doesn't matter here what its features are
abbrev pub VerdictOfConflictByCut : Option Marks → Spacing → LayerCut → Claim → Verdict → Type 0
VerdictOfConflictByCut marks spacing cut c = FirstOf (HasOtherCounts c.head cut) (ShowsCountsOf cut)
    (λ v. (features : List (List Rect)) → VerdictOfCycle marks spacing (cut_view features cut.pieces) c v)
