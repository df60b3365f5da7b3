-- The stitches of a split.
use Rattle.std.specs.Prelude.{None, ◌≡◌, ℕ, List, length, map}
use Rattle.dpl_spec_split.specs.declared.Spacing.{Spacing}
use Rattle.dpl_spec_split.specs.declared.Rect.{Rect}
use Rattle.dpl_spec_split.specs.Squares.{Covers, uniform}
use Rattle.dpl_spec_split.specs.Decomposition.{Cut, IsCut, Masks, IsAnswer, Done, InConflict}
use Rattle.dpl_law_verdict.specs.Own.{stitch_line}
use Rattle.dpl_layer.specs.Reading.{Choice, Faulty, IsLayout, Layer}
use Rattle.dpl_view.specs.declared.status.Status.{Status}
use Rattle.dpl_view.specs.declared.status.Status.TheVariants as status
use Rattle.dpl_view.specs.declared.stitches.Seams.{Seams}
use Rattle.dpl_view.specs.declared.stitches.Seams.TheVariants.{Stitches, Conflict}
use Rattle.dpl_view.specs.declared.stitches.Split.{Split}
use Rattle.dpl_view.specs.declared.stitches.Split.TheVariants.{Refused, Answered}

-- the stitches of the masks of a cut, in order, each with the pieces on its sides; or the length of the reported cycle, where there are no masks
abbrev pub AreSeams : Spacing → Cut → Seams → Type 0
AreSeams spacing cut (Stitches found) = (m : Masks) × IsAnswer None spacing cut (Done m) × (found ≡ map (stitch_line cut.zones cut.sides) m.stitches)
AreSeams spacing cut (Conflict count) = (cycle : List ℕ) × IsAnswer None spacing cut (InConflict cycle) × (count ≡ length cycle)

-- the first fault of the layout, or the stitches of its layer's decomposition
abbrev pub IsSplit : Choice → ℕ → ℕ → List ℕ → Split → Type 0
IsSplit v rule overlap bytes (Refused name at) = IsLayout v bytes (Faulty name at)
IsSplit v rule overlap bytes (Answered copied seams) = (layer : List Rect) × IsLayout v bytes (Layer copied.items layer)
    × (cut : Cut) × IsCut None (uniform rule) overlap (Covers layer) cut × AreSeams (uniform rule) cut seams

abbrev pub status_of_seams : Seams → Status
status_of_seams (Stitches found) = status.Done
status_of_seams (Conflict count) = status.Conflict

abbrev pub status_of_split : Split → Status
status_of_split (Refused name at) = status.Refused
status_of_split (Answered copied seams) = status_of_seams seams
