-- What a valid verdict gives.
use Rattle.std.specs.Prelude.{Option, ◌≡◌, ℕ, ◌+◌, ◌%◌, ◌<◌, ◌↔◌, false, true, List, length, map, slice_index_or}
use Rattle.std.specs.List.{All, Any}
use Rattle.dpl_spec_split.specs.declared.Spacing.{Spacing}
use Rattle.dpl_spec_split.specs.declared.Pt.{Pt}
use Rattle.dpl_spec_split.specs.declared.Rect.{Rect}
use Rattle.dpl_spec_split.specs.Squares.{Covers, Has, IsLeast, Near}
use Rattle.dpl_spec_split.specs.Zones.{part_at}
use Rattle.dpl_spec_split.specs.Components.{Linked}
use Rattle.dpl_spec_split.specs.Graphs.{IsOddCycle}
use Rattle.dpl_spec_split.specs.Decomposition.{Cut, IsCut, cut_graph}
use Rattle.dpl_spec_split.specs.Marks.{Marks, marked_a, marked_b, vertex}
use Rattle.dpl_law_split.specs.Masks.{AreCover}
use Rattle.dpl_cert.specs.declared.cert.Head.{Head}
use Rattle.dpl_cert.specs.declared.cert.PieceLine.{PieceLine}
use Rattle.dpl_cert.specs.declared.cert.StitchLine.{StitchLine}
use Rattle.dpl_cert.specs.declared.cert.PlaceLine.{PlaceLine}
use Rattle.dpl_cert.specs.declared.cert.PlaceLine.TheVariants.{Piece, Anchor}
use Rattle.dpl_cert.specs.declared.cert.NearLine.{NearLine}
use Rattle.dpl_cert.specs.declared.cert.Gain.{Gain}
use Rattle.dpl_cert.specs.declared.cert.Cert.TheVariants.{Masks, Conflict}
use Rattle.dpl_cert.specs.Grammar.{IsCert}
use Rattle.dpl_spec_verdict.specs.declared.Verdict.TheVariants.{Valid}
use Rattle.dpl_spec_verdict.specs.Masks.{IsVerdictOfMasks, is_alone}
use Rattle.dpl_spec_verdict.specs.Conflicts.{IsVerdictOfConflict, AreAsked, AreJoined, place_at}

-- squares of the mask in different features of the layer are not near
abbrev pub StandsApart : Spacing → List Rect → List Rect → Type 0
StandsApart spacing layer mask = (p q : Pt) → Covers mask p → Covers mask q → ¬ Linked (Covers layer) p q → ¬ Near spacing p q

-- masks that cover the layer exactly, keep its features apart and overlap at the stitches alone
pub record AreRight (spacing : Spacing) (layer a b : List Rect) (stitches : List StitchLine) : Type 0 where
  pub cover : AreCover layer a b
  pub apart_on_a : StandsApart spacing layer a
  pub apart_on_b : StandsApart spacing layer b
  pub overlap : (p : Pt) → (Covers a p × Covers b p) ↔ Any (λ s. Has s.rect p) stitches

abbrev pub ValidMasksAreRight : Type 0
ValidMasksAreRight = (marks : Option Marks) (spacing : Spacing) (overlap : ℕ) (layer a b : List Rect) (head : Head) (pieces : List PieceLine) (stitches : List StitchLine) (gains : Option (List Gain))
    → IsVerdictOfMasks marks spacing overlap layer a b (Masks head pieces stitches gains) Valid → AreRight spacing layer a b stitches

-- each square of the layer that is fixed to a mask is on that one alone
pub record KeepMarks (marks : Option Marks) (layer a b : List Rect) : Type 0 where
  pub on_a : (p : Pt) → Covers layer p → marked_a marks p → is_alone a b p
  pub on_b : (p : Pt) → Covers layer p → marked_b marks p → is_alone b a p

abbrev pub ValidMasksKeepMarks : Type 0
ValidMasksKeepMarks = (marks : Option Marks) (spacing : Spacing) (overlap : ℕ) (layer a b : List Rect)
    → (head : Head) (pieces : List PieceLine) (stitches : List StitchLine) (gains : Option (List Gain))
    → IsVerdictOfMasks marks spacing overlap layer a b (Masks head pieces stitches gains) Valid → KeepMarks marks layer a b

-- the vertex of the conflict graph at a place of a cycle
abbrev pub vertex_of : Option Marks → PlaceLine → ℕ
vertex_of marks (Piece n key) = vertex marks n
vertex_of marks (Anchor false) = 0
vertex_of marks (Anchor true) = 1

abbrev pub vertices_of : Option Marks → List PlaceLine → List ℕ
vertices_of marks cycle = map (vertex_of marks) cycle

-- the place names a piece by its least square, or, where marks are asked for, an anchor
abbrev pub IsKeyed : Option Marks → List (List Rect) → PlaceLine → Type 0
IsKeyed marks pieces (Piece n key) = IsLeast (part_at pieces n) key
IsKeyed marks pieces (Anchor b) = AreAsked marks

-- The vertices at these places are an odd cycle of the layer's conflict graph, with its anchors where marks are asked for. Each piece is named by
-- its least square, and each line shows that a place and the next one, the last and the first, are joined. The head has the rules, and how many
-- features, pieces and zones the layer has.
pub record IsCycleOf (marks : Option Marks) (spacing : Spacing) (overlap : ℕ) (layer : List Rect) (head : Head) (cycle : List PlaceLine) (near : List NearLine) : Type 0 where
  pub cut : Cut
  pub is_cut : IsCut marks spacing overlap (Covers layer) cut
  pub rules : (head.rule ≡ spacing.rule) × (head.overlap ≡ overlap) × (head.corner ≡ spacing.corner)
  pub counted : (head.features ≡ length cut.features) × (head.pieces ≡ length cut.pieces) × (head.zones ≡ length cut.zones)
  pub odd : IsOddCycle (cut_graph marks spacing cut) (vertices_of marks cycle)
  pub keyed : All (IsKeyed marks cut.pieces) cycle
  pub shown : (k : ℕ) (d : NearLine) → k < length cycle
      → AreJoined marks spacing cut (place_at cycle k) (place_at cycle ((k + 1) % length cycle)) (slice_index_or near k d)

abbrev pub ValidConflictsAreThere : Type 0
ValidConflictsAreThere = (marks : Option Marks) (spacing : Spacing) (overlap : ℕ) (layer : List Rect) (head : Head) (cycle : List PlaceLine) (near : List NearLine)
    → IsCert (Conflict head cycle near) → IsVerdictOfConflict marks spacing overlap layer (Conflict head cycle near) Valid → IsCycleOf marks spacing overlap layer head cycle near
