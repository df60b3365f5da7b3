-- A layer cut into pieces, in the words of the definitions.
use Rattle.std.specs.Prelude.{◌≡◌, ℕ, List, length, Option}
use Rattle.std.specs.List.{Contains}
use Rattle.dpl_spec_split.specs.declared.Spacing.{Spacing}
use Rattle.dpl_spec_split.specs.declared.Pt.{Pt}
use Rattle.dpl_spec_split.specs.declared.Rect.{Rect}
use Rattle.dpl_spec_split.specs.Squares.{Region}
use Rattle.dpl_spec_split.specs.Marks.{Marks}
use Rattle.dpl_spec_split.specs.Decomposition.{Cut, IsCut}
use Rattle.dpl_piece.specs.Cutting.{Completes, CutPieces}
use Rattle.dpl_piece.specs.View.{cut_view}
use Rattle.dpl_cert.specs.Grammar.{IsPoint}
use Rattle.dpl_cut.specs.declared.LayerCut.{LayerCut}
use Rattle.dpl_cut.specs.declared.BareLayerCut.{BareLayerCut}

-- the pieces are those of so many features of the layer
abbrev pub IsCutOf : Option Marks → Spacing → ℕ → Region → LayerCut → Type 0
IsCutOf marks spacing overlap layer c = (features : List (List Rect)) × (length features ≡ c.features) × IsCut marks spacing overlap layer (cut_view features c.pieces)

-- the pieces, once completed, are those of so many features of the layer
abbrev pub IsBareCutOf : Option Marks → Spacing → ℕ → Region → BareLayerCut → Type 0
IsBareCutOf marks spacing overlap layer c = (features : List (List Rect)) × (length features ≡ c.features) × ((p : CutPieces) → Completes c.pieces p
    → IsCut marks spacing overlap layer (cut_view features p))

-- the keys of the pieces, however they are completed, lie in the range of certificates
abbrev pub HasPointKeys : BareLayerCut → Type 0
HasPointKeys c = (p : CutPieces) (key : Pt) → Completes c.pieces p → Contains p.keys key → IsPoint key

-- it holds of a cut into these pieces, whatever its features are, of which there are so many
abbrev pub OfAnyCut : LayerCut → (Cut → Type 0) → Type 0
OfAnyCut c P = (features : List (List Rect)) → length features ≡ c.features → P (cut_view features c.pieces)

-- it holds of a cut into these pieces, completed in some way, whatever its features are, of which there are so many
abbrev pub OfCompleted : BareLayerCut → (Cut → Type 0) → Type 0
OfCompleted c P = (p : CutPieces) × Completes c.pieces p × ((features : List (List Rect)) → length features ≡ c.features → P (cut_view features p))
