-- The cut of a layer, from its parts.
use Rattle.std.proofs.Common.{◌≡◌, ◌∙◌, ℕ, List, subst, sym}
use Rattle.std.specs.Prelude.{IfOk, Option, Result, Ok, Err}
use Rattle.dpl_spec_split.specs.declared.Spacing.{Spacing}
use Rattle.dpl_spec_split.specs.declared.Rect.{Rect}
use Rattle.dpl_spec_split.specs.declared.Zone.{Zone}
use Rattle.dpl_spec_split.specs.Squares.{Covers, Region}
use Rattle.dpl_spec_split.specs.Components.{AreComponents}
use Rattle.dpl_spec_split.specs.Zones.{AreZones}
use Rattle.dpl_spec_split.specs.Pieces.{ArePieces}
use Rattle.dpl_spec_split.specs.Marks.{Marks, marked_by}
use Rattle.dpl_spec_split.specs.Decomposition.{IsCut}
use Rattle.dpl_slabs.specs.Parts.{union_of}
use Rattle.dpl_piece.specs.Cutting.{AreTheirPieces, Completes, CutPieces}
use Rattle.dpl_piece.specs.View.{IsMarkedSet, cut_view}
use Rattle.dpl_cut.specs.Cutting.{IsBareCutOf, IsCutOf}
use Rattle.dpl_cut.specs.declared.LayerCut.{LayerCut}
use Rattle.dpl_cut.specs.declared.BareLayerCut.{BareLayerCut}
use Rattle.dpl_cut.proofs.SameZones.{zones_same}

pub is_cut : (marks : Option Marks) (spacing : Spacing) (overlap : ℕ) (layer : List Rect) (features : List (List Rect)) (marked : List Rect) (zones : List Zone) (c : CutPieces)
    → AreComponents (Covers layer) features → AreZones spacing overlap (union_of features) features (Covers marked) zones → IsMarkedSet marked marks → c.zones ≡ zones
    → AreTheirPieces features zones c → IsCut marks spacing overlap (Covers layer) (cut_view features c)
is_cut marks spacing overlap layer features marked zones c components are fixed same pieces = record {
  features = components;
  zones = subst (λ (zs : List Zone). AreZones spacing overlap (Covers layer) features (marked_by marks) zs) (sym same)
      (zones_same spacing overlap (union_of features) (Covers layer) features (Covers marked) (marked_by marks) zones components.together fixed are);
  pieces = subst (λ (zs : List Zone). ArePieces (Covers layer) features zs c.parts c.owners c.keys c.sides) (sym same) (pieces layer components);
}

-- what a bare cut is completed to is a cut
pub completed_cut : {E : Type 0} (marks : Option Marks) (spacing : Spacing) (overlap : ℕ) (layer : Region) (bare : BareLayerCut) (r : Result LayerCut E) → IsBareCutOf marks spacing overlap layer bare
    → IfOk r (λ c. c.features ≡ bare.features) → IfOk r (λ c. Completes bare.pieces c.pieces) → IfOk r (IsCutOf marks spacing overlap layer)
completed_cut marks spacing overlap layer bare (Ok c) (features, many, is) same completed = (features, many ∙ sym same, is c.pieces completed)
completed_cut marks spacing overlap layer bare (Err e) cut same completed = tt
