-- The squares of a layer on which markers lie, and the first fault of a layout with markers.
use Rattle.std.proofs.Common.{inl, inr, List, ℕ, Option, Some, None}
use Rattle.dpl_spec_split.specs.declared.Rect.{Rect}
use Rattle.dpl_spec_split.specs.Squares.{Covers}
use Rattle.dpl_spec_split.specs.Slabs.{AreSlabsOf}
use Rattle.dpl_spec_format.specs.Tree.{Library}
use Rattle.dpl_spec_layout.specs.declared.Layer.{Layer as ChosenLayer}
use Rattle.dpl_flatten.specs.Drawing.{Drawn, IsDrawingOf}
use Rattle.dpl_layer.specs.Drawn.{AreMarkersOf, HasMarkedDrawing, HasSquares}
use Rattle.dpl_layer.specs.Marked.{AreFaultless, AreMarked, IsMarkedLayout, MarkedChoice, MarkedLayer, marker}
use Rattle.dpl_layer.specs.Reading.{chosen}
use Rattle.dpl_layer.specs.View.{IsFaultOfLayer, IsMarkedFault, IsMarkersFault}
use Rattle.dpl_layer.specs.declared.fault.LayerFault.{LayerFault}
use Rattle.dpl_layer.specs.declared.fault.LayerFault.TheVariants.{NoMemory, Refused}
use Rattle.dpl_layer.specs.declared.marked.Markers.{Markers}
use Rattle.dpl_layer.specs.declared.marked.Markers.TheVariants.{Drawn as DrawnMarkers}
use Rattle.dpl_layer.proofs.Layers.{slabs_same}

-- ---- one set of markers

-- a drawing has this fault, of whatever layer it is
abbrev pub HasFault : Drawn → LayerFault → Type 0
HasFault d e = (lib : Library) (top : ℕ) (layer : ChosenLayer) → IsDrawingOf lib top layer d → IsFaultOfLayer lib top layer e

-- what both have is where a marker lies on the layer
pub drawn_marked : (lib : Library) (top : ℕ) (n : Option ℕ) (d : Drawn) (squares layer set : List Rect) → HasSquares d squares
    → AreSlabsOf (λ p. Covers squares p × Covers layer p) set → AreMarkersOf lib top n (DrawnMarkers d) → AreMarked lib top n layer set
drawn_marked lib top None d squares layer set has both h = absurd h
drawn_marked lib top (Some n) d squares layer set has both h =
    let s = (has lib top (marker n) h).squares in
    slabs_same _ _ _ both (λ p. (λ i. ((s.covers p).0 i.0, i.1), λ i. ((s.covers p).1 i.0, i.1)))

-- ---- the layer, and both sets of markers

-- markers have no fault, and lie on these squares of a layer
abbrev pub HasNoFault : Markers → Type 0
HasNoFault markers = (lib : Library) (top : ℕ) (n : Option ℕ) → AreMarkersOf lib top n markers → AreFaultless lib top n

abbrev pub HasMarked : Markers → List Rect → List Rect → Type 0
HasMarked markers layer set = (lib : Library) (top : ℕ) (n : Option ℕ) → AreMarkersOf lib top n markers → AreMarked lib top n layer set

-- or they have this fault
abbrev pub HasMarkersFault : Markers → LayerFault → Type 0
HasMarkersFault markers e = (lib : Library) (top : ℕ) (n : Option ℕ) → AreMarkersOf lib top n markers → IsMarkersFault lib top n e

module _ (v : MarkedChoice) (bytes copied : List ℕ) (d : Drawn) (ma mb : Markers) (has : HasMarkedDrawing v bytes copied d ma mb) where
  pub marked_layer : (slabs a b : List Rect) → HasSquares d slabs → HasNoFault ma → HasMarked ma slabs a → HasNoFault mb → HasMarked mb slabs b
      → IsMarkedLayout v bytes (MarkedLayer copied slabs a b)
  marked_layer slabs a b squares sound_a marked_a sound_b marked_b =
      let (lib, holds, are) = has in
      let s = squares lib are.top (chosen v.layer) are.drawing in (
        lib,
        holds,
        record {
          layer = record { top = are.top; is_top = are.is_top; faultless = s.faultless; before = are.before; squares = s.squares };
          faultless_a = sound_a lib are.top v.mark_a are.markers_a;
          faultless_b = sound_b lib are.top v.mark_b are.markers_b;
          marked_a = marked_a lib are.top v.mark_a are.markers_a;
          marked_b = marked_b lib are.top v.mark_b are.markers_b;
        },
      )

  -- the layer's fault is tried first
  pub fault_of_layer : (e : LayerFault) → HasFault d e → IsMarkedFault v bytes e
  fault_of_layer NoMemory of = tt
  fault_of_layer (Refused name at) of =
      let (lib, holds, are) = has in
      let (f, first, named) = of lib are.top (chosen v.layer) are.drawing in
      inr (lib, holds, inl (inr (are.top, f, are.is_top, first, named)))

  -- then that of the markers of mask A
  pub fault_of_a : (e : LayerFault) (slabs : List Rect) → HasSquares d slabs → HasMarkersFault ma e → IsMarkedFault v bytes e
  fault_of_a NoMemory slabs squares of = tt
  fault_of_a (Refused name at) slabs squares of =
      let (lib, holds, are) = has in
      let s = squares lib are.top (chosen v.layer) are.drawing in
      inr (lib, holds, inr (are.top, are.is_top, s.faultless, inl (of lib are.top v.mark_a are.markers_a)))

  -- and then that of those of mask B
  pub fault_of_b : (e : LayerFault) (slabs : List Rect) → HasSquares d slabs → HasNoFault ma → HasMarkersFault mb e → IsMarkedFault v bytes e
  fault_of_b NoMemory slabs squares sound of = tt
  fault_of_b (Refused name at) slabs squares sound of =
      let (lib, holds, are) = has in
      let s = squares lib are.top (chosen v.layer) are.drawing in
      inr (lib, holds, inr (are.top, are.is_top, s.faultless, inr (sound lib are.top v.mark_a are.markers_a, of lib are.top v.mark_b are.markers_b)))
