-- What is drawn of a layout with markers, before it is laid out.
use Rattle.std.specs.Prelude.{◌≡◌, ℕ, List, Option, Some, None}
use Rattle.dpl_spec_split.specs.declared.Rect.{Rect}
use Rattle.dpl_spec_format.specs.Tree.{Library}
use Rattle.dpl_spec_format.specs.Layout.{Holds}
use Rattle.dpl_spec_layout.specs.declared.Layer.{Layer as ChosenLayer}
use Rattle.dpl_spec_layout.specs.Structures.{IsTop}
use Rattle.dpl_spec_layout.specs.Faults.{IsFirstFault}
use Rattle.dpl_flatten.specs.Drawing.{Drawn, IsDrawingOf}
use Rattle.dpl_layer.specs.Reading.{chosen, copied_of}
use Rattle.dpl_layer.specs.Marked.{AreSquaresBelow, MarkedChoice, marker}
use Rattle.dpl_layer.specs.declared.marked.Markers.{Markers}
use Rattle.dpl_layer.specs.declared.marked.Markers.TheVariants.{Unasked, Drawn as DrawnMarkers, Faulty as FaultyMarkers}

-- what is drawn of the markers, or their first fault
abbrev pub AreMarkersOf : Library → ℕ → Option ℕ → Markers → Type 0
AreMarkersOf lib top None Unasked = Unit {0}
AreMarkersOf lib top None (DrawnMarkers d) = ⊥
AreMarkersOf lib top None (FaultyMarkers f) = ⊥
AreMarkersOf lib top (Some n) Unasked = ⊥
AreMarkersOf lib top (Some n) (DrawnMarkers d) = IsDrawingOf lib top (marker n) d
AreMarkersOf lib top (Some n) (FaultyMarkers f) = IsFirstFault lib top (marker n) f

-- a drawing of the layer of the library, and what is drawn of its markers
pub record HasMarkedDrawingIn (v : MarkedChoice) (lib : Library) (copied : List ℕ) (d : Drawn) (a b : Markers) : Type 0 where
  pub top : ℕ
  pub is_top : IsTop lib v.layer.top top
  pub before : copied_of lib top ≡ Some copied
  pub drawing : IsDrawingOf lib top (chosen v.layer) d
  pub markers_a : AreMarkersOf lib top v.mark_a a
  pub markers_b : AreMarkersOf lib top v.mark_b b

abbrev pub HasMarkedDrawing : MarkedChoice → List ℕ → List ℕ → Drawn → Markers → Markers → Type 0
HasMarkedDrawing v bytes copied d a b = (lib : Library) × Holds bytes lib × HasMarkedDrawingIn v lib copied d a b

-- a drawing has these squares, of whatever layer it is
abbrev pub HasSquares : Drawn → List Rect → Type 0
HasSquares d slabs = (lib : Library) (top : ℕ) (layer : ChosenLayer) → IsDrawingOf lib top layer d → AreSquaresBelow lib top layer slabs
