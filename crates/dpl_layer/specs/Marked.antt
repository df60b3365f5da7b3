-- What is read of a layout with layers of markers: the squares of the chosen layer, and which of them are fixed to a mask, or the first fault.
use Rattle.std.specs.Prelude.{◌≡◌, ◌⊎◌, ◌<◌, ◌≤◌, ℕ, List, [], length, Option, Some, None}
use Rattle.dpl_spec_split.specs.declared.Rect.{Rect}
use Rattle.dpl_spec_split.specs.Squares.{Covers}
use Rattle.dpl_spec_split.specs.Slabs.{AreSlabsOf}
use Rattle.dpl_spec_format.specs.Tree.{Library}
use Rattle.dpl_spec_format.specs.Layout.{Holds, IsFirstFault as IsFirstSyntaxFault}
use Rattle.dpl_spec_format.specs.Faults.{Fault}
use Rattle.dpl_spec_layout.specs.declared.Layer.{Layer as ChosenLayer}
use Rattle.dpl_spec_layout.specs.declared.FlattenFault.{FlattenFault}
use Rattle.dpl_spec_layout.specs.Structures.{IsTop}
use Rattle.dpl_spec_layout.specs.Placements.{IsInLayer}
use Rattle.dpl_spec_layout.specs.Faults.{IsFaultless, IsFirstFault}
use Rattle.dpl_cert.specs.declared.name.Name.{Name}
use Rattle.dpl_cert.specs.declared.name.Name.TheVariants.{TooLarge}
use Rattle.dpl_layer.specs.Naming.{flatten_name, syntax_name}
use Rattle.dpl_layer.specs.Reading.{Choice, IsFaultIn, IsLayerIn, chosen, limit}

-- what is taken of a layout, and the layers of markers that fix its squares to mask A and to mask B, where they are asked for
pub record MarkedChoice : Type 0 where
  pub layer : Choice
  pub mark_a : Option ℕ
  pub mark_b : Option ℕ

pub data MarkedReading : Type 0 where
  -- the first fault, and where it stands
  FaultyMarked : Name → ℕ → MarkedReading
  -- the copied records, the canonical slabs of the layer, and those of its squares that are fixed to mask A, and to mask B
  MarkedLayer : List ℕ → List Rect → List Rect → List Rect → MarkedReading

-- markers are of datatype 0
abbrev pub marker : ℕ → ChosenLayer
marker n = record { layer = n; datatype = 0 }

-- a layer, in the top and what it reaches, has a fault, by its name and where it stands
abbrev pub IsFaultBelow : Library → ℕ → ChosenLayer → Name → ℕ → Type 0
IsFaultBelow lib top layer name at = (f : FlattenFault) × IsFirstFault lib top layer f × (flatten_name f ≡ Some (name, at))

-- the squares of a layer, in the top and what it reaches, which has no fault
pub record AreSquaresBelow (lib : Library) (top : ℕ) (layer : ChosenLayer) (slabs : List Rect) : Type 0 where
  pub faultless : IsFaultless lib top layer
  pub squares : AreSlabsOf (IsInLayer lib top layer) slabs

-- the first fault of the markers, where there are any
abbrev pub IsFaultOfMarkers : Library → ℕ → Option ℕ → Name → ℕ → Type 0
IsFaultOfMarkers lib top None name at = ⊥
IsFaultOfMarkers lib top (Some n) name at = IsFaultBelow lib top (marker n) name at

abbrev pub AreFaultless : Library → ℕ → Option ℕ → Type 0
AreFaultless lib top None = Unit {0}
AreFaultless lib top (Some n) = IsFaultless lib top (marker n)

-- the squares of a layer on which a marker lies
abbrev pub AreMarked : Library → ℕ → Option ℕ → List Rect → List Rect → Type 0
AreMarked lib top None layer set = set ≡ []
AreMarked lib top (Some n) layer set = AreSlabsOf (λ p. IsInLayer lib top (marker n) p × Covers layer p) set

-- A fault of the layer is tried first, then one of the markers of mask A, and then one of those of mask B.
abbrev pub IsMarkedFaultIn : MarkedChoice → Library → Name → ℕ → Type 0
IsMarkedFaultIn v lib name at =
    IsFaultIn v.layer lib name at
    ⊎ ((top : ℕ) × IsTop lib v.layer.top top × IsFaultless lib top (chosen v.layer)
    × (IsFaultOfMarkers lib top v.mark_a name at ⊎ (AreFaultless lib top v.mark_a × IsFaultOfMarkers lib top v.mark_b name at)))

-- the layer of the library and its marked squares, without a fault
pub record IsMarkedIn (v : MarkedChoice) (lib : Library) (copied : List ℕ) (slabs a b : List Rect) : Type 0 where
  pub layer : IsLayerIn v.layer lib copied slabs
  pub faultless_a : AreFaultless lib layer.top v.mark_a
  pub faultless_b : AreFaultless lib layer.top v.mark_b
  pub marked_a : AreMarked lib layer.top v.mark_a slabs a
  pub marked_b : AreMarked lib layer.top v.mark_b slabs b

-- what these bytes hold
abbrev pub IsMarkedLayout : MarkedChoice → List ℕ → MarkedReading → Type 0
IsMarkedLayout v bytes (FaultyMarked name at) =
    ((f : Fault) × IsFirstSyntaxFault bytes f × (syntax_name f ≡ (name, at)))
    ⊎ ((lib : Library) × Holds bytes lib × IsMarkedFaultIn v lib name at)
IsMarkedLayout v bytes (MarkedLayer copied slabs a b) = (lib : Library) × Holds bytes lib × IsMarkedIn v lib copied slabs a b

-- what is read of a file: where it isn't too large, what its bytes hold
abbrev pub IsMarkedReading : MarkedChoice → List ℕ → MarkedReading → Type 0
IsMarkedReading v bytes reading = ((limit < length bytes) × (reading ≡ FaultyMarked TooLarge limit)) ⊎ ((length bytes ≤ limit) × IsMarkedLayout v bytes reading)
