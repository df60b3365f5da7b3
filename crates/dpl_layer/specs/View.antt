-- What is read of a layout, in the words of the definitions.
use Rattle.std.specs.Prelude.{ℕ, List, Option, option_map}
use Rattle.dpl_spec_format.specs.Tree.{Library}
use Rattle.dpl_spec_layout.specs.declared.Layer.{Layer as ChosenLayer}
use Rattle.dpl_layer.specs.Reading.{Choice, Faulty, IsFaultIn, IsLayout, Reading, Layer as LayerRead}
use Rattle.dpl_layer.specs.Marked.{IsFaultBelow, IsMarkedFaultIn, IsMarkedLayout, MarkedReading, FaultyMarked, IsFaultOfMarkers, MarkedChoice as MarkedChoiceOf, MarkedLayer as MarkedLayerRead}
use Rattle.dpl_layer.specs.declared.layer.Layer.{Layer}
use Rattle.dpl_layer.specs.declared.marked.MarkedChoice.{MarkedChoice}
use Rattle.dpl_layer.specs.declared.marked.MarkedLayer.{MarkedLayer}
use Rattle.dpl_layer.specs.declared.layer.LayerChoice.{LayerChoice}
use Rattle.dpl_layer.specs.declared.fault.LayerFault.{LayerFault}
use Rattle.dpl_layer.specs.declared.fault.LayerFault.TheVariants.{NoMemory, Refused}

abbrev pub choice_view : LayerChoice → Choice
choice_view c = record { top = option_map (λ t. t.now) c.top; layer = c.layer; datatype = c.datatype }

abbrev pub layer_view : Layer → Reading
layer_view l = LayerRead l.copied.items l.slabs

-- a fault of the layout is its first one
abbrev pub IsLayerFault : Choice → List ℕ → LayerFault → Type 0
IsLayerFault v bytes NoMemory = Unit {0}
IsLayerFault v bytes (Refused name at) = IsLayout v bytes (Faulty name at)

-- a fault of the library is its first one
abbrev pub IsLayerFaultIn : Choice → Library → LayerFault → Type 0
IsLayerFaultIn v lib NoMemory = Unit {0}
IsLayerFaultIn v lib (Refused name at) = IsFaultIn v lib name at

-- ---- with markers

abbrev pub marked_choice_view : MarkedChoice → MarkedChoiceOf
marked_choice_view c = record { layer = choice_view c.layer; mark_a = c.mark_a; mark_b = c.mark_b }

abbrev pub marked_view : MarkedLayer → MarkedReading
marked_view l = MarkedLayerRead l.copied.items l.slabs l.mark_a l.mark_b

-- a fault of the layout is its first one
abbrev pub IsMarkedFault : MarkedChoiceOf → List ℕ → LayerFault → Type 0
IsMarkedFault v bytes NoMemory = Unit {0}
IsMarkedFault v bytes (Refused name at) = IsMarkedLayout v bytes (FaultyMarked name at)

-- a fault of the library is its first one
abbrev pub IsMarkedLibraryFault : MarkedChoiceOf → Library → LayerFault → Type 0
IsMarkedLibraryFault v lib NoMemory = Unit {0}
IsMarkedLibraryFault v lib (Refused name at) = IsMarkedFaultIn v lib name at

-- a fault of a layer below the top is its first one
abbrev pub IsFaultOfLayer : Library → ℕ → ChosenLayer → LayerFault → Type 0
IsFaultOfLayer lib top layer NoMemory = Unit {0}
IsFaultOfLayer lib top layer (Refused name at) = IsFaultBelow lib top layer name at

-- and so is one of markers
abbrev pub IsMarkersFault : Library → ℕ → Option ℕ → LayerFault → Type 0
IsMarkersFault lib top n NoMemory = Unit {0}
IsMarkersFault lib top n (Refused name at) = IsFaultOfMarkers lib top n name at
