-- What is read of each of many layers of one layout.
use Rattle.std.specs.Prelude.{ℕ, List}
use Rattle.dpl_spec_format.specs.Tree.{Library}
use Rattle.dpl_spec_format.specs.Layout.{Holds}
use Rattle.dpl_layer.specs.Reading.{Faulty, IsLayout, Reading}
use Rattle.dpl_layer.specs.View.{IsLayerFault, choice_view, layer_view}
use Rattle.dpl_layer.specs.declared.fault.LayerFault.{LayerFault}
use Rattle.dpl_layer.specs.declared.layer.LayerChoice.{LayerChoice}
use Rattle.dpl_layer.specs.declared.many.ReadLayer.{ReadLayer}
use Rattle.dpl_layer.specs.declared.many.ReadLayer.TheVariants.{Refused, Read}

abbrev pub read_view : ReadLayer → Reading
read_view (Refused name at) = Faulty name at
read_view (Read layer) = layer_view layer

-- what is read of this layer of the bytes
abbrev pub IsReadOf : List ℕ → LayerChoice → ReadLayer → Type 0
IsReadOf bytes choice read = IsLayout (choice_view choice) bytes (read_view read)

-- what is read of this layer of whatever bytes hold the library
abbrev pub IsReadIn : Library → LayerChoice → ReadLayer → Type 0
IsReadIn lib choice read = (bytes : List ℕ) → Holds bytes lib → IsReadOf bytes choice read

-- the bytes have this fault, whatever layer is chosen
abbrev pub AreFaultOf : List ℕ → LayerFault → Type 0
AreFaultOf bytes fault = (choice : LayerChoice) → IsLayerFault (choice_view choice) bytes fault
