-- Many layers of one layout.
use Rattle.std.proofs.Common.{List, [], ◌∷◌, ℕ, None, inl, inr, refl}
use Rattle.std.specs.Prelude.{option_map}
use Rattle.std.specs.List.{AllZip}
use Rattle.dpl_spec_split.specs.declared.Rect.{Rect}
use Rattle.dpl_spec_format.specs.Faults.{truncated, bad_length, unknown_record, bad_data_type, bad_size, unexpected, bad_name, duplicate_structure}
use Rattle.dpl_spec_format.specs.Layout.{Holds, IsFirstFault}
use Rattle.dpl_spec_format.specs.Tree.{Library}
use Rattle.dpl_syntax.specs.Outcome.{Refuses}
use Rattle.dpl_syntax.specs.declared.fault.SyntaxFault.{SyntaxFault}
use Rattle.dpl_syntax.specs.declared.fault.SyntaxFault.TheVariants.{NoMemory, Truncated, BadLength, UnknownRecord, BadDataType, BadSize, Unexpected, BadName, DuplicateStructure}
use Rattle.dpl_cert.specs.declared.name.Name.{Name}
use Rattle.dpl_layer.specs.LayerFaults.{fault_of, of_named}
use Rattle.dpl_layer.specs.Many.{AreFaultOf, IsReadIn, IsReadOf}
use Rattle.dpl_layer.specs.Marked.{FaultyMarked, IsMarkedLayout, MarkedChoice, MarkedLayer}
use Rattle.dpl_layer.specs.Naming.{syntax_name}
use Rattle.dpl_layer.specs.Reading.{Choice, Faulty, IsLayout, Layer}
use Rattle.dpl_layer.specs.View.{IsLayerFault, IsLayerFaultIn}
use Rattle.dpl_layer.specs.declared.fault.LayerFault.{LayerFault}
use Rattle.dpl_layer.specs.declared.fault.LayerFault.TheVariants.{NoMemory as NoMemoryForLayer, Refused}
use Rattle.dpl_layer.specs.declared.layer.LayerChoice.{LayerChoice}
use Rattle.dpl_layer.specs.declared.many.ReadLayer.{ReadLayer}

-- a fault of a library's layer is one of the bytes that hold it
pub fault_held : (v : Choice) (bytes : List ℕ) (lib : Library) (e : LayerFault) → Holds bytes lib → IsLayerFaultIn v lib e → IsLayerFault v bytes e
fault_held v bytes lib NoMemoryForLayer holds is = tt
fault_held v bytes lib (Refused name at) holds is = inr (lib, holds, is)

-- what is read of a library's layers is read of the bytes that hold it
pub all_held : (bytes : List ℕ) (lib : Library) (choices : List LayerChoice) (layers : List ReadLayer) → Holds bytes lib → AllZip (IsReadIn lib) choices layers
    → AllZip (IsReadOf bytes) choices layers
all_held bytes lib [] [] holds all = tt
all_held bytes lib [] (l ∷ ls) holds all = absurd all
all_held bytes lib (c ∷ cs) [] holds all = absurd all
all_held bytes lib (c ∷ cs) (l ∷ ls) holds all = (all.0 bytes holds, all_held bytes lib cs ls holds all.1)

-- the first fault of the bytes is one of each layer
pub fault_of_all : (bytes : List ℕ) (f : SyntaxFault) → Refuses (IsFirstFault bytes) f → AreFaultOf bytes (of_named (option_map syntax_name (fault_of f)))
fault_of_all bytes NoMemory is choice = tt
fault_of_all bytes (Truncated at) is choice = inl (truncated at, is, refl)
fault_of_all bytes (BadLength at) is choice = inl (bad_length at, is, refl)
fault_of_all bytes (UnknownRecord at) is choice = inl (unknown_record at, is, refl)
fault_of_all bytes (BadDataType at) is choice = inl (bad_data_type at, is, refl)
fault_of_all bytes (BadSize at) is choice = inl (bad_size at, is, refl)
fault_of_all bytes (Unexpected at) is choice = inl (unexpected at, is, refl)
fault_of_all bytes (BadName at) is choice = inl (bad_name at, is, refl)
fault_of_all bytes (DuplicateStructure at) is choice = inl (duplicate_structure at, is, refl)

-- without markers what is read of a layer is what is read of it with markers
abbrev pub unmarked : Choice → MarkedChoice
unmarked v = record { layer = v; mark_a = None; mark_b = None }

pub unmarked_fault : (v : Choice) (bytes : List ℕ) (name : Name) (at : ℕ) → IsLayout v bytes (Faulty name at) → IsMarkedLayout (unmarked v) bytes (FaultyMarked name at)
unmarked_fault v bytes name at (inl syntax) = inl syntax
unmarked_fault v bytes name at (inr (lib, holds, fault)) = inr (lib, holds, inl fault)

pub unmarked_layer : (v : Choice) (bytes copied : List ℕ) (slabs : List Rect) → IsLayout v bytes (Layer copied slabs)
    → IsMarkedLayout (unmarked v) bytes (MarkedLayer copied slabs [] [])
unmarked_layer v bytes copied slabs (lib, holds, layer) =
    (lib, holds, record { layer = layer; faultless_a = tt; faultless_b = tt; marked_a = refl; marked_b = refl })
