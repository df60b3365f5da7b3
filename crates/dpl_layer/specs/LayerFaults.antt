-- The fault of a layer as the program keeps it.
use Rattle.std.specs.Prelude.{ℕ, Option, Some, None}
use Rattle.dpl_spec_format.specs.Faults.{Fault, truncated, bad_length, unknown_record, bad_data_type, bad_size, unexpected, bad_name, duplicate_structure}
use Rattle.dpl_syntax.specs.declared.fault.SyntaxFault.{SyntaxFault}
use Rattle.dpl_syntax.specs.declared.fault.SyntaxFault.TheVariants.{NoMemory as NoMemoryForSyntax, Truncated, BadLength, UnknownRecord, BadDataType, BadSize}
use Rattle.dpl_syntax.specs.declared.fault.SyntaxFault.TheVariants.{Unexpected, BadName, DuplicateStructure}
use Rattle.dpl_cert.specs.declared.name.Name.{Name}
use Rattle.dpl_layer.specs.declared.fault.LayerFault.{LayerFault}
use Rattle.dpl_layer.specs.declared.fault.LayerFault.TheVariants.{NoMemory, Refused}

-- a fault by its name and where it stands; what has no name is out of memory
abbrev pub of_named : Option (Name × ℕ) → LayerFault
of_named None = NoMemory
of_named (Some (name, at)) = Refused name at

-- the fault of the file that an error names; out of memory is none
abbrev pub fault_of : SyntaxFault → Option Fault
fault_of NoMemoryForSyntax = None
fault_of (Truncated at) = Some (truncated at)
fault_of (BadLength at) = Some (bad_length at)
fault_of (UnknownRecord at) = Some (unknown_record at)
fault_of (BadDataType at) = Some (bad_data_type at)
fault_of (BadSize at) = Some (bad_size at)
fault_of (Unexpected at) = Some (unexpected at)
fault_of (BadName at) = Some (bad_name at)
fault_of (DuplicateStructure at) = Some (duplicate_structure at)
