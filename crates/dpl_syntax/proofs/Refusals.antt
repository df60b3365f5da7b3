-- An error that names a fault.
use Rattle.dpl_spec_format.specs.Faults.{Fault, truncated, bad_length, unknown_record, bad_data_type, bad_size, unexpected, bad_name, duplicate_structure}
use Rattle.dpl_syntax.specs.declared.fault.SyntaxFault.{SyntaxFault}
use Rattle.dpl_syntax.specs.declared.fault.SyntaxFault.TheVariants.{NoMemory, Truncated, BadLength, UnknownRecord, BadDataType, BadSize, Unexpected, BadName, DuplicateStructure}
use Rattle.dpl_syntax.specs.Outcome.{Refuses}

pub refuses : (P Q : Fault → Type 0) (e : SyntaxFault) → ((f : Fault) → P f → Q f) → Refuses P e → Refuses Q e
refuses P Q NoMemory h p = tt
refuses P Q (Truncated at) h p = h (truncated at) p
refuses P Q (BadLength at) h p = h (bad_length at) p
refuses P Q (UnknownRecord at) h p = h (unknown_record at) p
refuses P Q (BadDataType at) h p = h (bad_data_type at) p
refuses P Q (BadSize at) h p = h (bad_size at) p
refuses P Q (Unexpected at) h p = h (unexpected at) p
refuses P Q (BadName at) h p = h (bad_name at) p
refuses P Q (DuplicateStructure at) h p = h (duplicate_structure at) p
