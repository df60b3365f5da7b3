-- What reading a file answers.
use Rattle.std.specs.Prelude.{◌≡◌, Result, Ok, Err}
use Rattle.dpl_spec_format.specs.Faults.{Fault, truncated, bad_length, unknown_record, bad_data_type, bad_size, unexpected, bad_name, duplicate_structure}
use Rattle.dpl_spec_format.specs.Tree.{Library}
use Rattle.dpl_records.specs.declared.fault.RecordFault.{RecordFault}
use Rattle.dpl_records.specs.declared.fault.RecordFault.TheVariants as records
use Rattle.dpl_syntax.specs.declared.fault.SyntaxFault.{SyntaxFault}
use Rattle.dpl_syntax.specs.declared.fault.SyntaxFault.TheVariants.{NoMemory, Truncated, BadLength, UnknownRecord, BadDataType, BadSize, Unexpected, BadName, DuplicateStructure}

-- the same fault of a record
abbrev pub of_record : RecordFault → SyntaxFault
of_record (records.Truncated at) = Truncated at
of_record (records.BadLength at) = BadLength at
of_record (records.UnknownRecord at) = UnknownRecord at
of_record (records.BadDataType at) = BadDataType at
of_record (records.BadSize at) = BadSize at

-- The fault that an error names is so, unless memory ran out.
abbrev pub Refuses : (Fault → Type 0) → SyntaxFault → Type 0
Refuses Is NoMemory = Unit {0}
Refuses Is (Truncated at) = Is (truncated at)
Refuses Is (BadLength at) = Is (bad_length at)
Refuses Is (UnknownRecord at) = Is (unknown_record at)
Refuses Is (BadDataType at) = Is (bad_data_type at)
Refuses Is (BadSize at) = Is (bad_size at)
Refuses Is (Unexpected at) = Is (unexpected at)
Refuses Is (BadName at) = Is (bad_name at)
Refuses Is (DuplicateStructure at) = Is (duplicate_structure at)

-- this library, or out of memory
abbrev pub Gives : Result Library SyntaxFault → Library → Type 0
Gives (Ok lib) wanted = lib ≡ wanted
Gives (Err e) wanted = e ≡ NoMemory

-- this fault, or out of memory
abbrev pub Refused : Result Library SyntaxFault → Fault → Type 0
Refused (Ok lib) f = ⊥
Refused (Err e) f = Refuses (λ g. g ≡ f) e
