-- What the types of this crate stand for.
use Rattle.std.specs.Prelude.{◌≡◌, Result, Ok, Err}
use Rattle.dpl_spec_format.specs.Faults.{Fault, truncated, bad_length, unknown_record, bad_data_type, bad_size}
use Rattle.dpl_spec_format.specs.Records.{Record as Layout}
use Rattle.dpl_records.specs.declared.record.Record.{Record}
use Rattle.dpl_records.specs.declared.fault.RecordFault.{RecordFault}
use Rattle.dpl_records.specs.declared.fault.RecordFault.TheVariants.{Truncated, BadLength, UnknownRecord, BadDataType, BadSize}

-- a record without where its data lie in memory
abbrev pub seen : Record → Layout
seen r = record { at = r.at; next = r.next; kind = r.kind; body = r.body.now }

abbrev pub fault_of : RecordFault → Fault
fault_of (Truncated at) = truncated at
fault_of (BadLength at) = bad_length at
fault_of (UnknownRecord at) = unknown_record at
fault_of (BadDataType at) = bad_data_type at
fault_of (BadSize at) = bad_size at

-- what was returned is what the layout gives
abbrev pub Gives : Result Record RecordFault → Result Layout Fault → Type 0
Gives (Ok r) given = given ≡ Ok (seen r)
Gives (Err e) given = given ≡ Err (fault_of e)
