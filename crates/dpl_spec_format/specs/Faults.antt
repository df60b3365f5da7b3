-- Why a file is no library, and at which byte of it.
use Rattle.std.specs.Prelude.{ℕ}

pub data Fault : Type 0 where
  -- the bytes end within a record, or before ENDLIB
  truncated : ℕ → Fault
  -- a length below 4, or an odd one
  bad_length : ℕ → Fault
  unknown_record : ℕ → Fault
  bad_data_type : ℕ → Fault
  -- a record has the wrong number of bytes, or its element wants another number of points
  bad_size : ℕ → Fault
  -- the grammar has no record of this type here
  unexpected : ℕ → Fault
  -- a name is empty
  bad_name : ℕ → Fault
  -- a structure has the name of an earlier one
  duplicate_structure : ℕ → Fault
