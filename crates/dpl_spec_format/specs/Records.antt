-- Records: a length of two bytes, which counts the whole record, a type, a data type, and the data.
use Rattle.std.specs.Prelude.{◌≡◌, ℕ, ◌+◌, ◌-◌, ◌%◌, Bool, not, ◌||◌, nat_lt, ◌==◌, if◌then◌else◌, List, [], ◌∷◌, ◌++◌, length, slice_index}
use Rattle.std.specs.Prelude.{slice_range, unwrap_or, Option, Some, None, Result, Ok, Err}
use Rattle.std.specs.Int.{w16, to_be_bytes}
use Rattle.dpl_spec_format.specs.Table.{Form, form_of, type_fits, size_fits}
use Rattle.dpl_spec_format.specs.Faults.{Fault, truncated, bad_length, unknown_record, bad_data_type, bad_size}
use Rattle.dpl_spec_format.specs.Fields.{u16_at}

pub record Record : Type 0 where
  -- the offset of its first byte
  pub at : ℕ
  -- the offset behind its last byte
  pub next : ℕ
  -- its type
  pub kind : ℕ
  pub body : List ℕ

-- what stands in the len bytes from at on, where the type has this form
abbrev pub checked : List ℕ → ℕ → ℕ → Option Form → Result Record Fault
checked bytes at len None = Err (unknown_record at)
checked bytes at len (Some form) =
    if not (type_fits form.data_type (slice_index bytes (at + 3))) then Err (bad_data_type at)
    else if not (size_fits form.size (len - 4)) then Err (bad_size at)
    else Ok (record { at = at; next = at + len; kind = slice_index bytes (at + 2); body = slice_range bytes (at + 4) (at + len) })

-- the record at an offset, or the first cause by which there is none
unfoldable pub record_at : List ℕ → ℕ → Result Record Fault
record_at bytes at =
    let len = u16_at bytes at in
    if nat_lt (length bytes - at) 4 then Err (truncated at)
    else if nat_lt len 4 || (len % 2 == 1) then Err (bad_length at)
    else if nat_lt (length bytes - at) len then Err (truncated at)
    else checked bytes at len (form_of (slice_index bytes (at + 2)))

-- these records lie one behind the other, from one offset up to another
abbrev pub Lies : List ℕ → ℕ → List Record → ℕ → Type 0
Lies bytes from [] to = from ≡ to
Lies bytes from (r ∷ rs) to = (record_at bytes from ≡ Ok r) × Lies bytes r.next rs to

-- the data type that a type has, if one is checked
abbrev pub data_type_in : Option Form → Option ℕ
data_type_in None = None
data_type_in (Some form) = form.data_type

abbrev pub data_type_of : ℕ → Option ℕ
data_type_of kind = data_type_in (form_of kind)

-- the bytes of a record of a type that has a data type
abbrev pub record_bytes : ℕ → List ℕ → List ℕ
record_bytes kind body = to_be_bytes w16 (length body + 4) ++ kind ∷ unwrap_or (data_type_of kind) 0 ∷ body
