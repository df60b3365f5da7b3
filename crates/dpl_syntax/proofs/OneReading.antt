-- What is read is the only answer that the bytes have.
use Rattle.std.proofs.Common.{◌≡◌, ℕ, List, Result, Ok, Err, refl}
use Rattle.std.specs.Prelude.{IfOk, IfErr}
use Rattle.dpl_spec_format.specs.Faults.{Fault, truncated, bad_length, unknown_record, bad_data_type, bad_size, unexpected, bad_name, duplicate_structure}
use Rattle.dpl_spec_format.specs.Tree.{Library}
use Rattle.dpl_spec_format.specs.Layout.{Holds, IsFirstFault}
use Rattle.dpl_spec_format.proofs.Uniqueness.{one_library, one_fault, apart}
use Rattle.dpl_syntax.specs.declared.fault.SyntaxFault.{SyntaxFault}
use Rattle.dpl_syntax.specs.declared.fault.SyntaxFault.TheVariants.{NoMemory, Truncated, BadLength, UnknownRecord, BadDataType, BadSize, Unexpected, BadName, DuplicateStructure}
use Rattle.dpl_syntax.specs.Outcome.{Refuses, Gives, Refused}
use Rattle.dpl_syntax.proofs.Refusals.{refuses}

-- an error that names no fault is that memory ran out
no_fault : (P : Fault → Type 0) (e : SyntaxFault) → ((f : Fault) → P f → ⊥) → Refuses P e → e ≡ NoMemory
no_fault P NoMemory h p = refl
no_fault P (Truncated at) h p = absurd (h (truncated at) p)
no_fault P (BadLength at) h p = absurd (h (bad_length at) p)
no_fault P (UnknownRecord at) h p = absurd (h (unknown_record at) p)
no_fault P (BadDataType at) h p = absurd (h (bad_data_type at) p)
no_fault P (BadSize at) h p = absurd (h (bad_size at) p)
no_fault P (Unexpected at) h p = absurd (h (unexpected at) p)
no_fault P (BadName at) h p = absurd (h (bad_name at) p)
no_fault P (DuplicateStructure at) h p = absurd (h (duplicate_structure at) p)

pub is_held : (bytes : List ℕ) (r : Result Library SyntaxFault) → IfOk r (λ lib. Holds bytes lib)
    → IfErr r (λ e. Refuses (IsFirstFault bytes) e) → (lib : Library) → Holds bytes lib → Gives r lib
is_held bytes (Ok other) ok err lib h = one_library bytes other lib ok h
is_held bytes (Err e) ok err lib h = no_fault (IsFirstFault bytes) e (λ f p. apart bytes lib f h p) err

pub is_refused : (bytes : List ℕ) (r : Result Library SyntaxFault) → IfOk r (λ lib. Holds bytes lib)
    → IfErr r (λ e. Refuses (IsFirstFault bytes) e) → (f : Fault) → IsFirstFault bytes f → Refused r f
is_refused bytes (Ok lib) ok err f first = apart bytes lib f ok first
is_refused bytes (Err e) ok err f first = refuses (IsFirstFault bytes) (λ g. g ≡ f) e (λ g p. one_fault bytes g f p first) err
