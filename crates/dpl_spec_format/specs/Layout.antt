-- Which library a file holds, and where one that holds none is refused first.
use Rattle.std.specs.Prelude.{◌≡◌, ◌≢◌, ℕ, ◌⊎◌, List, [], ◌∷◌, ◌++◌, Option, Some, None, Ok, Err, fold}
use Rattle.dpl_spec_format.specs.Kinds as kinds
use Rattle.dpl_spec_format.specs.Faults.{Fault, unexpected}
use Rattle.dpl_spec_format.specs.Records.{Record, record_at, Lies}
use Rattle.dpl_spec_format.specs.Grammar.{Has, Begins, library}
use Rattle.dpl_spec_format.specs.Stream.{kinds_of, refusal}
use Rattle.dpl_spec_format.specs.Tree.{Library, library_of}

-- No record among these is refused, each seen behind those before it.
abbrev pub IsSound : List Record → List Record → Type 0
IsSound front [] = Unit {0}
IsSound front (r ∷ rs) = (refusal front r ≡ None) × IsSound (front ++ r ∷ []) rs

-- None of these records ends the library.
abbrev pub IsOpen : List Record → Type 0
IsOpen [] = Unit {0}
IsOpen (r ∷ rs) = (r.kind ≢ kinds.endlib) × IsOpen rs

-- The file begins with these records, up to an offset, and nothing is wrong so far.
pub record IsReadTo (bytes : List ℕ) (rs : List Record) (at : ℕ) : Type 0 where
  pub lies : Lies bytes 0 rs at
  pub begins : Begins library (kinds_of rs)
  pub sound : IsSound [] rs
  pub goes_on : IsOpen rs

-- why no record of a library follows behind these
pub data IsWrong (bytes : List ℕ) (rs : List Record) (at : ℕ) : Fault → Type 0 where
  no_record : (f : Fault) → record_at bytes at ≡ Err f → IsWrong bytes rs at f
  not_here : (r : Record) → record_at bytes at ≡ Ok r → (Begins library (kinds_of (rs ++ r ∷ [])) → ⊥) → IsWrong bytes rs at (unexpected at)
  refused : (r : Record) (f : Fault) → record_at bytes at ≡ Ok r → Begins library (kinds_of (rs ++ r ∷ [])) → refusal rs r ≡ Some f → IsWrong bytes rs at f

-- the first fault of a file's bytes
abbrev pub IsFirstFault : List ℕ → Fault → Type 0
IsFirstFault bytes f = (rs : List Record) × (at : ℕ) × IsReadTo bytes rs at × IsWrong bytes rs at f

-- A file holds a library where records from its first byte on are those of the library. What follows is ignored.
pub record Holds (bytes : List ℕ) (lib : Library) : Type 0 where
  pub records : List Record
  pub end : ℕ
  pub lies : Lies bytes 0 records end
  pub has : Has library (kinds_of records)
  pub sound : IsSound [] records
  pub is : lib ≡ library_of bytes records
