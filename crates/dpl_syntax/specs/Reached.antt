-- How far a file is read.
use Rattle.std.specs.Prelude.{◌≡◌, ℕ, List, [], ◌∷◌, ◌++◌, Ok}
use Rattle.dpl_spec_format.specs.Records.{Record, record_at, Lies}
use Rattle.dpl_spec_format.specs.Grammar.{Grammar, Has, Begins, library}
use Rattle.dpl_spec_format.specs.Stream.{kinds_of}
use Rattle.dpl_spec_format.specs.Layout.{IsSound, IsOpen}

-- The file begins with these records, up to an offset. Nothing is wrong with them, and a list that goes on with the next record
-- is one of a library just where what is behind them is one of the grammar `rest`.
pub record Reached (bytes : List ℕ) (before : List Record) (rest : Grammar) (at : ℕ) : Type 0 where
  pub lies : Lies bytes 0 before at
  pub sound : IsSound [] before
  pub goes_on : IsOpen before
  pub begins : Begins library (kinds_of before)
  pub some : (ks : List ℕ) × Has rest ks
  pub on : (r : Record) → record_at bytes at ≡ Ok r → (ks : List ℕ) → Has library (kinds_of before ++ r.kind ∷ ks) → Has rest (r.kind ∷ ks)
  pub back : (r : Record) → record_at bytes at ≡ Ok r → (ks : List ℕ) → Has rest (r.kind ∷ ks) → Has library (kinds_of before ++ r.kind ∷ ks)
