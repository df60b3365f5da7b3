-- How a run on real files may end, which tell nothing.
use Rattle.std.specs.Prelude.{◌≡◌, ◌⊎◌, List, [], ◌∷◌, Result, Ok, Err, None, codes, map, string_bytes, true}
use Rattle.std.specs.Vec.Iter.{into_iter_items}
use Rattle.std.specs.declared.vec.IntoIter.{IntoIter}
use Rattle.std.specs.declared.string.String.{String}
use Rattle.clap.specs.Walk.{Text}
use Rattle.dpl_host.specs.SureHost.{untold}
use Rattle.dpl_words.specs.Meaning.{request_of}
use Rattle.dpl_run.specs.Outcome.{is_answered}
use Rattle.dpl_run.specs.Program.{IsOutcome}
use Rattle.dpl_run.specs.declared.status.Status.{Status}
use Rattle.dpl_run.specs.declared.status.Status.TheVariants.{NoMemory, Usage, WriteFault}

-- The words of the command line, all of them. Where the system's aren't texts, the program's name alone, which is no command.
abbrev pub words_of : {A Z E : Type 0} → Result (IntoIter (String A) Z) E → List Text
words_of (Ok words) = map string_bytes (into_iter_items words)
words_of (Err _) = codes "dpl" ∷ []

-- a status with which a run may end on these words
pub record IsEnd (words : List Text) (status : Status) : Type 0 where
  -- an answer is that of the definitions, for some files
  pub answer : is_answered status ≡ true → IsOutcome words status untold untold
  -- the usage is answered where the words ask for nothing
  pub usage : status ≡ Usage → request_of words ≡ None
  -- and there alone, but where memory runs out and a usage text that can't be said
  pub no_other : request_of words ≡ None → (status ≡ Usage) ⊎ (status ≡ WriteFault) ⊎ (status ≡ NoMemory)
