-- What the reads of a whole file answer.
use Rattle.std.specs.Prelude.{◌≡◌, ◌≤◌, ℕ, Result, MatchResult}
use Rattle.dpl_host.specs.Outside.{Rose}
use Rattle.dpl_host.specs.declared.whole.ReadFault.{ReadFault}
use Rattle.dpl_host.specs.declared.whole.ReadFault.TheVariants.{NoMemory, Failed, TooLarge}

-- how the count of failed reads stands behind a fault: it has risen where a read failed, and no read failed where memory ran out or the file is too large
abbrev pub CountsFault : ℕ → ℕ → ReadFault → Type 0
CountsFault before now Failed = Rose before now
CountsFault before now NoMemory = now ≡ before
CountsFault before now TooLarge = now ≡ before

-- the count never falls; it has risen where the answer is that a read failed, and stands still at any other answer
pub record HasReadCause {T : Type 0} (before now : ℕ) (result : Result T ReadFault) : Type 0 where
  pub later : before ≤ now
  pub counted : MatchResult result (λ _. now ≡ before) (CountsFault before now)
