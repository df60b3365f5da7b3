use Rattle.std.proofs.Common.{◌≡◌, ◌++◌, true, is_some, map, unwrap_or}
use Rattle.std.specs.Prelude.{All}
use Rattle.clap.specs.Matches.{values_left}
use Rattle.dpl_words.specs.Meaning.{number_below}
use Rattle.dpl_words.proofs.values.numbers_16.Given as goal

-- the texts still to come write numbers, which follow those so far
abbrev pub invariant-loop-number : goal.invariant-loop-number
invariant-loop-number l = record {
  write : All (λ t. is_some (number_below 16 t) ≡ true) (values_left l.number-iterator);
  all : l.numbers.items ++ map (λ t. unwrap_or (number_below 16 t) 0) (values_left l.number-iterator)
      ≡ map (λ t. unwrap_or (number_below 16 t) 0) (values_left l.initial.number-iterator);
}
