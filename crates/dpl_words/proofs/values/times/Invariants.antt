use Rattle.std.proofs.Common.{◌≡◌, ◌==◌, count_by, take}
use Rattle.dpl_words.proofs.values.times.Given as goal

-- the numbers so far that equal the number
abbrev pub invariant-loop-other : goal.invariant-loop-other
invariant-loop-other l = l.times ≡ count_by (λ m. m == l.number) (take l.other-index l.numbers)
