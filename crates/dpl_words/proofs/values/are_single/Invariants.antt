use Rattle.std.proofs.Common.{◌≡◌, ◌==◌, true, count_by, take}
use Rattle.std.specs.List.{list_all}
use Rattle.dpl_words.proofs.values.are_single.Given as goal

-- each of the numbers so far stands once among all
abbrev pub invariant-loop-number : goal.invariant-loop-number
invariant-loop-number l = list_all (λ n. count_by (λ m. m == n) l.numbers == 1) (take l.number-index l.numbers) ≡ true
