use Rattle.std.proofs.Common.{◌≡◌, ◌+◌, ◌^◌, ◌≤◌, ◌++◌, length}
use Rattle.dpl_cert.specs.Lines.{lines}
use Rattle.dpl_cert.specs.Grammar.{rows, gain_words, AreRising}
use Rattle.dpl_parse.specs.Reading.{least_after}
use Rattle.dpl_parse.proofs.gains.gains_of.Given as goal

abbrev pub invariant-loop-n : goal.invariant-loop-n
invariant-loop-n l = record {
  len : length l.found.items ≡ l.n;
  rising : AreRising 0 l.found.items;
  least : l.least ≡ least_after 0 l.found.items;
  numbers : l.least + l.count ≤ 2 ^ 64 + l.n;
  so_far : lines l.bytes ≡ rows gain_words 0 l.found.items ++ lines l.rest;
  room : length l.rest + l.n ≤ length l.bytes;
}
