use Rattle.std.proofs.Common.{◌≡◌, ◌+◌, ◌≤◌, ◌++◌, length}
use Rattle.std.specs.List.{AllByRecursion}
use Rattle.dpl_cert.specs.Lines.{lines}
use Rattle.dpl_cert.specs.Grammar.{rows}
use Rattle.dpl_parse.proofs.rows.rows_of.Given as goal

abbrev pub invariant-loop-n : goal.invariant-loop-n
invariant-loop-n g l = record {
  len : length l.found.items ≡ l.n;
  fit : AllByRecursion g.T.Row.fits l.found.items;
  so_far : lines l.bytes ≡ rows g.T.Row.spelled 0 l.found.items ++ lines l.rest;
  room : length l.rest + l.n ≤ length l.bytes;
}
