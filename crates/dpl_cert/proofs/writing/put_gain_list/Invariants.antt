use Rattle.std.proofs.Common.{◌≡◌, ◌++◌, take}
use Rattle.std.specs.Prelude.{string_bytes}
use Rattle.dpl_cert.specs.Lines.{text}
use Rattle.dpl_cert.specs.Grammar.{rows, gain_words}
use Rattle.dpl_cert.proofs.writing.put_gain_list.Given as goal

abbrev pub invariant-loop-g : goal.invariant-loop-g
invariant-loop-g l = string_bytes l.out ≡ string_bytes l.fn.out ++ text (rows gain_words 0 (take l.g-index l.gains))
