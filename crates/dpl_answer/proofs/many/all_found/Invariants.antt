use Rattle.std.proofs.Common.{◌≡◌, ◌++◌, length}
use Rattle.std.specs.List.{AllZip}
use Rattle.dpl_answer.specs.Many.{AreConflictsFrom}
use Rattle.dpl_answer.proofs.many.all_found.Given as goal

-- the conflicts of the layers that were met
abbrev pub invariant-loop-start : goal.invariant-loop-start
invariant-loop-start l = (l.yielded ++ l.start-iterator.rest.items ≡ l.fn.starts.items) × (l.at ≡ length l.yielded) × AllZip AreConflictsFrom l.yielded l.all.items
