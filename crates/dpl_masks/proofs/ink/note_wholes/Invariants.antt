use Rattle.std.proofs.Common.{◌≡◌, length}
use Rattle.dpl_masks.specs.Inks.{AreNotedTo}
use Rattle.dpl_masks.proofs.ink.note_wholes.Given as goal

abbrev pub invariant-loop-k : goal.invariant-loop-k
invariant-loop-k l = record { each : length l.inks.items ≡ length l.fn.inks.items; noted : AreNotedTo l.k l.wholes l.inks.items }
