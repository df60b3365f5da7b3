use Rattle.dpl_tile.specs.Adding.{Adds}
use Rattle.dpl_tile.specs.Meetings.{IsMeetingOf}
use Rattle.dpl_tile.proofs.Adding.{OfFirst}
use Rattle.dpl_tile.proofs.Loops.{Nth}
use Rattle.dpl_tile.proofs.meetings.add_pairs.Given as goal

abbrev pub invariant-loop-pair : goal.invariant-loop-pair
invariant-loop-pair l = Adds (OfFirst (Nth (IsMeetingOf l.spacing l.owners l.grid l.items) l.pairs) l.pair-index) l.initial.meetings.items l.meetings.items
