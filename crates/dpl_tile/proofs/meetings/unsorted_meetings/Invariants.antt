use Rattle.dpl_tile.specs.Adding.{Adds}
use Rattle.dpl_tile.proofs.Adding.{OfFirst}
use Rattle.dpl_tile.proofs.MeetingLaws.{IsMeetingIn}
use Rattle.dpl_tile.proofs.meetings.unsorted_meetings.Given as goal

abbrev pub invariant-loop-strip : goal.invariant-loop-strip
invariant-loop-strip l = Adds (OfFirst (IsMeetingIn l.spacing l.owners l.grid l.join) l.strip) l.initial.meetings.items l.meetings.items
