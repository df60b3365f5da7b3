use Rattle.dpl_tile.specs.Adding.{Adds}
use Rattle.dpl_tile.proofs.Adding.{OfFirst}
use Rattle.dpl_tile.proofs.Loops.{Nth}
use Rattle.dpl_tile.proofs.MeetingLaws.{IsPlaced}
use Rattle.dpl_tile.proofs.meetings.add_places.Given as goal

abbrev pub invariant-loop-place : goal.invariant-loop-place
invariant-loop-place l = Adds (OfFirst (Nth (IsPlaced l.pair) l.places) l.place-index) l.initial.meetings.items l.meetings.items
