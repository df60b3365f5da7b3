use Rattle.std.proofs.Common.{ℕ, ◌<◌, ◌≤◌, ◌-◌, length, get_or}
use Rattle.dpl_spec_split.specs.Graphs.{Precedes}
use Rattle.dpl_tile.specs.declared.meetings.Meeting.{Meeting}
use Rattle.dpl_tile.proofs.finding.start_of.Given as goal

abbrev pub invariant-loop-low : goal.invariant-loop-low
invariant-loop-low l = record {
  order : l.low ≤ l.high;
  within : l.high ≤ length l.meetings;
  under : (k : ℕ) (d : Meeting) → k < l.low → k < length l.meetings → Precedes (get_or l.meetings k d).place l.place;
  over : (k : ℕ) (d : Meeting) → l.high ≤ k → k < length l.meetings → Precedes (get_or l.meetings k d).place l.place → ⊥;
}

abbrev pub decreases-loop-low : goal.decreases-loop-low
decreases-loop-low l = l.high - l.low
