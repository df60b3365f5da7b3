use Rattle.std.proofs.Common.{◌≡◌, ◌<◌, ℕ, length, get_or}
use Rattle.dpl_session.specs.Windows.{HaveFirsts, IsFirstWith, owner_at}
use Rattle.dpl_session.proofs.window.labels_of.Given as goal

abbrev pub invariant-loop-i : goal.invariant-loop-i
invariant-loop-i l = record {
  room : length l.first ≡ length l.fn.first;
  each : length l.labels.items ≡ l.i;
  labels : (j : ℕ) → j < l.i → IsFirstWith (owner_at l.owners l.names) j (get_or l.labels.items j 0);
  firsts : HaveFirsts (owner_at l.owners l.names) l.first l.i;
}
