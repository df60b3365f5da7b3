use Rattle.std.proofs.Common.{ℕ, ◌≡◌, ◌≢◌, ◌+◌, ◌/◌, ◌<◌, ◌≤◌, length}
use Rattle.dpl_board.specs.Tournaments.{IsLesserAt, leaf_in}
use Rattle.dpl_board.proofs.tournament.Tournament.set.Given as goal

abbrev pub invariant-loop-node : goal.invariant-loop-node
invariant-loop-node l = (1 ≤ l.node) × (l.node < l.self.leaves + l.self.leaves) × (length l.self.nodes.items ≡ l.self.leaves + l.self.leaves)
    × ((n : ℕ) → 1 ≤ n → n < l.self.leaves → n ≢ l.node / 2 → IsLesserAt l.self.nodes.items n)
    × (l.self.leaves ≡ l.initial.self.leaves) × (leaf_in l.self l.leaf ≡ l.fn.block)
    × ((other : ℕ) → other ≢ l.leaf → leaf_in l.self other ≡ leaf_in l.initial.self other)

abbrev pub decreases-loop-node : goal.decreases-loop-node
decreases-loop-node l = l.node
