-- Trees whose root is the least of their leaves.
use Rattle.std.specs.Prelude.{◌≡◌, ◌⊎◌, ◌+◌, ◌*◌, ◌<◌, ◌≤◌, ℕ, List, length, slice_index_or, Option, None, Some}
use Rattle.dpl_board.specs.declared.tournament.Tournament.{Tournament}

-- of a lesser k, or of the same k and a lesser i, or the same block
abbrev pub IsAtMost : ℕ × ℕ → ℕ × ℕ → Type 0
IsAtMost b c = (b.0 < c.0) ⊎ ((b.0 ≡ c.0) × (b.1 ≤ c.1))

-- where the second is a block, the first is one, too, and at most as great
abbrev pub IsBefore : Option (ℕ × ℕ) → Option (ℕ × ℕ) → Type 0
IsBefore b None = Unit {0}
IsBefore None (Some c) = ⊥
IsBefore (Some b) (Some c) = IsAtMost b c

-- the first is the lesser of the two others
abbrev pub IsLesser : Option (ℕ × ℕ) → Option (ℕ × ℕ) → Option (ℕ × ℕ) → Type 0
IsLesser b c d = ((b ≡ c) ⊎ (b ≡ d)) × IsBefore b c × IsBefore b d

abbrev pub node_in : List (Option (ℕ × ℕ)) → ℕ → Option (ℕ × ℕ)
node_in nodes n = slice_index_or nodes n None

-- each node that isn't a leaf is the lesser of the two below it
abbrev pub IsLesserAt : List (Option (ℕ × ℕ)) → ℕ → Type 0
IsLesserAt nodes n = IsLesser (node_in nodes n) (node_in nodes (2 * n)) (node_in nodes (2 * n + 1))

pub record IsTournament (t : Tournament) : Type 0 where
  pub len : length t.nodes.items ≡ t.leaves + t.leaves
  pub each : (n : ℕ) → 1 ≤ n → n < t.leaves → IsLesserAt t.nodes.items n

abbrev pub leaf_in : Tournament → ℕ → Option (ℕ × ℕ)
leaf_in t leaf = node_in t.nodes.items (t.leaves + leaf)

-- some leaf has the block, and none has a lesser one
abbrev pub HasLeast : Tournament → ℕ × ℕ → Type 0
HasLeast t block = ((leaf : ℕ) × (leaf < t.leaves) × (leaf_in t leaf ≡ Some block))
    × ((leaf : ℕ) (other : ℕ × ℕ) → leaf < t.leaves → leaf_in t leaf ≡ Some other → IsAtMost block other)
