use Rattle.std.proofs.Common.{◌≡◌, ◌≤◌, take}
use Rattle.std.specs.Prelude.{vec_capacity}
use Rattle.dpl_board.specs.Starts.{blocks_of}
use Rattle.dpl_board.proofs.kept.Kept.list_blocks.Given as goal

abbrev pub invariant-loop-tile : goal.invariant-loop-tile
invariant-loop-tile l = (l.self.list.items ≡ blocks_of (take l.tile l.initial.self.starts.items)) × (vec_capacity l.initial.self.list ≤ vec_capacity l.self.list)
    × (l.self.starts ≡ l.initial.self.starts) × (l.self.sums ≡ l.initial.self.sums) × (l.self.ready ≡ l.initial.self.ready)
