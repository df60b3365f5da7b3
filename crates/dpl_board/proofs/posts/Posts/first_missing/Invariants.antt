use Rattle.std.proofs.Common.{ℕ, ◌<◌}
use Rattle.dpl_board.specs.Sheets.{IsPosted}
use Rattle.dpl_board.proofs.posts.Posts.first_missing.Given as goal

abbrev pub invariant-loop-tile : goal.invariant-loop-tile
invariant-loop-tile l = (s : ℕ) → s < l.tile → IsPosted s l.self.history.items
