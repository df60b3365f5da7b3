use Rattle.std.proofs.Common.{sym}
use Rattle.dpl_board.proofs.Posters.{none-beyond}
use Rattle.dpl_board.proofs.posts.Posts.poster.Goals as goal

pub returns-else-tile-self : goal.returns-else-tile-self
returns-else-tile-self c = sym (none-beyond c.args.self.now.tiles c.args.tile c.args.self.now.history.items c.requires.below c.if-tile-self.false)
