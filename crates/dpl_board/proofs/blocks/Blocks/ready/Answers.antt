use Rattle.dpl_board.specs.Starts.{blocks_of}
use Rattle.dpl_board.proofs.Readying.{least-ready}
use Rattle.dpl_board.proofs.blocks.Blocks.ready.Goals as goal

pub returns : goal.returns
returns c =
    let b = c.self.inside in
    rw (← c.self.view_is) (least-ready b.posts.tiles b.posts.history.items (blocks_of b.kept.starts.items) b.kept.sums.items b.kept.ready c.least.result c.self.invariant.ready
    c.least.ensures)
