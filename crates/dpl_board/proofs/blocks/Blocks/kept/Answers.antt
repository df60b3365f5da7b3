use Rattle.std.proofs.Common.{◌≡◌, ◌∙◌, map, refl, ap}
use Rattle.dpl_board.specs.Boards.{Board}
use Rattle.dpl_board.specs.Starts.{blocks_of}
use Rattle.dpl_board.specs.Blocks.{tiles_at}
use Rattle.dpl_board.proofs.blocks.Blocks.kept.Goals as goal

pub returns : goal.returns
returns c =
    let b = c.self.inside in
    let list : c.as_slice.result.now ≡ blocks_of b.kept.starts.items = c.as_slice.ensures.value ∙ c.list_blocks.ensures.list in (
      (refl, λ _. tt, rw (c.list_blocks.ensures.starts, c.list_blocks.ensures.sums) c.self.view_is),
      record {
        same = tt;
        parts = ap (map tiles_at) list ∙ ap (λ (b : Board). b.parts) c.self.view_is;
        apart = rw list c.self.invariant.blocks.apart;
        tiles = rw (← c.self.view_is) c.self.invariant.posted;
      },
    )
