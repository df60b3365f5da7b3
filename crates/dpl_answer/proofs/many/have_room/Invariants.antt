use Rattle.std.proofs.Common.{◌≡◌, ◌<◌, ◌^◌, map, take}
use Rattle.dpl_pool.specs.Numbering.{tile_count}
use Rattle.dpl_answer.specs.Many.{tiles_left}
use Rattle.dpl_answer.proofs.many.have_room.Given as goal

-- the tiles of the layers that were met
abbrev pub invariant-loop-start : goal.invariant-loop-start
invariant-loop-start l = (l.tiles ≡ tile_count (map tiles_left (take l.start-index l.starts))) × (l.tiles < 2 ^ 32)
