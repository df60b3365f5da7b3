use Rattle.std.proofs.Common.{◌≡◌, ◌++◌, map, take}
use Rattle.dpl_piece.specs.Made.{moved_by}
use Rattle.dpl_piece.proofs.pile.add_moved.Given as goal

abbrev pub invariant-loop-zone : goal.invariant-loop-zone
invariant-loop-zone l = l.zones.items ≡ l.initial.zones.items ++ map (moved_by l.from) (take l.zone-index l.more)
