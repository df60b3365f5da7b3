use Rattle.std.proofs.Common.{◌≡◌, ◌++◌, map, take}
use Rattle.dpl_zone.specs.Owned.{owned_by}
use Rattle.dpl_zone.proofs.items.add_items.Given as goal

abbrev pub invariant-loop-rect : goal.invariant-loop-rect
invariant-loop-rect l = l.items.items ≡ l.initial.items.items ++ map (owned_by l.owner) (take l.rect-index l.rects)
