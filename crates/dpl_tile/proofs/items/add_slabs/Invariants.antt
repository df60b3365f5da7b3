use Rattle.dpl_tile.specs.Adding.{Adds}
use Rattle.dpl_tile.proofs.Adding.{OfFirst}
use Rattle.dpl_tile.proofs.ItemLaws.{IsSlabItem}
use Rattle.dpl_tile.proofs.Loops.{Nth}
use Rattle.dpl_tile.proofs.items.add_slabs.Given as goal

abbrev pub invariant-loop-rect : goal.invariant-loop-rect
invariant-loop-rect l = Adds (OfFirst (Nth (IsSlabItem l.owner) l.rects) l.rect-index) l.initial.items.items l.items.items
