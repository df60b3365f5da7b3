use Rattle.dpl_shade.proofs.ShadingLaws.{AreShort}
use Rattle.dpl_shade.proofs.shades.none_found.Given as goal

abbrev pub invariant-loop-item : goal.invariant-loop-item
invariant-loop-item l = AreShort l.overlap l.items l.item-index l.dead.items
