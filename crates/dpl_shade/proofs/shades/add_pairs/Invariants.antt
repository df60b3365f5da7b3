use Rattle.dpl_shade.proofs.ShadingLaws.{HandlesFirst}
use Rattle.dpl_shade.proofs.shades.add_pairs.Given as goal

abbrev pub invariant-loop-pair : goal.invariant-loop-pair
invariant-loop-pair l = HandlesFirst l.items l.pairs l.pair-index l.initial.shades l.shades
