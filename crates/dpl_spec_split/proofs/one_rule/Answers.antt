use Rattle.dpl_spec_split.specs.Squares.{gap}
use Rattle.dpl_spec_split.proofs.SpacingLaws.{few-uniform}
use Rattle.dpl_spec_split.proofs.one_rule.Goals as goal

pub returns : goal.returns
returns c = λ rule p q. few-uniform rule (gap p.x q.x) (gap p.y q.y)
