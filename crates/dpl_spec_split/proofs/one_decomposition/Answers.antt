use Rattle.dpl_spec_split.specs.Squares.{Covers}
use Rattle.dpl_spec_split.proofs.SideLaws.{decomposition-unique}
use Rattle.dpl_spec_split.proofs.one_decomposition.Goals as goal

pub returns : goal.returns
returns c = λ marks spacing overlap layer. decomposition-unique marks spacing overlap (Covers layer)
