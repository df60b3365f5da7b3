use Rattle.std.proofs.Common.{arith}
use Rattle.std.proofs.lemmas.Int.{ints}
use Rattle.dpl_spec_split.proofs.SlabLaws.{same_rect}
use Rattle.dpl_session.proofs.kept.around.Goals as goal

pub returns : goal.returns
returns c = rw c.new.ensures (same_rect _ _ (omega (arith, ints)) (omega (arith, ints)) (omega (arith, ints)) (omega (arith, ints)))
