use Rattle.std.proofs.Common.{inl, inr, arith}
use Rattle.std.proofs.lemmas.Int.{ints}
use Rattle.dpl_feature.proofs.meet.compare.Goals as goal

pub returns-then-under-over : goal.returns-then-under-over
returns-then-under-over c = inl (omega (arith, ints))

pub returns-then-over-under : goal.returns-then-over-under
returns-then-over-under c = inl (omega (arith, ints))

pub returns-then-under-over-2 : goal.returns-then-under-over-2
returns-then-under-over-2 c = inr (omega (arith, ints), omega (arith, ints))

pub returns-then-over-under-2 : goal.returns-then-over-under-2
returns-then-over-under-2 c = inr (omega (arith, ints), omega (arith, ints))

pub returns : goal.returns
returns c = record { row = omega (arith, ints); left = omega (arith, ints); right = omega (arith, ints) }
