use Rattle.std.proofs.Common.{◌≡◌, take}
use Rattle.dpl_feature.specs.Meeting.{numbers_of}
use Rattle.dpl_feature.proofs.meet.numbers_of.Given as goal

abbrev pub invariant-loop-top : goal.invariant-loop-top
invariant-loop-top l = l.numbers.items ≡ numbers_of (take l.top-index l.tops)
