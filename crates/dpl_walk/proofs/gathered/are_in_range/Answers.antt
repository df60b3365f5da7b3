use Rattle.std.proofs.Common.{◌≡◌, true, false, refl, subst}
use Rattle.std.proofs.lemmas.List.{take_all}
use Rattle.dpl_spec_split.specs.Loops.{ArePointsWithin, farthest}
use Rattle.dpl_walk.proofs.KeptLaws.{range_more, far_at}
use Rattle.dpl_walk.proofs.gathered.are_in_range.Goals as goal

pub loop-point-preserved : goal.loop-point-preserved
loop-point-preserved c = range_more c.args.points.now c.loop-point.point-index _ c.loop-point-test.true c.loop-point.invariant
    (c.if-not-is_in_range.ensures.0 refl)

pub returns-then-not-is_in_range-clause-far : goal.returns-then-not-is_in_range-clause-far
returns-then-not-is_in_range-clause-far c = λ no. far_at c.args.points.now c.loop-point.point-index _ c.loop-point-test.true
    (λ w. let e : false ≡ true = c.if-not-is_in_range.ensures.1 w in cc)

pub returns-clause-within : goal.returns-clause-within
returns-clause-within c = λ yes. subst (ArePointsWithin farthest) (take_all _ _ c.loop-point-test.false) c.loop-point.invariant

pub returns-clause-far : goal.returns-clause-far
returns-clause-far c = λ no. absurd (let e : true ≡ false = no in cc)
