use Rattle.std.proofs.Common.{refl, arith}
use Rattle.std.proofs.lemmas.Result.{IfOk-from_err}
use Rattle.dpl_flatten.proofs.DrawnLaws.{none_more, nothing_at}
use Rattle.dpl_flatten.proofs.refused.refusal.Goals as goal

pub loop-structure-init : goal.loop-structure-init
loop-structure-init c = λ k e h m i. absurd (omega (arith, h))

pub loop-structure-preserved : goal.loop-structure-preserved
loop-structure-preserved c = none_more c.args.lib.now c.args.chosen c.args.marks.now c.loop-structure.structure c.args.at _ refl
    (c.in_ok-found.ensures.taken c.in_default.is) c.loop-structure.invariant

pub unreachable-requires : goal.unreachable-requires
unreachable-requires c = nothing_at c.args.lib.now c.args.chosen c.args.marks.now c.loop-structure.structure c.args.at
    (omega (arith, c.requires.marks, c.count-structure-end.ensures.value, c.loop-structure-test.false, c.loop-structure.auto.structure-end))
    c.requires.there c.loop-structure.invariant

pub returns-in-Some : goal.returns-in-Some
returns-in-Some c = let r = c.in_ok-found.ensures.refused in let q = rw c.in-Some.is at r in (c.loop-structure.structure, q.1.0, q.0, q.1.1, q.1.2)

pub returns-in_err-found : goal.returns-in_err-found
returns-in_err-found c = IfOk-from_err _ _ c.from_residual.ensures.0
