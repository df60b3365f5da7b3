use Rattle.std.proofs.Common.{refl, arith}
use Rattle.std.proofs.lemmas.Result.{IfOk-from_err}
use Rattle.dpl_flatten.specs.Wants.{finding_of}
use Rattle.dpl_flatten.proofs.LeastLaws.{marked_more, marked_all}
use Rattle.dpl_flatten.proofs.first.first.Goals as goal

pub loop-structure-preserved : goal.loop-structure-preserved
loop-structure-preserved c = marked_more c.args.lib.now c.args.links.now.marks.now c.loop-structure.structure
    (finding_of c.args.lib.now c.args.wanted) _ c.loop-structure.first c.in_ok-found.found c.earlier-first.result refl c.earlier-first.ensures
    c.loop-structure.invariant c.in_ok-found.ensures

pub returns : goal.returns
returns c = marked_all c.args.lib.now c.args.links.now.marks.now c.loop-structure.structure
    (finding_of c.args.lib.now c.args.wanted) c.loop-structure.first (omega (arith, c.requires.marks, c.count-structure-end.ensures.value))
    c.loop-structure.invariant

pub returns-in_err-found : goal.returns-in_err-found
returns-in_err-found c = IfOk-from_err _ _ c.from_residual.ensures.0
