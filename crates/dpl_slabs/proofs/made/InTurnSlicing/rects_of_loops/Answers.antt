use Rattle.std.proofs.lemmas.Result.{IfOk-weaker}
use Rattle.dpl_slabs.proofs.LoopLaws.{dealt-alone}
use Rattle.dpl_slabs.proofs.made.InTurnSlicing.rects_of_loops.Goals as goal

pub returns : goal.returns
returns c = IfOk-weaker c.rects_of_dealt.result _ _ (λ v is. dealt-alone c.args.loops.now v.items is) c.rects_of_dealt.ensures
