use Rattle.std.proofs.lemmas.Option.{IfSome_then}
use Rattle.std.proofs.lemmas.Result.{IfOk-weaker}
use Rattle.dpl_upward.proofs.UpwardLaws.{slabs-whole}
use Rattle.dpl_upward.proofs.upward.slabs_upward.Goals as goal

pub returns : goal.returns
returns c = IfOk-weaker c.slabs_upward_without.result _ _ (λ found h. IfSome_then found h (λ v slabs. slabs-whole c.args.rects.now v.items slabs)) c.slabs_upward_without.ensures
