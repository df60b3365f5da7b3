use Rattle.std.proofs.Common.{refl, arith}
use Rattle.std.proofs.lemmas.List.{ext_get_or}
use Rattle.dpl_session.proofs.tile.same.Goals as goal

pub returns : goal.returns
returns c = (λ h. ext_get_or 0 c.args.a.now c.args.b.now (omega arith) (λ i l. c.loop-i.invariant i (omega arith)), λ e. refl)
