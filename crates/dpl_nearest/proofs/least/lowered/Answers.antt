use Rattle.std.proofs.Common.{inl, refl}
use Rattle.dpl_spec_split.specs.Squares.{Has}
use Rattle.dpl_nearest.specs.Search.{ItemCovers}
use Rattle.dpl_nearest.proofs.NearLaws.{lowered_to}
use Rattle.dpl_nearest.proofs.least.lowered.Goals as goal

pub returns-in-None : goal.returns-in-None
returns-in-None c = record { is = inl refl; before = inl refl; first = λ q (q_in, (t, t_in, close)). absurd (c.in-None.ensures (q, t, q_in, t_in, close)) }

pub returns-in-Some : goal.returns-in-Some
returns-in-Some c = lowered_to c.args.spacing (Has c.args.r.now) (ItemCovers c.args.owners c.args.others.now) c.args.p c.in-Some.q c.lesser.result c.in-Some.ensures c.lesser.ensures
