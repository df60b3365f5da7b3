use Rattle.std.proofs.Common.{refl}
use Rattle.std.proofs.lemmas.Bool.{false≢true}
use Rattle.std.proofs.lemmas.Result.{IfOk-from_err}
use Rattle.dpl_zone.specs.Layers.{TouchesOwn}
use Rattle.dpl_zone.proofs.Keeping.{apart-added, apart-none}
use Rattle.dpl_zone.proofs.kept.add_lone.Goals as goal

pub returns-then-touches_any : goal.returns-then-touches_any
returns-then-touches_any c = apart-none c.args.kept.now.items (TouchesOwn c.args.flat.now) c.args.z.now (c.if-touches_any.ensures.0 refl)

pub returns : goal.returns
returns c =
    rw c.in_ok-push.ensures.items
    (apart-added c.args.kept.now.items (TouchesOwn c.args.flat.now) c.args.z.now (λ t. false≢true (c.if-touches_any.ensures.1 t)))

pub returns-in_err-push : goal.returns-in_err-push
returns-in_err-push c = IfOk-from_err _ _ c.from_residual.ensures.0
