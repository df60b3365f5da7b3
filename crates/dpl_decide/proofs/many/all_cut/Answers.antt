use Rattle.std.proofs.Common.{◌≡◌, ◌∙◌, ◌++◌, ◌∷◌, [], append_assoc, rules}
use Rattle.std.proofs.lemmas.Result.{IfOk-from_err}
use Rattle.dpl_decide.proofs.many.all_cut.Goals as goal

pub loop-layer-preserved : goal.loop-layer-preserved
loop-layer-preserved g c =
    let all : c.loop-layer.yielded ++ c.in-Some.layer ∷ c.next.new.self.rest.items ≡ c.args.layers.items = search rules in (
      append_assoc c.loop-layer.yielded (c.in-Some.layer ∷ []) c.next.new.self.rest.items ∙ all,
      c.in_ok-add_waiting.ensures c.loop-layer.yielded c.loop-layer.invariant.1,
    )

pub returns-in_err-add_waiting : goal.returns-in_err-add_waiting
returns-in_err-add_waiting g c = IfOk-from_err _ _ c.from_residual.ensures.0
