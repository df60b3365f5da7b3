use Rattle.std.proofs.Common.{◌≡◌, ◌∙◌, ◌++◌, ◌<◌, ◌∷◌, [], append_assoc, arith, length, length-append, length-take-le, rules, take}
use Rattle.std.proofs.lemmas.Result.{IfOk-from_err}
use Rattle.std.proofs.lemmas.List.{take_more}
use Rattle.dpl_words.specs.Meaning.{batch_view}
use Rattle.dpl_run.proofs.Together.{decided_next}
use Rattle.dpl_decide.proofs.Zips.{place_within}
use Rattle.dpl_run.proofs.batch.all_decided.Goals as goal

pub loop-decision-preserved : goal.loop-decision-preserved
loop-decision-preserved g c =
    let layers = c.args.options.now.layers.items in
    let at = c.loop-decision.at in
    let met = c.loop-decision.yielded in
    let all : met ++ c.in-Some.decision ∷ c.next.new.self.rest.items ≡ c.args.decisions.items = search rules in
    let inside : length met < length layers = place_within met _ _ c.in-Some.decision _ all c.requires.len in
    let within : at < length layers = omega arith in
    let many : length (take at layers) ≡ length met = length-take-le at layers (omega arith) ∙ c.loop-decision.invariant.1 in (
      append_assoc met (c.in-Some.decision ∷ []) c.next.new.self.rest.items ∙ all,
      omega (arith, length-append met (c.in-Some.decision ∷ [])),
      rw (take_more layers at c.index-layer.result.now within, ← c.index-layer.ensures)
          (decided_next (batch_view c.args.options.now) (take at layers) met _ c.in-Some.decision _ _ _ many c.loop-decision.invariant.2 c.in_ok-one.ensures c.in_ok-add.ensures),
    )

pub returns-in_err-one : goal.returns-in_err-one
returns-in_err-one g c = IfOk-from_err _ _ c.from_residual.ensures.0

pub returns-in_err-add : goal.returns-in_err-add
returns-in_err-add g c = IfOk-from_err _ _ c.from_residual-in_err-add.ensures.0
