-- Words that ask the same have one outcome from one outside.
use Rattle.std.proofs.Common.{◌≡◌, Some, sym, ap, ◌∙◌, subst}
use Rattle.std.specs.Option.{option_map}
use Rattle.dpl_host.specs.Outside.{Outside}
use Rattle.dpl_run.specs.Outcome.{Outcome, carried_out}
use Rattle.dpl_run.specs.Program.{IsPlan}
use Rattle.dpl_law_outcome.specs.Laws.{retiled, OneRun}
use Rattle.dpl_law_outcome.proofs.Outcomes.{outcome-same}

pub run-same : OneRun
run-same request tile workers words others o s t new other asks asks_other (p, p_is, (x, x_plan, s_is, new_is)) (q, q_is, (y, y_plan, t_is, other_is)) =
    let mine : IsPlan (Some request) o.files x =
    subst (λ z. let out : Outside = z in IsPlan (Some request) out.files x) (sym p_is) (subst (λ r. IsPlan r p.files x) asks x_plan) in
    let theirs : IsPlan (Some (retiled request tile workers)) o.files y =
    subst (λ z. let out : Outside = z in IsPlan (Some (retiled request tile workers)) out.files y) (sym q_is) (subst (λ r. IsPlan r q.files y) asks_other y_plan) in
    let same : x ≡ y = outcome-same request tile workers o.files x y mine theirs in (
      s_is ∙ (ap (λ z. let out : Outcome = z in out.status) same ∙ sym t_is),
      new_is ∙ (ap (λ z. option_map (carried_out z) (Some o)) same ∙ sym other_is),
    )
