use Rattle.std.proofs.lemmas.Result.{IfOk-weaker, IfOk-from_err}
use Rattle.dpl_words.specs.Meaning.{batch_view}
use Rattle.dpl_run.specs.View.{output_view}
use Rattle.dpl_run.proofs.Batches.{batch_of}
use Rattle.dpl_decide.proofs.Zips.{zip_length}
use Rattle.dpl_run.proofs.batch.batch.Goals as goal

pub all_decided-requires-clause-len : goal.all_decided-requires-clause-len
all_decided-requires-clause-len g c κs l = zip_length _ _ _ (rw c.deref.ensures.value at c.in_ok-decisions.ensures.each)

pub returns : goal.returns
returns g c =
    let each = rw c.deref.ensures.value at c.in_ok-decisions.ensures.each in
    IfOk-weaker c.all_decided.result _ _
    (λ x is. batch_of (batch_view c.args.options.now) c.args.bytes.items c.in_ok-decisions.decisions.items (output_view x) each is) c.all_decided.ensures

pub returns-in_err-decisions : goal.returns-in_err-decisions
returns-in_err-decisions g c = IfOk-from_err _ _ c.from_residual.ensures.0
