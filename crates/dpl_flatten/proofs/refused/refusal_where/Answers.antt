use Rattle.std.proofs.lemmas.Result.{IfOk-weaker}
use Rattle.dpl_spec_format.specs.Tree.{elements_at}
use Rattle.dpl_flatten.proofs.DrawnLaws.{marked_refusal}
use Rattle.dpl_flatten.proofs.refused.refusal_where.Goals as goal

pub returns-clause-taken : goal.returns-clause-taken
returns-clause-taken c = IfOk-weaker c.refusal_in.result _ _ (λ o h n m. rw n at h) c.refusal_in.ensures

pub returns-clause-refused : goal.returns-clause-refused
returns-clause-refused c = IfOk-weaker c.refusal_in.result _ _
    (λ o h. marked_refusal c.args.chosen (elements_at c.args.lib.now c.args.structure) c.args.at c.args.marked o c.if-not-marked.false h)
    c.refusal_in.ensures
