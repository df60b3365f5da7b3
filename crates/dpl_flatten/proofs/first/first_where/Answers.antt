use Rattle.std.proofs.lemmas.Result.{IfOk-weaker}
use Rattle.dpl_spec_format.specs.Tree.{elements_at}
use Rattle.dpl_flatten.specs.Wants.{finding_of}
use Rattle.dpl_flatten.proofs.LeastLaws.{least_unmarked}
use Rattle.dpl_flatten.proofs.first.first_where.Goals as goal

pub returns : goal.returns
returns c = IfOk-weaker c.first_in.result _ _ (λ first least. least_unmarked (finding_of c.args.lib.now c.args.wanted) c.args.structure
    (elements_at c.args.lib.now c.args.structure) c.args.marked first c.if-not-marked.false least) c.first_in.ensures
