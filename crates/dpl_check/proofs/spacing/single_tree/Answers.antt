use Rattle.std.proofs.Common.{rules}
use Rattle.std.proofs.lemmas.Result.{IfOk-weaker, IfOk-from_err}
use Rattle.dpl_nearest.proofs.UnitLaws.{unit_fits}
use Rattle.dpl_check.proofs.Owning.{single-are}
use Rattle.dpl_check.proofs.spacing.single_tree.Goals as goal

pub unreachable-requires : goal.unreachable-requires
unreachable-requires c =
    let none = rw c.in_default.is at c.unit.ensures.none in
    none (search rules) (unit_fits c.args.p c.requires.x c.requires.y)

pub returns : goal.returns
returns c =
    let square = rw c.in-Some.is at c.unit.ensures.some in
    IfOk-weaker c.of.result _ _ (λ t h. single-are c.args.p c.in-Some.square c.args.owner _ _ t square c.new-items.ensures c.in_ok-add.ensures h) c.of.ensures

pub returns-in_err-add : goal.returns-in_err-add
returns-in_err-add c = IfOk-from_err _ _ c.from_residual.ensures.0
