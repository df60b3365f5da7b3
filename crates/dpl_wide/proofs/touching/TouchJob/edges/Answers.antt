use Rattle.std.proofs.lemmas.Result.{IfOk-from_err}
use Rattle.dpl_wide.proofs.Finding.{items-few, tile-found}
use Rattle.dpl_wide.proofs.touching.TouchJob.edges.Goals as goal

pub add_own-requires : goal.add_own-requires
add_own-requires c = items-few c.self.inside.layer.now c.self.inside.tree c.self.invariant.few c.self.invariant.listed

pub returns : goal.returns
returns c = rw (← c.self.view_is) (tile-found c.self.inside.layer.now c.self.inside.plan c.self.inside.tree c.args.tile c.cell-cell.result c.in_ok-pairs.pairs.items _ _ _ c.self.invariant
    c.cell-cell.ensures.value c.cell-cell.ensures.solid c.in_ok-pairs.ensures.edges c.new-edges.ensures.items c.in_ok-add_own.ensures
    (rw c.deref.ensures.value at c.in_ok-add_pairs.ensures))

pub returns-in_err-pairs : goal.returns-in_err-pairs
returns-in_err-pairs c = IfOk-from_err _ _ c.from_residual.ensures.0

pub returns-in_err-add_own : goal.returns-in_err-add_own
returns-in_err-add_own c = IfOk-from_err _ _ c.from_residual-in_err-add_own.ensures.0

pub returns-in_err-add_pairs : goal.returns-in_err-add_pairs
returns-in_err-add_pairs c = IfOk-from_err _ _ c.from_residual-in_err-add_pairs.ensures.0
