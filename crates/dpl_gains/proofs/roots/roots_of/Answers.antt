use Rattle.std.proofs.Common.{length, ap, ◌∙◌}
use Rattle.std.proofs.lemmas.Result.{IfOk-from_err}
use Rattle.dpl_gains.proofs.Rooting.{edges-below, roots-found}
use Rattle.dpl_gains.proofs.roots.roots_of.Goals as goal

pub levels_of-requires : goal.levels_of-requires
levels_of-requires c =
    rw c.deref.ensures.value (edges-below c.args.spacing c.args.pieces.now.parts c.args.pieces.now.owners c.in_ok-edges.edges.items _
    (ap length (c.items.ensures.value ∙ c.parts-2.ensures.value)) (rw (c.parts.ensures.value, c.owner.ensures.value) at c.in_ok-edges.ensures.edges))

pub returns : goal.returns
returns c =
    roots-found c.args.spacing c.args.pieces.now.parts c.args.pieces.now.owners c.in_ok-edges.edges.items _
    c.in_ok-levels.levels.roots.items c.in_ok-levels.levels.levels.items (ap length (c.items.ensures.value ∙ c.parts-2.ensures.value))
    (rw (c.parts.ensures.value, c.owner.ensures.value) at c.in_ok-edges.ensures.edges) (rw c.deref.ensures.value at c.in_ok-levels.ensures)

pub returns-in_err-edges : goal.returns-in_err-edges
returns-in_err-edges c = IfOk-from_err _ _ c.from_residual.ensures.0

pub returns-in_err-levels : goal.returns-in_err-levels
returns-in_err-levels c = IfOk-from_err _ _ c.from_residual-in_err-levels.ensures.0
