use Rattle.std.proofs.lemmas.Result.{IfOk-from_err}
use Rattle.dpl_edges.proofs.Fixing.{first-ahead, marks-all}
use Rattle.dpl_edges.proofs.marks.mark_edges.Goals as goal

pub add_fixed-requires-2-clause-ahead : goal.add_fixed-requires-2-clause-ahead
add_fixed-requires-2-clause-ahead c =
    first-ahead c.args.parts.now c.args.b.now c.add_fixed.new.edges.items
    (rw (c.in_ok-push.ensures.items, c.new-edges.ensures.items, c.items.ensures.value) at c.in_ok-add_fixed.ensures.members)

pub returns : goal.returns
returns c =
    marks-all c.args.parts.now c.args.a.now c.args.b.now c.add_fixed.new.edges.items c.add_fixed-2.new.edges.items
    (rw (c.in_ok-push.ensures.items, c.new-edges.ensures.items, c.items.ensures.value) at c.in_ok-add_fixed.ensures.members)
    (rw c.items-2.ensures.value at c.in_ok-add_fixed-2.ensures.members) c.in_ok-add_fixed-2.ensures.ordered

pub returns-in_err-push : goal.returns-in_err-push
returns-in_err-push c = IfOk-from_err _ _ c.from_residual.ensures.0

pub returns-in_err-add_fixed : goal.returns-in_err-add_fixed
returns-in_err-add_fixed c = IfOk-from_err _ _ c.from_residual-in_err-add_fixed.ensures.0

pub returns-in_err-add_fixed-2 : goal.returns-in_err-add_fixed-2
returns-in_err-add_fixed-2 c = IfOk-from_err _ _ c.from_residual-in_err-add_fixed-2.ensures.0
