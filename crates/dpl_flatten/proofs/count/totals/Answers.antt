use Rattle.std.proofs.Common.{◌<◌, ℕ, List, length, get_or, ap, sym}
use Rattle.std.proofs.lemmas.List.Elements.{Contains-get_or}
use Rattle.std.proofs.lemmas.Result.{IfOk-from_err}
use Rattle.dpl_flatten.proofs.TotalLaws.{totalled_start, totalled_more, totalled_all}
use Rattle.dpl_flatten.proofs.count.totals.Goals as goal

pub loop-structure-init : goal.loop-structure-init
loop-structure-init c = totalled_start c.args.lib.now c.args.chosen c.args.links.now.graph.now c.args.links.now.marks.now
    c.args.order.now.levels.items c.requires.links c.requires.order.falls _ c.in_ok-totals.totals.items c.in_ok-totals.ensures
    c.count.ensures.value

pub set_total-requires-clause-known : goal.set_total-requires-clause-known
set_total-requires-clause-known c =
    let i : c.loop-structure.structure-index < length c.deref-structure-items.result.now = c.loop-structure-test.true in
    c.requires.order.known _ (rw (← c.deref-structure-items.ensures.value) (Contains-get_or c.deref-structure-items.result.now c.loop-structure.structure-index 0 i))

pub loop-structure-preserved : goal.loop-structure-preserved
loop-structure-preserved c = totalled_more c.args.lib.now c.args.chosen c.args.links.now.graph.now c.args.links.now.marks.now
    c.args.order.now.levels.items c.requires.links c.requires.order.falls c.loop-structure.structure-index _ c.args.order.now.vertices.items
    c.loop-structure.totals.items c.set_total.new.totals.items c.requires.marks c.requires.order.placed
    (ap (λ (xs : List ℕ). get_or xs c.loop-structure.structure-index 0) (sym c.deref-structure-items.ensures.value)) c.set_total.ensures
    c.loop-structure.invariant

pub returns : goal.returns
returns c = totalled_all c.args.lib.now c.args.chosen c.args.links.now.graph.now c.args.links.now.marks.now c.args.order.now.levels.items
    c.requires.links c.requires.order.falls c.loop-structure.structure-index c.args.order.now.vertices.items c.loop-structure.totals.items
    (rw c.deref-structure-items.ensures.value at c.loop-structure-test.false) c.requires.order.few c.requires.order.placed
    c.loop-structure.invariant

pub returns-in_err-totals : goal.returns-in_err-totals
returns-in_err-totals c = IfOk-from_err _ _ c.from_residual.ensures.0
