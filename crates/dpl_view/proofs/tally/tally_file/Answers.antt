use Rattle.std.proofs.Common.{◌+◌, ◌<◌, map, length, sym, ap, subst, ◌∙◌, arith}
use Rattle.std.specs.List.{Contains}
use Rattle.dpl_syntax.specs.Elements.{element_seen}
use Rattle.dpl_view.specs.Layers.{count_in}
use Rattle.dpl_view.proofs.CountLaws.{count_below, more_add, structure_more}
use Rattle.dpl_view.proofs.tally.tally_file.Goals as goal

pub tally_all-requires-clause-listed : goal.tally_all-requires-clause-listed
tally_all-requires-clause-listed c = λ e there. c.requires.listed c.loop-structure.structure e (subst (λ es. Contains es e) c.elements.ensures.same there)

pub loop-structure-preserved : goal.loop-structure-preserved
loop-structure-preserved c =
    let lib = c.args.lib.now in
    let n = c.loop-structure.structure in
    let es = map element_seen c.elements.result.now in
    let inside : n < length lib.structures = omega (arith, c.loop-structure-test.true, c.count-structure-end.ensures.value) in
    more_add (count_below lib n) (λ test. count_in test es) (count_below lib (n + 1)) c.args.table.now c.loop-structure.table c.tally_all.new.table
    (λ test. structure_more lib n test inside ∙ ap (λ xs. count_below lib n test + count_in test xs) (sym c.elements.ensures.same))
    c.loop-structure.invariant c.in_ok-tally_all.ensures
