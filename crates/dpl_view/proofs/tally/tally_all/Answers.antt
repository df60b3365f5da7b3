use Rattle.std.proofs.Common.{◌≡◌, map, length, arith}
use Rattle.std.proofs.lemmas.List.{get_or-map}
use Rattle.std.proofs.Math.ListN.{length-map}
use Rattle.dpl_syntax.specs.Elements.{element_seen}
use Rattle.dpl_view.proofs.tally.tally_all.Goals as goal

pub tally-requires-clause-listed : goal.tally-requires-clause-listed
tally-requires-clause-listed c =
    let es = c.args.elements.now in
    let i = c.loop-element.element-index in
    let many : length (map element_seen es) ≡ length es = simp length-map in
    c.requires.listed _ (i, omega (arith, c.loop-element-test.true, many), get_or-map element_seen es i _ _ c.loop-element-test.true)
