use Rattle.std.proofs.Common.{[], subst, sym, refl, ap, ◌∙◌, arith}
use Rattle.std.proofs.lemmas.List.{get_or_default, take_all}
use Rattle.dpl_tile.specs.Kept.{AreOver}
use Rattle.dpl_tile.specs.Tiles.{pairs_of}
use Rattle.dpl_tile.proofs.count.has_few_pairs.Goals as goal

pub add_cells-requires-clause-over : goal.add_cells-requires-clause-over
add_cells-requires-clause-over c =
    subst (λ u. AreOver c.args.grid.now u) (sym (c.rects.ensures.value ∙ (c.part-item.is ∙ get_or_default _ _ _ [] c.loop-part-test.true)))
    (c.requires.over c.loop-part.part-index [] c.loop-part-test.true)

pub add_cells-requires-clause-sound : goal.add_cells-requires-clause-sound
add_cells-requires-clause-sound c = c.requires.sound

pub add_cells-requires-clause-few : goal.add_cells-requires-clause-few
add_cells-requires-clause-few c = c.loop-part.invariant.few

pub returns : goal.returns
returns c =
    let s = c.loop-part.invariant.sum in
    let f = c.loop-part.invariant.few in
    let e = ap (pairs_of c.args.grid.now) (take_all c.loop-part.part-index c.args.parts.now c.loop-part-test.false) in
    (λ q. omega (arith, s, f, e), λ q. refl)
