use Rattle.std.proofs.Common.{◌-◌, ◌<◌, arith, ◌∙◌, [], length, map}
use Rattle.std.proofs.lemmas.List.{get_or_default}
use Rattle.dpl_tree.proofs.SearchLaws.{found-first, found-above}
use Rattle.dpl_tree.proofs.StoredLaws.{found-items_of}
use Rattle.dpl_tree.specs.StoredItems.{item_of}
use Rattle.dpl_tree.proofs.search.find_at.Goals as goal

pub returns-then-place-eq0 : goal.returns-then-place-eq0
returns-then-place-eq0 c = found-first (map item_of c.args.items.now) c.args.place c.args.window.now c.args.owners c.find_in.result c.if-place-eq0.true
    (found-items_of c.args.items.now c.args.place.at c.args.window.now c.args.owners c.find_in.result c.find_in.ensures)

pub returns : goal.returns
returns c =
    let known : c.args.place.level - 1 < length c.args.levels.now = (let some = c.if-place-eq0.false in let level = c.requires.level in omega (arith, some, level)) in
    let is = c.index-levels-place.is ∙ get_or_default c.args.levels.now (c.args.place.level - 1) c.index-levels-place.result [] known in
    found-above (map item_of c.args.items.now) c.args.levels.now c.args.place c.args.window.now c.args.owners c.find_in-2.result
    c.requires.index.covered c.if-place-eq0.false c.requires.level
    (rw (c.items.ensures ∙ is) at c.find_in-2.ensures)
