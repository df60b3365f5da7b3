use Rattle.std.proofs.Common.{false, arith, sym, ◌∙◌}
use Rattle.std.proofs.lemmas.List.{get_or_default}
use Rattle.std.proofs.lemmas.Result.{IfOk-from_err}
use Rattle.dpl_join.specs.Pairs.{item_at}
use Rattle.dpl_shade.specs.Ends.{AreEndsOf, ends_at}
use Rattle.dpl_shade.specs.Items.{own_in}
use Rattle.dpl_shade.proofs.ItemLaws.{owned-within}
use Rattle.dpl_zone.proofs.ItemZones.{alive-from, dead-none, item-zones, live-from}
use Rattle.dpl_zone.proofs.slab_zones.zones_of_item.Goals as goal

pub index-requires : goal.index-requires
index-requires c = let size = c.requires.shades.sound.sized in let k = c.requires.known in omega (arith, size, k)

pub returns-then-index : goal.returns-then-index
returns-then-index c =
    let size = c.requires.shades.sound.sized in
    let k = c.requires.known in
    let flag = get_or_default c.args.shades.now.dead.items c.args.at.number false c.index.result.now (omega (arith, k, size)) ∙ (sym c.index.ensures ∙ c.if-index.true) in
    dead-none c.args.shades.now.spacing c.args.shades.now.overlap c.args.items.now c.args.at.number _ c.clear.ensures.items
    (c.requires.shades.sound.dead c.args.at.number k flag)

pub rows_at-requires-clause-portion : goal.rows_at-requires-clause-portion
rows_at-requires-clause-portion c = rw c.deref.ensures.value c.requires.portion

pub rows_at-requires-clause-tall : goal.rows_at-requires-clause-tall
rows_at-requires-clause-tall c = rw c.deref.ensures.value (λ s h. (c.requires.shades.sound.shades s h).tall)

pub add_zones-requires-clause-slab : goal.add_zones-requires-clause-slab
add_zones-requires-clause-slab c = owned-within c.args.items.now c.args.at.number _ c.requires.within c.requires.known

pub add_zones-requires-clause-tall : goal.add_zones-requires-clause-tall
add_zones-requires-clause-tall c = rw c.deref-2.ensures.value c.in_ok-rows_at.ensures.tall

pub add_zones-requires-clause-rise : goal.add_zones-requires-clause-rise
add_zones-requires-clause-rise c = rw c.deref-2.ensures.value c.in_ok-rows_at.ensures.rise

pub returns : goal.returns
returns c =
    let flags_in = c.requires.shades.sound.sized in
    let live = live-from c.args.shades.now.dead.items c.args.at.number c.index.result.now (let k = c.requires.known in omega (arith, k, flags_in)) c.index.ensures c.if-index.false in
    let told : AreEndsOf (own_in c.args.items.now (item_at c.args.items.now c.args.at.number).owner) (item_at c.args.items.now c.args.at.number).rect (ends_at c.args.ends.now c.args.at.number) =
    c.requires.ends.each c.args.at.number c.requires.known live in
    item-zones c.args.items.now c.args.shades.now c.args.at.number (ends_at c.args.ends.now c.args.at.number) c.rows_at.new.spans.items _ _ c.requires.shades c.requires.known
    (alive-from c.args.shades.now.dead.items c.args.at.number c.index.result.now c.index.ensures c.if-index.false) told
    (rw c.deref.ensures.value at c.in_ok-rows_at.ensures.rows) c.clear.ensures.items
    (rw c.deref-2.ensures.value at c.in_ok-add_zones.ensures)

pub returns-in_err-rows_at : goal.returns-in_err-rows_at
returns-in_err-rows_at c = IfOk-from_err _ _ c.from_residual.ensures.0

pub returns-in_err-add_zones : goal.returns-in_err-add_zones
returns-in_err-add_zones c = IfOk-from_err _ _ c.from_residual-in_err-add_zones.ensures.0
