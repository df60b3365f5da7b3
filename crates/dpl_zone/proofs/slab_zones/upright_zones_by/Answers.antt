use Rattle.std.proofs.Common.{◌≡◌, List, subst, sym, ◌∙◌}
use Rattle.std.proofs.lemmas.Result.{IfOk-weaker, IfOk-from_err}
use Rattle.dpl_join.specs.declared.items.Item.{Item}
use Rattle.dpl_shade.specs.Items.{AreInOrder, AreOwnedWithin, OwnersRise}
use Rattle.dpl_shade.specs.Shading.{AreShades}
use Rattle.dpl_zone.proofs.ItemZones.{upright-all, upright-none}
use Rattle.dpl_zone.proofs.slab_zones.upright_zones_by.Goals as goal

pub shades_by-requires-clause-within : goal.shades_by-requires-clause-within
shades_by-requires-clause-within g c κs l = subst AreOwnedWithin (sym c.in_ok-join.ensures.items) c.requires.within

pub shades_by-requires-clause-rule : goal.shades_by-requires-clause-rule
shades_by-requires-clause-rule g c κs l = c.in_ok-join.ensures.rule

pub ends_of-requires-clause-rise : goal.ends_of-requires-clause-rise
ends_of-requires-clause-rise g c = subst OwnersRise (sym (c.deref-2.ensures.value ∙ (c.into_items-items.ensures ∙ c.in_ok-join.ensures.items))) c.requires.rise

pub ends_of-requires-clause-dead : goal.ends_of-requires-clause-dead
ends_of-requires-clause-dead g c = rw (c.deref-3.ensures.value, c.deref-2.ensures.value, c.into_items-items.ensures) c.in_ok-shades.ensures.shades.sound.sized

pub ends_of-requires-clause-order : goal.ends_of-requires-clause-order
ends_of-requires-clause-order g c = subst AreInOrder (sym (c.deref-2.ensures.value ∙ (c.into_items-items.ensures ∙ c.in_ok-join.ensures.items))) c.requires.order

pub ends_of-requires-clause-within : goal.ends_of-requires-clause-within
ends_of-requires-clause-within g c = subst AreOwnedWithin (sym (c.deref-2.ensures.value ∙ (c.into_items-items.ensures ∙ c.in_ok-join.ensures.items))) c.requires.within

pub zones_of_items_by-requires-clause-within : goal.zones_of_items_by-requires-clause-within
zones_of_items_by-requires-clause-within g c κs l = subst AreOwnedWithin (sym (c.deref-4.ensures.value ∙ (c.into_items-items.ensures ∙ c.in_ok-join.ensures.items))) c.requires.within

pub zones_of_items_by-requires-clause-shades : goal.zones_of_items_by-requires-clause-shades
zones_of_items_by-requires-clause-shades g c κs l =
    subst (λ (xs : List Item). AreShades xs c.in_ok-shades.shades) (sym (c.deref-4.ensures.value ∙ c.into_items-items.ensures)) c.in_ok-shades.ensures.shades

pub zones_of_items_by-requires-clause-ends : goal.zones_of_items_by-requires-clause-ends
zones_of_items_by-requires-clause-ends g c κs l =
    rw (c.deref-4.ensures.value, c.deref-5.ensures.value) (rw (c.deref-2.ensures.value, c.deref-3.ensures.value) at c.in_ok-ends.ensures)

pub are_short-requires : goal.are_short-requires
are_short-requires g c = rw c.deref.ensures.value c.requires.within

pub returns-then-are_short : goal.returns-then-are_short
returns-then-are_short g c parts sets apart =
    upright-none c.args.spacing c.requires.corner c.args.overlap parts c.args.items.items sets apart c.requires.within _ c.new.ensures.items
    (rw c.deref.ensures.value at (c.are_short.ensures c.if-are_short.true))

pub returns : goal.returns
returns g c parts sets apart =
    let same : c.deref-4.result.now ≡ c.args.items.items = c.deref-4.ensures.value ∙ (c.into_items-items.ensures ∙ c.in_ok-join.ensures.items) in
    IfOk-weaker c.zones_of_items_by.result _ _ (λ v are. upright-all c.args.spacing c.requires.corner c.args.overlap parts c.args.items.items sets apart c.requires.within v.items
    (rw (same, c.in_ok-shades.ensures.spacing, c.in_ok-shades.ensures.overlap) at are)) c.zones_of_items_by.ensures

pub returns-in_err-join : goal.returns-in_err-join
returns-in_err-join g c = λ parts sets apart. IfOk-from_err _ _ c.from_residual.ensures.0

pub returns-in_err-shades : goal.returns-in_err-shades
returns-in_err-shades g c = λ parts sets apart. IfOk-from_err _ _ c.from_residual-in_err-shades.ensures.0

pub returns-in_err-ends : goal.returns-in_err-ends
returns-in_err-ends g c = λ parts sets apart. IfOk-from_err _ _ c.from_residual-in_err-ends.ensures.0
