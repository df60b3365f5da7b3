use Rattle.std.proofs.Common.{map}
use Rattle.std.proofs.lemmas.Result.{IfOk-from_err}
use Rattle.dpl_orient.specs.Masks.{is_second}
use Rattle.dpl_masks.proofs.RestLaws.{are-rest}
use Rattle.dpl_masks.proofs.SheetLaws.{inked-owned, inked-owners, inked-sides}
use Rattle.dpl_masks.proofs.rest.rest_of.Goals as goal

pub add_rest_zones-requires-clause-each : goal.add_rest_zones-requires-clause-each
add_rest_zones-requires-clause-each c = rw (c.deref.ensures.value, c.deref-2.ensures.value) (inked-sides c.args.cut.now c.args.colours.now c.args.inks.now c.requires)

pub add_rest_pieces-requires-clause-owners : goal.add_rest_pieces-requires-clause-owners
add_rest_pieces-requires-clause-owners c = rw (c.deref-3.ensures.value, c.items.ensures.value) (inked-owners c.args.cut.now c.args.colours.now c.args.inks.now c.requires)

pub add_rest_pieces-requires-clause-owned : goal.add_rest_pieces-requires-clause-owned
add_rest_pieces-requires-clause-owned c = rw c.deref-3.ensures.value (inked-owned c.args.cut.now c.args.colours.now c.args.inks.now c.requires)

pub returns-clause-rest : goal.returns-clause-rest
returns-clause-rest c =
    let cut = c.args.cut.now in
    let zones = rw (c.deref.ensures.value, c.deref-2.ensures.value) at c.in_ok-add_rest_zones.ensures.adds in
    let pieces = rw (c.items.ensures.value, c.deref-3.ensures.value) at c.in_ok-add_rest_pieces.ensures.adds in
    are-rest cut.parts cut.owners.items cut.zones.items cut.sides.items (map is_second c.args.colours.now) c.args.inks.now (is_second c.args.letter) _ _ _ _
    c.new-patches.ensures.items zones pieces c.in_ok-add_rest_pieces.ensures.within c.sort_by_feature.ensures.same

pub returns-in_err-add_rest_zones-clause-rest : goal.returns-in_err-add_rest_zones-clause-rest
returns-in_err-add_rest_zones-clause-rest c = IfOk-from_err _ _ c.from_residual.ensures.0

pub returns-in_err-add_rest_zones-clause-rise : goal.returns-in_err-add_rest_zones-clause-rise
returns-in_err-add_rest_zones-clause-rise c = IfOk-from_err _ _ c.from_residual.ensures.0

pub returns-in_err-add_rest_pieces-clause-rest : goal.returns-in_err-add_rest_pieces-clause-rest
returns-in_err-add_rest_pieces-clause-rest c = IfOk-from_err _ _ c.from_residual-in_err-add_rest_pieces.ensures.0

pub returns-in_err-add_rest_pieces-clause-rise : goal.returns-in_err-add_rest_pieces-clause-rise
returns-in_err-add_rest_pieces-clause-rise c = IfOk-from_err _ _ c.from_residual-in_err-add_rest_pieces.ensures.0

pub add_rest_zones-requires-clause-known : goal.add_rest_zones-requires-clause-known
add_rest_zones-requires-clause-known c = rw (c.deref-2.ensures.value, c.requires.each) c.requires.facts.known

pub add_rest_zones-requires-clause-zones : goal.add_rest_zones-requires-clause-zones
add_rest_zones-requires-clause-zones c = rw c.deref.ensures.value c.requires.solid

pub add_rest_pieces-requires-clause-each : goal.add_rest_pieces-requires-clause-each
add_rest_pieces-requires-clause-each c = rw c.items.ensures.value c.requires.each

pub add_rest_pieces-requires-clause-within : goal.add_rest_pieces-requires-clause-within
add_rest_pieces-requires-clause-within c = c.in_ok-add_rest_zones.ensures.within

pub returns-clause-rise : goal.returns-clause-rise
returns-clause-rise c = c.sort_by_feature.ensures.rise
