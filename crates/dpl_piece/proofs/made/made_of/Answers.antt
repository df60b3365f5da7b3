use Rattle.std.proofs.Common.{◌≡◌, ◌∙◌, List, ap, map, refl, sym, subst}
use Rattle.std.proofs.lemmas.Result.{IfOk-from_err}
use Rattle.dpl_spec_split.specs.declared.Zone.{Zone}
use Rattle.dpl_sides.specs.declared.standing.Side.TheVariants.{Before, After}
use Rattle.dpl_sides.specs.Sided.{sides_in}
use Rattle.dpl_sides.specs.Noted.{AreSidesOf, StandsAfterFrom, StandsBeforeFrom}
use Rattle.dpl_sides.specs.Pieces.{parts_in, rect_at}
use Rattle.dpl_piece.specs.Pieces.{AreBroken}
use Rattle.dpl_piece.proofs.Sides.{parts-broken}
use Rattle.dpl_piece.proofs.made.made_of.Goals as goal

pub broken_pieces-requires : goal.broken_pieces-requires
broken_pieces-requires g c = rw c.in_ok-holes.ensures c.requires.within

pub returns-clause-feature : goal.returns-clause-feature
returns-clause-feature g c = refl

pub returns-clause-own : goal.returns-clause-own
returns-clause-own g c = c.in_ok-zones.ensures.own

pub returns-clause-breaks : goal.returns-clause-breaks
returns-clause-breaks g c =
    let made = c.in_ok-pieces.ensures in
    let sided = c.in_ok-zones.ensures in
    let zones : List Zone = c.args.zones.now in
    let own = sym sided.own in
    let same : parts_in c.deref.result.now ≡ made.parts = ap parts_in (c.deref.ensures.value ∙ made.added) ∙ parts-broken c.args.number made.parts in
    record {
      parts = made.parts;
      broken = subst (λ l. AreBroken c.args.feature.now (map (rect_at zones) l) made.parts) own (rw c.in_ok-holes.ensures at made.broken);
      pieces = made.added;
      firsts = subst (λ l. AreSidesOf (StandsBeforeFrom made.parts 0) zones l (sides_in Before c.in_ok-zones.zones.items)) own (rw same at sided.firsts);
      seconds = subst (λ l. AreSidesOf (StandsAfterFrom made.parts 0) zones l (sides_in After c.in_ok-zones.zones.items)) own (rw same at sided.seconds);
    }

pub returns-in_err-holes-clause-feature : goal.returns-in_err-holes-clause-feature
returns-in_err-holes-clause-feature g c = IfOk-from_err _ _ c.from_residual.ensures.0

pub returns-in_err-holes-clause-own : goal.returns-in_err-holes-clause-own
returns-in_err-holes-clause-own g c = IfOk-from_err _ _ c.from_residual.ensures.0

pub returns-in_err-holes-clause-breaks : goal.returns-in_err-holes-clause-breaks
returns-in_err-holes-clause-breaks g c = IfOk-from_err _ _ c.from_residual.ensures.0

pub returns-in_err-pieces-clause-feature : goal.returns-in_err-pieces-clause-feature
returns-in_err-pieces-clause-feature g c = IfOk-from_err _ _ c.from_residual-in_err-pieces.ensures.0

pub returns-in_err-pieces-clause-own : goal.returns-in_err-pieces-clause-own
returns-in_err-pieces-clause-own g c = IfOk-from_err _ _ c.from_residual-in_err-pieces.ensures.0

pub returns-in_err-pieces-clause-breaks : goal.returns-in_err-pieces-clause-breaks
returns-in_err-pieces-clause-breaks g c = IfOk-from_err _ _ c.from_residual-in_err-pieces.ensures.0

pub returns-in_err-zones-clause-feature : goal.returns-in_err-zones-clause-feature
returns-in_err-zones-clause-feature g c = IfOk-from_err _ _ c.from_residual-in_err-zones.ensures.0

pub returns-in_err-zones-clause-own : goal.returns-in_err-zones-clause-own
returns-in_err-zones-clause-own g c = IfOk-from_err _ _ c.from_residual-in_err-zones.ensures.0

pub returns-in_err-zones-clause-breaks : goal.returns-in_err-zones-clause-breaks
returns-in_err-zones-clause-breaks g c = IfOk-from_err _ _ c.from_residual-in_err-zones.ensures.0
