use Rattle.std.proofs.Common.{◌≡◌, List, subst, sym, refl, rules}
use Rattle.dpl_spec_split.specs.declared.Rect.{Rect}
use Rattle.dpl_spec_split.specs.Squares.{Covers}
use Rattle.dpl_session.specs.Kept.{IsFreshIn}
use Rattle.dpl_session.specs.Tiles.{IsSide, IsTile, TookFew}
use Rattle.dpl_session.proofs.Gathered.{took_nothing, took_other}
use Rattle.dpl_session.proofs.Standing.{tile_of}
use Rattle.dpl_session.proofs.session.Session.open.Goals as goal

pub returns-in_err-layer-clause-steps : goal.returns-in_err-layer-clause-steps
returns-in_err-layer-clause-steps g c = λ side is_side. took_nothing _ c.args.steps.now c.args.steps.now refl

pub returns-clause-steps : goal.returns-clause-steps
returns-clause-steps g c = λ side is_side. (
    let layer : List Rect = c.in_ok-layer.layer in
    let same : layer ≡ c.args.layer.now = search rules in
    let few = c.session_of.ensures.steps side (subst (λ (l : List Rect). IsSide (Covers l) c.args.tile side) (sym same) is_side) in
    subst (λ (l : List Rect). TookFew (IsTile side (Covers l)) c.args.steps.now c.session_of.new.steps) same
    (took_other (IsFreshIn c.args.spacing c.args.overlap layer c.deref.result.now side) (IsTile side (Covers layer)) c.args.steps.now c.session_of.new.steps
    (λ cell new. tile_of c.args.spacing c.args.overlap layer c.deref.result.now side cell new) few))
