use Rattle.std.proofs.Common.{subst, sym}
use Rattle.dpl_spec_split.specs.Squares.{Covers}
use Rattle.dpl_session.specs.Clean.{IsDirty}
use Rattle.dpl_session.specs.Held.{Held}
use Rattle.dpl_session.specs.Kept.{IsFreshIn}
use Rattle.dpl_session.specs.Tiles.{IsSide}
use Rattle.dpl_session.proofs.Standing.{dirty}
use Rattle.dpl_session.proofs.Gathered.{took_other}
use Rattle.dpl_session.proofs.session.Session.move_to.Goals as goal

pub returns-in_err-session-clause-steps : goal.returns-in_err-session-clause-steps
returns-in_err-session-clause-steps g c = λ side is_side. (
    let s = c.self.inside in
    let mine = subst (λ (h : Held). IsSide (Covers c.args.layer) h.side side) (sym c.self.view_is) is_side in
    let few = c.in_err-session.ensures.steps side mine in
    let here = rw c.deref.ensures.value at few in
    rw (← c.self.view_is) (took_other (IsFreshIn s.spacing s.overlap c.args.layer s.tiles.items side)
    (IsDirty s.spacing s.overlap s.layer s.side c.args.layer side) c.args.steps.now c.session_of.new.steps
    (λ cell new. dirty s.spacing s.overlap s.layer c.args.layer s.side side s.pieces s.verdict s.tiles.items c.self.invariant cell new) here))

pub returns-clause-steps : goal.returns-clause-steps
returns-clause-steps g c = λ side is_side. (
    let s = c.self.inside in
    let mine = subst (λ (h : Held). IsSide (Covers c.args.layer) h.side side) (sym c.self.view_is) is_side in
    let few = c.in_ok-session.ensures.steps side mine in
    let here = rw c.deref.ensures.value at few in
    rw (← c.self.view_is) (took_other (IsFreshIn s.spacing s.overlap c.args.layer s.tiles.items side)
    (IsDirty s.spacing s.overlap s.layer s.side c.args.layer side) c.args.steps.now c.session_of.new.steps
    (λ cell new. dirty s.spacing s.overlap s.layer c.args.layer s.side side s.pieces s.verdict s.tiles.items c.self.invariant cell new) here))
