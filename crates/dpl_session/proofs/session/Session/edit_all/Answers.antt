use Rattle.std.proofs.Common.{◌≡◌, List, subst, sym, refl, ap, rules}
use Rattle.dpl_spec_split.specs.declared.Rect.{Rect}
use Rattle.dpl_spec_split.specs.Squares.{Covers}
use Rattle.dpl_spec_split.specs.Slabs.{AreSlabsOf}
use Rattle.dpl_spec_split.proofs.WholeLaws.{slabs-unique}
use Rattle.dpl_spec_edits.specs.Edits.{edited}
use Rattle.dpl_session.specs.Clean.{IsDirty}
use Rattle.dpl_session.specs.Held.{Held}
use Rattle.dpl_session.specs.Tiles.{IsSide, TookFew}
use Rattle.dpl_session.proofs.Gathered.{took_nothing}
use Rattle.dpl_session.proofs.session.Session.edit_all.Goals as goal

pub returns-in_err-before-clause-steps : goal.returns-in_err-before-clause-steps
returns-in_err-before-clause-steps g c = λ after side are is_side. took_nothing _ c.args.steps.now c.args.steps.now refl

pub returns-in_err-after-clause-steps : goal.returns-in_err-after-clause-steps
returns-in_err-after-clause-steps g c = λ after side are is_side. took_nothing _ c.args.steps.now c.args.steps.now refl

pub returns-clause-steps : goal.returns-clause-steps
returns-clause-steps g c = λ after side are is_side. (
    let h = c.args.self.now in
    let layer_is : c.self.inside.layer ≡ h.layer = ap (λ (h : Held). h.layer) c.self.view_is in
    let before_is : c.in_ok-before.before ≡ h.layer = search rules in
    let made = subst (λ (l : List Rect). AreSlabsOf (edited (Covers l) c.args.edits.now) c.in_ok-after.after) before_is c.in_ok-after.ensures in
    let same = slabs-unique (edited (Covers h.layer) c.args.edits.now) c.in_ok-after.after after made are in
    let few = c.move_to.ensures.steps side (subst (λ (l : List Rect). IsSide (Covers l) h.side side) (sym same) is_side) in
    subst (λ l. TookFew (IsDirty h.spacing h.overlap h.layer h.side l side) c.args.steps.now c.move_to.new.steps) same few)
