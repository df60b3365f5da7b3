use Rattle.std.proofs.Common.{◌≡◌, ◌<◌, length, get_or, refl, sym, ap, ◌∙◌, arith, rules, w32, of_z, FitsSigned}
use Rattle.std.specs.Prelude.{pos}
use Rattle.std.proofs.lemmas.Int.{to_z-of_z}
use Rattle.std.proofs.lemmas.List.{get_or_default}
use Rattle.dpl_sides.specs.declared.corner.Corner.{Corner}
use Rattle.dpl_sides.specs.Corners.{corner_at}
use Rattle.dpl_sides.proofs.Noting.{run-next, run-done}
use Rattle.dpl_sides.proofs.noted.note.Goals as goal
use Rattle.dpl_sides.proofs.noted.note.Goals.{then-c-corner-via-then-c-corner, then-c-corner-via-else-c-corner+then-c-corner-2}

pub returns-then-c-corner : goal.returns-then-c-corner
returns-then-c-corner c =
    let x : FitsSigned w32 c.args.corner.x = search rules in
    let y : FitsSigned w32 c.args.corner.y = search rules in
    let parted = rw (to_z-of_z w32 _ x, to_z-of_z w32 _ y) at c.count_before-first.ensures.parted in
    run-done c.args.corner c.args.corners.now c.count_before-first.result c.loop-i.i c.args.noted.now c.loop-i.noted c.requires.rise parted (omega arith) c.loop-i.invariant
    (λ l d at_x at_y. (
    let same = get_or_default c.args.corners.now c.loop-i.i d (corner_at (pos 0) (pos 0) 0) l in
    elim c.then-c-corner.branch [
      | then-c-corner-via-then-c-corner w ↦ w.if-c-corner.true (ap (of_z w32) (ap (λ t. let u : Corner = t in u.x) (sym same) ∙ at_x))
      | then-c-corner-via-else-c-corner+then-c-corner-2 w ↦ w.if-c-corner-2.true (ap (of_z w32) (ap (λ t. let u : Corner = t in u.y) (sym same) ∙ at_y))
    ]))

pub loop-i-preserved : goal.loop-i-preserved
loop-i-preserved c =
    let here : c.loop-i.i < length c.args.corners.now = search rules in
    let d : Corner = get_or c.args.corners.now c.loop-i.i (corner_at (pos 0) (pos 0) 0) in
    let at_x : d.x ≡ c.args.corner.x = search rules in
    let at_y : d.y ≡ c.args.corner.y = search rules in
    run-next c.args.corner c.args.corners.now c.count_before-first.result c.loop-i.i d c.args.noted.now c.loop-i.noted _ here
    (get_or_default _ _ _ _ here) at_x at_y refl c.loop-i.invariant

pub returns : goal.returns
returns c =
    let x : FitsSigned w32 c.args.corner.x = search rules in
    let y : FitsSigned w32 c.args.corner.y = search rules in
    let parted = rw (to_z-of_z w32 _ x, to_z-of_z w32 _ y) at c.count_before-first.ensures.parted in
    run-done c.args.corner c.args.corners.now c.count_before-first.result c.loop-i.i c.args.noted.now c.loop-i.noted c.requires.rise parted
    (omega arith) c.loop-i.invariant (λ l d at_x at_y. absurd (omega (arith, l)))
