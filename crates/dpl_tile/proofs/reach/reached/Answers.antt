use Rattle.std.proofs.Common.{◌≡◌, ◌∙◌, refl, rules, w32, FitsSigned}
use Rattle.std.specs.Prelude.{ℤ}
use Rattle.std.proofs.lemmas.Int.{to_z-of_z}
use Rattle.dpl_spec_split.specs.declared.Rect.{Rect}
use Rattle.dpl_tile.proofs.reach.reached.Goals as goal

same-rect : (a b c d e f g h : ℤ) → a ≡ e → b ≡ f → c ≡ g → d ≡ h → ◌≡◌ {A = Rect} (record { x0 = a; y0 = b; x1 = c; y1 = d }) (record { x0 = e; y0 = f; x1 = g; y1 = h })
same-rect a b c d e f g h p q r s = rw (p, q, r, s) refl

pub returns : goal.returns
returns c =
    let u : FitsSigned w32 c.args.a.now.x0 = search rules in
    let v : FitsSigned w32 c.args.b.now.x0 = search rules in
    let w : FitsSigned w32 c.args.a.now.y0 = search rules in
    let x : FitsSigned w32 c.args.b.now.y0 = search rules in
    let k : FitsSigned w32 c.args.a.now.x1 = search rules in
    let l : FitsSigned w32 c.args.b.now.x1 = search rules in
    let m : FitsSigned w32 c.args.a.now.y1 = search rules in
    let n : FitsSigned w32 c.args.b.now.y1 = search rules in
    let left : FitsSigned w32 c.low_reached.result = search rules in
    let low : FitsSigned w32 c.low_reached-2.result = search rules in
    let right : FitsSigned w32 c.high_reached.result = search rules in
    let high : FitsSigned w32 c.high_reached-2.result = search rules in
    same-rect _ _ _ _ _ _ _ _
    (to_z-of_z w32 _ left ∙ (rw (to_z-of_z w32 _ u, to_z-of_z w32 _ v) at c.low_reached.ensures))
    (to_z-of_z w32 _ low ∙ (rw (to_z-of_z w32 _ w, to_z-of_z w32 _ x) at c.low_reached-2.ensures))
    (to_z-of_z w32 _ right ∙ (rw (to_z-of_z w32 _ k, to_z-of_z w32 _ l) at c.high_reached.ensures))
    (to_z-of_z w32 _ high ∙ (rw (to_z-of_z w32 _ m, to_z-of_z w32 _ n) at c.high_reached-2.ensures))
