use Rattle.std.proofs.Common.{ℕ, refl, subst, sym, ◌≤◌}
use Rattle.dpl_spec_split.specs.declared.Spacing.{Spacing}
use Rattle.dpl_join.specs.Pairs.{IsPair}
use Rattle.dpl_shade.specs.Shading.{HandlesBoth}
use Rattle.dpl_shade.proofs.ShadingLaws.{shades-sorted}
use Rattle.dpl_shade.proofs.shades.shades_by.Goals as goal

pub returns-clause-shades : goal.returns-clause-shades
returns-clause-shades g c =
    let same = c.in_ok-shades.ensures.spacing in
    shades-sorted c.args.join.now.items c.in_ok-shades.shades _ refl refl refl c.merge_by_number.ensures.same c.merge_by_number.ensures.rise
    (subst (λ (s : Spacing). s.corner ≤ s.rule) (sym same) c.requires.corner) c.in_ok-shades.ensures.sound
    (subst (λ (s : Spacing). (p : ℕ × ℕ) → IsPair s.rule c.args.join.now.items p → HandlesBoth c.args.join.now.items c.in_ok-shades.shades p) (sym same) c.in_ok-shades.ensures.handles)
