use Rattle.std.proofs.Common.{ap, get_or, rules, w32, ◌∙◌}
use Rattle.std.specs.Prelude.{pos}
use Rattle.std.specs.Int.RustNames.{FitsSigned}
use Rattle.std.proofs.lemmas.Int.{to_z-of_z}
use Rattle.std.proofs.lemmas.List.{get_or_default}
use Rattle.dpl_spec_split.specs.declared.Rect.{Rect}
use Rattle.dpl_feature.proofs.Orders.{top-from}
use Rattle.dpl_feature.proofs.meet.top_of.Goals as goal

abbrev zero_rect : Rect
zero_rect = record { x0 = pos 0; y0 = pos 0; x1 = pos 0; y1 = pos 0 }

pub returns-clause-top : goal.returns-clause-top
returns-clause-top c =
    let row : FitsSigned w32 (get_or c.args.rects.now c.args.n zero_rect).y1 = search rules in
    let column : FitsSigned w32 (get_or c.args.rects.now c.args.n zero_rect).x0 = search rules in
    top-from c.args.rects.now c.args.n _ c.requires c.in_ok-number.ensures.same
    (λ d. to_z-of_z w32 _ row ∙ ap (λ (r : Rect). r.y1) (get_or_default c.args.rects.now c.args.n zero_rect d c.requires))
    (λ d. to_z-of_z w32 _ column ∙ ap (λ (r : Rect). r.x0) (get_or_default c.args.rects.now c.args.n zero_rect d c.requires))
