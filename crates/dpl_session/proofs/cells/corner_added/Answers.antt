use Rattle.std.proofs.Common.{◌≡◌, ◌∙◌, List, [], ◌∷◌, ◌++◌, refl, sym, subst, ap}
use Rattle.dpl_spec_split.specs.declared.Rect.{Rect}
use Rattle.dpl_slabs.specs.Parts.{AreParts}
use Rattle.dpl_session.proofs.Alone.{one_part}
use Rattle.dpl_session.proofs.Grids.{cornered}
use Rattle.dpl_session.proofs.cells.corner_added.Goals as goal

pub of-requires : goal.of-requires
of-requires c =
    let is : c.push.new.self.items ≡ c.in_ok-all.all ∷ [] = c.in_ok-push.ensures.items ∙ ap (λ (s : List (List Rect)). s ++ c.in_ok-all.all ∷ []) c.new-sets.ensures.items in
    subst AreParts (sym is) (one_part c.in_ok-all.all c.rects.ensures.canonical c.rects.ensures.within)

pub returns : goal.returns
returns c = (
  c.in_ok-all.all,
  c.of.ensures ∙ (c.in_ok-push.ensures.items ∙ ap (λ (s : List (List Rect)). s ++ c.in_ok-all.all ∷ []) c.new-sets.ensures.items),
  cornered c.args.layer.now c.in_ok-first.first c.in_ok-all.all _ c.in_ok-first.ensures refl refl refl refl c.in_ok-all.ensures,
)
