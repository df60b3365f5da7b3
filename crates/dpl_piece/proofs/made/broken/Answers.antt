use Rattle.std.proofs.Common.{◌≡◌, ◌≤◌, ◌<◌, ◌∙◌, List, [], ◌∷◌, length, get_or, refl, ap, subst, arith}
use Rattle.dpl_spec_split.specs.declared.Rect.{Rect}
use Rattle.std.proofs.lemmas.List.Elements.{Contains-get_or}
use Rattle.std.proofs.lemmas.Result.{IfOk-from_err}
use Rattle.dpl_spec_split.specs.Squares.{Covers}
use Rattle.dpl_piece.specs.Pieces.{left_of, AreBroken}
use Rattle.dpl_piece.proofs.Regions.{components-same}
use Rattle.dpl_piece.proofs.made.broken.Goals as goal

pub returns-2 : goal.returns-2
returns-2 c =
    let left = rw (c.rects-2.ensures.value, c.deref-2.ensures.value) at c.in_ok-left.ensures in
    record {
      components = rw c.into_vec.ensures.value
          (components-same (Covers c.in_ok-left.left) (left_of c.args.feature.now c.args.holes.items) c.in_ok-parts-2.parts left.covers c.in_ok-parts-2.ensures);
      apart = rw c.into_vec.ensures.value c.into_vec.ensures.parts;
    }

pub returns-in_err-parts : goal.returns-in_err-parts
returns-in_err-parts c = IfOk-from_err _ _ c.from_residual.ensures.0

pub returns-in_err-left : goal.returns-in_err-left
returns-in_err-left c = IfOk-from_err _ _ c.from_residual-in_err-left.ensures.0

pub returns-in_err-parts-2 : goal.returns-in_err-parts-2
returns-in_err-parts-2 c = IfOk-from_err _ _ c.from_residual-in_err-parts-2.ensures.0

pub bar_parts-requires-clause-solid : goal.bar_parts-requires-clause-solid
bar_parts-requires-clause-solid c = rw c.rects.ensures.value (c.rects.ensures.canonical.solid 0 _ (omega (arith, c.in-len1.len_at_least, ap length c.rects.ensures.value)))

pub bar_parts-requires-clause-within : goal.bar_parts-requires-clause-within
bar_parts-requires-clause-within c =
    rw c.rects.ensures.value (c.rects.ensures.within _ (Contains-get_or c.args.feature.now 0 _ (omega (arith, c.in-len1.len_at_least, ap length c.rects.ensures.value))))

pub bar_parts-requires-clause-holes : goal.bar_parts-requires-clause-holes
bar_parts-requires-clause-holes c = rw c.deref.ensures.value c.requires

-- a list of one element
only : (xs : List Rect) (d : Rect) → 1 ≤ length xs → length xs < 2 → get_or xs 0 d ∷ [] ≡ xs
only [] d l m = absurd (omega (arith, l))
only (x ∷ []) d l m = refl
only (x ∷ (y ∷ ys)) d l m = absurd (omega (arith, m))

pub returns : goal.returns
returns c =
    subst (λ f. AreBroken f c.args.holes.items c.in-Some.parts.items) (only c.rects.result.now _ c.in-len1.len_at_least c.in-len1.len_below ∙ c.rects.ensures.value)
    (rw (c.in-Some.is, c.deref.ensures.value) at c.in_ok-parts.ensures)
