use Rattle.std.proofs.Common.{◌≡◌, ℕ, ◌+◌, ◌<◌, List, [], ◌∷◌, ◌++◌, length, get_or, map, take, append-nil, sym, ap, ◌∙◌}
use Rattle.std.proofs.lemmas.List.{append_assoc, map_more, take_all}
use Rattle.std.proofs.lemmas.Result.{IfOk-from_err}
use Rattle.dpl_spec_split.specs.declared.Rect.{Rect}
use Rattle.dpl_sides.specs.declared.corner.Slab.{Slab}
use Rattle.dpl_sides.specs.Corners.{slab_of}
use Rattle.dpl_sides.proofs.corner.add_slabs.Goals as goal

slabs-more : (f : Rect → Slab) (rects : List Rect) (i : ℕ) (d : Rect) (base old new : List Slab) → new ≡ old ++ f (get_or rects i d) ∷ [] → i < length rects
    → old ≡ base ++ map f (take i rects) → new ≡ base ++ map f (take (i + 1) rects)
slabs-more f rects i d base old new new_is i_in so_far =
    new_is ∙ (ap (λ (xs : List Slab). xs ++ f (get_or rects i d) ∷ []) so_far
    ∙ (append_assoc base (map f (take i rects)) (f (get_or rects i d) ∷ []) ∙ ap (λ (xs : List Slab). base ++ xs) (sym (map_more f rects i d i_in))))

pub loop-r-init : goal.loop-r-init
loop-r-init c = sym (append-nil c.args.slabs.now.items)

pub loop-r-preserved : goal.loop-r-preserved
loop-r-preserved c =
    slabs-more (slab_of c.args.number) c.args.rects.now c.loop-r.r-index _ _ c.loop-r.slabs.items _ c.in_ok-push.ensures.items c.loop-r-test.true c.loop-r.invariant

pub returns : goal.returns
returns c = c.loop-r.invariant
    ∙ ap (λ (xs : List Rect). c.args.slabs.now.items ++ map (slab_of c.args.number) xs) (take_all c.loop-r.r-index c.args.rects.now c.loop-r-test.false)

pub returns-in_err-push : goal.returns-in_err-push
returns-in_err-push c = IfOk-from_err _ _ c.from_residual.ensures.0
