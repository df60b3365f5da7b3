use Rattle.std.proofs.Common.{◌≡◌, ◌∙◌, ◌<◌, ℕ, List, [], ◌∷◌, ◌++◌, length, take, get_or, sym, ap}
use Rattle.dpl_spec_split.specs.declared.Rect.{Rect}
use Rattle.std.proofs.lemmas.List.{take_all, take_more}
use Rattle.std.proofs.lemmas.Option.{get_or_from_slice_get}
use Rattle.dpl_session.proofs.cells.cells_in.Goals as goal

pub loop-tile-preserved : goal.loop-tile-preserved
loop-tile-preserved c =
    let cells : List Rect = c.args.plan.now.cells in
    let n : ℕ = c.loop-tile.tile in
    let r : Rect = c.cell.result in
    let n_in : n < length cells = rw c.tiles-tile-end.ensures at c.loop-tile-test.true in
    let here : get_or cells n r ≡ r = get_or_from_slice_get cells n r r c.cell.ensures.value in
    c.in_ok-push.ensures.items ∙ (ap (λ (s : List Rect). s ++ r ∷ []) c.loop-tile.invariant ∙ (ap (λ (q : Rect). take n cells ++ q ∷ []) (sym here) ∙ sym (take_more cells n r n_in)))

pub returns : goal.returns
returns c = c.loop-tile.invariant ∙ take_all c.loop-tile.tile c.args.plan.now.cells (rw c.tiles-tile-end.ensures at c.loop-tile-test.false)
