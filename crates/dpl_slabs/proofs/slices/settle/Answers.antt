use Rattle.std.proofs.Common.{◌≡◌, ◌+◌, ◌<◌, ◌++◌, ◌∷◌, [], ◌∙◌, ap, sym, length, get_or, take, arith}
use Rattle.std.proofs.lemmas.List.{append_assoc, take_more, take_all}
use Rattle.dpl_spec_split.specs.declared.Rect.{Rect}
use Rattle.dpl_slabs.proofs.Firsts.{zero}
use Rattle.dpl_slabs.proofs.SliceLaws.{settled-growing, settled-done}
use Rattle.std.proofs.lemmas.Result.{IfOk-from_err}
use Rattle.dpl_slabs.proofs.slices.settle.Goals.{then-piece-high+in_ok-push, else-piece-high+in_ok-push-2}
use Rattle.dpl_slabs.proofs.slices.settle.Goals as goal

pub loop-piece-preserved : goal.loop-piece-preserved
loop-piece-preserved c =
    let pieces = c.deref-piece-items.result.now in
    let n = c.loop-piece.piece-index in
    let here : n < length pieces = omega arith in
    let piece : Rect = get_or pieces n zero in
    let done = c.args.done.now.items in
    let more : done ++ take (n + 1) pieces ≡ (done ++ take n pieces) ++ piece ∷ [] = ap (λ l. done ++ l) (take_more pieces n zero here)
    ∙ sym (append_assoc done (take n pieces) (piece ∷ [])) in
    rw more
    (elim c.if-piece-high.branch [
      | then-piece-high+in_ok-push w ↦ rw (w.done-is, w.growing-is, w.in_ok-push.ensures.items)
          (settled-done (done ++ take n pieces) c.loop-piece.done.items c.loop-piece.growing.items piece c.loop-piece.invariant)
      | else-piece-high+in_ok-push-2 w ↦ rw (w.done-is, w.growing-is, w.in_ok-push-2.ensures.items)
          (settled-growing (done ++ take n pieces) c.loop-piece.done.items c.loop-piece.growing.items piece c.loop-piece.invariant)
    ])

pub returns-in_err-push : goal.returns-in_err-push
returns-in_err-push c = IfOk-from_err _ _ c.from_residual.ensures.0

pub returns-in_err-push-2 : goal.returns-in_err-push-2
returns-in_err-push-2 c = IfOk-from_err _ _ c.from_residual-in_err-push-2.ensures.0

pub returns : goal.returns
returns c = rw (take_all c.loop-piece.piece-index c.deref-piece-items.result.now (omega arith), c.deref-piece-items.ensures.value) at c.loop-piece.invariant
