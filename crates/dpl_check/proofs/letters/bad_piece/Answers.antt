use Rattle.std.proofs.Common.{get_or}
use Rattle.std.proofs.lemmas.Result.{IfOk-from_err}
use Rattle.dpl_spec_verdict.specs.Masks.{IsBadPiece}
use Rattle.dpl_check.specs.Findings.{IsOffMask}
use Rattle.dpl_check.proofs.Finding.{first-same}
use Rattle.dpl_check.proofs.Stitches.{off-bad, slab-items}
use Rattle.dpl_check.proofs.letters.bad_piece.Goals as goal

pub first_off-requires-clause-items_a : goal.first_off-requires-clause-items_a
first_off-requires-clause-items_a c = slab-items c.args.a.now c.rects.result.now c.in_ok-on_a.on_a c.rects.ensures.value c.rects.ensures.canonical c.in_ok-on_a.ensures

pub first_off-requires-clause-items_b : goal.first_off-requires-clause-items_b
first_off-requires-clause-items_b c = slab-items c.args.b.now c.rects-2.result.now c.in_ok-on_b.on_b c.rects-2.ensures.value c.rects-2.ensures.canonical c.in_ok-on_b.ensures

pub returns : goal.returns
returns c =
    let are_a = rw c.rects.ensures.value at c.in_ok-on_a.ensures in
    let are_b = rw c.rects-2.ensures.value at c.in_ok-on_b.ensures in
    first-same (IsOffMask c.in_ok-on_a.on_a c.in_ok-on_b.on_b) (IsBadPiece c.args.a.now c.args.b.now) c.args.pieces.now c.first_off.result
    (λ k d l. off-bad c.args.a.now c.args.b.now c.in_ok-on_a.on_a c.in_ok-on_b.on_b are_a are_b k (get_or c.args.pieces.now k d)) c.first_off.ensures

pub returns-in_err-on_a : goal.returns-in_err-on_a
returns-in_err-on_a c = IfOk-from_err _ _ c.from_residual.ensures.0

pub returns-in_err-on_b : goal.returns-in_err-on_b
returns-in_err-on_b c = IfOk-from_err _ _ c.from_residual-in_err-on_b.ensures.0
