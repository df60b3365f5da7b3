use Rattle.std.proofs.Common.{rules, w64, FitsSigned}
use Rattle.std.proofs.lemmas.Int.{to_z-of_z}
use Rattle.dpl_cert.proofs.Listing.{piece_line}
use Rattle.std.proofs.lemmas.Result.{IfOk-from_err}
use Rattle.dpl_cert.proofs.writing.put_piece.Goals as goal

pub returns : goal.returns
returns c =
    let key = c.point-key.result in
    let x : FitsSigned w64 key.x = search rules in
    let y : FitsSigned w64 key.y = search rules in
    let pair = rw (to_z-of_z w64 key.x x, to_z-of_z w64 key.y y, c.point-key.ensures) at c.in_ok-put_pair.ensures in
    piece_line _ _ _ _ _ _ _ _ _ _ _ c.in_ok-push_str.ensures.bytes c.in_ok-put_number.ensures c.in_ok-put_letter.ensures pair
    c.in_ok-push_str-2.ensures.bytes

pub returns-in_err-push_str : goal.returns-in_err-push_str
returns-in_err-push_str c = IfOk-from_err _ _ c.from_residual.ensures.0

pub returns-in_err-put_number : goal.returns-in_err-put_number
returns-in_err-put_number c = IfOk-from_err _ _ c.from_residual-in_err-put_number.ensures.0

pub returns-in_err-put_letter : goal.returns-in_err-put_letter
returns-in_err-put_letter c = IfOk-from_err _ _ c.from_residual-in_err-put_letter.ensures.0

pub returns-in_err-put_pair : goal.returns-in_err-put_pair
returns-in_err-put_pair c = IfOk-from_err _ _ c.from_residual-in_err-put_pair.ensures.0

pub returns-in_err-push_str-2 : goal.returns-in_err-push_str-2
returns-in_err-push_str-2 c = IfOk-from_err _ _ c.from_residual-in_err-push_str-2.ensures.0
