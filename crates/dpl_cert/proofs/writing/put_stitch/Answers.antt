use Rattle.std.proofs.Common.{rules, w32, FitsSigned}
use Rattle.std.proofs.lemmas.Int.{to_z-of_z}
use Rattle.dpl_cert.proofs.Listing.{stitch_line}
use Rattle.std.proofs.lemmas.Result.{IfOk-from_err}
use Rattle.dpl_cert.proofs.writing.put_stitch.Goals as goal

pub returns : goal.returns
returns c =
    let r = c.args.s.now.rect in
    let x0 : FitsSigned w32 r.x0 = search rules in
    let y0 : FitsSigned w32 r.y0 = search rules in
    let x1 : FitsSigned w32 r.x1 = search rules in
    let y1 : FitsSigned w32 r.y1 = search rules in
    let low = rw (to_z-of_z w32 r.x0 x0, to_z-of_z w32 r.y0 y0) at c.in_ok-put_pair.ensures in
    let high = rw (to_z-of_z w32 r.x1 x1, to_z-of_z w32 r.y1 y1) at c.in_ok-put_pair-2.ensures in
    stitch_line _ _ _ _ _ _ _ _ _ _ _ _ _ c.in_ok-push_str.ensures.bytes low high c.in_ok-put_pair-3.ensures c.in_ok-push_str-2.ensures.bytes

pub returns-in_err-push_str : goal.returns-in_err-push_str
returns-in_err-push_str c = IfOk-from_err _ _ c.from_residual.ensures.0

pub returns-in_err-put_pair : goal.returns-in_err-put_pair
returns-in_err-put_pair c = IfOk-from_err _ _ c.from_residual-in_err-put_pair.ensures.0

pub returns-in_err-put_pair-2 : goal.returns-in_err-put_pair-2
returns-in_err-put_pair-2 c = IfOk-from_err _ _ c.from_residual-in_err-put_pair-2.ensures.0

pub returns-in_err-put_pair-3 : goal.returns-in_err-put_pair-3
returns-in_err-put_pair-3 c = IfOk-from_err _ _ c.from_residual-in_err-put_pair-3.ensures.0

pub returns-in_err-push_str-2 : goal.returns-in_err-push_str-2
returns-in_err-push_str-2 c = IfOk-from_err _ _ c.from_residual-in_err-push_str-2.ensures.0
