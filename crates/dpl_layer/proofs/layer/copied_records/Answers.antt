use Rattle.dpl_syntax.specs.Frames.{frame_seen}
use Rattle.dpl_layer.proofs.Layers.{frame_copied, six_puts}
use Rattle.std.proofs.lemmas.Result.{IfOk-from_err}
use Rattle.dpl_layer.proofs.layer.copied_records.Goals as goal

pub returns : goal.returns
returns c =
    let put = six_puts _ _ _ _ _ _ _ _ _ _ _ _ c.in_ok-copied.ensures.items c.in_ok-extend_from_slice.ensures.items
    c.in_ok-extend_from_slice-2.ensures.items c.in_ok-extend_from_slice-3.ensures.items c.in_ok-extend_from_slice-4.ensures.items
    c.in_ok-extend_from_slice-5.ensures.items in
    frame_copied c.args.lib.now c.args.top (frame_seen c.frame-frame.result) _ c.requires c.frame-frame.ensures put

pub returns-in_err-copied : goal.returns-in_err-copied
returns-in_err-copied c = IfOk-from_err _ _ c.from_residual.ensures.0

pub returns-in_err-extend_from_slice : goal.returns-in_err-extend_from_slice
returns-in_err-extend_from_slice c = IfOk-from_err _ _ c.from_residual-in_err-extend_from_slice.ensures.0

pub returns-in_err-extend_from_slice-2 : goal.returns-in_err-extend_from_slice-2
returns-in_err-extend_from_slice-2 c = IfOk-from_err _ _ c.from_residual-in_err-extend_from_slice-2.ensures.0

pub returns-in_err-extend_from_slice-3 : goal.returns-in_err-extend_from_slice-3
returns-in_err-extend_from_slice-3 c = IfOk-from_err _ _ c.from_residual-in_err-extend_from_slice-3.ensures.0

pub returns-in_err-extend_from_slice-4 : goal.returns-in_err-extend_from_slice-4
returns-in_err-extend_from_slice-4 c = IfOk-from_err _ _ c.from_residual-in_err-extend_from_slice-4.ensures.0

pub returns-in_err-extend_from_slice-5 : goal.returns-in_err-extend_from_slice-5
returns-in_err-extend_from_slice-5 c = IfOk-from_err _ _ c.from_residual-in_err-extend_from_slice-5.ensures.0
