use Rattle.std.proofs.lemmas.Result.{IfOk-from_err}
use Rattle.dpl_cert.proofs.lists.stitches_text.Goals as goal

pub returns-in_err-put_stitches : goal.returns-in_err-put_stitches
returns-in_err-put_stitches c = IfOk-from_err _ _ c.from_residual.ensures.0
