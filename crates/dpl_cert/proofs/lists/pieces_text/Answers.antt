use Rattle.std.proofs.lemmas.Result.{IfOk-from_err}
use Rattle.dpl_cert.proofs.lists.pieces_text.Goals as goal

pub returns-in_err-put_pieces : goal.returns-in_err-put_pieces
returns-in_err-put_pieces c = IfOk-from_err _ _ c.from_residual.ensures.0
