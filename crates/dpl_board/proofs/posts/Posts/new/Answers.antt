use Rattle.std.proofs.lemmas.Result.{IfOk-from_err}
use Rattle.dpl_board.proofs.posts.Posts.new.Goals as goal

pub returns-in_err-vec : goal.returns-in_err-vec
returns-in_err-vec c = IfOk-from_err _ _ c.from_residual.ensures.0
