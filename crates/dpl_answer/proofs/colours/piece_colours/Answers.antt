use Rattle.std.proofs.Common.{refl}
use Rattle.std.proofs.lemmas.Result.{IfOk-weaker}
use Rattle.dpl_answer.proofs.colours.piece_colours.Goals as goal

pub returns-in-None : goal.returns-in-None
returns-in-None c = rw c.in-None.is (IfOk-weaker c.colours_by.result _ _ (λ letters graph. (letters, graph, refl)) c.colours_by.ensures.colours)

pub returns-in-Some : goal.returns-in-Some
returns-in-Some c = rw c.in-Some.is c.anchored_colours.ensures
