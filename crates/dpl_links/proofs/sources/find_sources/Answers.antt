use Rattle.std.proofs.lemmas.Result.{IfOk-weaker, IfOk-from_err}
use Rattle.dpl_links.proofs.SourceLaws.{sources_are}
use Rattle.dpl_links.proofs.sources.find_sources.Goals as goal

pub returns : goal.returns
returns c = IfOk-weaker c.unmarked.result _ _ (λ found left. sources_are c.args.graph.now c.in_ok-marks.marks.items found.items
    c.in_ok-marks.ensures.each c.in_ok-marks.ensures.marks (rw c.deref.ensures.value at left)) c.unmarked.ensures

pub returns-in_err-marks : goal.returns-in_err-marks
returns-in_err-marks c = IfOk-from_err _ _ c.from_residual.ensures.0
