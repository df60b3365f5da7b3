use Rattle.std.proofs.Common.{sym, refl, length}
use Rattle.std.proofs.lemmas.Result.{IfOk-from_err}
use Rattle.dpl_piece.specs.View.{cut_view}
use Rattle.dpl_check.proofs.Counting.{marked-united}
use Rattle.dpl_check.proofs.counts.counts.Goals as goal

pub returns : goal.returns
returns c = λ marks are.
    let (features, many, is) = c.in_ok-cut.ensures marks (marked-united _ _ _ marks c.in_ok-marked.ensures are) in
    let cut = cut_view features c.in_ok-cut.cut.pieces in
    (c.in_ok-cut.cut.features, length cut.pieces, length cut.zones, (cut, is, sym many, refl, refl), c.counts_of.ensures)

pub returns-in_err-marked : goal.returns-in_err-marked
returns-in_err-marked c = λ marks are. IfOk-from_err _ _ c.from_residual.ensures.0

pub returns-in_err-cut : goal.returns-in_err-cut
returns-in_err-cut c = λ marks are. IfOk-from_err _ _ c.from_residual-in_err-cut.ensures.0
