use Rattle.std.proofs.Common.{◌∙◌, sym}
use Rattle.std.proofs.lemmas.Result.{IfOk-from_err}
use Rattle.dpl_piece.specs.View.{cut_view}
use Rattle.dpl_answer.proofs.Deciding.{painted_from}
use Rattle.dpl_answer.proofs.answer.paint.Goals as goal

pub masks_by-requires : goal.masks_by-requires
masks_by-requires g c = c.in_ok-told.ensures.each

pub returns-clause-painted : goal.returns-clause-painted
returns-clause-painted g c = λ features many.
    let pieces = c.args.cut.pieces in
    let (edges, are, sums) = c.requires.sums in
    let told = c.in_ok-told.told in
    let is_told = c.in_ok-told.ensures in
    let (all, graph, is) = is_told.letters in
    let lines = is_told.lines in
    let masks = c.in_ok-masks.masks in
    painted_from c.args.fewer _ c.args.spacing c.args.overlap (cut_view features pieces) edges c.args.joined.now all told.colours masks.a masks.b
    lines.numbers c.head-head.result told.lines.pieces told.lines.stitches told.gains
    are sums c.requires.even graph is c.in_ok-masks.ensures.masks.first c.in_ok-masks.ensures.masks.second lines.differing (c.head-head.ensures.value features many) lines.pieces lines.stitches
    (is_told.gains features)

pub returns-clause-fits : goal.returns-clause-fits
returns-clause-fits g c = λ some.
    let is_told = c.in_ok-told.ensures in
    record {
      a = c.in_ok-masks.ensures.within.0;
      b = c.in_ok-masks.ensures.within.1;
      cert = (
        c.head-head.ensures.fits some,
        is_told.lines_each ∙ sym c.head-head.ensures.pieces,
        is_told.lines_fit.pieces,
        is_told.lines_fit.count,
        is_told.lines_fit.stitches,
        is_told.gains_fit,
      );
    }

pub returns-clause-within : goal.returns-clause-within
returns-clause-within g c = c.in_ok-masks.ensures.within

pub returns-in_err-told-clause-painted : goal.returns-in_err-told-clause-painted
returns-in_err-told-clause-painted g c = IfOk-from_err _ _ c.from_residual.ensures.0

pub returns-in_err-told-clause-within : goal.returns-in_err-told-clause-within
returns-in_err-told-clause-within g c = IfOk-from_err _ _ c.from_residual.ensures.0

pub returns-in_err-told-clause-fits : goal.returns-in_err-told-clause-fits
returns-in_err-told-clause-fits g c = λ some. IfOk-from_err _ _ c.from_residual.ensures.0

pub returns-in_err-masks-clause-painted : goal.returns-in_err-masks-clause-painted
returns-in_err-masks-clause-painted g c = IfOk-from_err _ _ c.from_residual-in_err-masks.ensures.0

pub returns-in_err-masks-clause-within : goal.returns-in_err-masks-clause-within
returns-in_err-masks-clause-within g c = IfOk-from_err _ _ c.from_residual-in_err-masks.ensures.0

pub returns-in_err-masks-clause-fits : goal.returns-in_err-masks-clause-fits
returns-in_err-masks-clause-fits g c = λ some. IfOk-from_err _ _ c.from_residual-in_err-masks.ensures.0
