use Rattle.std.proofs.Common.{◌<◌, length, ◌∙◌, sym, map, arith}
use Rattle.std.proofs.lemmas.Result.{IfOk-from_err}
use Rattle.std.proofs.lemmas.List.{get_or-map, length-map}
use Rattle.dpl_orient.specs.Masks.{is_second}
use Rattle.dpl_cert.specs.Grammar.{IsPiece}
use Rattle.dpl_law_verdict.specs.Own.{piece_line}
use Rattle.dpl_answer.proofs.LineLaws.{fits_push, key_there, key_within, zip_more}
use Rattle.dpl_answer.proofs.lines.piece_lines.Goals as goal

pub of-requires : goal.of-requires
of-requires c = key_within c.args.pieces.now.keys c.requires.within c.loop-i.i c.key.result c.key.ensures.value

pub loop-i-preserved : goal.loop-i-preserved
loop-i-preserved c =
    let keys = c.args.pieces.now.keys in
    let key = c.key.result in
    let known : c.loop-i.i < length keys = key_there keys c.loop-i.i key c.key.ensures.value in
    let there : c.loop-i.i < length (map is_second c.args.masks.now) = rw length-map (omega arith) in
    let second : c.loop-i.i < length c.args.masks.now = omega arith in
    let put = rw c.of.ensures at c.in_ok-push.ensures.items in
    record {
      put = zip_more piece_line (map is_second c.args.masks.now) keys c.loop-i.i c.is_second.result key _ _ there known
          (get_or-map is_second c.args.masks.now c.loop-i.i _ c.is_second.result second ∙ sym c.is_second.ensures)
          (c.key.ensures.value key) c.loop-i.invariant.put put;
      fits = rw put (fits_push IsPiece _ _ c.loop-i.invariant.fits (key_within keys c.requires.within c.loop-i.i key c.key.ensures.value));
    }

pub returns-in_err-lines-clause-lines : goal.returns-in_err-lines-clause-lines
returns-in_err-lines-clause-lines c = IfOk-from_err _ _ c.from_residual.ensures.0

pub returns-in_err-lines-clause-within : goal.returns-in_err-lines-clause-within
returns-in_err-lines-clause-within c = IfOk-from_err _ _ c.from_residual.ensures.0

pub returns-in_err-push-clause-lines : goal.returns-in_err-push-clause-lines
returns-in_err-push-clause-lines c = IfOk-from_err _ _ c.from_residual-in_err-push.ensures.0

pub returns-in_err-push-clause-within : goal.returns-in_err-push-clause-within
returns-in_err-push-clause-within c = IfOk-from_err _ _ c.from_residual-in_err-push.ensures.0
