use Rattle.std.proofs.Common.{◌<◌, ◌∙◌, ◌++◌, ◌∷◌, [], length, arith, rules, get_or, ap, sym}
use Rattle.std.proofs.lemmas.Result.{IfOk-from_err}
use Rattle.std.proofs.lemmas.List.Elements.{Contains-get_or}
use Rattle.std.specs.Prelude.{pos}
use Rattle.dpl_spec_split.specs.declared.Pt.{Pt}
use Rattle.dpl_spec_split.specs.Zones.{at}
use Rattle.dpl_cert.specs.Grammar.{IsPlace}
use Rattle.dpl_cert.specs.declared.cert.PlaceLine.TheVariants.{Piece}
use Rattle.dpl_law_verdict.specs.Own.{place_line}
use Rattle.dpl_answer.proofs.LineLaws.{fits_push, key_there, map_more}
use Rattle.dpl_answer.proofs.lines.place_lines.Goals as goal

pub key-requires : goal.key-requires
key-requires c = c.requires.known _ (Contains-get_or c.args.cycle.now c.loop-piece.piece-index 0 (omega arith))

pub loop-piece-preserved : goal.loop-piece-preserved
loop-piece-preserved c =
    let within : c.loop-piece.piece-index < length c.args.cycle.now = omega arith in
    let keys = c.args.pieces.now.keys in
    let k = get_or c.args.cycle.now c.loop-piece.piece-index 0 in
    let key = c.key.result in
    let known : k < length keys = key_there keys k key c.key.ensures.value in
    let no_key = at (pos 0) (pos 0) in
    record {
      put = map_more (place_line keys) c.args.cycle.now c.loop-piece.piece-index 0 _ _ within c.loop-piece.invariant.put
          (c.in_ok-push.ensures.items ∙ ap (λ (p : Pt). c.loop-piece.lines.items ++ Piece k p ∷ []) (sym (c.key.ensures.value no_key)));
      fits = rw c.in_ok-push.ensures.items (fits_push IsPlace _ _ c.loop-piece.invariant.fits
          (search rules, c.requires.within key (k, known, c.key.ensures.value key)));
    }

pub returns-in_err-push-clause-lines : goal.returns-in_err-push-clause-lines
returns-in_err-push-clause-lines c = IfOk-from_err _ _ c.from_residual.ensures.0

pub returns-in_err-push-clause-within : goal.returns-in_err-push-clause-within
returns-in_err-push-clause-within c = IfOk-from_err _ _ c.from_residual.ensures.0
