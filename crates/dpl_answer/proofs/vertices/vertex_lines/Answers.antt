use Rattle.std.proofs.Common.{◌<◌, ◌∙◌, ◌++◌, ◌∷◌, [], ℕ, length, arith, ap}
use Rattle.std.proofs.lemmas.Result.{IfOk-from_err}
use Rattle.std.proofs.lemmas.List.Elements.{Contains-get_or}
use Rattle.dpl_cert.specs.Grammar.{IsPlace}
use Rattle.dpl_cert.specs.declared.cert.PlaceLine.{PlaceLine}
use Rattle.dpl_answer.specs.Anchors.{place_of, vertex_of}
use Rattle.dpl_answer.proofs.LineLaws.{fits_push, map_more}
use Rattle.dpl_answer.proofs.vertices.vertex_lines.Goals as goal

pub vertex_line-requires-clause-known : goal.vertex_line-requires-clause-known
vertex_line-requires-clause-known c = rw c.of.ensures (c.requires.known _ (Contains-get_or c.args.cycle.now c.loop-number.number-index 0 (omega arith)))

pub loop-number-preserved : goal.loop-number-preserved
loop-number-preserved c =
    let within : c.loop-number.number-index < length c.args.cycle.now = omega arith in
    let keys = c.args.pieces.now.keys in
    let place = λ (k : ℕ). place_of keys (vertex_of k) in
    let is = c.vertex_line.ensures.line ∙ ap (place_of keys) c.of.ensures in
    record {
      put = map_more place c.args.cycle.now c.loop-number.number-index 0 _ _ within c.loop-number.invariant.put
          (c.in_ok-push.ensures.items ∙ ap (λ (p : PlaceLine). c.loop-number.lines.items ++ p ∷ []) is);
      fits = rw c.in_ok-push.ensures.items (fits_push IsPlace _ _ c.loop-number.invariant.fits c.vertex_line.ensures.within);
    }

pub returns-in_err-push-clause-lines : goal.returns-in_err-push-clause-lines
returns-in_err-push-clause-lines c = IfOk-from_err _ _ c.from_residual.ensures.0

pub returns-in_err-push-clause-within : goal.returns-in_err-push-clause-within
returns-in_err-push-clause-within c = IfOk-from_err _ _ c.from_residual.ensures.0
