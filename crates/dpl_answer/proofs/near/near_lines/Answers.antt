use Rattle.std.proofs.Common.{◌≡◌, ◌+◌, ◌%◌, ◌∷◌, [], List, length, get_or, sym, ap, ◌∙◌, subst, arith}
use Rattle.std.proofs.lemmas.Result.{IfOk-from_err}
use Rattle.std.proofs.lemmas.List.{length-append}
use Rattle.dpl_spec_split.specs.declared.Rect.{Rect}
use Rattle.dpl_spec_split.specs.Squares.{AreNear}
use Rattle.dpl_spec_split.specs.Zones.{part_at}
use Rattle.dpl_cert.specs.Grammar.{IsNear}
use Rattle.dpl_nearest.specs.Nearest.{IsNearestPair}
use Rattle.dpl_law_verdict.specs.Own.{ShowsPair}
use Rattle.dpl_answer.proofs.LineLaws.{fits_push}
use Rattle.dpl_answer.proofs.NearLines.{nearest_more}
use Rattle.dpl_answer.proofs.near.near_lines.Goals as goal

pub near_line-requires-clause-near : goal.near_line-requires-clause-near
near_line-requires-clause-near c =
    let same : c.items-parts.result.now ≡ c.args.pieces.now.parts = c.items-parts.ensures.value ∙ c.parts.ensures.value in
    subst (λ (ps : List (List Rect)). AreNear c.args.spacing (part_at ps (get_or c.args.cycle.now c.loop-k.k 0))
    (part_at ps (get_or c.args.cycle.now ((c.loop-k.k + 1) % length c.args.cycle.now) 0))) (sym same)
    (c.requires.near c.loop-k.k c.loop-k-test.true)

pub loop-k-preserved : goal.loop-k-preserved
loop-k-preserved c =
    let same : c.items-parts.result.now ≡ c.args.pieces.now.parts = c.items-parts.ensures.value ∙ c.parts.ensures.value in
    let line = c.in_ok-line.line in
    let count : length c.push.new.self.items ≡ length c.loop-k.lines.items + length (line ∷ []) = ap length c.in_ok-push.ensures.items
    ∙ length-append c.loop-k.lines.items (line ∷ []) in
    record {
      each = omega (arith, count);
      first = nearest_more c.args.spacing c.args.pieces.now.parts c.args.cycle.now c.loop-k.k c.loop-k.lines.items c.push.new.self.items line
          c.loop-k.invariant.each c.in_ok-push.ensures.items c.loop-k.invariant.first
          (subst (λ (ps : List (List Rect)). ShowsPair (IsNearestPair c.args.spacing (part_at ps (get_or c.args.cycle.now c.loop-k.k 0))
          (part_at ps (get_or c.args.cycle.now ((c.loop-k.k + 1) % length c.args.cycle.now) 0))) line) same
          c.in_ok-line.ensures.nearest);
      fits = rw c.in_ok-push.ensures.items (fits_push IsNear _ _ c.loop-k.invariant.fits c.in_ok-line.ensures.within);
    }

pub returns-in_err-line-clause-nearest : goal.returns-in_err-line-clause-nearest
returns-in_err-line-clause-nearest c = IfOk-from_err _ _ c.from_residual.ensures.0

pub returns-in_err-line-clause-within : goal.returns-in_err-line-clause-within
returns-in_err-line-clause-within c = IfOk-from_err _ _ c.from_residual.ensures.0

pub returns-in_err-push-clause-nearest : goal.returns-in_err-push-clause-nearest
returns-in_err-push-clause-nearest c = IfOk-from_err _ _ c.from_residual-in_err-push.ensures.0

pub returns-in_err-push-clause-within : goal.returns-in_err-push-clause-within
returns-in_err-push-clause-within c = IfOk-from_err _ _ c.from_residual-in_err-push.ensures.0
