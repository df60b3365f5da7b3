use Rattle.std.proofs.Common.{◌≡◌, ◌∷◌, [], ◌++◌, take, refl, arith}
use Rattle.std.proofs.lemmas.List.{map_push, take_all}
use Rattle.std.proofs.lemmas.List.Elements.{Contains-get_or}
use Rattle.std.proofs.lemmas.Result.{IfOk-from_err}
use Rattle.dpl_piece.proofs.Bars.{alone, are-cut, bars-broken, bars-none, bars-step}
use Rattle.dpl_piece.proofs.bar.bar_parts.Goals as goal

pub loop-hole-init : goal.loop-hole-init
loop-hole-init c = record { done = []; parts = c.in_ok-parts.ensures.items; bars = bars-none c.args.bar.now c.requires.solid c.requires.within }

pub loop-hole-preserved : goal.loop-hole-preserved
loop-hole-preserved c =
    let at = c.loop-hole.invariant in
    record {
      done = at.done ++ c.in-Some.next.before ∷ [];
      parts = rw (c.in_ok-push.ensures.items, at.parts, c.in_ok-part.ensures, map_push) refl;
      bars = bars-step c.args.bar.now c.args.holes.now c.loop-hole.hole-index at.done c.loop-hole.rest _ _ _ c.loop-hole-test.true c.requires.holes c.in-Some.ensures at.bars;
    }

pub returns : goal.returns
returns c =
    let at = c.loop-hole.invariant in
    let all : take c.loop-hole.hole-index c.args.holes.now ≡ c.args.holes.now = take_all c.loop-hole.hole-index c.args.holes.now (omega (arith, c.loop-hole-test.false)) in
    rw (c.in_ok-push-2.ensures.items, at.parts, c.in_ok-part-2.ensures, ← map_push alone at.done c.loop-hole.rest)
    (bars-broken c.args.bar.now c.args.holes.now at.done c.loop-hole.rest (rw all at at.bars))

pub returns-in_err-parts : goal.returns-in_err-parts
returns-in_err-parts c = IfOk-from_err _ _ c.from_residual.ensures.0

pub returns-in_err-part : goal.returns-in_err-part
returns-in_err-part c = IfOk-from_err _ _ c.from_residual-in_err-part.ensures.0

pub returns-in_err-push : goal.returns-in_err-push
returns-in_err-push c = IfOk-from_err _ _ c.from_residual-in_err-push.ensures.0

pub returns-in_err-part-2 : goal.returns-in_err-part-2
returns-in_err-part-2 c = IfOk-from_err _ _ c.from_residual-in_err-part-2.ensures.0

pub returns-in_err-push-2 : goal.returns-in_err-push-2
returns-in_err-push-2 c = IfOk-from_err _ _ c.from_residual-in_err-push-2.ensures.0

pub returns-in_default : goal.returns-in_default
returns-in_default c = tt

pub one-requires-clause-solid : goal.one-requires-clause-solid
one-requires-clause-solid c =
    (are-cut c.loop-hole.rest _ c.in-Some.next.before c.in-Some.next.after c.loop-hole.invariant.bars.rest_solid c.loop-hole.invariant.bars.rest_within (c.requires.holes _ (Contains-get_or
    c.args.holes.now c.loop-hole.hole-index _ c.loop-hole-test.true)) c.in-Some.ensures).before_solid

pub one-requires-clause-within : goal.one-requires-clause-within
one-requires-clause-within c =
    (are-cut c.loop-hole.rest _ c.in-Some.next.before c.in-Some.next.after c.loop-hole.invariant.bars.rest_solid c.loop-hole.invariant.bars.rest_within (c.requires.holes _ (Contains-get_or
    c.args.holes.now c.loop-hole.hole-index _ c.loop-hole-test.true)) c.in-Some.ensures).before_within

pub one-requires-2-clause-solid : goal.one-requires-2-clause-solid
one-requires-2-clause-solid c = c.loop-hole.invariant.bars.rest_solid

pub one-requires-2-clause-within : goal.one-requires-2-clause-within
one-requires-2-clause-within c = c.loop-hole.invariant.bars.rest_within
