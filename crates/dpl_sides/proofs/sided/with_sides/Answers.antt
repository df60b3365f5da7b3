use Rattle.std.proofs.Common.{◌≡◌, ℕ, suc, ◌+◌, ◌<◌, ◌++◌, ◌∷◌, [], List, length, map, get_or, take, refl, sym, ap, ◌∙◌, arith}
use Rattle.std.proofs.lemmas.List.{map-append, take_all}
use Rattle.std.proofs.Math.Seq.{take-suc}
use Rattle.std.proofs.lemmas.Result.{IfOk-from_err}
use Rattle.dpl_sides.specs.declared.sided.Sided.{Sided}
use Rattle.dpl_sides.specs.declared.standing.Side.TheVariants.{Before, After}
use Rattle.dpl_sides.specs.Sided.{on_side}
use Rattle.dpl_sides.proofs.sided.with_sides.Goals as goal

-- one more, with the next of some numbers
more : (f : Sided → ℕ) (old new : List Sided) (z : Sided) (numbers : List ℕ) (i : ℕ) → i < length numbers → new ≡ old ++ z ∷ [] → f z ≡ get_or numbers i 0
    → map f old ≡ take i numbers → map f new ≡ take (i + 1) numbers
more f old new z numbers i i_in new_is is h =
    let one : i + 1 ≡ suc i = omega arith in
    let step : take (i + 1) numbers ≡ take i numbers ++ get_or numbers i 0 ∷ [] = ap (λ k. take k numbers) one ∙ take-suc numbers i 0 i_in in
    ap (map f) new_is ∙ (map-append f old (z ∷ []) ∙ (ap (λ l. l ++ f z ∷ []) h ∙ (ap (λ n. take i numbers ++ n ∷ []) is ∙ sym step)))

pub loop-i-preserved : goal.loop-i-preserved
loop-i-preserved c =
    let at = c.loop-i in
    let i_in : at.i < length c.args.own.now = omega arith in
    let added = c.in_ok-push.ensures.items in
    record {
      own = more (λ (z : Sided). z.zone) at.zones.items _ _ c.args.own.now at.i i_in added refl at.invariant.own;
      firsts = more (on_side Before) at.zones.items _ _ c.args.firsts.now at.i (omega (arith, i_in, c.requires.firsts)) added refl at.invariant.firsts;
      seconds = more (on_side After) at.zones.items _ _ c.args.seconds.now at.i (omega (arith, i_in, c.requires.seconds)) added refl at.invariant.seconds;
    }

pub returns-clause-own : goal.returns-clause-own
returns-clause-own c = c.loop-i.invariant.own ∙ take_all c.loop-i.i c.args.own.now (omega arith)

pub returns-clause-firsts : goal.returns-clause-firsts
returns-clause-firsts c = c.loop-i.invariant.firsts ∙ take_all c.loop-i.i c.args.firsts.now (omega (arith, c.requires.firsts))

pub returns-clause-seconds : goal.returns-clause-seconds
returns-clause-seconds c = c.loop-i.invariant.seconds ∙ take_all c.loop-i.i c.args.seconds.now (omega (arith, c.requires.seconds))

pub returns-in_err-zones-clause-own : goal.returns-in_err-zones-clause-own
returns-in_err-zones-clause-own c = IfOk-from_err _ _ c.from_residual.ensures.0

pub returns-in_err-zones-clause-firsts : goal.returns-in_err-zones-clause-firsts
returns-in_err-zones-clause-firsts c = IfOk-from_err _ _ c.from_residual.ensures.0

pub returns-in_err-zones-clause-seconds : goal.returns-in_err-zones-clause-seconds
returns-in_err-zones-clause-seconds c = IfOk-from_err _ _ c.from_residual.ensures.0

pub returns-in_err-push-clause-own : goal.returns-in_err-push-clause-own
returns-in_err-push-clause-own c = IfOk-from_err _ _ c.from_residual-in_err-push.ensures.0

pub returns-in_err-push-clause-firsts : goal.returns-in_err-push-clause-firsts
returns-in_err-push-clause-firsts c = IfOk-from_err _ _ c.from_residual-in_err-push.ensures.0

pub returns-in_err-push-clause-seconds : goal.returns-in_err-push-clause-seconds
returns-in_err-push-clause-seconds c = IfOk-from_err _ _ c.from_residual-in_err-push.ensures.0
