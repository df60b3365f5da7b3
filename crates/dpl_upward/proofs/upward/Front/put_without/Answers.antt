use Rattle.std.proofs.Common.{◌≡◌, ◌<◌, length, get_or, refl, rules, w32, FitsSigned, arith}
use Rattle.std.specs.Prelude.{pos}
use Rattle.std.proofs.lemmas.Int.{ints, to_z-of_z}
use Rattle.std.proofs.lemmas.List.{get_or_default}
use Rattle.dpl_spec_split.specs.declared.Rect.{Rect}
use Rattle.dpl_upward.proofs.FrontLaws.{front-wider}
use Rattle.dpl_upward.proofs.UpwardLaws.{adds-whole, cut-first, cut-next, cut-last, max-known, passed-on}
use Rattle.std.proofs.lemmas.Result.{IfOk-from_err}
use Rattle.dpl_upward.proofs.upward.Front.put_without.Goals as goal

abbrev zero : Rect
zero = record { x0 = pos 0; y0 = pos 0; x1 = pos 0; y1 = pos 0 }

pub returns-then-is_empty-clause-adds : goal.returns-then-is_empty-clause-adds
returns-then-is_empty-clause-adds c = adds-whole c.args.bar.now c.args.gaps.now _ _ (let h = c.is_empty.ensures in grind arith) c.in_ok-put.ensures.adds

pub returns-then-is_empty-clause-passed : goal.returns-then-is_empty-clause-passed
returns-then-is_empty-clause-passed c =
    let wide = c.requires.solid.wide in
    passed-on c.args.bar.now c.args.bar.now c.args.gaps.now _ _ _ _ refl refl (omega (arith, ints, wide)) c.requires.passed

pub loop-i-init : goal.loop-i-init
loop-i-init c =
    let bar = c.args.bar.now in
    let left : FitsSigned w32 bar.x0 = search rules in
    let reach : FitsSigned w32 c.args.passed.reach = search rules in
    let m : FitsSigned w32 c.max-x.result = record { sfits = c.max-x.type_inv } in
    let value = rw (to_z-of_z w32 bar.x0 left, to_z-of_z w32 c.args.passed.reach reach) at c.max-x.ensures.value in
    let over = rw (to_z-of_z w32 bar.x0 left) at c.max-x.ensures.self_bound in
    let past = rw (to_z-of_z w32 c.args.passed.reach reach) at c.max-x.ensures.other_bound in
    let wide = c.requires.solid.wide in
    rw (to_z-of_z w32 c.max-x.result m) (record {
      cut = cut-first bar c.args.gaps.now c.requires.solid c.args.passed.count c.args.passed.reach c.max-x.result _ c.requires.passed over past (max-known _ _ _ value);
      front = front-wider _ _ _ _ _ _ _ _ over c.requires.front;
      later = λ x l. front-wider _ _ _ _ _ _ _ _ (omega (arith, ints, l, wide)) c.requires.front;
    })

pub loop-i-preserved : goal.loop-i-preserved
loop-i-preserved c =
    let bar = c.args.bar.now in
    let gaps = c.args.gaps.now in
    let end = c.count_left-end.ensures.within in
    let here : c.loop-i.i < length gaps = (let t = c.loop-i-test.true in omega (arith, t, end)) in
    let gap : Rect = get_or gaps c.loop-i.i zero in
    let right : FitsSigned w32 bar.x1 = search rules in
    let x0 : FitsSigned w32 gap.x0 = search rules in
    let x1 : FitsSigned w32 gap.x1 = search rules in
    let m : FitsSigned w32 c.max-x-in-loop-i.result = record { sfits = c.max-x-in-loop-i.type_inv } in
    let left = rw (to_z-of_z w32 bar.x1 right) at (c.count_left-end.ensures.left c.loop-i.i zero c.loop-i.auto.i c.loop-i-test.true) in
    let put = rw (to_z-of_z w32 gap.x0 x0) at c.in_ok-put_columns.ensures.adds in
    let front = rw (to_z-of_z w32 gap.x0 x0) at c.in_ok-put_columns.ensures.front in
    let value = rw (to_z-of_z w32 gap.x1 x1) at c.max-x-in-loop-i.ensures.value in
    let past = rw (to_z-of_z w32 gap.x1 x1) at c.max-x-in-loop-i.ensures.other_bound in
    let over = c.max-x-in-loop-i.ensures.self_bound in
    let across = c.requires.across gap (c.loop-i.i, here, get_or_default gaps c.loop-i.i gap zero here) in
    let wide = across.wide in
    rw (to_z-of_z w32 c.max-x-in-loop-i.result m) (record {
      cut = cut-next bar gaps c.requires.solid c.loop-i.i _ _ _ c.loop-i.invariant.cut c.requires.rise c.requires.across gap here (get_or_default gaps c.loop-i.i zero gap here) left
          c.max-x-in-loop-i.result _ put over past (max-known _ _ _ value);
      front = front c.max-x-in-loop-i.result (front-wider _ _ _ _ _ _ _ _ over c.loop-i.invariant.front) (λ l. omega (arith, ints, wide, past));
      later = λ x l. front x (c.loop-i.invariant.later x l) (λ m. omega (arith, ints, left, l));
    })

pub returns-clause-adds : goal.returns-clause-adds
returns-clause-adds c =
    let bar = c.args.bar.now in
    let right : FitsSigned w32 bar.x1 = search rules in
    let test = c.loop-i-test.false in
    let ahead = rw (to_z-of_z w32 bar.x1 right) at c.count_left-end.ensures.right in
    cut-last bar c.args.gaps.now c.requires.solid c.loop-i.i _ _ _ c.loop-i.invariant.cut _ (λ k d l k_in. ahead k d (omega (arith, test, l)) k_in)
    (rw (to_z-of_z w32 bar.x1 right) at c.in_ok-put_columns-2.ensures.adds)

pub returns-clause-front : goal.returns-clause-front
returns-clause-front c =
    let bar = c.args.bar.now in
    let right : FitsSigned w32 bar.x1 = search rules in
    let front = rw (to_z-of_z w32 bar.x1 right) at c.in_ok-put_columns-2.ensures.front in
    λ x l. front x (c.loop-i.invariant.later x l) (λ m. l)

pub returns-clause-passed : goal.returns-clause-passed
returns-clause-passed c =
    let test = c.loop-i-test.false in
    let within = c.loop-i.auto.i-end c.count_left-end.ensures.from in
    let same : c.loop-i.i ≡ c.count_left-end.result = omega (arith, test, within) in
    rw same at c.loop-i.invariant.cut.passed

pub returns-in_err-put-clause-adds : goal.returns-in_err-put-clause-adds
returns-in_err-put-clause-adds c = IfOk-from_err _ _ c.from_residual.ensures.0

pub returns-in_err-put-clause-passed : goal.returns-in_err-put-clause-passed
returns-in_err-put-clause-passed c = IfOk-from_err _ _ c.from_residual.ensures.0

pub returns-in_err-put-clause-front : goal.returns-in_err-put-clause-front
returns-in_err-put-clause-front c = IfOk-from_err _ _ c.from_residual.ensures.0

pub returns-in_err-put_columns-clause-adds : goal.returns-in_err-put_columns-clause-adds
returns-in_err-put_columns-clause-adds c = IfOk-from_err _ _ c.from_residual-in_err-put_columns.ensures.0

pub returns-in_err-put_columns-clause-passed : goal.returns-in_err-put_columns-clause-passed
returns-in_err-put_columns-clause-passed c = IfOk-from_err _ _ c.from_residual-in_err-put_columns.ensures.0

pub returns-in_err-put_columns-clause-front : goal.returns-in_err-put_columns-clause-front
returns-in_err-put_columns-clause-front c = IfOk-from_err _ _ c.from_residual-in_err-put_columns.ensures.0

pub returns-in_err-put_columns-2-clause-adds : goal.returns-in_err-put_columns-2-clause-adds
returns-in_err-put_columns-2-clause-adds c = IfOk-from_err _ _ c.from_residual-in_err-put_columns-2.ensures.0

pub returns-in_err-put_columns-2-clause-passed : goal.returns-in_err-put_columns-2-clause-passed
returns-in_err-put_columns-2-clause-passed c = IfOk-from_err _ _ c.from_residual-in_err-put_columns-2.ensures.0

pub returns-in_err-put_columns-2-clause-front : goal.returns-in_err-put_columns-2-clause-front
returns-in_err-put_columns-2-clause-front c = IfOk-from_err _ _ c.from_residual-in_err-put_columns-2.ensures.0

pub put-requires-clause-solid : goal.put-requires-clause-solid
put-requires-clause-solid c = c.requires.solid

pub put-requires-clause-front : goal.put-requires-clause-front
put-requires-clause-front c = c.requires.front

pub returns-then-is_empty-clause-front : goal.returns-then-is_empty-clause-front
returns-then-is_empty-clause-front c = c.in_ok-put.ensures.front

pub count_left-end-requires-clause-rise : goal.count_left-end-requires-clause-rise
count_left-end-requires-clause-rise c = c.requires.rise

pub count_left-end-requires-clause-from : goal.count_left-end-requires-clause-from
count_left-end-requires-clause-from c = c.requires.passed.within

pub bounds-gaps-i : goal.bounds-gaps-i
bounds-gaps-i c = let t = c.loop-i-test.true in let end = c.count_left-end.ensures.within in omega (arith, t, end)

pub bounds-gaps-i-in-loop-i : goal.bounds-gaps-i-in-loop-i
bounds-gaps-i-in-loop-i c = let t = c.loop-i-test.true in let end = c.count_left-end.ensures.within in omega (arith, t, end)

pub put_columns-requires-clause-tall : goal.put_columns-requires-clause-tall
put_columns-requires-clause-tall c = c.requires.solid.tall

pub put_columns-requires-clause-front : goal.put_columns-requires-clause-front
put_columns-requires-clause-front c = c.loop-i.invariant.front

pub put_columns-requires-2-clause-tall : goal.put_columns-requires-2-clause-tall
put_columns-requires-2-clause-tall c = c.requires.solid.tall

pub put_columns-requires-2-clause-front : goal.put_columns-requires-2-clause-front
put_columns-requires-2-clause-front c = c.loop-i.invariant.front
