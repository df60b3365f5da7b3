use Rattle.std.proofs.Common.{◌<◌, length, get_or, rules, w32, FitsSigned, arith, ℕ, ◌≡◌, ◌≤◌, ◌+◌, inl, inr, List}
use Rattle.std.specs.Prelude.{pos, ℤ, ◌<ℤ◌}
use Rattle.std.proofs.lemmas.Int.{ints, to_z-of_z}
use Rattle.std.proofs.lemmas.List.{get_or_default}
use Rattle.dpl_spec_split.specs.declared.Rect.{Rect}
use Rattle.std.proofs.lemmas.Bool.{cases_eq}
use Rattle.dpl_upward.proofs.upward.count_left.Goals as goal

abbrev zero : Rect
zero = record { x0 = pos 0; y0 = pos 0; x1 = pos 0; y1 = pos 0 }

pub returns-then-x-gaps-clause-right : goal.returns-then-x-gaps-clause-right
returns-then-x-gaps-clause-right c k d l k_in =
    let here : c.loop-i.i < length c.args.gaps.now = search rules in
    let r : Rect = get_or c.args.gaps.now c.loop-i.i zero in
    let fits : FitsSigned w32 r.x0 = search rules in
    let column = to_z-of_z w32 c.args.x c.ranges.x in
    let test = rw (column, to_z-of_z w32 r.x0 fits) at c.if-x-gaps.true in
    let rise = rw (get_or_default c.args.gaps.now c.loop-i.i d zero here) at (c.requires.rise c.loop-i.i k d l k_in) in
    grind (arith, ints, test, rise)

left-more : (gaps : List Rect) (from i : ℕ) (x : ℤ) (r : Rect) → i < length gaps → r ≡ get_or gaps i r → r.x0 <ℤ x
    → ((k : ℕ) (d : Rect) → from ≤ k → k < i → (get_or gaps k d).x0 <ℤ x) → (k : ℕ) (d : Rect) → from ≤ k → k < i + 1 → (get_or gaps k d).x0 <ℤ x
left-more gaps from i x r i_in r_is less before k d l m = elim (cases_eq k i) [
  | inl e ↦ rw (e, get_or_default gaps i d r i_in, ← r_is) less
  | inr ne ↦ before k d l (omega (arith, m, ne))
]

pub loop-i-init : goal.loop-i-init
loop-i-init c k d l m = absurd (omega (arith, l, m))

pub returns-then-x-gaps-clause-from : goal.returns-then-x-gaps-clause-from
returns-then-x-gaps-clause-from c = c.loop-i.auto.i

pub returns-then-x-gaps-clause-left : goal.returns-then-x-gaps-clause-left
returns-then-x-gaps-clause-left c = rw (to_z-of_z w32 c.args.x c.ranges.x) at c.loop-i.invariant

pub loop-i-preserved : goal.loop-i-preserved
loop-i-preserved c =
    let here : c.loop-i.i < length c.args.gaps.now = search rules in
    let r : Rect = get_or c.args.gaps.now c.loop-i.i zero in
    let fits : FitsSigned w32 r.x0 = search rules in
    let column = to_z-of_z w32 c.args.x c.ranges.x in
    let test = rw (column, to_z-of_z w32 r.x0 fits) at c.if-x-gaps.false in
    rw column (left-more c.args.gaps.now c.args.from c.loop-i.i c.args.x r here (get_or_default c.args.gaps.now c.loop-i.i zero r here)
    (grind (arith, ints, test)) (rw column at c.loop-i.invariant))

pub returns-clause-from : goal.returns-clause-from
returns-clause-from c = c.requires.from

pub returns-clause-left : goal.returns-clause-left
returns-clause-left c k d l m =
    let test = c.loop-i-test.false in
    (rw (to_z-of_z w32 c.args.x c.ranges.x) at c.loop-i.invariant) k d l (omega (arith, test, m))

pub returns-clause-right : goal.returns-clause-right
returns-clause-right c k d l m = absurd (omega (arith, l, m))
