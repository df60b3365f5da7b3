use Rattle.std.proofs.Common.{◌<◌, length, get_or, refl, arith}
use Rattle.std.proofs.lemmas.List.{take_all}
use Rattle.std.proofs.lemmas.Result.{IfOk-from_err}
use Rattle.dpl_spec_split.proofs.Ordered.{Contains-nil}
use Rattle.dpl_walk.proofs.ShortLaws.{ways_set, whole_set, own_set, whole_all}
use Rattle.dpl_walk.proofs.ways.find_ways.Goals as goal

pub loop-structure-init : goal.loop-structure-init
loop-structure-init c = record {
  ways = c.in_ok-ways.ensures.ways;
  whole = λ behind k w inside there. absurd (Contains-nil k inside);
  own = λ k w s n. c.in_ok-ways.ensures.own k w s;
}

pub way_of-way-requires-clause-ways : goal.way_of-way-requires-clause-ways
way_of-way-requires-clause-ways c = rw c.as_slice.ensures.value c.loop-structure.invariant.ways

pub loop-structure-preserved : goal.loop-structure-preserved
loop-structure-preserved c =
    let inside : get_or c.args.order.now c.loop-structure.structure-index 0 < length c.args.cells.now = c.requires.order
    c.loop-structure.structure-index 0 c.loop-structure-test.true in
    record {
      ways = ways_set c.args.cells.now c.loop-structure.ways.items _ (get_or c.args.order.now c.loop-structure.structure-index 0)
          c.way_of-way.result inside refl (rw c.as_slice.ensures.value at c.way_of-way.ensures.way) c.loop-structure.invariant.ways;
      whole = whole_set c.args.cells.now c.args.order.now c.loop-structure.structure-index 0 c.loop-structure.ways.items _
          c.way_of-way.result c.loop-structure-test.true (let e = c.loop-structure.invariant.ways.1.each in
          omega (arith, e, inside)) refl (rw c.as_slice.ensures.value at c.way_of-way.ensures.whole) c.loop-structure.invariant.whole;
      own = own_set c.args.order.now c.loop-structure.structure-index 0 c.loop-structure.ways.items _ c.way_of-way.result
          c.loop-structure-test.true refl c.loop-structure.invariant.own;
    }

pub returns-clause-ways : goal.returns-clause-ways
returns-clause-ways c = c.loop-structure.invariant.ways

pub returns-clause-whole : goal.returns-clause-whole
returns-clause-whole c = λ is.
    (let all = take_all c.loop-structure.structure-index c.args.order.now c.loop-structure-test.false in
    whole_all c.args.cells.now c.args.order.now c.loop-structure.ways.items is (rw all at c.loop-structure.invariant.whole is.behind) (rw all at c.loop-structure.invariant.own))

pub returns-in_err-ways-clause-ways : goal.returns-in_err-ways-clause-ways
returns-in_err-ways-clause-ways c = IfOk-from_err _ _ c.from_residual.ensures.0

pub returns-in_err-ways-clause-whole : goal.returns-in_err-ways-clause-whole
returns-in_err-ways-clause-whole c = IfOk-from_err _ _ c.from_residual.ensures.0
