use Rattle.std.proofs.Common.{◌≡◌, ◌*◌, ◌-◌, ◌^◌, length, map, arith, ◌∙◌, rules, Fits, w64, refl, subst}
use Rattle.std.proofs.lemmas.List.{length-map}
use Rattle.dpl_tree.specs.Trees.{ArePassed}
use Rattle.dpl_tree.specs.StoredItems.{item_of}
use Rattle.dpl_tree.specs.Blocks.{start_of}
use Rattle.dpl_tree.proofs.SearchLaws.{first-start, level-wide, start-up, start-up_more, down-start, fewer-left, lower-left, passed-on}
use Rattle.dpl_tree.proofs.search.seek_in.Goals as goal

pub loop-end-init : goal.loop-end-init
loop-end-init c =
    let start : start_of c.highest-place.result ≡ c.args.from = c.highest-place.ensures.start ∙ first-start c.args.from 0 refl in
    record {
      level = c.highest-place.ensures.level;
      from = omega (arith, start);
      passed = λ j d low high l. absurd (omega (arith, start, low, high));
    }

pub loop-end-smaller-in-Passed : goal.loop-end-smaller-in-Passed
loop-end-smaller-in-Passed c =
    let start = c.highest-place-in-Passed.ensures.start in
    let later = start-up_more c.loop-end.place.at c.in-Passed.end c.loop-end.place.level c.in-Passed.ensures.0 in
    fewer-left (length (map item_of c.args.items.now)) (start_of c.loop-end.place) (start_of c.highest-place-in-Passed.result)
    (length c.args.levels.now) c.loop-end.place.level c.highest-place-in-Passed.result.level
    c.in-Passed.ensures.1 (omega (arith, start, later)) c.highest-place-in-Passed.ensures.level

pub loop-end-preserved-in-Passed : goal.loop-end-preserved-in-Passed
loop-end-preserved-in-Passed c =
    let start = c.highest-place-in-Passed.ensures.start in
    let later = start-up_more c.loop-end.place.at c.in-Passed.end c.loop-end.place.level c.in-Passed.ensures.0 in
    let from = c.loop-end.invariant.from in
    record {
      level = c.highest-place-in-Passed.ensures.level;
      from = omega (arith, start, later, from);
      passed = rw start (passed-on c.args.window.now c.args.owners (map item_of c.args.items.now) c.args.from (start_of c.loop-end.place)
          (c.in-Passed.end * 8 ^ c.loop-end.place.level) c.loop-end.invariant.passed c.in-Passed.ensures.2);
    }

pub returns-in-Found-clause-from : goal.returns-in-Found-clause-from
returns-in-Found-clause-from c =
    let start = first-start c.loop-end.place.at c.loop-end.place.level c.if-place-eq0.true in
    let from = c.loop-end.invariant.from in
    let low = c.in-Found.ensures.0 in
    omega (arith, start, from, low)

pub returns-in-Found-clause-passed : goal.returns-in-Found-clause-passed
returns-in-Found-clause-passed c =
    subst (λ n. ArePassed c.args.window.now c.args.owners (map item_of c.args.items.now) c.args.from n) (first-start c.in-Found.k c.loop-end.place.level c.if-place-eq0.true)
    (passed-on c.args.window.now c.args.owners (map item_of c.args.items.now) c.args.from (start_of c.loop-end.place)
    (c.in-Found.k * 8 ^ c.loop-end.place.level) c.loop-end.invariant.passed c.in-Found.ensures.2)

pub returns-in-Found-clause-found : goal.returns-in-Found-clause-found
returns-in-Found-clause-found c d l = c.in-Found.ensures.3 c.if-place-eq0.true d

pub overflow_mul-place : goal.overflow_mul-place
overflow_mul-place c =
    let fits : Fits w64 (length c.args.items.now) = search rules in
    let len = length-map c.args.items.now item_of in
    let wide = level-wide c.in-Found.k c.loop-end.place.level c.if-place-eq0.false in
    let known = c.in-Found.ensures.1 in
    omega (arith, fits, len, wide, known)

pub loop-end-smaller : goal.loop-end-smaller
loop-end-smaller c =
    let down = down-start c.in-Found.k c.loop-end.place.level c.if-place-eq0.false in
    let later = start-up c.loop-end.place.at c.in-Found.k c.loop-end.place.level c.in-Found.ensures.0 in
    lower-left (length (map item_of c.args.items.now)) (start_of c.loop-end.place) (c.in-Found.k * 8 * 8 ^ (c.loop-end.place.level - 1))
    (length c.args.levels.now) c.loop-end.place.level (omega (arith, down, later)) c.if-place-eq0.false

pub loop-end-preserved : goal.loop-end-preserved
loop-end-preserved c =
    let down = down-start c.in-Found.k c.loop-end.place.level c.if-place-eq0.false in
    let later = start-up c.loop-end.place.at c.in-Found.k c.loop-end.place.level c.in-Found.ensures.0 in
    let from = c.loop-end.invariant.from in
    let level = c.loop-end.invariant.level in
    record {
      level = omega (arith, level);
      from = omega (arith, down, later, from);
      passed = rw down (passed-on c.args.window.now c.args.owners (map item_of c.args.items.now) c.args.from (start_of c.loop-end.place)
          (c.in-Found.k * 8 ^ c.loop-end.place.level) c.loop-end.invariant.passed c.in-Found.ensures.2);
    }
