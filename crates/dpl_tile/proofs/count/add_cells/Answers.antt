use Rattle.std.proofs.Common.{arith, rules, sym}
use Rattle.std.proofs.lemmas.Bool.{false≢true}
use Rattle.std.proofs.lemmas.List.Elements.{Contains-get_or}
use Rattle.std.proofs.lemmas.List.Sums.{sum_by_more, sum_by_more_le}
use Rattle.std.proofs.lemmas.List.{take_all}
use Rattle.std.specs.Prelude.{pos}
use Rattle.dpl_spec_split.specs.declared.Rect.{Rect}
use Rattle.dpl_tile.specs.Tiles.{cells_met}
use Rattle.dpl_tile.proofs.count.add_cells.Goals as goal

abbrev no_rect : Rect
no_rect = record { x0 = pos 0; y0 = pos 0; x1 = pos 0; y1 = pos 0 }

pub cells_met-n-requires-clause-over : goal.cells_met-n-requires-clause-over
cells_met-n-requires-clause-over c = c.requires.over _ (Contains-get_or c.args.rects.now c.loop-r.r-index _ c.loop-r-test.true)

pub overflow_add-n : goal.overflow_add-n
overflow_add-n c = search (rules)

pub returns-then-n-gt-MOST_PAIRS-clause-none : goal.returns-then-n-gt-MOST_PAIRS-clause-none
returns-then-n-gt-MOST_PAIRS-clause-none c =
    let s = c.loop-r.invariant.sum in
    let v = c.cells_met-n.ensures.value in
    let m = c.if-n-gt-MOST_PAIRS.true in
    let t = sum_by_more_le (cells_met c.args.grid.now) c.args.rects.now c.loop-r.r-index no_rect c.loop-r-test.true in
    λ q. omega (arith, s, v, m, t)

pub loop-r-preserved : goal.loop-r-preserved
loop-r-preserved c =
    let s = c.loop-r.invariant.sum in
    let v = c.cells_met-n.ensures.value in
    let t = sum_by_more (cells_met c.args.grid.now) c.args.rects.now c.loop-r.r-index no_rect c.loop-r-test.true in
    record {
      sum = omega (arith, s, v, t);
      few = c.if-n-gt-MOST_PAIRS.false;
    }

pub returns-clause-some : goal.returns-clause-some
returns-clause-some c = (
  rw (take_all c.loop-r.r-index c.args.rects.now c.loop-r-test.false) at c.loop-r.invariant.sum,
  c.loop-r.invariant.few,
)

pub returns-clause-none : goal.returns-clause-none
returns-clause-none c = λ q. absurd (false≢true (sym q))
