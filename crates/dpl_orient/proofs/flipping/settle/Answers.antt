use Rattle.std.proofs.Common.{◌≡◌, ◌<◌, length, get_or, ◌∙◌, sym, arith}
use Rattle.dpl_orient.specs.declared.crossing.Across.{Across}
use Rattle.dpl_orient.specs.Crossings.{crossings_at}
use Rattle.dpl_orient.proofs.Numbers.{as-many, crossing-here}
use Rattle.dpl_orient.proofs.Settling.{settling-start, settling-differs, settling-agrees, settled-split, settled-flip, after-stop}
use Rattle.dpl_orient.proofs.flipping.settle.Goals as goal
use Rattle.dpl_orient.proofs.flipping.settle.Goals.{then-differs, else-differs}

pub loop-next-init : goal.loop-next-init
loop-next-init c = settling-start _ _ _ _ c.requires.split

pub bounds-flips-crossing : goal.bounds-flips-crossing
bounds-flips-crossing c =
    let xs = crossings_at c.args.chart.now c.args.sides.now c.args.across.now in
    let none : Across = record { later = 0; zone = 0 } in
    let x = c.crossing_at-crossing.result in
    let many = as-many c.args.chart.now c.args.sides.now c.args.across.now in
    let is : x ≡ get_or xs c.loop-next.next x = crossing-here c.args.chart.now c.args.sides.now c.args.across.now c.loop-next.next none x
    c.loop-next-test.true c.crossing_at-crossing.ensures in
    let up : x.earlier < x.later = rw is (c.requires.up c.loop-next.next x (omega (arith, many, c.loop-next-test.true))) in
    omega (arith, up, c.if-crossing-root.false, c.requires.earlier)

pub loop-next-preserved : goal.loop-next-preserved
loop-next-preserved c =
    let none : Across = record { later = 0; zone = 0 } in
    let x = c.crossing_at-crossing.result in
    let many = as-many c.args.chart.now c.args.sides.now c.args.across.now in
    let within : c.loop-next.next < length (crossings_at c.args.chart.now c.args.sides.now c.args.across.now) = omega (arith, many, c.loop-next-test.true) in
    let is = crossing-here c.args.chart.now c.args.sides.now c.args.across.now c.loop-next.next none x c.loop-next-test.true c.crossing_at-crossing.ensures in
    elim c.if-differs.branch [
      | then-differs w ↦ rw (w.agreeing-is, w.differing-is)
          (settling-differs _ _ _ _ _ _ _ within is c.if-crossing-root.false c.loop-next.invariant (sym c.differs.ensures ∙ w.if-differs.true))
      | else-differs w ↦ rw (w.agreeing-is, w.differing-is)
          (settling-agrees _ _ _ _ _ _ _ within is c.if-crossing-root.false c.loop-next.invariant (sym c.differs.ensures ∙ w.if-differs.false))
    ]

pub returns-then-crossing-root-clause-split : goal.returns-then-crossing-root-clause-split
returns-then-crossing-root-clause-split c =
    let none : Across = record { later = 0; zone = 0 } in
    let x = c.crossing_at-crossing.result in
    let many = as-many c.args.chart.now c.args.sides.now c.args.across.now in
    let within : c.loop-next.next < length (crossings_at c.args.chart.now c.args.sides.now c.args.across.now) = omega (arith, many, c.loop-next-test.true) in
    let is = crossing-here c.args.chart.now c.args.sides.now c.args.across.now c.loop-next.next none x c.loop-next-test.true c.crossing_at-crossing.ensures in
    settled-split _ _ _ _ _ _ (omega (arith, within))
    (after-stop _ c.args.root c.args.start _ _ c.requires.grouped c.requires.split c.loop-next.auto.next within is c.if-crossing-root.true) c.loop-next.invariant

pub returns-then-crossing-root-clause-flip : goal.returns-then-crossing-root-clause-flip
returns-then-crossing-root-clause-flip c =
    let none : Across = record { later = 0; zone = 0 } in
    let x = c.crossing_at-crossing.result in
    let many = as-many c.args.chart.now c.args.sides.now c.args.across.now in
    let within : c.loop-next.next < length (crossings_at c.args.chart.now c.args.sides.now c.args.across.now) = omega (arith, many, c.loop-next-test.true) in
    let is = crossing-here c.args.chart.now c.args.sides.now c.args.across.now c.loop-next.next none x c.loop-next-test.true c.crossing_at-crossing.ensures in
    c.is_flipped-flip.ensures ∙ settled-flip _ _ _ _ _ _ (omega (arith, within))
    (after-stop _ c.args.root c.args.start _ _ c.requires.grouped c.requires.split c.loop-next.auto.next within is c.if-crossing-root.true) c.loop-next.invariant
