use Rattle.std.proofs.Common.{[], length, refl, ap, arith}
use Rattle.std.proofs.lemmas.Result.{IfOk-from_err}
use Rattle.dpl_spec_elements.specs.Motions.{Motion}
use Rattle.dpl_walk.proofs.KeptLaws.{kept-start}
use Rattle.dpl_walk.proofs.StackLaws.{walking_start, walking_more, walking_all, popped, place_small, moved_small, outlines_are, copies_are}
use Rattle.dpl_walk.proofs.LeftLaws.{less_left}
use Rattle.dpl_walk.proofs.walk.walk_from.Goals as goal

pub visit-requires-clause-points : goal.visit-requires-clause-points
visit-requires-clause-points c = rw (outlines_are c.args.cells.now c.args.top c.index-cells-top.result c.requires.top c.index-cells-top.is) (c.requires.known.within c.args.top)

pub loop-frame-init : goal.loop-frame-init
loop-frame-init c =
    let k = c.in_ok-visit.ensures.gathered.keeps [] (kept-start _ c.new.ensures.items c.new-2.ensures.items) in (
      c.requires.steep,
      k.0,
      walking_start c.args.cells.now c.args.top c.unit-start.result [] k.0 _ _ _ _ c.requires.steep c.requires.known c.unit-start.ensures.stays
          (ap (λ (m : Motion). m.dx) c.unit-start.ensures.value) (ap (λ (m : Motion). m.dy) c.unit-start.ensures.value) refl refl
          c.new-stack.ensures.items
          (rw (outlines_are c.args.cells.now c.args.top c.index-cells-top.result c.requires.top c.index-cells-top.is) at k.1)
          (rw (copies_are c.args.cells.now c.args.top c.index-cells-top.result c.requires.top c.index-cells-top.is) at c.in_ok-visit.ensures.put),
      k.2,
    )

pub put_next-requires-clause-small : goal.put_next-requires-clause-small
put_next-requires-clause-small c = (popped c.args.cells.now c.args.top c.loop-frame.invariant.0 c.requires.known c.requires.few
    c.loop-frame.invariant.1 c.loop-frame.gathered.far c.loop-frame.stack.items c.pop.new.self.items c.in-Some.frame
    c.in-Some.ensures.items c.loop-frame.invariant.2).ready

pub put_next-requires-clause-frame : goal.put_next-requires-clause-frame
put_next-requires-clause-frame c = (popped c.args.cells.now c.args.top c.loop-frame.invariant.0 c.requires.known c.requires.few
    c.loop-frame.invariant.1 c.loop-frame.gathered.far c.loop-frame.stack.items c.pop.new.self.items c.in-Some.frame
    c.in-Some.ensures.items c.loop-frame.invariant.2).frame

pub place_of-place-requires-clause-ready : goal.place_of-place-requires-clause-ready
place_of-place-requires-clause-ready c = (popped c.args.cells.now c.args.top c.loop-frame.invariant.0 c.requires.known c.requires.few
    c.loop-frame.invariant.1 c.loop-frame.gathered.far c.loop-frame.stack.items c.pop.new.self.items c.in-Some.frame
    c.in-Some.ensures.items c.loop-frame.invariant.2).ready

pub place_of-place-requires-clause-frame : goal.place_of-place-requires-clause-frame
place_of-place-requires-clause-frame c = (popped c.args.cells.now c.args.top c.loop-frame.invariant.0 c.requires.known c.requires.few
    c.loop-frame.invariant.1 c.loop-frame.gathered.far c.loop-frame.stack.items c.pop.new.self.items c.in-Some.frame
    c.in-Some.ensures.items c.loop-frame.invariant.2).frame

pub place_of-place-requires-clause-place : goal.place_of-place-requires-clause-place
place_of-place-requires-clause-place c = place_small c.args.cells.now c.args.top c.loop-frame.invariant.0 c.requires.known c.requires.few
    c.loop-frame.invariant.1 c.loop-frame.gathered.far c.loop-frame.stack.items c.pop.new.self.items c.in-Some.frame
    c.in-Some.ensures.items c.loop-frame.invariant.2

pub bounds-cells-frame : goal.bounds-cells-frame
bounds-cells-frame c = (popped c.args.cells.now c.args.top c.loop-frame.invariant.0 c.requires.known c.requires.few
    c.loop-frame.invariant.1 c.loop-frame.gathered.far c.loop-frame.stack.items c.pop.new.self.items c.in-Some.frame
    c.in-Some.ensures.items c.loop-frame.invariant.2).known

pub visit-requires-in-Some-clause-place : goal.visit-requires-in-Some-clause-place
visit-requires-in-Some-clause-place c = moved_small c.args.cells.now c.args.top c.loop-frame.invariant.0 c.requires.known c.requires.few
    c.loop-frame.invariant.1 c.loop-frame.gathered.far c.loop-frame.stack.items c.pop.new.self.items c.in-Some.frame
    c.in-Some.ensures.items c.loop-frame.invariant.2 c.place_of-place.result c.place_of-place.ensures

pub visit-requires-in-Some-clause-points : goal.visit-requires-in-Some-clause-points
visit-requires-in-Some-clause-points c =
    let p = popped c.args.cells.now c.args.top c.loop-frame.invariant.0 c.requires.known c.requires.few c.loop-frame.invariant.1
    c.loop-frame.gathered.far c.loop-frame.stack.items c.pop.new.self.items c.in-Some.frame c.in-Some.ensures.items
    c.loop-frame.invariant.2 in
    rw (outlines_are c.args.cells.now c.in-Some.frame.copies.target c.index-cells-frame.result p.known c.index-cells-frame.is) (c.requires.known.within c.in-Some.frame.copies.target)

pub loop-frame-smaller : goal.loop-frame-smaller
loop-frame-smaller c =
    let p = popped c.args.cells.now c.args.top c.loop-frame.invariant.0 c.requires.known c.requires.few c.loop-frame.invariant.1
    c.loop-frame.gathered.far c.loop-frame.stack.items c.pop.new.self.items c.in-Some.frame c.in-Some.ensures.items
    c.loop-frame.invariant.2 in
    let d = p.deep in
    less_left c.args.cells.now c.loop-frame.invariant.0.level (length c.args.cells.now) c.loop-frame.stack.items c.pop.new.self.items
    c.put_next.new.stack.items c.visit-in-Some.new.stack.items c.in-Some.frame c.in_ok-put_next.ensures.0 c.place_of-place.result
    c.loop-frame.invariant.0.falls c.in-Some.ensures.items p.frame
    (omega (arith, d)) c.in_ok-put_next.ensures.1 c.in_ok-put_next.ensures.2
    (rw (copies_are c.args.cells.now c.in-Some.frame.copies.target c.index-cells-frame.result p.known c.index-cells-frame.is) at c.in_ok-visit-2.ensures.put)

pub loop-frame-preserved : goal.loop-frame-preserved
loop-frame-preserved c =
    let p = popped c.args.cells.now c.args.top c.loop-frame.invariant.0 c.requires.known c.requires.few c.loop-frame.invariant.1
    c.loop-frame.gathered.far c.loop-frame.stack.items c.pop.new.self.items c.in-Some.frame c.in-Some.ensures.items
    c.loop-frame.invariant.2 in
    let k = c.in_ok-visit-2.ensures.gathered.keeps c.loop-frame.invariant.1 c.loop-frame.invariant.3 in (
      c.loop-frame.invariant.0,
      k.0,
      walking_more c.args.cells.now c.args.top c.loop-frame.invariant.0 c.requires.known c.requires.few c.loop-frame.invariant.1
          c.loop-frame.gathered.far c.loop-frame.stack.items c.pop.new.self.items c.in-Some.frame c.in-Some.ensures.items
          c.loop-frame.invariant.2 c.in_ok-put_next.ensures.0 c.place_of-place.result _ _ c.put_next.new.stack.items _
          c.in_ok-put_next.ensures.1 c.place_of-place.ensures c.in_ok-put_next.ensures.2
          (rw (outlines_are c.args.cells.now c.in-Some.frame.copies.target c.index-cells-frame.result p.known c.index-cells-frame.is) at k.1)
          (rw (copies_are c.args.cells.now c.in-Some.frame.copies.target c.index-cells-frame.result p.known c.index-cells-frame.is) at c.in_ok-visit-2.ensures.put),
      k.2,
    )

pub returns : goal.returns
returns c = (
  c.loop-frame.invariant.1,
  walking_all c.args.cells.now c.args.top (length c.args.cells.now) c.loop-frame.invariant.0.level
      c.loop-frame.invariant.1 c.loop-frame.gathered.far c.loop-frame.stack.items
      (omega (arith, c.loop-frame.stack.ok.0, c.in_default.ensures.cases.0)) c.loop-frame.invariant.2,
  c.loop-frame.invariant.3,
)

pub returns-in_err-visit : goal.returns-in_err-visit
returns-in_err-visit c = IfOk-from_err _ _ c.from_residual.ensures.0

pub returns-in_err-put_next : goal.returns-in_err-put_next
returns-in_err-put_next c = IfOk-from_err _ _ c.from_residual-in_err-put_next.ensures.0

pub returns-in_err-visit-2 : goal.returns-in_err-visit-2
returns-in_err-visit-2 c = IfOk-from_err _ _ c.from_residual-in_err-visit-2.ensures.0
