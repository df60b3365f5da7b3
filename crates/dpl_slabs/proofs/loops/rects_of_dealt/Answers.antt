use Rattle.std.proofs.Common.{◌<◌, length, sym, subst, rules, arith}
use Rattle.dpl_spec_split.specs.Loops.{farthest, ArePointsWithin}
use Rattle.dpl_slabs.proofs.LoopLaws.{dealt-none, dealt-more, dealt-past, dealt-all}
use Rattle.std.proofs.lemmas.Result.{IfOk-from_err}
use Rattle.dpl_slabs.proofs.loops.rects_of_dealt.Goals as goal
use Rattle.dpl_slabs.proofs.loops.rects_of_dealt.Goals.{then-i-workers+in_ok-slabs+in_ok-extend_from_slice, else-i-workers}

pub slabs_of_loop-requires : goal.slabs_of_loop-requires
slabs_of_loop-requires c =
    let here : c.loop-i.i < length c.args.loops.now = search rules in
    rw c.items.ensures (subst (ArePointsWithin farthest) (sym c.index-loops-i.is) (c.requires.loops c.loop-i.i c.index-loops-i.result here))

pub loop-i-init : goal.loop-i-init
loop-i-init c = rw c.new-rects.ensures.items (dealt-none c.args.loops.now c.args.worker c.args.workers)

pub loop-i-preserved : goal.loop-i-preserved
loop-i-preserved c = elim c.if-i-workers.branch [
  | then-i-workers+in_ok-slabs+in_ok-extend_from_slice w ↦ rw w.rects-is
      (let here : c.loop-i.i < length c.args.loops.now = search rules in
      rw (w.in_ok-extend_from_slice.ensures.items, w.deref.ensures.value)
      (dealt-more c.args.loops.now c.args.worker c.args.workers c.loop-i.i w.index-loops-i.result c.loop-i.rects.items w.in_ok-slabs.slabs.items here w.index-loops-i.is
      w.if-i-workers.true c.loop-i.invariant (rw w.items.ensures at w.in_ok-slabs.ensures.slabs) w.in_ok-slabs.ensures.within))
  | else-i-workers w ↦ rw w.rects-is
      (dealt-past c.args.loops.now c.args.worker c.args.workers c.loop-i.i c.loop-i.rects.items w.if-i-workers.false c.loop-i.invariant)
]

pub returns : goal.returns
returns c = dealt-all c.args.loops.now c.args.worker c.args.workers c.loop-i.i c.loop-i.rects.items (omega arith) c.loop-i.invariant

pub returns-in_err-slabs : goal.returns-in_err-slabs
returns-in_err-slabs c = IfOk-from_err _ _ c.from_residual.ensures.0

pub returns-in_err-extend_from_slice : goal.returns-in_err-extend_from_slice
returns-in_err-extend_from_slice c = IfOk-from_err _ _ c.from_residual-in_err-extend_from_slice.ensures.0
