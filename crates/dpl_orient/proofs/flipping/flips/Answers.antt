use Rattle.std.proofs.Common.{length, sym, ap, ◌∙◌, arith}
use Rattle.dpl_orient.specs.Crossings.{crossings_at}
use Rattle.dpl_orient.proofs.Flips.{settled-none, settled-more}
use Rattle.dpl_orient.proofs.flipping.flips.Goals as goal

pub loop-root-init : goal.loop-root-init
loop-root-init c = rw c.in_ok-flips.ensures.items (settled-none _)

pub loop-root-preserved : goal.loop-root-preserved
loop-root-preserved c =
    rw c.in_ok-push.ensures.items
    (settled-more (crossings_at c.args.chart.now c.args.sides.now c.args.across.now) c.loop-root.flips.items c.loop-root.root
    c.loop-root.next c.settle-settled.result.next c.settle-settled.result.flip c.requires.up c.loop-root.invariant
    c.settle-settled.ensures.split (rw c.deref.ensures.value at c.settle-settled.ensures.flip))

pub settle-settled-requires-clause-grouped : goal.settle-settled-requires-clause-grouped
settle-settled-requires-clause-grouped c = c.requires.grouped

pub settle-settled-requires-clause-up : goal.settle-settled-requires-clause-up
settle-settled-requires-clause-up c = c.requires.up

pub settle-settled-requires-clause-split : goal.settle-settled-requires-clause-split
settle-settled-requires-clause-split c = c.loop-root.invariant.split

pub settle-settled-requires-clause-earlier : goal.settle-settled-requires-clause-earlier
settle-settled-requires-clause-earlier c = sym (ap length c.deref.ensures.value ∙ c.loop-root.invariant.len)

pub returns-clause-len : goal.returns-clause-len
returns-clause-len c =
    let len = c.loop-root.invariant.len in
    let all = c.loop-root-test.false in
    let end = c.loop-root.auto.root-end in
    omega (arith, len, all, end)

pub returns-clause-flips : goal.returns-clause-flips
returns-clause-flips c = c.loop-root.invariant.flips
