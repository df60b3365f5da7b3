use Rattle.std.proofs.Common.{arith}
use Rattle.dpl_tile.proofs.Adding.{adds-none}
use Rattle.dpl_tile.proofs.MeetingLaws.{IsMeetingIn, strip-pairs}
use Rattle.dpl_tile.proofs.StripLaws.{strips-all, strips-more}
use Rattle.dpl_tile.proofs.meetings.unsorted_meetings.Goals as goal

pub loop-strip-init : goal.loop-strip-init
loop-strip-init c = adds-none (IsMeetingIn c.args.spacing c.args.owners.now c.args.grid.now c.args.join.now) 0 _ (λ m e l k. omega (arith, l))

pub add_pairs-requires-clause-pairs : goal.add_pairs-requires-clause-pairs
add_pairs-requires-clause-pairs c = rw (c.items-items.ensures, c.as_slice.ensures.value)
    (strip-pairs c.args.spacing c.args.join.now c.loop-strip.strip c.in_ok-pairs.pairs.items c.requires.rule c.in_ok-pairs.ensures)

pub loop-strip-preserved : goal.loop-strip-preserved
loop-strip-preserved c = strips-more c.args.spacing c.args.owners.now c.args.grid.now c.args.join.now c.loop-strip.strip c.in_ok-pairs.pairs.items _
    c.loop-strip.meetings.items _ c.requires.rule c.in_ok-pairs.ensures c.loop-strip.invariant
    (rw (c.items-items.ensures, c.as_slice.ensures.value) at c.in_ok-add_pairs.ensures)

pub returns : goal.returns
returns c =
    let end = c.loop-strip-test.false in
    let count = c.strips-count.ensures.count in
    strips-all c.args.spacing c.args.owners.now c.args.grid.now c.args.join.now c.loop-strip.strip _ c.loop-strip.meetings.items
    c.strips-count.ensures.homes (omega (arith, end, count)) c.requires.rule c.new-meetings.ensures.items c.loop-strip.invariant
