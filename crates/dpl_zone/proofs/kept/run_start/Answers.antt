use Rattle.std.proofs.Common.{◌≡◌, length, arith}
use Rattle.dpl_zone.proofs.Joining.{below-more, below-none, passed-all, passed-at}
use Rattle.dpl_zone.proofs.kept.run_start.Goals as goal

pub loop-k-init : goal.loop-k-init
loop-k-init c = below-none c.args.zones.now c.args.start c.args.feature

pub loop-k-preserved : goal.loop-k-preserved
loop-k-preserved c = below-more c.args.zones.now c.args.start c.args.feature c.loop-k.k c.loop-k-test.true c.loop-k.invariant (let h = c.if-zones-k.false in omega (arith, h))

pub returns-then-zones-k : goal.returns-then-zones-k
returns-then-zones-k c =
    passed-at c.args.zones.now c.args.start c.args.feature c.loop-k.k (omega arith) c.loop-k-test.true c.loop-k.invariant (let h = c.if-zones-k.true in omega (arith, h))

pub returns : goal.returns
returns c =
    let within = c.requires in
    let is : c.loop-k.k ≡ length c.args.zones.now = omega (arith, within) in
    passed-all c.args.zones.now c.args.start c.args.feature within (rw is at c.loop-k.invariant)
