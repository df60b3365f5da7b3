use Rattle.std.proofs.Common.{◌<◌, length, arith}
use Rattle.dpl_masks.proofs.Joining.{one_more}
use Rattle.dpl_masks.proofs.bytes.put_boundaries.Goals as goal

pub loop-slab-preserved : goal.loop-slab-preserved
loop-slab-preserved c =
    let within : c.loop-slab.slab-index < length c.args.slabs.now = omega arith in
    one_more c.args.layer c.loop-slab.slab-index c.args.slabs.now _ _ _ _ within c.loop-slab.invariant c.in_ok-put_boundary.ensures.ok
