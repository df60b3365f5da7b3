use Rattle.std.proofs.Common.{◌≡◌, ◌++◌, take}
use Rattle.dpl_masks.specs.Bytes.{boundaries_bytes}
use Rattle.dpl_masks.proofs.bytes.put_boundaries.Given as goal

abbrev pub invariant-loop-slab : goal.invariant-loop-slab
invariant-loop-slab l = l.out.items ≡ l.fn.out.items ++ boundaries_bytes l.layer (take l.slab-index l.slabs)
