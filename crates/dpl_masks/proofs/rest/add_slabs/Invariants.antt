use Rattle.std.proofs.Common.{◌≡◌, take}
use Rattle.dpl_spec_split.specs.Squares.{Covers}
use Rattle.dpl_masks.specs.Painting.{Adds, ArePatchesWithin}
use Rattle.dpl_masks.proofs.rest.add_slabs.Given as goal

abbrev pub invariant-loop-k : goal.invariant-loop-k
invariant-loop-k l = record {
  adds : Adds l.fn.patches.items l.patches.items (λ f p. (l.feature ≡ f) × Covers (take l.k l.slabs) p);
  within : ArePatchesWithin l.patches.items;
}
