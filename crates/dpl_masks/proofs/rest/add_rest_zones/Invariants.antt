use Rattle.std.proofs.Common.{map}
use Rattle.dpl_orient.specs.Masks.{is_second}
use Rattle.dpl_masks.specs.Painting.{Adds, ArePatchesWithin}
use Rattle.dpl_masks.specs.Sheets.{rest_zones}
use Rattle.dpl_masks.proofs.rest.add_rest_zones.Given as goal

abbrev pub invariant-loop-k : goal.invariant-loop-k
invariant-loop-k l = record {
  adds : Adds l.fn.patches.items l.patches.items (rest_zones l.k l.zones l.sides (map is_second l.colours) l.inks (is_second l.letter));
  within : ArePatchesWithin l.patches.items;
}
