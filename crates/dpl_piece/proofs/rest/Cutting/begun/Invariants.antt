use Rattle.std.proofs.Common.{◌≡◌, ◌<◌, ◌++◌, List, length}
use Rattle.std.specs.List.{All, flat_map}
use Rattle.std.specs.Vec.Iter.{into_iter_items, into_iter_len}
use Rattle.dpl_spec_split.specs.declared.Rect.{Rect}
use Rattle.dpl_sides.specs.Sided.{numbers_in}
use Rattle.dpl_piece.specs.Adding.{IsBegun}
use Rattle.dpl_piece.specs.Cutting.{AreFeatures, AreTheirZones}
use Rattle.dpl_piece.specs.Made.{AreAllMade, AreBelow}
use Rattle.dpl_piece.proofs.rest.Cutting.begun.Given as goal

abbrev pub invariant-loop-pile : goal.invariant-loop-pile
invariant-loop-pile l =
    record {
      left : into_iter_len l.pile-iterator ≡ length (into_iter_items l.pile-iterator);
      made : flat_map (λ b. b.features.items) l.fn.piles.items ≡ l.cutting.made.items ++ flat_map (λ b. b.features.items) (into_iter_items l.pile-iterator);
      known : All (λ b. All (λ j. j < length l.zones) (numbers_in b.zones.items)) (into_iter_items l.pile-iterator);
      firsts : length l.cutting.noted.firsts.items ≡ length l.zones;
      seconds : length l.cutting.noted.seconds.items ≡ length l.zones;
      begun : (features : List (List Rect)) → AreFeatures features → AreTheirZones features l.zones → AreAllMade features l.zones l.fn.piles.items
          → IsBegun features l.zones l.cutting × AreAllMade features l.zones (into_iter_items l.pile-iterator)
          × All (λ b. AreBelow l.cutting.made.items b.features.items) (into_iter_items l.pile-iterator);
    }
