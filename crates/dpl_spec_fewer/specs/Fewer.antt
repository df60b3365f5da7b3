-- Fewer stitches: components whose flip alone leaves fewer of them are flipped, the least first, again and again.
use Rattle.std.specs.Prelude.{◌≢◌, ℕ, ◌<◌, ◌≤◌, Bool, not, ◌&&◌, ◌==◌, List, map, count_by, slice_index, slice_get, Option, Some, None}
use Rattle.std.specs.List.{zip}
use Rattle.dpl_spec_split.specs.Colours.{differ, colour_at, AreColours}

-- how many zones are stitches
abbrev pub stitch_count : List (ℕ × ℕ) → List Bool → ℕ
stitch_count sides colours = count_by (λ side. differ (colour_at colours side.0) (colour_at colours side.1)) sides

-- the letters where the component of root is flipped; roots has the root of each vertex
abbrev pub flipped : List ℕ → ℕ → List Bool → List Bool
flipped roots root colours = map (λ (v : ℕ × Bool). differ (v.0 == root) v.1) (zip roots colours)

-- the component isn't that of the fixed vertex, if there is one
abbrev pub IsFree : List ℕ → Option ℕ → ℕ → Type 0
IsFree roots None root = Unit {0}
IsFree roots (Some fixed) root = slice_get roots fixed ≢ Some root

-- the flip of this component alone leaves fewer stitches
pub record Gains (roots : List ℕ) (fixed : Option ℕ) (sides : List (ℕ × ℕ)) (colours : List Bool) (root : ℕ) : Type 0 where
  pub free : IsFree roots fixed root
  pub fewer : stitch_count sides (flipped roots root colours) < stitch_count sides colours

-- the least such component
pub record IsLeastGain (roots : List ℕ) (fixed : Option ℕ) (sides : List (ℕ × ℕ)) (colours : List Bool) (root : ℕ) : Type 0 where
  pub gains : Gains roots fixed sides colours root
  pub least : (other : ℕ) → Gains roots fixed sides colours other → root ≤ other

-- from letters to those that are left when the least such component is flipped again and again, until there is none
pub data LeadsTo (roots : List ℕ) (fixed : Option ℕ) (sides : List (ℕ × ℕ)) : List Bool → List Bool → Type 0 where
  stay : {colours : List Bool} → ((root : ℕ) → ¬ Gains roots fixed sides colours root) → LeadsTo roots fixed sides colours colours
  flip : {colours last : List Bool} → (root : ℕ) → IsLeastGain roots fixed sides colours root
      → LeadsTo roots fixed sides (flipped roots root colours) last → LeadsTo roots fixed sides colours last

-- the colours that those of a graph lead to
pub record AreFewerColours (roots : List ℕ) (odds : List Bool) (sides : List (ℕ × ℕ)) (fixed : Option ℕ) (colours : List Bool) : Type 0 where
  pub first : List Bool
  pub coloured : AreColours roots odds sides first
  pub led : LeadsTo roots fixed sides first colours

-- the zone has one side in the component of root, and the other in another component
abbrev pub leaves : List ℕ → ℕ → ℕ × ℕ → Bool
leaves roots root side = differ (slice_index roots side.0 == root) (slice_index roots side.1 == root)

-- how many zones between the component of root and others have sides that differ, or agree
abbrev pub zones_out : List ℕ → List Bool → ℕ → Bool → List (ℕ × ℕ) → ℕ
zones_out roots colours root wanted sides =
    count_by (λ side. leaves roots root side && not (differ wanted (differ (colour_at colours side.0) (colour_at colours side.1)))) sides
