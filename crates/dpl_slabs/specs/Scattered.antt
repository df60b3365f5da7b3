-- Slabs of one set in any order, and sets that don't touch one another.
use Rattle.std.specs.Prelude.{◌⊎◌, List}
use Rattle.std.specs.List.{All, AllPairs}
use Rattle.dpl_spec_split.specs.declared.Rect.{Rect}
use Rattle.dpl_spec_split.specs.Squares.{AreTouching, Covers}
use Rattle.dpl_spec_split.specs.Slabs.{IsSolid, Follows}

-- no square of one touches a square of the other
abbrev pub AreUntouched : List Rect → List Rect → Type 0
AreUntouched s t = ¬ AreTouching (Covers s) (Covers t)

-- one of the two follows the other
abbrev pub FollowEither : Rect → Rect → Type 0
FollowEither a b = Follows a b ⊎ Follows b a

-- the canonical slabs of some set, in any order
pub record AreScattered (rs : List Rect) : Type 0 where
  pub solid : All IsSolid rs
  pub follow : AllPairs FollowEither rs
