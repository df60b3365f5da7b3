-- The motions of references: to reflect, then to turn, then to move.
use Rattle.std.specs.Prelude.{◌≡◌, ℕ, zero, suc, ◌<◌, ◌≤◌, Bool, ℤ, ◌+ℤ◌, neg_ℤ, unsigned_abs, List, [], ◌∷◌, if◌then◌else◌}
use Rattle.dpl_spec_split.specs.declared.Pt.{Pt}

pub record Motion : Type 0 where
  pub reflect : Bool
  pub turns : ℕ
  pub dx : ℤ
  pub dy : ℤ

-- in the x axis
abbrev pub reflected : Pt → Pt
reflected p = record { x = p.x; y = neg_ℤ p.y }

-- counterclockwise round (0,0)
abbrev pub quarter_turned : Pt → Pt
quarter_turned p = record { x = neg_ℤ p.y; y = p.x }

abbrev pub turned : ℕ → Pt → Pt
turned zero p = p
turned (suc n) p = quarter_turned (turned n p)

abbrev pub moved : ℤ → ℤ → Pt → Pt
moved dx dy p = record { x = p.x +ℤ dx; y = p.y +ℤ dy }

-- where a motion takes a point
abbrev pub image : Motion → Pt → Pt
image m p = moved m.dx m.dy (turned m.turns (if m.reflect then reflected p else p))

-- where motions take a point, the last of the list first
abbrev pub image_through : List Motion → Pt → Pt
image_through [] p = p
image_through (m ∷ ms) p = image m (image_through ms p)

-- the motion that does inner and then outer
abbrev pub IsComposed : Motion → Motion → Motion → Type 0
IsComposed outer inner m = (m.turns < 4) × ((p : Pt) → image m p ≡ image outer (image inner p))

-- it moves by at most bound in x and in y
pub record IsMotionWithin (bound : ℕ) (m : Motion) : Type 0 where
  pub column : unsigned_abs m.dx ≤ bound
  pub row : unsigned_abs m.dy ≤ bound
