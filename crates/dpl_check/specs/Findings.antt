-- What a search finds: the least square of a set, the first bad item of a list, the least pair of squares.
use Rattle.std.specs.Prelude.{◌≢◌, ℕ, pos, ◌<◌, ◌⊎◌, ◌-ℤ◌, ◌≤ℤ◌, cond, List, Option, Some, None, length}
use Rattle.std.specs.List.{Any}
use Rattle.dpl_spec_split.specs.declared.Pt.{Pt}
use Rattle.dpl_spec_split.specs.declared.Rect.{Rect}
use Rattle.dpl_spec_split.specs.Squares.{Region, Covers, Has, IsLeast}
use Rattle.dpl_tree.specs.declared.items.Item.{Item}
use Rattle.dpl_tree.specs.declared.owners.Owners.TheVariants.{All as Everyone}
use Rattle.dpl_nearest.specs.Search.{ItemCovers}
use Rattle.dpl_cert.specs.declared.cert.PieceLine.{PieceLine}
use Rattle.dpl_cert.specs.declared.cert.StitchLine.{StitchLine}
use Rattle.dpl_spec_verdict.specs.Masks.{is_alone, piece_at}
use Rattle.dpl_spec_verdict.specs.Order.{HasBad, HasSquare, IsFirstBad, IsLeastPair}

abbrev pub IsLeastOf : Region → Option Pt → Type 0
IsLeastOf a None = ¬ HasSquare a
IsLeastOf a (Some p) = IsLeast a p

-- in exactly one of two sets
abbrev pub is_in_one : List Rect → List Rect → Region
is_in_one a b p = (Covers a p × ¬ Covers b p) ⊎ (Covers b p × ¬ Covers a p)

-- a marked square of the layer that isn't on the one mask alone
abbrev pub is_off : List Rect → List Rect → List Rect → List Rect → Region
is_off layer mask other marked p = Covers layer p × Covers marked p × ¬ is_alone mask other p

-- in the set and in no listed stitch
abbrev pub is_unlisted : List Rect → List StitchLine → Region
is_unlisted rects stitches p = Covers rects p × ¬ Any (λ s. Has s.rect p) stitches

abbrev pub IsFirstBadOf : {X : Type 0} → (ℕ → X → Type 0) → List X → Option ℕ → Type 0
IsFirstBadOf bad xs None = ¬ HasBad bad xs
IsFirstBadOf bad xs (Some k) = IsFirstBad bad xs k

abbrev pub IsLeastPairOf : (Pt → Pt → Type 0) → Option (Pt × Pt) → Type 0
IsLeastPairOf related None = (p q : Pt) → ¬ related p q
IsLeastPairOf related (Some pair) = IsLeastPair related pair.0 pair.1

-- A stitch without a square of the set, as long as the overlap, between pieces of two letters.
pub record IsRightStitch (overlap : ℕ) (off : Region) (pieces : List PieceLine) (s : StitchLine) : Type 0 where
  pub on : ¬ HasSquare (λ p. Has s.rect p × off p)
  pub long : (pos overlap ≤ℤ (s.rect.x1 -ℤ s.rect.x0)) ⊎ (pos overlap ≤ℤ (s.rect.y1 -ℤ s.rect.y0))
  pub parted : ((s.p < length pieces) × (s.q < length pieces)) × ((piece_at pieces s.p).b ≢ (piece_at pieces s.q).b)

abbrev pub IsWrongStitch : ℕ → Region → List PieceLine → ℕ → StitchLine → Type 0
IsWrongStitch overlap off pieces k s = ¬ IsRightStitch overlap off pieces s

-- the square isn't in the tree of the mask that the line names
abbrev pub IsOffMask : List Item → List Item → ℕ → PieceLine → Type 0
IsOffMask a b k line = ¬ ItemCovers Everyone (cond line.b b a) line.key
