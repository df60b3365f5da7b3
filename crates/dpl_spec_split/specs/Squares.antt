-- Unit squares, sets of them, and how far two lie apart.
use Rattle.std.specs.Prelude.{◌≡◌, ℕ, ◌+◌, ◌-◌, ◌*◌, ◌<◌, ◌≤◌, ◌⊎◌, ◌↔◌, ℤ, ◌-ℤ◌, ◌≤ℤ◌, ◌<ℤ◌, unsigned_abs, List}
use Rattle.std.specs.List.{Any}
use Rattle.dpl_spec_split.specs.declared.Pt.{Pt}
use Rattle.dpl_spec_split.specs.declared.Rect.{Rect}
use Rattle.dpl_spec_split.specs.declared.Spacing.{Spacing}

-- a set of squares
abbrev pub Region : Type 1
Region = Pt → Type 0

-- two sets have the same squares
abbrev pub SameSquares : Region → Region → Type 0
SameSquares a b = (p : Pt) → a p ↔ b p

-- squares go by row, then by column
abbrev pub Precedes : Pt → Pt → Type 0
Precedes p q = (p.y <ℤ q.y) ⊎ ((p.y ≡ q.y) × (p.x <ℤ q.x))

-- p is the first square of the set
pub record IsLeast (a : Region) (p : Pt) : Type 0 where
  pub inside : a p
  pub first : (q : Pt) → a q → (p ≡ q) ⊎ Precedes p q

-- how many units lie between two columns, or two rows
abbrev pub gap : ℤ → ℤ → ℕ
gap i j = unsigned_abs (i -ℤ j) - 1

-- the squared distance of two closed squares
abbrev pub d2 : Pt → Pt → ℕ
d2 p q = gap p.x q.x * gap p.x q.x + gap p.y q.y * gap p.y q.y

-- closed squares that share at least a corner
abbrev pub Touch : Pt → Pt → Type 0
Touch p q = d2 p q ≡ 0

-- one number for all distances
abbrev pub uniform : ℕ → Spacing
uniform rule = record { rule = rule; corner = rule }

-- dx columns and dy rows between two squares are too few: closer than the corner rule where there are some of both, else closer than the rule
pub data TooFew (spacing : Spacing) (dx dy : ℕ) : Type 0 where
  in_line : (dx ≡ 0) ⊎ (dy ≡ 0) → dx * dx + dy * dy < spacing.rule * spacing.rule → TooFew spacing dx dy
  at_corner : 0 < dx → 0 < dy → dx * dx + dy * dy < spacing.corner * spacing.corner → TooFew spacing dx dy

-- two squares are near: too close to one another for one mask
abbrev pub Near : Spacing → Pt → Pt → Type 0
Near spacing p q = TooFew spacing (gap p.x q.x) (gap p.y q.y)

-- some square of one is near some square of the other
abbrev pub AreNear : Spacing → Region → Region → Type 0
AreNear spacing a b = (p q : Pt) × a p × b q × Near spacing p q

abbrev pub AreTouching : Region → Region → Type 0
AreTouching a b = (p q : Pt) × a p × b q × Touch p q

-- the squares of a rectangle
pub record Has (r : Rect) (p : Pt) : Type 0 where
  pub left : r.x0 ≤ℤ p.x
  pub right : p.x <ℤ r.x1
  pub low : r.y0 ≤ℤ p.y
  pub high : p.y <ℤ r.y1

-- the squares of a list of rectangles
abbrev pub Covers : List Rect → Region
Covers rs p = Any (λ r. Has r p) rs

-- the squared distance of two sets: the least of their squares
pub record IsSquaredDistance (a b : Region) (n : ℕ) : Type 0 where
  pub reached : (p q : Pt) × a p × b q × (d2 p q ≡ n)
  pub least : (p q : Pt) → a p → b q → n ≤ d2 p q

-- a rectangle with some square, whose corners lie within bound of 0
pub record IsSolidWithin (bound : ℕ) (r : Rect) : Type 0 where
  pub wide : r.x0 <ℤ r.x1
  pub tall : r.y0 <ℤ r.y1
  pub left : unsigned_abs r.x0 ≤ bound
  pub right : unsigned_abs r.x1 ≤ bound
  pub low : unsigned_abs r.y0 ≤ bound
  pub high : unsigned_abs r.y1 ≤ bound

-- the most columns that may lie between near squares with dy rows between them
pub record IsReach (spacing : Spacing) (dy r : ℕ) : Type 0 where
  pub near : TooFew spacing r dy
  pub far : ¬ TooFew spacing (r + 1) dy
