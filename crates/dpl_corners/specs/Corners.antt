-- Rectangles by their corners.
use Rattle.std.specs.Prelude.{◌≡◌, ◌⊎◌, ℤ, ◌≤ℤ◌, Bool, cond, List, [], ◌∷◌}
use Rattle.dpl_spec_split.specs.declared.Pt.{Pt}
use Rattle.dpl_spec_split.specs.declared.Rect.{Rect}
use Rattle.dpl_corners.specs.declared.bar.Bar.{Bar}

-- u and v are x and y, the lesser first
abbrev pub AreOrdered : ℤ → ℤ → ℤ → ℤ → Type 0
AreOrdered x y u v = ((u ≡ x) × (v ≡ y) × (x ≤ℤ y)) ⊎ ((u ≡ y) × (v ≡ x) × (y ≤ℤ x))

-- the rectangle has these opposite corners
pub record IsSpanned (p q : Pt) (b : Rect) : Type 0 where
  pub columns : AreOrdered p.x q.x b.x0 b.x1
  pub rows : AreOrdered p.y q.y b.y0 b.y1

-- corners of a rectangle in turn, the second above or below the first
pub record IsUpright (p q r t : Pt) : Type 0 where
  pub up : p.x ≡ q.x
  pub along : q.y ≡ r.y
  pub down : r.x ≡ t.x
  pub back : t.y ≡ p.y

-- above or below p, in the row of r
abbrev pub over : Pt → Pt → Pt
over p r = record { x = p.x; y = r.y }

-- the corner behind the first
abbrev pub second : Bar → Pt
second b = cond b.upright (over b.corner b.opposite) (over b.opposite b.corner)

-- the corner before the first
abbrev pub fourth : Bar → Pt
fourth b = cond b.upright (over b.opposite b.corner) (over b.corner b.opposite)

-- the points of the bar's loop
abbrev pub loop_round : Bar → List Pt
loop_round b = b.corner ∷ (second b ∷ (b.opposite ∷ (fourth b ∷ cond b.closed (b.corner ∷ []) [])))

-- the bar's corners are these, in turn
pub record IsThrough (p q r t : Pt) (closed : Bool) (b : Bar) : Type 0 where
  pub first : b.corner ≡ p
  pub next : second b ≡ q
  pub far : b.opposite ≡ r
  pub last : fourth b ≡ t
  pub ends : b.closed ≡ closed
