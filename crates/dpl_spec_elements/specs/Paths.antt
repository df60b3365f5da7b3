-- Paths: one rectangle for each straight part.
use Rattle.std.specs.Prelude.{◌≡◌, ℕ, ◌+◌, ◌/◌, ◌%◌, ◌<◌, ◌⊎◌, Bool, true, false, ◌&&◌, ℤ, pos, ◌+ℤ◌, ◌-ℤ◌, ◌<ℤ◌, unsigned_abs, List, []}
use Rattle.std.specs.Prelude.{◌∷◌, length, slice_index_or, if◌then◌else◌}
use lib.Signed.{lt_z, le_z}
use Rattle.dpl_spec_split.specs.declared.Pt.{Pt}
use Rattle.dpl_spec_split.specs.declared.Rect.{Rect}
use Rattle.dpl_spec_split.specs.Squares.{Covers}
use Rattle.dpl_spec_split.specs.Loops.{IsLevelOrUpright}
use Rattle.dpl_spec_elements.specs.declared.Heading.{Heading}
use Rattle.dpl_spec_elements.specs.declared.Heading.TheVariants.{East, North, West, South}
use Rattle.dpl_spec_elements.specs.declared.Segment.{Segment}
use Rattle.dpl_spec_elements.specs.declared.PathFault.{PathFault}
use Rattle.dpl_spec_elements.specs.declared.PathFault.TheVariants.{RoundPath, BadPathType, OddWidth, SlantedPath, PathTurnsBack, NegativeExtension}

-- a path as the file has it, in database units; what the file leaves out is 0
pub record PathElement : Type 0 where
  pub points : List Pt
  pub width : ℤ
  pub kind : ℤ
  pub begin_ext : ℤ
  pub end_ext : ℤ

abbrev pub path_of : List Pt → ℤ → ℤ → ℤ → ℤ → PathElement
path_of points width kind begin_ext end_ext = record { points = points; width = width; kind = kind; begin_ext = begin_ext; end_ext = end_ext }

abbrev pub same : ℤ → ℤ → Bool
same a b = le_z a b && le_z b a

abbrev pub same_point : Pt → Pt → Bool
same_point p q = same p.x q.x && same p.y q.y

-- The points of a path: one that equals the point before it is dropped.
abbrev pub distinct_after : Pt → List Pt → List Pt
distinct_after p [] = []
distinct_after p (q ∷ qs) = if same_point p q then distinct_after p qs else q ∷ distinct_after q qs

abbrev pub distinct : List Pt → List Pt
distinct [] = []
distinct (p ∷ ps) = p ∷ distinct_after p ps

-- Which way a segment between different points goes that is parallel to an axis.
abbrev pub heading : Pt → Pt → Heading
heading p q = if lt_z p.x q.x then East else (if lt_z q.x p.x then West else (if lt_z p.y q.y then North else South))

abbrev pub same_heading : Heading → Heading → Bool
same_heading East East = true
same_heading North North = true
same_heading West West = true
same_heading South South = true
same_heading a b = false

abbrev pub back : Heading → Heading
back East = West
back North = South
back West = East
back South = North

-- The segments of a path, consecutive ones of one direction taken as one.
abbrev pub segments_from : Pt → Pt → List Pt → List Segment
segments_from p q [] = record { from = p; to = q } ∷ []
segments_from p q (r ∷ rs) = if same_heading (heading p q) (heading q r) then segments_from p r rs else record { from = p; to = q } ∷ segments_from q r rs

abbrev pub segments : List Pt → List Segment
segments [] = []
segments (p ∷ []) = []
segments (p ∷ q ∷ rs) = segments_from p q rs

-- the rectangle half wide to each side of a segment, lengthened at its beginning and at its end
abbrev pub bar_to : Heading → ℤ → ℤ → ℤ → Segment → Rect
bar_to East half begin end s = record { x0 = s.from.x -ℤ begin; y0 = s.from.y -ℤ half; x1 = s.to.x +ℤ end; y1 = s.from.y +ℤ half }
bar_to North half begin end s = record { x0 = s.from.x -ℤ half; y0 = s.from.y -ℤ begin; x1 = s.from.x +ℤ half; y1 = s.to.y +ℤ end }
bar_to West half begin end s = record { x0 = s.to.x -ℤ end; y0 = s.from.y -ℤ half; x1 = s.from.x +ℤ begin; y1 = s.from.y +ℤ half }
bar_to South half begin end s = record { x0 = s.from.x -ℤ half; y0 = s.to.y -ℤ end; x1 = s.from.x +ℤ half; y1 = s.from.y +ℤ begin }

abbrev pub bar : ℤ → ℤ → ℤ → Segment → Rect
bar half begin end s = bar_to (heading s.from s.to) half begin end s

-- One rectangle for each segment: lengthened by half at each inner corner, by begin and by end at the ends of the path.
abbrev pub bars : ℤ → ℤ → ℤ → List Segment → List Rect
bars half begin end [] = []
bars half begin end (s ∷ []) = bar half begin end s ∷ []
bars half begin end (s ∷ t ∷ ts) = bar half begin half s ∷ bars half half end (t ∷ ts)

-- half the width
abbrev pub half_of : PathElement → ℤ
half_of p = pos (unsigned_abs p.width / 2)

-- how far a path of this type goes on past one of its ends, whose given extension is ext
abbrev pub past_end : ℤ → ℤ → ℤ → ℤ
past_end kind half ext = if same kind (pos 2) then half else (if same kind (pos 4) then ext else pos 0)

-- the square round a point
abbrev pub square_round : ℤ → Pt → Rect
square_round half p = record { x0 = p.x -ℤ half; y0 = p.y -ℤ half; x1 = p.x +ℤ half; y1 = p.y +ℤ half }

-- the rectangles of a path through points of which no two neighbours are equal
abbrev pub rects_through : PathElement → List Pt → List Rect
rects_through p [] = []
rects_through p (q ∷ []) = if same p.kind (pos 2) then square_round (half_of p) q ∷ [] else []
rects_through p (q ∷ r ∷ rs) = bars (half_of p) (past_end p.kind (half_of p) p.begin_ext) (past_end p.kind (half_of p) p.end_ext) (segments_from q r rs)

-- the rectangles of a path; one of width 0 has none
abbrev pub path_rects : PathElement → List Rect
path_rects p = if same p.width (pos 0) then [] else rects_through p (distinct p.points)

-- the squares of a path
abbrev pub PathCovers : PathElement → Pt → Type 0
PathCovers p s = Covers (path_rects p) s

-- the corners of a rectangle, counterclockwise from the lower left one
abbrev pub corners_of : Rect → List Pt
corners_of r = record { x = r.x0; y = r.y0 } ∷ record { x = r.x1; y = r.y0 } ∷ record { x = r.x1; y = r.y1 } ∷ record { x = r.x0; y = r.y1 } ∷ []

-- some segment isn't parallel to an axis
abbrev pub HasSlant : List Pt → Type 0
HasSlant ps = (k : ℕ) × (p q : Pt) × (k + 1 < length ps) × (slice_index_or ps k p ≡ p) × (slice_index_or ps (k + 1) q ≡ q) × (IsLevelOrUpright p q → ⊥)

-- some two consecutive segments have opposite directions
abbrev pub HasTurnBack : List Pt → Type 0
HasTurnBack ps = (k : ℕ) × (p q r : Pt) × (k + 2 < length ps) × (slice_index_or ps k p ≡ p) × (slice_index_or ps (k + 1) q ≡ q)
    × (slice_index_or ps (k + 2) r ≡ r) × (heading q r ≡ back (heading p q))

-- the fault is there
abbrev pub Applies : PathElement → PathFault → Type 0
Applies p RoundPath = p.kind ≡ pos 1
Applies p BadPathType = (p.kind ≡ pos 0 → ⊥) × (p.kind ≡ pos 1 → ⊥) × (p.kind ≡ pos 2 → ⊥) × (p.kind ≡ pos 4 → ⊥)
Applies p OddWidth = unsigned_abs p.width % 2 ≡ 1
Applies p SlantedPath = HasSlant (distinct p.points)
Applies p PathTurnsBack = HasTurnBack (distinct p.points)
Applies p NegativeExtension = (p.kind ≡ pos 4) × ((p.begin_ext <ℤ pos 0) ⊎ (p.end_ext <ℤ pos 0))

-- the order in which faults are answered
abbrev pub place : PathFault → ℕ
place RoundPath = 1
place BadPathType = 2
place OddWidth = 3
place SlantedPath = 4
place PathTurnsBack = 5
place NegativeExtension = 6

-- the first fault that applies to a path that has a width
pub record IsFirstFault (p : PathElement) (f : PathFault) : Type 0 where
  pub drawn : p.width ≡ pos 0 → ⊥
  pub there : Applies p f
  pub first : (g : PathFault) → place g < place f → Applies p g → ⊥

-- no fault applies, or the path has no width
abbrev pub IsFaultless : PathElement → Type 0
IsFaultless p = (p.width ≡ pos 0) ⊎ ((f : PathFault) → Applies p f → ⊥)
