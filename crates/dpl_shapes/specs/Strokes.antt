-- Drawing the rectangles of a path, point by point.
use Rattle.std.specs.Prelude.{◌≡◌, ℕ, ◌≤◌, Bool, ℤ, pos, unsigned_abs, List, [], ◌∷◌, ◌++◌, map, if◌then◌else◌}
use Rattle.dpl_spec_split.specs.declared.Pt.{Pt}
use Rattle.dpl_spec_split.specs.declared.Rect.{Rect}
use Rattle.dpl_spec_split.specs.Loops.{IsPointWithin}
use Rattle.dpl_spec_elements.specs.declared.Segment.{Segment}
use Rattle.dpl_spec_elements.specs.Paths.{PathElement, same, distinct, segments_from, bars, square_round, corners_of}
use Rattle.dpl_shapes.specs.declared.bars.Margins.{Margins}
use Rattle.dpl_shapes.specs.declared.bars.Stroke.{Stroke}

pub record IsSegmentWithin (bound : ℕ) (s : Segment) : Type 0 where
  pub from : IsPointWithin bound s.from
  pub to : IsPointWithin bound s.to

pub record IsStrokeWithin (bound : ℕ) (s : Stroke) : Type 0 where
  pub segment : IsSegmentWithin bound s.segment
  pub begin : unsigned_abs s.begin ≤ bound

pub record AreMarginsWithin (bound : ℕ) (m : Margins) : Type 0 where
  pub half : unsigned_abs m.half ≤ bound
  pub begin : unsigned_abs m.begin ≤ bound
  pub end : unsigned_abs m.end ≤ bound

-- the loops still to come of a path that is in a stroke, with these points to go
abbrev pub loops_left : ℤ → ℤ → Stroke → List Pt → List (List Pt)
loops_left half end s rest = map corners_of (bars half s.begin end (segments_from s.segment.from s.segment.to rest))

-- the loops of a path have grown by going on to the point
pub record DrawsTo (half : ℤ) (old : List (List Pt)) (s : Stroke) (point : Pt) (new : List (List Pt)) (next : Stroke) : Type 0 where
  pub goes : (end : ℤ) (rest : List Pt) → new ++ loops_left half end next rest ≡ old ++ loops_left half end s (point ∷ rest)

-- the points that a path is drawn through: none where its width is 0
abbrev pub drawn_points : PathElement → List Pt
drawn_points p = if same p.width (pos 0) then [] else distinct p.points

-- the rectangles along points of which no two neighbours are equal, a single one of which makes a square where dot says so
abbrev pub rects_along : Margins → Bool → List Pt → List Rect
rects_along m dot [] = []
rects_along m dot (q ∷ []) = if dot then square_round m.half q ∷ [] else []
rects_along m dot (q ∷ r ∷ rs) = bars m.half m.begin m.end (segments_from q r rs)
