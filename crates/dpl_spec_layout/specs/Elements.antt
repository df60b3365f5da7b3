-- What one element of a structure says: to which structure it refers and how its copies stand, or which loops it draws, and what it can be refused for.
use Rattle.std.specs.Prelude.{◌≡◌, ◌≢◌, ℕ, zero, suc, ◌+◌, ◌*◌, ◌/◌, Bool, true, not, ◌&&◌, ◌==◌, if◌then◌else◌, ℤ, pos, ◌+ℤ◌, ◌-ℤ◌, ◌*ℤ◌}
use Rattle.std.specs.Prelude.{◌≤ℤ◌, List, [], ◌∷◌, ◌++◌, map, length, Option, Some, None, unwrap_or, unsigned_abs, bit_and, int_div}
use Rattle.std.specs.Prelude.{int_rem}
use Rattle.dpl_spec_split.specs.declared.Pt.{Pt}
use Rattle.dpl_spec_elements.specs.Reals.{real_of, IsWhole, IsQuarterTurns, IsRightAngle}
use Rattle.dpl_spec_elements.specs.Motions.{Motion}
use Rattle.dpl_spec_elements.specs.Boundaries.{IsSlanted}
use Rattle.dpl_spec_elements.specs.Paths as paths
use Rattle.dpl_spec_elements.specs.Paths.{same, path_rects, corners_of}
use Rattle.dpl_spec_format.specs.Fields.{i32_at}
use Rattle.dpl_spec_format.specs.Tree.{Trans, Path, Aref, Body, is_boundary, is_path, is_sref, is_aref, is_text, is_node, is_box}
use Rattle.dpl_spec_layout.specs.declared.Layer.{Layer}
use Rattle.dpl_spec_layout.specs.declared.ElementFault.{ElementFault}
use Rattle.dpl_spec_layout.specs.declared.ElementFault.TheVariants.{AbsoluteTransform, Magnified, AngleNotRight, BadArray, SlantedBoundary, Path as PathRefused}

-- ---- points

-- the point in the eight bytes from 8 * i on
abbrev pub point_in : List ℕ → ℕ → Pt
point_in xy i = record { x = i32_at xy (8 * i); y = i32_at xy (8 * i + 4) }

abbrev pub first_points : List ℕ → ℕ → List Pt
first_points xy zero = []
first_points xy (suc n) = first_points xy n ++ point_in xy n ∷ []

-- the points in the data of XY, eight bytes each
abbrev pub points_in : List ℕ → List Pt
points_in xy = first_points xy (length xy / 8)

-- ---- references

-- the name of the structure that a reference refers to
abbrev pub reference_name : Body → Option (List ℕ)
reference_name (is_sref r) = Some r.name
reference_name (is_aref r) = Some r.name
reference_name (is_boundary b) = None
reference_name (is_path p) = None
reference_name (is_text t) = None
reference_name (is_node n) = None
reference_name (is_box b) = None

-- a reference without STRANS: it isn't reflected, magnified or turned
abbrev pub plain : Trans
plain = record { strans = 0; mag = None; angle = None }

abbrev pub transform_of : Body → Trans
transform_of (is_sref r) = unwrap_or r.trans plain
transform_of (is_aref r) = unwrap_or r.trans plain
transform_of (is_boundary b) = plain
transform_of (is_path p) = plain
transform_of (is_text t) = plain
transform_of (is_node n) = plain
transform_of (is_box b) = plain

-- STRANS has 0x8000
abbrev pub reflects : Trans → Bool
reflects t = not (bit_and t.strans 32768 == 0)

-- STRANS has 0x0004 or 0x0002
abbrev pub IsAbsolute : Trans → Type 0
IsAbsolute t = bit_and t.strans 6 ≢ 0

abbrev pub IsMagnified : Option (List ℕ) → Type 0
IsMagnified None = ⊥
IsMagnified (Some bytes) = ¬ IsWhole (real_of bytes) (pos 1)

abbrev pub IsTurnedAskew : Option (List ℕ) → Type 0
IsTurnedAskew None = ⊥
IsTurnedAskew (Some bytes) = ¬ IsRightAngle (real_of bytes)

-- counterclockwise quarter turns
abbrev pub AreTurns : Option (List ℕ) → ℕ → Type 0
AreTurns None n = n ≡ 0
AreTurns (Some bytes) n = IsQuarterTurns (real_of bytes) n

-- the difference is a multiple of n
abbrev pub Divides : ℤ → ℤ → Type 0
Divides n difference = int_rem difference n ≡ pos 0

-- how point i of an array stands to its first point
abbrev pub across : List ℕ → ℕ → ℤ
across xy i = (point_in xy i).x -ℤ (point_in xy 0).x

abbrev pub up : List ℕ → ℕ → ℤ
up xy i = (point_in xy i).y -ℤ (point_in xy 0).y

-- an array has a column and a row, and its spacings are whole
pub record IsArray (columns rows : ℤ) (xy : List ℕ) : Type 0 where
  pub column : pos 1 ≤ℤ columns
  pub row : pos 1 ≤ℤ rows
  pub column_x : Divides columns (across xy 1)
  pub column_y : Divides columns (up xy 1)
  pub row_x : Divides rows (across xy 2)
  pub row_y : Divides rows (up xy 2)

-- where copy (i, j) of a reference stands, in the coordinates of its own structure; the spacing isn't turned or reflected again
abbrev pub stand : Body → ℕ → ℕ → Pt
stand (is_sref r) i j = point_in r.xy 0
stand (is_aref r) i j = record {
  x = ((point_in r.xy 0).x +ℤ (pos i *ℤ int_div (across r.xy 1) r.columns)) +ℤ (pos j *ℤ int_div (across r.xy 2) r.rows);
  y = ((point_in r.xy 0).y +ℤ (pos i *ℤ int_div (up r.xy 1) r.columns)) +ℤ (pos j *ℤ int_div (up r.xy 2) r.rows);
}
stand (is_boundary b) i j = record { x = pos 0; y = pos 0 }
stand (is_path p) i j = record { x = pos 0; y = pos 0 }
stand (is_text t) i j = record { x = pos 0; y = pos 0 }
stand (is_node n) i j = record { x = pos 0; y = pos 0 }
stand (is_box b) i j = record { x = pos 0; y = pos 0 }

-- how many columns of copies a reference has; what is no reference has none
abbrev pub columns_of : Body → ℕ
columns_of (is_sref r) = 1
columns_of (is_aref r) = unsigned_abs r.columns
columns_of (is_boundary b) = 0
columns_of (is_path p) = 0
columns_of (is_text t) = 0
columns_of (is_node n) = 0
columns_of (is_box b) = 0

abbrev pub rows_of : Body → ℕ
rows_of (is_sref r) = 1
rows_of (is_aref r) = unsigned_abs r.rows
rows_of (is_boundary b) = 0
rows_of (is_path p) = 0
rows_of (is_text t) = 0
rows_of (is_node n) = 0
rows_of (is_box b) = 0

-- the motion of copy (i, j) of a reference: to reflect, then to turn, then to move
pub record IsCopyMotion (b : Body) (i j : ℕ) (m : Motion) : Type 0 where
  pub reflect : m.reflect ≡ reflects (transform_of b)
  pub turns : AreTurns (transform_of b).angle m.turns
  pub x : m.dx ≡ (stand b i j).x
  pub y : m.dy ≡ (stand b i j).y

-- ---- shapes

abbrev pub is_on : Layer → ℕ → ℕ → Bool
is_on chosen layer datatype = layer == chosen.layer && datatype == chosen.datatype

-- the path that an element draws; what the file leaves out is 0
abbrev pub path_shape : Path → paths.PathElement
path_shape p = record {
  points = points_in p.xy;
  width = unwrap_or p.width (pos 0);
  kind = unwrap_or p.kind (pos 0);
  begin_ext = unwrap_or p.begin_ext (pos 0);
  end_ext = unwrap_or p.end_ext (pos 0);
}

-- the loops that an element draws on the chosen layer: through a boundary's points, and through the four corners of each rectangle of a path
abbrev pub loops_of : Layer → Body → List (List Pt)
loops_of chosen (is_boundary b) = if is_on chosen b.layer b.datatype then points_in b.xy ∷ [] else []
loops_of chosen (is_box b) = if is_on chosen b.layer b.boxtype then points_in b.xy ∷ [] else []
loops_of chosen (is_path p) = if is_on chosen p.layer p.datatype then map corners_of (path_rects (path_shape p)) else []
loops_of chosen (is_sref r) = []
loops_of chosen (is_aref r) = []
loops_of chosen (is_text t) = []
loops_of chosen (is_node n) = []

-- how many points an element of the chosen layer counts: those of its XY; a path of width 0 counts none
abbrev pub point_count : Layer → Body → ℕ
point_count chosen (is_boundary b) = if is_on chosen b.layer b.datatype then length b.xy / 8 else 0
point_count chosen (is_box b) = if is_on chosen b.layer b.boxtype then length b.xy / 8 else 0
point_count chosen (is_path p) =
    if is_on chosen p.layer p.datatype && not (same (unwrap_or p.width (pos 0)) (pos 0)) then length p.xy / 8 else 0
point_count chosen (is_sref r) = 0
point_count chosen (is_aref r) = 0
point_count chosen (is_text t) = 0
point_count chosen (is_node n) = 0

-- ---- what an element is refused for

-- A reference is refused for the first of these that applies. `unlaid` says that its array can't be laid out.
abbrev pub IsReferenceFault : Trans → Type 0 → ElementFault → Type 0
IsReferenceFault t unlaid AbsoluteTransform = IsAbsolute t
IsReferenceFault t unlaid Magnified = ¬ IsAbsolute t × IsMagnified t.mag
IsReferenceFault t unlaid AngleNotRight = ¬ IsAbsolute t × ¬ IsMagnified t.mag × IsTurnedAskew t.angle
IsReferenceFault t unlaid BadArray = ¬ IsAbsolute t × ¬ IsMagnified t.mag × ¬ IsTurnedAskew t.angle × unlaid
IsReferenceFault t unlaid SlantedBoundary = ⊥
IsReferenceFault t unlaid (PathRefused f) = ⊥

abbrev pub IsBoundaryFault : List Pt → ElementFault → Type 0
IsBoundaryFault ps f = (f ≡ SlantedBoundary) × IsSlanted ps

abbrev pub IsPathFault : paths.PathElement → ElementFault → Type 0
IsPathFault p (PathRefused f) = paths.IsFirstFault p f
IsPathFault p AbsoluteTransform = ⊥
IsPathFault p Magnified = ⊥
IsPathFault p AngleNotRight = ⊥
IsPathFault p BadArray = ⊥
IsPathFault p SlantedBoundary = ⊥

abbrev pub IsOn : Layer → ℕ → ℕ → Type 0
IsOn chosen layer datatype = is_on chosen layer datatype ≡ true

-- what an element is refused for: a reference whatever it leads to, a shape where it lies on the chosen layer
abbrev pub IsRefusedFor : Layer → Body → ElementFault → Type 0
IsRefusedFor chosen (is_sref r) f = IsReferenceFault (unwrap_or r.trans plain) ⊥ f
IsRefusedFor chosen (is_aref r) f = IsReferenceFault (unwrap_or r.trans plain) (¬ IsArray r.columns r.rows r.xy) f
IsRefusedFor chosen (is_boundary b) f = IsOn chosen b.layer b.datatype × IsBoundaryFault (points_in b.xy) f
IsRefusedFor chosen (is_box b) f = IsOn chosen b.layer b.boxtype × IsBoundaryFault (points_in b.xy) f
IsRefusedFor chosen (is_path p) f = IsOn chosen p.layer p.datatype × IsPathFault (path_shape p) f
IsRefusedFor chosen (is_text t) f = ⊥
IsRefusedFor chosen (is_node n) f = ⊥
