-- What an element is for a layer.
use Rattle.std.specs.Prelude.{◌≡◌, ◌/◌, ℕ, pos, List, [], ◌∷◌, map, length, unwrap_or, if◌then◌else◌}
use Rattle.std.specs.Option.{option_map}
use Rattle.dpl_spec_split.specs.declared.Pt.{Pt}
use Rattle.dpl_spec_elements.specs.Paths.{PathElement, path_of, path_rects, corners_of, same}
use Rattle.dpl_spec_format.specs.Tree.{Body, HasPoints}
use Rattle.dpl_syntax.specs.Elements.{trans_seen}
use Rattle.dpl_spec_layout.specs.declared.Layer.{Layer}
use Rattle.dpl_spec_layout.specs.declared.ElementFault.{ElementFault}
use Rattle.dpl_spec_layout.specs.Elements.{points_in, plain, loops_of, point_count, IsArray, IsReferenceFault, IsBoundaryFault, IsPathFault, IsRefusedFor}
use Rattle.dpl_reference.specs.declared.role.PathStyle.{PathStyle}
use Rattle.dpl_reference.specs.declared.role.Role.{Role}
use Rattle.dpl_reference.specs.declared.role.Role.TheVariants.{Nothing, Boundary, Path, Single, Array}

-- a path through the points in the data of XY
abbrev pub path_along : PathStyle → List ℕ → PathElement
path_along s xy = path_of (points_in xy) s.width s.kind s.begin_ext s.end_ext

-- the loops that it draws
abbrev pub loops_in : Role → List (List Pt)
loops_in Nothing = []
loops_in (Boundary xy) = points_in xy.now ∷ []
loops_in (Path style xy) = map corners_of (path_rects (path_along style xy.now))
loops_in (Single trans) = []
loops_in (Array trans columns rows xy) = []

-- how many points it counts
abbrev pub count_in : Role → ℕ
count_in Nothing = 0
count_in (Boundary xy) = length xy.now / 8
count_in (Path style xy) = if same style.width (pos 0) then 0 else length xy.now / 8
count_in (Single trans) = 0
count_in (Array trans columns rows xy) = 0

-- what it is refused for
abbrev pub IsFaultIn : Role → ElementFault → Type 0
IsFaultIn Nothing f = ⊥
IsFaultIn (Boundary xy) f = IsBoundaryFault (points_in xy.now) f
IsFaultIn (Path style xy) f = IsPathFault (path_along style xy.now) f
IsFaultIn (Single trans) f = IsReferenceFault (unwrap_or (option_map trans_seen trans) plain) ⊥ f
IsFaultIn (Array trans columns rows xy) f = IsReferenceFault (unwrap_or (option_map trans_seen trans) plain) (¬ IsArray columns rows xy.now) f

-- an array has three points
abbrev pub HasArrayPoints : Role → Type 0
HasArrayPoints Nothing = Unit {0}
HasArrayPoints (Boundary xy) = Unit {0}
HasArrayPoints (Path style xy) = Unit {0}
HasArrayPoints (Single trans) = Unit {0}
HasArrayPoints (Array trans columns rows xy) = length xy.now ≡ 24

-- an element of this body is that for the layer
pub record IsRoleOf (layer : Layer) (b : Body) (r : Role) : Type 0 where
  pub loops : loops_of layer b ≡ loops_in r
  pub count : point_count layer b ≡ count_in r
  pub refused : (f : ElementFault) → IsFaultIn r f → IsRefusedFor layer b f
  pub taken : (f : ElementFault) → IsRefusedFor layer b f → IsFaultIn r f
  pub points : HasPoints b → HasArrayPoints r
