-- What a path is for a layer.
use Rattle.std.proofs.Common.{◌≡◌, ℕ, ◌/◌, Bool, true, false, ◌&&◌, not, List, [], Option, refl, ap, ◌∙◌, map, length, Bor}
use Rattle.std.specs.Prelude.{ℤ, pos, unwrap_or, if◌then◌else◌}
use Rattle.dpl_spec_elements.specs.Paths.{same, path_rects, corners_of}
use Rattle.dpl_spec_format.specs.Tree.{is_path}
use Rattle.dpl_spec_layout.specs.declared.Layer.{Layer}
use Rattle.dpl_spec_layout.specs.Elements.{is_on}
use Rattle.dpl_reference.specs.declared.role.PathStyle.{PathStyle}
use Rattle.dpl_reference.specs.declared.role.Role.TheVariants.{Path}
use Rattle.dpl_reference.specs.Roles.{IsRoleOf, path_along}

count_on : (flat : Bool) (n : ℕ) → (if true && not flat then n else 0) ≡ (if flat then 0 else n)
count_on true n = refl
count_on false n = refl

pub path_role : (chosen : Layer) (layer datatype : ℕ) (kind width begin_ext end_ext : Option ℤ) (xy : Bor (List ℕ))
    → is_on chosen layer datatype ≡ true
    → IsRoleOf chosen
    (is_path (record { layer = layer; datatype = datatype; kind = kind; width = width; begin_ext = begin_ext; end_ext = end_ext; xy = xy.now }))
    (Path (record { width = unwrap_or width (pos 0); kind = unwrap_or kind (pos 0); begin_ext = unwrap_or begin_ext (pos 0); end_ext = unwrap_or end_ext (pos 0) }) xy)
path_role chosen layer datatype kind width begin_ext end_ext xy on =
    let style : PathStyle = record { width = unwrap_or width (pos 0); kind = unwrap_or kind (pos 0); begin_ext = unwrap_or begin_ext (pos 0); end_ext = unwrap_or end_ext (pos 0) } in
    record {
      loops = ap (λ b. if b then map corners_of (path_rects (path_along style xy.now)) else []) on;
      count =
          ap (λ b. if b && not (same style.width (pos 0)) then length xy.now / 8 else 0) on
          ∙ count_on (same style.width (pos 0)) (length xy.now / 8);
      refused = λ f fault. (on, fault);
      taken = λ f refused. refused.1;
      points = λ points. tt;
    }
