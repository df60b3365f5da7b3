-- What the bytes of numbers and points say.
use Rattle.std.proofs.Common.{◌≡◌, ℕ, ◌<◌, ◌≤◌, List, [], ◌∷◌, refl, ap, ◌∙◌, arith}
use Rattle.std.proofs.Common.{rules}
use Rattle.std.proofs.lemmas.Nat.{from_be_bytes-to_be_bytes_4}
use Rattle.std.specs.Prelude.{ℤ, pos, negsuc, unsigned_abs, FitsSigned, map}
use Rattle.std.specs.List.{concat}
use Rattle.std.specs.Int.{w16, w32, to_be_bytes, cast_unsigned, cast_signed}
use Rattle.std.proofs.lemmas.Int.{to_z-of_z}
use Rattle.dpl_spec_split.specs.declared.Rect.{Rect}
use Rattle.dpl_spec_split.specs.Zones.{at}
use Rattle.dpl_spec_split.specs.Loops.{IsRectWithin, farthest}
use Rattle.dpl_spec_format.specs.Fields.{u16_at, u32_at, i32_at}
use Rattle.dpl_masks.specs.Bytes.{coordinate_bytes, point_bytes, corners}
use Rattle.dpl_spec_layout.specs.Elements.{points_in}

-- a layer in two bytes
pub layer-read : (n : ℕ) → n < 65536 → u16_at (to_be_bytes w16 n) 0 ≡ n
layer-read n fits = omega arith

word-read : (n : ℕ) → n < 4294967296 → u32_at (to_be_bytes w32 n) 0 ≡ n
word-read n fits = omega (arith, from_be_bytes-to_be_bytes_4 n fits)

fits-signed : (z : ℤ) → unsigned_abs z ≤ farthest → FitsSigned w32 z
fits-signed z near = search (rules, near)

fits-word : (z : ℤ) → unsigned_abs z ≤ farthest → cast_unsigned w32 z < 4294967296
fits-word (pos n) near = omega (arith, near)
fits-word (negsuc n) near = omega (arith, near)

pub coordinate-read : (z : ℤ) → unsigned_abs z ≤ farthest → i32_at (coordinate_bytes z) 0 ≡ z
unfolding coordinate_bytes
coordinate-read z near = ap (cast_signed w32) (word-read (cast_unsigned w32 z) (fits-word z near)) ∙ to_z-of_z w32 z (fits-signed z near)

-- the data of XY
abbrev pub xy_of : Rect → List ℕ
xy_of r = concat (map point_bytes (corners r))

abbrev read_back : ℤ → ℤ
read_back z = i32_at (coordinate_bytes z) 0

pub points-read : (r : Rect) → IsRectWithin farthest r → points_in (xy_of r) ≡ corners r
unfolding coordinate_bytes
points-read r near =
    let x0 = coordinate-read r.x0 near.left in
    let y0 = coordinate-read r.y0 near.low in
    let x1 = coordinate-read r.x1 near.right in
    let y1 = coordinate-read r.y1 near.high in
    let whole : points_in (xy_of r) ≡ at (read_back r.x0) (read_back r.y0) ∷ at (read_back r.x1) (read_back r.y0) ∷ at (read_back r.x1)
    (read_back r.y1) ∷ at (read_back r.x0) (read_back r.y1) ∷ at (read_back r.x0) (read_back r.y0) ∷ [] = refl in
    whole ∙ (λ i. at (x0 i) (y0 i) ∷ at (x1 i) (y0 i) ∷ at (x1 i) (y1 i) ∷ at (x0 i) (y1 i) ∷ at (x0 i) (y0 i) ∷ [])
