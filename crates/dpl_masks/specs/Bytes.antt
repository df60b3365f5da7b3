-- The bytes of a file of two masks.
use Rattle.std.specs.Prelude.{ℕ, ◌+◌, ℤ, List, [], ◌∷◌, ◌++◌, length, map}
use Rattle.std.specs.List.{concat}
use Rattle.std.specs.Int.{w16, w32, to_be_bytes, cast_unsigned}
use Rattle.dpl_spec_split.specs.declared.Pt.{Pt}
use Rattle.dpl_spec_split.specs.declared.Rect.{Rect}
use Rattle.dpl_spec_split.specs.Zones.{at}

-- a record: its length, its type, its data type, and its data
abbrev pub record_bytes : ℕ → ℕ → List ℕ → List ℕ
record_bytes kind data_type body = to_be_bytes w16 (4 + length body) ++ kind ∷ data_type ∷ body

-- a coordinate in four bytes
unfoldable pub coordinate_bytes : ℤ → List ℕ
coordinate_bytes z = to_be_bytes w32 (cast_unsigned w32 z)

abbrev pub point_bytes : Pt → List ℕ
point_bytes p = coordinate_bytes p.x ++ coordinate_bytes p.y

-- the corners of a rectangle, from the lower left one round to it again
abbrev pub corners : Rect → List Pt
corners r = at r.x0 r.y0 ∷ at r.x1 r.y0 ∷ at r.x1 r.y1 ∷ at r.x0 r.y1 ∷ at r.x0 r.y0 ∷ []

-- a BOUNDARY on a layer, of datatype 0: BOUNDARY, LAYER, DATATYPE, XY and ENDEL
unfoldable pub boundary_bytes : ℕ → Rect → List ℕ
boundary_bytes layer r =
    record_bytes 8 0 []
    ++ (record_bytes 13 2 (to_be_bytes w16 layer)
    ++ (record_bytes 14 2 (to_be_bytes w16 0)
    ++ (record_bytes 16 3 (concat (map point_bytes (corners r)))
    ++ record_bytes 17 0 [])))

-- one BOUNDARY for each slab
abbrev pub boundaries_bytes : ℕ → List Rect → List ℕ
boundaries_bytes layer slabs = concat (map (boundary_bytes layer) slabs)

-- ENDSTR and ENDLIB
abbrev pub closing_bytes : List ℕ
closing_bytes = record_bytes 7 0 [] ++ record_bytes 4 0 []

-- The records before the elements, the slabs of mask A on one layer and those of mask B on the other, and the end.
abbrev pub file_bytes : List ℕ → ℕ → ℕ → List Rect → List Rect → List ℕ
file_bytes prefix la lb a b = prefix ++ (boundaries_bytes la a ++ (boundaries_bytes lb b ++ closing_bytes))
