-- What a file of two masks holds when it is read back.
use Rattle.std.specs.Prelude.{◌≡◌, ◌≢◌, ◌<◌, ◌≤◌, ◌↔◌, ◌++◌, ℕ, List, [], ◌∷◌, length, map, None}
use Rattle.std.specs.List.{Contains, concat}
use Rattle.dpl_spec_split.specs.declared.Pt.{Pt}
use Rattle.dpl_spec_split.specs.declared.Rect.{Rect}
use Rattle.dpl_spec_split.specs.Squares.{Covers}
use Rattle.dpl_spec_split.specs.Loops.{farthest, AreRectsWithin}
use Rattle.dpl_spec_split.specs.Slabs.{IsCanonical}
use Rattle.dpl_spec_format.specs.Layout.{Holds}
use Rattle.dpl_spec_format.specs.Tree.{Library, Structure, Element, Body, is_boundary, frame_of}
use Rattle.dpl_spec_layout.specs.Structures.{IsTop}
use Rattle.dpl_spec_layout.specs.Placements.{IsInLayer}
use Rattle.dpl_masks.specs.Bytes.{corners, point_bytes, file_bytes}
use Rattle.dpl_layer.specs.Reading.{IsReading, Layer, frame_bytes, limit}
use Rattle.dpl_run.specs.Check.{mask_choice}

-- In structure 0 of the library, the layer of datatype 0 has the squares that the slabs cover.
abbrev pub IsLayerOf : Library → ℕ → List Rect → Type 0
IsLayerOf lib layer slabs = (p : Pt) → IsInLayer lib 0 (record { layer = layer; datatype = 0 }) p ↔ Covers slabs p

-- a BOUNDARY of datatype 0 round a rectangle
abbrev pub boundary_round : ℕ → Rect → Body
boundary_round layer r = is_boundary (record { layer = layer; datatype = 0; xy = concat (map point_bytes (corners r)) })

-- a structure's elements, without their offsets
abbrev pub bodies_of : Structure → List Body
bodies_of s = map (λ (e : Element). e.body) s.elements

-- The bytes hold one structure, with mask a on one layer and mask b on another, and with no other element. It is the top where none is named.
pub record AreMasksOf (bytes : List ℕ) (la lb : ℕ) (a b : List Rect) : Type 0 where
  pub lib : Library
  pub holds : Holds bytes lib
  pub top : Structure
  pub one : lib.structures ≡ top ∷ []
  pub found : IsTop lib None 0
  pub only : bodies_of top ≡ map (boundary_round la) a ++ map (boundary_round lb) b
  pub first : IsLayerOf lib la a
  pub second : IsLayerOf lib lb b

-- a canonical list of slabs near enough to be written
pub record IsMask (slabs : List Rect) : Type 0 where
  pub canonical : IsCanonical slabs
  pub within : AreRectsWithin farthest slabs

-- Where a file holds a library, a file that begins with the records before the elements of one of its structures and goes on with two masks holds just these.
abbrev pub MasksReadBack : Type 0
MasksReadBack = (bytes : List ℕ) (lib : Library) (s : Structure) (la lb : ℕ) (a b : List Rect) → Holds bytes lib
    → Contains lib.structures s → la ≢ lb → la < 65536 → lb < 65536 → IsMask a → IsMask b
    → AreMasksOf (file_bytes (frame_bytes (frame_of lib s)) la lb a b) la lb a b

-- how many slabs of a mask are read: each places five points
abbrev pub most_slabs : ℕ
most_slabs = 3355443

-- the file is read without a fault, and has the mask on the layer
abbrev pub IsReadAs : List ℕ → ℕ → List Rect → Type 0
IsReadAs bytes layer slabs = (front : List ℕ) × IsReading (mask_choice layer) bytes (Layer front slabs)

-- Where such a file isn't too large, and its masks have not too many slabs, it is read without a fault.
abbrev pub MasksAreRead : Type 0
MasksAreRead = (bytes : List ℕ) (lib : Library) (s : Structure) (la lb : ℕ) (a b : List Rect) → Holds bytes lib → Contains lib.structures s
    → la ≢ lb → la < 65536 → lb < 65536 → IsMask a → IsMask b
    → length (file_bytes (frame_bytes (frame_of lib s)) la lb a b) ≤ limit → length a ≤ most_slabs → length b ≤ most_slabs
    → IsReadAs (file_bytes (frame_bytes (frame_of lib s)) la lb a b) la a × IsReadAs (file_bytes (frame_bytes (frame_of lib s)) la lb a b) lb b
