-- What one structure draws, and the copies that it places.
use Rattle.std.specs.Prelude.{◌≡◌, ◌≢◌, ℕ, ◌<◌, ◌⊎◌, Bool, ◌^◌, slice_index, ◌++◌, ◌∷◌, [], map, length, List, Some, None}
use Rattle.std.specs.List.{All, Contains}
use Rattle.dpl_spec_split.specs.declared.Pt.{Pt}
use Rattle.dpl_spec_split.specs.Loops.{IsRectilinear, ArePointsWithin, AreLoopsWithin}
use Rattle.dpl_spec_format.specs.Tree.{Library, Body, Element, elements_at}
use Rattle.dpl_spec_layout.specs.declared.Layer.{Layer}
use Rattle.dpl_spec_layout.specs.declared.ElementFault.{ElementFault}
use Rattle.dpl_spec_layout.specs.Elements.{loops_of, columns_of, rows_of, IsCopyMotion, IsRefusedFor}
use Rattle.dpl_spec_layout.specs.Structures.{target_of}
use Rattle.dpl_flatten.specs.Totals.{IsBare, PlacesSome}
use Rattle.dpl_walk.specs.declared.cells.Outline.{Outline}
use Rattle.dpl_walk.specs.declared.cells.Copies.{Copies}
use Rattle.dpl_walk.specs.declared.cells.Cell.{Cell}
use Rattle.dpl_walk.specs.Cells.{copy_motion, IsReady}
use Rattle.dpl_walk.specs.Walk.{outlines_at, copies_at}
use Rattle.dpl_links.specs.Graph.{IsMarked}

-- the copies of a reference
pub record AreCopies (b : Body) (c : Copies) : Type 0 where
  pub columns : c.columns ≡ columns_of b
  pub rows : c.rows ≡ rows_of b
  pub motions : (i j : ℕ) → i < c.columns → j < c.rows → IsCopyMotion b i j (copy_motion c i j)
  pub turns : c.turns < 4

-- some of these elements draws the outline
abbrev pub IsDrawn : Layer → List Element → Outline → Type 0
IsDrawn layer es o = (e : Element) × Contains es e × (o.at ≡ e.at) × Contains (loops_of layer e.body) o.points

-- one of these elements is a reference with these copies
abbrev pub IsPlaced : Library → List Element → Copies → Type 0
IsPlaced lib es c = (e : Element) × Contains es e × (target_of lib e ≡ Some c.target) × AreCopies e.body c

-- what some elements draw and place; copies of what draws nothing may be left out, and those of what places no point are
pub record IsCell (lib : Library) (layer : Layer) (es : List Element) (outlines : List Outline) (copies : List Copies) : Type 0 where
  pub drawn : (o : Outline) → Contains outlines o → IsDrawn layer es o
  pub outlined : (e : Element) (qs : List Pt) → Contains es e → Contains (loops_of layer e.body) qs → Contains outlines (record { at = e.at; points = qs })
  pub straight : (o : Outline) → Contains outlines o → IsRectilinear o.points
  pub within : (o : Outline) → Contains outlines o → ArePointsWithin (2 ^ 61) o.points
  pub placed : (c : Copies) → Contains copies c → IsPlaced lib es c
  pub ready : (c : Copies) → Contains copies c → IsReady (2 ^ 31) c
  pub full : (c : Copies) → Contains copies c → PlacesSome lib layer c.target
  pub copied : (e : Element) (j : ℕ) → Contains es e → target_of lib e ≡ Some j → IsBare lib layer j ⊎ ((c : Copies) × Contains copies c × (c.target ≡ j) × AreCopies e.body c)

-- of the structures to which some of these elements refer, those with no point in their totals are bare, and the others place some
pub record AreCountedTargets (lib : Library) (layer : Layer) (totals : List ℕ) (es : List Element) : Type 0 where
  pub bare : (e : Element) (j : ℕ) → Contains es e → target_of lib e ≡ Some j → slice_index totals j ≡ 0 → IsBare lib layer j
  pub full : (e : Element) (j : ℕ) → Contains es e → target_of lib e ≡ Some j → slice_index totals j ≢ 0 → PlacesSome lib layer j

-- the element's copies were noted, if it has some and they place a point
abbrev pub IsCopied : Library → List ℕ → Element → List Copies → List Copies → Type 0
IsCopied lib totals e old new =
    ((new ≡ old) × (target_of lib e ≡ None))
    ⊎ (((new ≡ old) × ((j : ℕ) × (target_of lib e ≡ Some j) × (slice_index totals j ≡ 0)))
    ⊎ ((c : Copies) × (new ≡ old ++ c ∷ []) × (target_of lib e ≡ Some c.target) × AreCopies e.body c × IsReady (2 ^ 31) c × (slice_index totals c.target ≢ 0)))

-- what the element draws and places was noted
pub record IsNoted (lib : Library) (layer : Layer) (totals : List ℕ) (e : Element) (old new : List Outline) (before after : List Copies) : Type 0 where
  pub drawn : new ≡ old ++ map (λ qs. record { at = e.at; points = qs }) (loops_of layer e.body)
  pub straight : All IsRectilinear (loops_of layer e.body)
  pub within : AreLoopsWithin (2 ^ 61) (loops_of layer e.body)
  pub copied : IsCopied lib totals e before after

-- no element is refused
abbrev pub AreTaken : Layer → List Element → Type 0
AreTaken layer es = (e : Element) (f : ElementFault) → Contains es e → ¬ IsRefusedFor layer e.body f

-- the cells of the marked structures; the others place and draw nothing
pub record AreCells (lib : Library) (layer : Layer) (marks : List Bool) (cells : List Cell) : Type 0 where
  pub each : length cells ≡ length lib.structures
  pub marked : (k : ℕ) → IsMarked marks k → IsCell lib layer (elements_at lib k) (outlines_at cells k) (copies_at cells k)
  pub unmarked : (k : ℕ) → ¬ IsMarked marks k → (copies_at cells k ≡ []) × (outlines_at cells k ≡ [])
