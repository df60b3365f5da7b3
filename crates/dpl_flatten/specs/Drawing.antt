-- What a drawing of a layer is, and what its loops and shapes are.
use Rattle.std.specs.Prelude.{◌^◌, ◌<◌, ◌≤◌, ◌⊎◌, ◌↔◌, ℕ, List, Option, Some, None, length}
use Rattle.std.specs.List.{All, Contains}
use Rattle.dpl_spec_split.specs.declared.Pt.{Pt}
use Rattle.dpl_spec_split.specs.Squares.{Covers}
use Rattle.dpl_spec_split.specs.Loops.{SomeLoopCovers, IsRectilinear, AreLoopsWithin, AreRectsWithin, farthest}
use Rattle.dpl_spec_format.specs.Tree.{Library}
use Rattle.dpl_spec_layout.specs.declared.Layer.{Layer}
use Rattle.dpl_spec_layout.specs.declared.FlattenFault.TheVariants.{OutOfRange}
use Rattle.dpl_spec_layout.specs.Placements.{IsInLayer}
use Rattle.dpl_spec_layout.specs.Faults.{IsFaultless, IsFirstFault}
use Rattle.dpl_flatten.specs.declared.drawing.Shapes.{Shapes}
use Rattle.dpl_flatten.specs.Totals.{PlacesSome}
use Rattle.dpl_walk.specs.declared.cells.Cell.{Cell}
use Rattle.dpl_walk.specs.declared.cells.Copies.{Copies}
use Rattle.dpl_walk.specs.Walk.{AreDeep, AreKnown, IsWalk, copies_at}
use Rattle.dpl_walk.specs.Ways.{IsOrderOf}

-- what structures draw and place, an order of them, and the top
pub record Drawn : Type 0 where
  pub cells : List Cell
  pub order : List ℕ
  pub top : ℕ

abbrev pub drawn : List Cell → List ℕ → ℕ → Drawn
drawn cells order top = record { cells = cells; order = order; top = top }

-- it can be walked through
pub record IsWalkable (d : Drawn) : Type 0 where
  pub known : AreKnown (2 ^ 31) d.cells
  pub deep : AreDeep d.cells
  pub few : length d.cells ≤ 2 ^ 26
  pub order : IsOrderOf d.cells d.order
  pub top : d.top < length d.cells

-- The loops cover the layer, have edges parallel to the axes and lie in range. The layer has no fault.
pub record AreLoopsOf (lib : Library) (top : ℕ) (layer : Layer) (loops : List (List Pt)) : Type 0 where
  pub covers : (s : Pt) → SomeLoopCovers loops s ↔ IsInLayer lib top layer s
  pub straight : All IsRectilinear loops
  pub within : AreLoopsWithin farthest loops
  pub faultless : IsFaultless lib top layer

-- some rectangle or loop has the square
abbrev pub ShapesCover : Shapes → Pt → Type 0
ShapesCover shapes s = Covers shapes.rects.items s ⊎ SomeLoopCovers shapes.loops.items s

-- The shapes cover the layer and lie in range. Their loops have edges parallel to the axes. The layer has no fault.
pub record AreShapesOf (lib : Library) (top : ℕ) (layer : Layer) (shapes : Shapes) : Type 0 where
  pub covers : (s : Pt) → ShapesCover shapes s ↔ IsInLayer lib top layer s
  pub straight : All IsRectilinear shapes.loops.items
  pub rects : AreRectsWithin farthest shapes.rects.items
  pub loops : AreLoopsWithin farthest shapes.loops.items
  pub faultless : IsFaultless lib top layer

-- loops of the layer, where none goes out of range, and else its first fault
abbrev pub IsLaidOut : Library → ℕ → Layer → List (List Pt) → Option ℕ → Type 0
IsLaidOut lib top layer loops None = AreLoopsOf lib top layer loops
IsLaidOut lib top layer loops (Some at) = IsFirstFault lib top layer (OutOfRange at)

-- copies are placed of structures alone that place some point of the layer
abbrev pub IsTrimmed : Library → Layer → Drawn → Type 0
IsTrimmed lib layer d = (k : ℕ) (c : Copies) → Contains (copies_at d.cells k) c → PlacesSome lib layer c.target

-- whatever a walk gathers of the drawing is of the layer
abbrev pub IsDrawingOf : Library → ℕ → Layer → Drawn → Type 0
IsDrawingOf lib top layer d = (loops : List (List Pt)) (far : Option ℕ) → IsWalk d.cells d.top loops far → IsLaidOut lib top layer loops far
