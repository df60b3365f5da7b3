-- The faults of a layout below its top, and which of them is answered.
use Rattle.std.specs.Prelude.{◌≡◌, ℕ, ◌<◌, ◌≤◌, List, Some, None}
use Rattle.std.specs.List.{Contains}
use Rattle.dpl_spec_split.specs.declared.Pt.{Pt}
use Rattle.dpl_spec_split.specs.Loops.{IsPointWithin, farthest}
use Rattle.dpl_spec_format.specs.Tree.{Library, Element, elements_at}
use Rattle.dpl_spec_layout.specs.declared.Layer.{Layer}
use Rattle.dpl_spec_layout.specs.declared.ElementFault.{ElementFault}
use Rattle.dpl_spec_layout.specs.declared.FlattenFault.{FlattenFault}
use Rattle.dpl_spec_layout.specs.declared.FlattenFault.TheVariants.{NoMemory, MissingStructure, Recursion, Element as Refused, TooManyPoints, OutOfRange}
use Rattle.dpl_spec_layout.specs.Elements.{reference_name, IsRefusedFor}
use Rattle.dpl_spec_layout.specs.Structures.{target_of, Reaches}
use Rattle.dpl_spec_layout.specs.Placements.{Step, IsPlacement, placed_loops}
use Rattle.dpl_spec_layout.specs.Points.{placed_points, most_points}

-- a fact about an element and the number of the structure in which it stands
abbrev pub Finding : Type 1
Finding = ℕ → Element → Type 0

-- an element of a structure that the top reaches, of which the fact holds
pub record IsFound (lib : Library) (top : ℕ) (P : Finding) (k : ℕ) (e : Element) : Type 0 where
  pub reached : Reaches lib top k
  pub inside : Contains (elements_at lib k) e
  pub holds : P k e

-- no element has it
abbrev pub IsNowhere : Library → ℕ → Finding → Type 0
IsNowhere lib top P = (k : ℕ) (e : Element) → ¬ IsFound lib top P k e

-- the elements that have it stand at this offset or behind it
abbrev pub IsNoneBefore : Library → ℕ → Finding → ℕ → Type 0
IsNoneBefore lib top P at = (k : ℕ) (e : Element) → IsFound lib top P k e → at ≤ e.at

-- at is the least offset of an element that has it
pub record IsFirst (lib : Library) (top : ℕ) (P : Finding) (at : ℕ) : Type 0 where
  pub some : (k : ℕ) × (e : Element) × IsFound lib top P k e × (e.at ≡ at)
  pub least : IsNoneBefore lib top P at

-- a reference names a structure that isn't there
abbrev pub IsMissing : Library → Finding
IsMissing lib k e = ((name : List ℕ) × (reference_name e.body ≡ Some name)) × (target_of lib e ≡ None)

-- a reference lies on a cycle of references
abbrev pub IsOnCycle : Library → Finding
IsOnCycle lib k e = (j : ℕ) × (target_of lib e ≡ Some j) × Reaches lib j k

abbrev pub IsRefused : Layer → Finding
IsRefused layer k e = (f : ElementFault) × IsRefusedFor layer e.body f

abbrev pub IsRefusedAs : Layer → ElementFault → Finding
IsRefusedAs layer f k e = IsRefusedFor layer e.body f

-- some placement of the element has a point with a coordinate out of range
abbrev pub IsOut : Library → ℕ → Layer → Finding
IsOut lib top layer k e =
    (steps : List Step) × (ps : List Pt) × (p : Pt) × IsPlacement lib top steps k e × Contains (placed_loops layer steps e) ps × Contains ps p × ¬ IsPointWithin farthest p

-- the faults that are tried before an element's own
pub record IsWhole (lib : Library) (top : ℕ) : Type 0 where
  pub complete : IsNowhere lib top (IsMissing lib)
  pub acyclic : IsNowhere lib top (IsOnCycle lib)

-- and those that are tried before the number of points
pub record IsSound (lib : Library) (top : ℕ) (layer : Layer) : Type 0 where
  pub whole : IsWhole lib top
  pub drawn : IsNowhere lib top (IsRefused layer)

-- and those that are tried before the range
pub record IsSmall (lib : Library) (top : ℕ) (layer : Layer) : Type 0 where
  pub sound : IsSound lib top layer
  pub few : placed_points lib layer top ≤ most_points

-- nothing is wrong
pub record IsFaultless (lib : Library) (top : ℕ) (layer : Layer) : Type 0 where
  pub small : IsSmall lib top layer
  pub within : IsNowhere lib top (IsOut lib top layer)

-- the first refused element, and what it is refused for
pub record IsFirstRefused (lib : Library) (top : ℕ) (layer : Layer) (at : ℕ) (f : ElementFault) : Type 0 where
  pub some : (k : ℕ) × (e : Element) × IsFound lib top (IsRefusedAs layer f) k e × (e.at ≡ at)
  pub least : IsNoneBefore lib top (IsRefused layer) at

-- The first fault below the top. Out of memory is none, and is always allowed.
abbrev pub IsFirstFault : Library → ℕ → Layer → FlattenFault → Type 0
IsFirstFault lib top layer NoMemory = Unit {0}
IsFirstFault lib top layer (MissingStructure at) = IsFirst lib top (IsMissing lib) at
IsFirstFault lib top layer (Recursion at) = IsNowhere lib top (IsMissing lib) × IsFirst lib top (IsOnCycle lib) at
IsFirstFault lib top layer (Refused at f) = IsWhole lib top × IsFirstRefused lib top layer at f
IsFirstFault lib top layer TooManyPoints = IsSound lib top layer × (most_points < placed_points lib layer top)
IsFirstFault lib top layer (OutOfRange at) = IsSmall lib top layer × IsFirst lib top (IsOut lib top layer) at
