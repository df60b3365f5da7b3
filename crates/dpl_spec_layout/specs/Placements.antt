-- Placements: how references, followed step by step from the top, place what the structures draw.
use Rattle.std.specs.Prelude.{◌≡◌, ℕ, ◌<◌, List, [], ◌∷◌, map, Some}
use Rattle.std.specs.List.{Contains}
use Rattle.dpl_spec_split.specs.declared.Pt.{Pt}
use Rattle.dpl_spec_split.specs.Loops.{SomeLoopCovers}
use Rattle.dpl_spec_elements.specs.Motions.{Motion, image_through}
use Rattle.dpl_spec_format.specs.Tree.{Library, Element, elements_at}
use Rattle.dpl_spec_layout.specs.declared.Layer.{Layer}
use Rattle.dpl_spec_layout.specs.Elements.{columns_of, rows_of, IsCopyMotion, loops_of}
use Rattle.dpl_spec_layout.specs.Structures.{target_of}

-- one copy of a reference, and its motion
pub record Step : Type 0 where
  pub element : Element
  pub column : ℕ
  pub row : ℕ
  pub motion : Motion

-- a step from structure k to structure j
pub record IsStep (lib : Library) (k : ℕ) (s : Step) (j : ℕ) : Type 0 where
  pub inside : Contains (elements_at lib k) s.element
  pub target : target_of lib s.element ≡ Some j
  pub column : s.column < columns_of s.element.body
  pub row : s.row < rows_of s.element.body
  pub motion : IsCopyMotion s.element.body s.column s.row s.motion

-- the steps lead from structure k to structure l
abbrev pub Leads : Library → ℕ → List Step → ℕ → Type 0
Leads lib k [] l = k ≡ l
Leads lib k (s ∷ steps) l = (j : ℕ) × IsStep lib k s j × Leads lib j steps l

-- where the steps take a point: the innermost, which is the last, is done first
abbrev pub placed : List Step → Pt → Pt
placed steps p = image_through (map (λ (s : Step). s.motion) steps) p

-- the loops of an element, each point where the steps take it
abbrev pub placed_loops : Layer → List Step → Element → List (List Pt)
placed_loops layer steps e = map (λ ps. map (placed steps) ps) (loops_of layer e.body)

-- an element, and steps that lead from the top to the structure in which it stands
pub record IsPlacement (lib : Library) (top : ℕ) (steps : List Step) (k : ℕ) (e : Element) : Type 0 where
  pub leads : Leads lib top steps k
  pub inside : Contains (elements_at lib k) e

-- the squares of the layer: those that some placed shape of the chosen layer and datatype covers
abbrev pub IsInLayer : Library → ℕ → Layer → Pt → Type 0
IsInLayer lib top layer s =
    (steps : List Step) × (k : ℕ) × (e : Element) × IsPlacement lib top steps k e × SomeLoopCovers (placed_loops layer steps e) s
