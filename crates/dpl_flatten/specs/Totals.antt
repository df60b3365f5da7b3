-- How many points the structures place, up to a ceiling.
use Rattle.std.specs.Prelude.{◌≡◌, ℕ, ◌<◌, ◌≤◌, min, Bool, List, length, slice_index}
use Rattle.std.specs.List.{All, Contains}
use Rattle.dpl_spec_split.specs.declared.Pt.{Pt}
use Rattle.dpl_spec_format.specs.Tree.{Library, Element}
use Rattle.dpl_spec_layout.specs.declared.Layer.{Layer}
use Rattle.dpl_spec_layout.specs.Elements.{loops_of}
use Rattle.dpl_spec_layout.specs.Placements.{Step, IsPlacement}
use Rattle.dpl_spec_layout.specs.Points.{placed_points}
use Rattle.dpl_links.specs.Graph.{IsMarked}

-- where counts stop: more than a layer may have
abbrev pub ceiling : ℕ
ceiling = 4294967295

-- how many points of a layer structure k places, up to the ceiling
abbrev pub capped_points : Library → ℕ → Layer → ℕ
capped_points lib k layer = min (placed_points lib layer k) ceiling

-- nothing that structure k places draws a loop
abbrev pub IsBare : Library → Layer → ℕ → Type 0
IsBare lib layer k = (steps : List Step) (l : ℕ) (e : Element) (qs : List Pt) → IsPlacement lib k steps l e → Contains (loops_of layer e.body) qs → ⊥

-- structure k places some point of the layer
abbrev pub PlacesSome : Library → Layer → ℕ → Type 0
PlacesSome lib layer k = 0 < placed_points lib layer k

-- what each marked structure places
pub record AreTotals (lib : Library) (layer : Layer) (marks : List Bool) (totals : List ℕ) : Type 0 where
  pub each : length totals ≡ length lib.structures
  pub small : All (λ n. n ≤ ceiling) totals
  pub bare : (k : ℕ) → IsMarked marks k → slice_index totals k ≡ 0 → IsBare lib layer k
  pub right : (k : ℕ) → IsMarked marks k → slice_index totals k ≡ min (placed_points lib layer k) ceiling
