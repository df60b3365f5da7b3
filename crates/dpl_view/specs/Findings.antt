-- What is found in the bytes of a layout.
use Rattle.std.specs.Prelude.{None, ℕ, List, [], ◌∷◌}
use Rattle.dpl_spec_split.specs.declared.Rect.{Rect}
use Rattle.dpl_spec_split.specs.Squares.{Covers, uniform}
use Rattle.dpl_spec_split.specs.Decomposition.{Cut, IsCut}
use Rattle.dpl_cert.specs.Grammar.{IsRule}
use Rattle.dpl_layer.specs.Reading.{Choice, Faulty, IsLayout, Layer}
use Rattle.dpl_answer.specs.Flat.{AreWorkers, IsTile}
use Rattle.dpl_view.specs.declared.finding.Finding.{Finding}
use Rattle.dpl_view.specs.declared.finding.Finding.TheVariants.{Cycles, Refused}
use Rattle.dpl_view.specs.declared.finding.Order.{Order}
use Rattle.dpl_view.specs.declared.status.Status.{Status}
use Rattle.dpl_view.specs.declared.status.Status.TheVariants as status
use Rattle.dpl_view.specs.Clashes.{AreTangles}
use Rattle.dpl_answer.specs.declared.decomposed.Clash.{Clash}

-- each number of an order lies in its range
pub record IsInRange (o : Order) : Type 0 where
  pub rule : IsRule o.rule
  pub overlap : IsRule o.overlap
  pub tile : IsTile o.sharing.tile
  pub workers : AreWorkers o.sharing.workers

-- the first fault of the layout, or the odd cycles of its layer's cut, and how many edges the components with one have
abbrev pub IsFinding : Choice → ℕ → ℕ → List ℕ → Finding → Type 0
IsFinding v rule overlap bytes (Refused name at) = IsLayout v bytes (Faulty name at)
IsFinding v rule overlap bytes (Cycles found) = (layer : List Rect) × IsLayout v bytes (Layer found.copied.items layer)
    × (cut : Cut) × IsCut None (uniform rule) overlap (Covers layer) cut × AreTangles (uniform rule) overlap cut found.tangles.clashes.items found.tangles.edges

abbrev pub status_of_clashes : List Clash → Status
status_of_clashes [] = status.Done
status_of_clashes (x ∷ xs) = status.Conflict

-- done where there is no odd cycle
abbrev pub status_of : Finding → Status
status_of (Refused name at) = status.Refused
status_of (Cycles found) = status_of_clashes found.tangles.clashes.items
