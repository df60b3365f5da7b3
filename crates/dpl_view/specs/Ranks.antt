-- Layers as numbers in their order: first by layer, then by datatype.
use Rattle.std.specs.Prelude.{◌≡◌, ◌⊎◌, ◌↔◌, Bool, ℕ, ◌+◌, ◌*◌, ◌<◌, List, Some, IfSome, length, option_map, slice_index, slice_index_or}
use Rattle.std.specs.List.{Contains}
use Rattle.std.specs.List.Sorted.{IsStrictlyIncreasing}
use Rattle.std.specs.Option.{option_to_list}
use Rattle.dpl_spec_format.specs.Tree.{Library, Element, Body, elements_at}
use Rattle.dpl_spec_layout.specs.declared.Layer.{Layer}
use Rattle.dpl_view.specs.declared.counts.LayerCounts.{LayerCounts}
use Rattle.dpl_view.specs.Layers.{AreCounts, layer_in}

abbrev pub rank_of : Layer → ℕ
rank_of layer = layer.layer * 65536 + layer.datatype

-- both numbers take sixteen bits
pub record IsNarrow (layer : Layer) : Type 0 where
  pub layer_fits : layer.layer < 65536
  pub datatype_fits : layer.datatype < 65536

-- the rank of the layer on which an element lies, if it lies on one
abbrev pub ranks_in : Body → List ℕ
ranks_in b = option_to_list (option_map rank_of (layer_in b))

-- one of these elements lies on the layer of this rank
pub record HasRank (es : List Element) (r : ℕ) : Type 0 where
  pub element : Element
  pub layer : Layer
  pub inside : Contains es element
  pub lies : layer_in element.body ≡ Some layer
  pub rank : rank_of layer ≡ r

-- the ranks of the layers of these elements come on top; their layers take sixteen bits
pub record AreNoted (es : List Element) (old new : List ℕ) : Type 0 where
  pub exactly : (r : ℕ) → Contains new r ↔ (Contains old r ⊎ HasRank es r)
  pub narrow : (e : Element) → Contains es e → IfSome (layer_in e.body) IsNarrow

-- the ranks of the layers of the first so many structures
pub record AreRanks (lib : Library) (n : ℕ) (ranks : List ℕ) : Type 0 where
  pub exactly : (r : ℕ) → Contains ranks r ↔ ((k : ℕ) × (k < n) × HasRank (elements_at lib k) r)
  pub narrow : (k : ℕ) (e : Element) → k < n → Contains (elements_at lib k) e → IfSome (layer_in e.body) IsNarrow

-- the layer of this rank, with how many elements of each kind lie on it, by a count of those that pass a test
pub record IsEntryOf (count : (Body → Bool) → ℕ) (r : ℕ) (x : LayerCounts) : Type 0 where
  pub rank : rank_of x.layer ≡ r
  pub narrow : IsNarrow x.layer
  pub counts : AreCounts count x.layer x.counts

-- for each of the first n ranks its layer
pub record AreEntries (count : (Body → Bool) → ℕ) (ranks : List ℕ) (n : ℕ) (found : List LayerCounts) : Type 0 where
  pub each : length found ≡ n
  pub entry : (k : ℕ) (d : LayerCounts) → k < n → IsEntryOf count (slice_index ranks k) (slice_index_or found k d)

-- entries of the layers of these ranks, in their order
pub record AreInOrder (ranks : List ℕ) (table : List LayerCounts) : Type 0 where
  pub rises : IsStrictlyIncreasing ranks
  pub each : length table ≡ length ranks
  pub rank : (k : ℕ) (d : LayerCounts) → k < length table → rank_of (slice_index_or table k d).layer ≡ slice_index ranks k

-- if an element lies on a layer, the rank of that is among these
abbrev pub IsListed : List ℕ → Body → Type 0
IsListed ranks b = IfSome (layer_in b) (λ layer. Contains ranks (rank_of layer))
