-- Which layers the elements of a library lie on, and how many elements of each kind.
use Rattle.std.specs.Prelude.{◌≡◌, ℕ, ◌+◌, ◌-◌, ◌<◌, ◌↔◌, Bool, false, ℤ, pos, negsuc, List, map, Option, Some, None, sum_by, count_by, length, slice_index_or}
use Rattle.std.specs.List.{All, AllPairs, Contains}
use Rattle.dpl_spec_split.specs.Graphs.{Precedes}
use Rattle.dpl_spec_format.specs.Tree.{Library, Structure, Element, Body, is_boundary, is_path, is_sref, is_aref, is_text, is_node, is_box, elements_at}
use Rattle.dpl_spec_layout.specs.declared.Layer.{Layer}
use Rattle.dpl_spec_layout.specs.Elements.{is_on}
use Rattle.dpl_view.specs.declared.counts.Counts.{Counts}
use Rattle.dpl_view.specs.declared.counts.LayerCounts.{LayerCounts}

-- sixteen signed bits as unsigned ones
abbrev pub unsigned : ℤ → ℕ
unsigned (pos n) = n
unsigned (negsuc n) = 65535 - n

-- the layer and datatype on which an element lies; the type of a text, box or node stands for the datatype, and a reference lies on none
abbrev pub layer_in : Body → Option Layer
layer_in (is_boundary b) = Some (record { layer = b.layer; datatype = b.datatype })
layer_in (is_path p) = Some (record { layer = p.layer; datatype = p.datatype })
layer_in (is_box b) = Some (record { layer = b.layer; datatype = b.boxtype })
layer_in (is_text t) = Some (record { layer = t.layer; datatype = unsigned t.texttype })
layer_in (is_node n) = Some (record { layer = n.layer; datatype = unsigned n.nodetype })
layer_in (is_sref r) = None
layer_in (is_aref r) = None

-- an element of each kind, on a layer
abbrev pub is_boundary_on : Layer → Body → Bool
is_boundary_on chosen (is_boundary b) = is_on chosen b.layer b.datatype
is_boundary_on chosen _ = false

abbrev pub is_path_on : Layer → Body → Bool
is_path_on chosen (is_path p) = is_on chosen p.layer p.datatype
is_path_on chosen _ = false

abbrev pub is_box_on : Layer → Body → Bool
is_box_on chosen (is_box b) = is_on chosen b.layer b.boxtype
is_box_on chosen _ = false

abbrev pub is_text_on : Layer → Body → Bool
is_text_on chosen (is_text t) = is_on chosen t.layer (unsigned t.texttype)
is_text_on chosen _ = false

abbrev pub is_node_on : Layer → Body → Bool
is_node_on chosen (is_node n) = is_on chosen n.layer (unsigned n.nodetype)
is_node_on chosen _ = false

-- how many of some elements pass a test
abbrev pub count_in : (Body → Bool) → List Element → ℕ
count_in test es = count_by (λ (e : Element). test e.body) es

-- how many elements of a file pass a test
abbrev pub count_of : Library → (Body → Bool) → ℕ
count_of lib test = sum_by (λ (s : Structure). count_in test s.elements) lib.structures

-- how many of each kind lie on a layer, by a count of those that pass a test
pub record AreCounts (count : (Body → Bool) → ℕ) (layer : Layer) (c : Counts) : Type 0 where
  pub boundaries : c.boundaries ≡ count (is_boundary_on layer)
  pub paths : c.paths ≡ count (is_path_on layer)
  pub boxes : c.boxes ≡ count (is_box_on layer)
  pub texts : c.texts ≡ count (is_text_on layer)
  pub nodes : c.nodes ≡ count (is_node_on layer)

-- one more of each has its place
pub record HasRoom (c : Counts) : Type 0 where
  pub boundaries : c.boundaries < 18446744073709551615
  pub paths : c.paths < 18446744073709551615
  pub boxes : c.boxes < 18446744073709551615
  pub texts : c.texts < 18446744073709551615
  pub nodes : c.nodes < 18446744073709551615

-- b counts, on the layer of a, so many more of each kind
pub record IsMore (more : (Body → Bool) → ℕ) (a b : LayerCounts) : Type 0 where
  pub layer : b.layer ≡ a.layer
  pub boundaries : b.counts.boundaries ≡ a.counts.boundaries + more (is_boundary_on a.layer)
  pub paths : b.counts.paths ≡ a.counts.paths + more (is_path_on a.layer)
  pub boxes : b.counts.boxes ≡ a.counts.boxes + more (is_box_on a.layer)
  pub texts : b.counts.texts ≡ a.counts.texts + more (is_text_on a.layer)
  pub nodes : b.counts.nodes ≡ a.counts.nodes + more (is_node_on a.layer)

-- each entry counts so many more on its layer
pub record AreMore (more : (Body → Bool) → ℕ) (old new : List LayerCounts) : Type 0 where
  pub as_many : length new ≡ length old
  pub each : (k : ℕ) (d : LayerCounts) → k < length old → IsMore more (slice_index_or old k d) (slice_index_or new k d)

-- some element of the file lies on the layer
abbrev pub IsUsed : Library → Layer → Type 0
IsUsed lib layer = (k : ℕ) × (e : Element) × Contains (elements_at lib k) e × (layer_in e.body ≡ Some layer)

-- first by layer, then by datatype
abbrev pub IsBefore : Layer → Layer → Type 0
IsBefore a b = Precedes (a.layer, a.datatype) (b.layer, b.datatype)

-- each layer on which some element of the file lies, in order, each once
pub record AreLayers (lib : Library) (layers : List Layer) : Type 0 where
  pub ordered : AllPairs IsBefore layers
  pub exactly : (layer : Layer) → Contains layers layer ↔ IsUsed lib layer

-- each with how many elements of each kind lie on it
pub record AreLayerCounts (lib : Library) (found : List LayerCounts) : Type 0 where
  pub layers : AreLayers lib (map (λ (x : LayerCounts). x.layer) found)
  pub counts : All (λ (x : LayerCounts). AreCounts (count_of lib) x.layer x.counts) found
