-- What a file holds: its structures and tops, its layers with their elements, and what its top places.
use Rattle.std.specs.Prelude.{◌≡◌, ◌⊎◌, ℕ, List, Option, Some, length, map}
use Rattle.dpl_spec_format.specs.Faults.{Fault}
use Rattle.dpl_spec_format.specs.Tree.{Library}
use Rattle.dpl_spec_format.specs.Layout.{Holds, IsFirstFault as IsFirstSyntaxFault}
use Rattle.dpl_spec_layout.specs.declared.Layer.{Layer}
use Rattle.dpl_spec_layout.specs.declared.TopFault.{TopFault}
use Rattle.dpl_spec_layout.specs.declared.FlattenFault.{FlattenFault}
use Rattle.dpl_spec_layout.specs.Structures.{AreRoots, IsTop, IsTopFault}
use Rattle.dpl_spec_layout.specs.Faults.{IsFirstFault, IsWhole}
use Rattle.dpl_flatten.specs.Totals.{capped_points}
use Rattle.dpl_layer.specs.Naming.{syntax_name, top_name, flatten_name}
use Rattle.dpl_cert.specs.declared.name.Name.{Name}
use Rattle.dpl_layer.specs.declared.fault.LayerFault.{LayerFault}
use Rattle.dpl_layer.specs.declared.fault.LayerFault.TheVariants.{NoMemory, Refused as LayerRefused}
use Rattle.dpl_view.specs.declared.counts.LayerCounts.{LayerCounts}
use Rattle.dpl_view.specs.declared.contents.Top.{Top}
use Rattle.dpl_view.specs.declared.contents.Placed.{Placed}
use Rattle.dpl_view.specs.declared.contents.Placed.TheVariants.{Points, Unplaced}
use Rattle.dpl_view.specs.declared.contents.Contents.{Contents}
use Rattle.dpl_view.specs.declared.contents.Look.{Look}
use Rattle.dpl_view.specs.declared.contents.Look.TheVariants.{Refused, Held}
use Rattle.dpl_view.specs.Layers.{AreLayerCounts}

-- how many points the top places of each of these layers, up to 4,294,967,295
abbrev pub PlacesAll : Library → Option (List ℕ) → List Layer → List ℕ → Type 0
PlacesAll lib name layers counts = (top : ℕ) × IsTop lib name top × IsWhole lib top × (counts ≡ map (capped_points lib top) layers)

-- Why that isn't told: there is no top, or several and none is named, or the top reaches a reference to a structure that isn't there, or a
-- recursion; the last two are the first faults of every layer.
abbrev pub IsUnplaced : Library → Option (List ℕ) → Name → ℕ → Type 0
IsUnplaced lib name fault at =
    ((f : TopFault) × IsTopFault lib name f × (top_name f ≡ Some (fault, at)))
    ⊎ ((top : ℕ) × (f : FlattenFault) × IsTop lib name top × ((layer : Layer) → IsFirstFault lib top layer f) × (flatten_name f ≡ Some (fault, at)))

abbrev pub ArePlaced : Library → Option (List ℕ) → List LayerCounts → Placed → Type 0
ArePlaced lib name found (Points counts) = PlacesAll lib name (map (λ (x : LayerCounts). x.layer) found) counts.items
ArePlaced lib name found (Unplaced fault at) = IsUnplaced lib name fault at

-- out of memory is always allowed
abbrev pub IsFaultOfPlacing : Library → Option (List ℕ) → LayerFault → Type 0
IsFaultOfPlacing lib name NoMemory = Unit {0}
IsFaultOfPlacing lib name (LayerRefused fault at) = IsUnplaced lib name fault at

abbrev pub IsSyntaxFault : List ℕ → LayerFault → Type 0
IsSyntaxFault bytes NoMemory = Unit {0}
IsSyntaxFault bytes (LayerRefused fault at) = (f : Fault) × IsFirstSyntaxFault bytes f × (syntax_name f ≡ (fault, at))

pub record AreContents (lib : Library) (name : Option (List ℕ)) (c : Contents) : Type 0 where
  pub structures : c.structures ≡ length lib.structures
  pub tops : AreRoots lib (map (λ (t : Top). t.number) c.tops.items)
  pub layers : AreLayerCounts lib c.layers.items
  pub placed : ArePlaced lib name c.layers.items c.placed

-- the first fault of the file's bytes, or what the library holds that they hold
abbrev pub IsLook : Option (List ℕ) → List ℕ → Look → Type 0
IsLook name bytes (Refused fault at) = (f : Fault) × IsFirstSyntaxFault bytes f × (syntax_name f ≡ (fault, at))
IsLook name bytes (Held c) = (lib : Library) × Holds bytes lib × AreContents lib name c
