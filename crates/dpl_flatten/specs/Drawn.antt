-- What an element is refused for.
use Rattle.std.specs.Prelude.{length, ◌<◌, ◌≡◌, ℕ, Bool, List, Option, Some, None}
use Rattle.std.specs.List.{Contains}
use Rattle.dpl_spec_format.specs.Tree.{Library, Element, elements_at}
use Rattle.dpl_spec_layout.specs.declared.Layer.{Layer}
use Rattle.dpl_spec_layout.specs.declared.ElementFault.{ElementFault}
use Rattle.dpl_spec_layout.specs.declared.FlattenFault.{FlattenFault}
use Rattle.dpl_spec_layout.specs.declared.FlattenFault.TheVariants.{Element as Refused}
use Rattle.dpl_links.specs.Graph.{IsMarked}
use Rattle.dpl_spec_layout.specs.Elements.{IsRefusedFor}

-- the element at this offset is refused as the fault says
abbrev pub IsRefusal : Layer → Element → ℕ → FlattenFault → Type 0
IsRefusal chosen e at f = (fault : ElementFault) × IsRefusedFor chosen e.body fault × (e.at ≡ at) × (f ≡ Refused at fault)

-- the element isn't refused, or stands at another offset
abbrev pub IsTakenAt : Layer → Element → ℕ → Type 0
IsTakenAt chosen e at = (f : ElementFault) → e.at ≡ at → ¬ IsRefusedFor chosen e.body f

-- whether the element at this offset is refused, and how
abbrev pub IsRefusalWhere : Layer → Element → ℕ → Option FlattenFault → Type 0
IsRefusalWhere chosen e at None = IsTakenAt chosen e at
IsRefusalWhere chosen e at (Some f) = IsRefusal chosen e at f

-- whether one of these elements, at this offset, is refused, and how
abbrev pub IsRefusalAmong : Layer → List Element → ℕ → Option FlattenFault → Type 0
IsRefusalAmong chosen es at None = (e : Element) → Contains es e → IsTakenAt chosen e at
IsRefusalAmong chosen es at (Some f) = (e : Element) × Contains es e × IsRefusal chosen e at f

-- an element of a marked structure at this offset is refused so
abbrev pub IsRefusalOf : Library → Layer → List Bool → ℕ → FlattenFault → Type 0
IsRefusalOf lib chosen marks at f = (k : ℕ) × (e : Element) × IsMarked marks k × Contains (elements_at lib k) e × IsRefusal chosen e at f

-- an element of a marked structure at this offset is refused
abbrev pub HasRefusalAt : Library → Layer → List Bool → ℕ → Type 0
HasRefusalAt lib chosen marks at = (k : ℕ) × (e : Element) × (k < length marks) × IsMarked marks k × Contains (elements_at lib k) e
    × (e.at ≡ at) × (f : ElementFault) × IsRefusedFor chosen e.body f
