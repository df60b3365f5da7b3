-- The least offset of the elements of which a fact holds.
use Rattle.std.specs.Prelude.{◌≡◌, ℕ, ◌<◌, ◌≤◌, Bool, List, Option, Some, None}
use Rattle.std.specs.List.{Contains}
use Rattle.dpl_spec_format.specs.Tree.{Library, Element, elements_at}
use Rattle.dpl_spec_layout.specs.Elements.{reference_name}
use Rattle.dpl_spec_layout.specs.Faults.{Finding}
use Rattle.dpl_links.specs.Graph.{IsMarked}

-- the least offset of an element that has it, and None where none has it
abbrev pub IsLeastOf : Finding → Option ℕ → Type 0
IsLeastOf P None = (k : ℕ) (e : Element) → ¬ P k e
IsLeastOf P (Some at) = ((k : ℕ) × (e : Element) × P k e × (e.at ≡ at)) × ((k : ℕ) (e : Element) → P k e → at ≤ e.at)

-- it holds, and the element is one of these of structure k
abbrev pub Among : ℕ → List Element → Finding → Finding
Among k es P i e = (i ≡ k) × Contains es e × P k e

-- it holds, and the element is one of a marked structure below n
abbrev pub AmongMarked : Library → List Bool → ℕ → Finding → Finding
AmongMarked lib marks n P i e = (i < n) × IsMarked marks i × Contains (elements_at lib i) e × P i e

-- the element names some structure
abbrev pub IsReference : Element → Type 0
IsReference e = (name : List ℕ) × (reference_name e.body ≡ Some name)
