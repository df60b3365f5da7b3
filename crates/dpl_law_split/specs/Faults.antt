-- A library has one top or a reason why it has none, and at most one first fault below its top.
use Rattle.std.specs.Prelude.{◌≡◌, ◌≢◌, ◌⊎◌, ℕ, List, Option}
use Rattle.dpl_spec_format.specs.Tree.{Library}
use Rattle.dpl_spec_format.specs.Layout.{Holds}
use Rattle.dpl_spec_layout.specs.declared.Layer.{Layer}
use Rattle.dpl_spec_layout.specs.declared.TopFault.{TopFault}
use Rattle.dpl_spec_layout.specs.declared.TopFault.TheVariants.{NoMemory as NoMemoryForTop}
use Rattle.dpl_spec_layout.specs.declared.FlattenFault.{FlattenFault}
use Rattle.dpl_spec_layout.specs.declared.FlattenFault.TheVariants.{NoMemory}
use Rattle.dpl_spec_layout.specs.Structures.{IsTop, IsTopFault}
use Rattle.dpl_spec_layout.specs.Faults.{IsFaultless, IsFirstFault}

-- a library has a top, or a reason why it has none, beside out of memory
abbrev pub SomeTop : Type 0
SomeTop = (lib : Library) (name : Option (List ℕ)) → ((k : ℕ) × IsTop lib name k) ⊎ ((f : TopFault) × (f ≢ NoMemoryForTop) × IsTopFault lib name f)

-- it has at most one top
abbrev pub OneTop : Type 0
OneTop = (lib : Library) (name : Option (List ℕ)) (j k : ℕ) → IsTop lib name j → IsTop lib name k → j ≡ k

-- and at most one reason why it has none, beside out of memory
abbrev pub OneTopFault : Type 0
OneTopFault = (lib : Library) (name : Option (List ℕ)) (f g : TopFault) → f ≢ NoMemoryForTop → g ≢ NoMemoryForTop → IsTopFault lib name f → IsTopFault lib name g → f ≡ g

-- and not both
abbrev pub TopOrFault : Type 0
TopOrFault = (lib : Library) (name : Option (List ℕ)) (k : ℕ) (f : TopFault) → f ≢ NoMemoryForTop → IsTop lib name k → IsTopFault lib name f → ⊥

-- the library that a file holds has at most one first fault below its top, beside out of memory
abbrev pub OneFirstFault : Type 0
OneFirstFault = (bytes : List ℕ) (lib : Library) (top : ℕ) (layer : Layer) (f g : FlattenFault) → Holds bytes lib → f ≢ NoMemory → g ≢ NoMemory
    → IsFirstFault lib top layer f → IsFirstFault lib top layer g → f ≡ g

-- and none where its layer has no fault
abbrev pub FaultlessOrFault : Type 0
FaultlessOrFault = (lib : Library) (top : ℕ) (layer : Layer) (f : FlattenFault) → f ≢ NoMemory → IsFaultless lib top layer → IsFirstFault lib top layer f → ⊥
