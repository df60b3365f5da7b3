-- The structures of a layout: which one a name names, which refer to which, and the top.
use Rattle.std.specs.Prelude.{◌≡◌, ℕ, ◌<◌, ◌↔◌, List, [], ◌∷◌, length, position, nat_eq, Option, Some, None}
use Rattle.std.specs.List.{AllPairs, Contains}
use Rattle.std.specs.Option.{option_and_then}
use Rattle.std.specs.Cmp.Lexicographic.{pointwise}
use Rattle.dpl_spec_format.specs.Tree.{Library, Element, names_in, elements_at}
use Rattle.dpl_spec_layout.specs.declared.TopFault.{TopFault}
use Rattle.dpl_spec_layout.specs.declared.TopFault.TheVariants.{NoMemory, NoTop, ManyTops}
use Rattle.dpl_spec_layout.specs.Elements.{reference_name}

-- the structure of this name: names compare as bytes
abbrev pub structure_named : Library → List ℕ → Option ℕ
structure_named lib name = position (pointwise nat_eq name) (names_in lib)

-- the structure that a reference refers to
abbrev pub target_of : Library → Element → Option ℕ
target_of lib e = option_and_then (structure_named lib) (reference_name e.body)

-- some element of structure k refers to structure j
abbrev pub Refers : Library → ℕ → ℕ → Type 0
Refers lib k j = (e : Element) × Contains (elements_at lib k) e × (target_of lib e ≡ Some j)

-- references lead from structure k to structure l
pub data Reaches (lib : Library) : ℕ → ℕ → Type 0 where
  here : {k : ℕ} → Reaches lib k k
  on : {k j l : ℕ} → Refers lib k j → Reaches lib j l → Reaches lib k l

-- no reference of the file refers to structure k
pub record IsRoot (lib : Library) (k : ℕ) : Type 0 where
  pub known : k < length lib.structures
  pub unreferred : (j : ℕ) → ¬ Refers lib j k

-- the structures to which no reference refers
pub record AreRoots (lib : Library) (roots : List ℕ) : Type 0 where
  pub ordered : AllPairs (λ i j. i < j) roots
  pub exactly : (k : ℕ) → Contains roots k ↔ IsRoot lib k

-- the top: the structure of the given name, or without a name the only one to which no reference refers
abbrev pub IsTop : Library → Option (List ℕ) → ℕ → Type 0
IsTop lib (Some name) k = structure_named lib name ≡ Some k
IsTop lib None k = AreRoots lib (k ∷ [])

-- there is no top
abbrev pub HasNoTop : Library → Option (List ℕ) → Type 0
HasNoTop lib (Some name) = structure_named lib name ≡ None
HasNoTop lib None = AreRoots lib []

-- without a name there are n tops to choose from, more than one
abbrev pub HasManyTops : Library → Option (List ℕ) → ℕ → Type 0
HasManyTops lib (Some name) n = ⊥
HasManyTops lib None n = (1 < n) × ((roots : List ℕ) × AreRoots lib roots × (length roots ≡ n))

-- Why no top is chosen. Out of memory is always allowed.
abbrev pub IsTopFault : Library → Option (List ℕ) → TopFault → Type 0
IsTopFault lib name NoMemory = Unit {0}
IsTopFault lib name NoTop = HasNoTop lib name
IsTopFault lib name (ManyTops n) = HasManyTops lib name n
