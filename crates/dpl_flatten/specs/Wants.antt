-- Which elements are looked for.
use Rattle.std.specs.Prelude.{ℕ, Bool, List}
use Rattle.dpl_spec_format.specs.Tree.{Library}
use Rattle.dpl_spec_layout.specs.Faults.{Finding, IsMissing, IsOnCycle, IsRefused}
use Rattle.dpl_flatten.specs.Links.{IsLevelled}
use Rattle.dpl_flatten.specs.declared.first.Wanted.{Wanted}
use Rattle.dpl_flatten.specs.declared.first.Wanted.TheVariants.{Missing, Recursive, Refused}

abbrev pub finding_of : Library → Wanted → Finding
finding_of lib Missing = IsMissing lib
finding_of lib (Recursive levels) = IsOnCycle lib
finding_of lib (Refused layer) = IsRefused layer

-- the levels are those of the graph's structures
abbrev pub HasLevels : Library → List (List ℕ) → List Bool → Wanted → Type 0
HasLevels lib graph marks Missing = Unit {0}
HasLevels lib graph marks (Recursive levels) = IsLevelled lib graph marks levels.now
HasLevels lib graph marks (Refused layer) = Unit {0}
