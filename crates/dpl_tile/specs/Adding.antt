-- Lists that grow by elements of a kind.
use Rattle.std.specs.Prelude.{◌⊎◌, ◌↔◌, List}
use Rattle.std.specs.List.{Contains}

-- the new list has the old elements, those of a kind, and no other
abbrev pub Adds : {X : Type 0} → (X → Type 0) → List X → List X → Type 0
Adds {X} Kind old new = (x : X) → Contains new x ↔ (Contains old x ⊎ Kind x)
