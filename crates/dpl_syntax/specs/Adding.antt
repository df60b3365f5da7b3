-- Adding a structure to those of a library.
use Rattle.std.specs.Prelude.{◌≡◌, ℕ, List, [], ◌∷◌, ◌++◌, All}
use Rattle.std.specs.Borrow.{Bor}
use Rattle.dpl_syntax.specs.declared.library.Structure.{Structure}
use Rattle.dpl_syntax.specs.Elements.{IsSized}
use Rattle.dpl_syntax.specs.Libraries.{Entries, structure_seen, known_names}
use Rattle.dpl_syntax.specs.Passing.{PassesNamed, structure_then, same, IsStructure}

-- One structure goes last. Its records are those from `at` up to `next`.
pub record IsAdded (bytes : List ℕ) (old new : Entries) (at next : ℕ) : Type 0 where
  pub entry : Bor (List ℕ) × Structure
  pub entries : new ≡ old ++ entry ∷ []
  pub sized : All IsSized entry.1.elements.items
  pub passes : PassesNamed bytes (known_names old) structure_then same (IsStructure bytes (structure_seen entry.0.now entry.1)) at next
