-- What is told of a cycle.
use Rattle.std.specs.Prelude.{◌≡◌, ℕ, List, Option, map}
use Rattle.std.specs.List.{AllByRecursion}
use Rattle.dpl_spec_split.specs.declared.Spacing.{Spacing}
use Rattle.dpl_spec_split.specs.Marks.{Marks}
use Rattle.dpl_cert.specs.Grammar.{IsNear, IsPlace}
use Rattle.dpl_piece.specs.Cutting.{CutPieces}
use Rattle.dpl_answer.specs.Flat.{AreLinks, place_by}
use Rattle.dpl_answer.specs.declared.cycle.CycleLines.{CycleLines}

-- the place of each vertex of the cycle, and what joins it to the next one, within the grammar of certificates
pub record AreCycleLines (marks : Option Marks) (spacing : Spacing) (pieces : CutPieces) (cycle : List ℕ) (lines : CycleLines) : Type 0 where
  pub places : lines.places.items ≡ map (place_by marks pieces.keys) cycle
  pub near : AreLinks marks spacing pieces.parts cycle lines.near.items
  pub places_within : AllByRecursion IsPlace lines.places.items
  pub near_within : AllByRecursion IsNear lines.near.items
