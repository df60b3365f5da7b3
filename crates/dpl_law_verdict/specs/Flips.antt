-- What valid lines of gains give.
use Rattle.std.specs.Prelude.{Option, Some, None, ◌≡◌, ℕ, Bool, List, length}
use Rattle.dpl_spec_split.specs.declared.Spacing.{Spacing}
use Rattle.dpl_spec_split.specs.declared.Rect.{Rect}
use Rattle.dpl_spec_split.specs.Squares.{Covers}
use Rattle.dpl_spec_split.specs.Decomposition.{Cut, IsCut}
use Rattle.dpl_spec_split.specs.Marks.{Marks}
use Rattle.dpl_spec_fewer.specs.Fewer.{Gains}
use Rattle.dpl_cert.specs.declared.cert.Head.{Head}
use Rattle.dpl_cert.specs.declared.cert.PieceLine.{PieceLine}
use Rattle.dpl_cert.specs.declared.cert.StitchLine.{StitchLine}
use Rattle.dpl_cert.specs.declared.cert.Gain.{Gain}
use Rattle.dpl_cert.specs.declared.cert.Cert.TheVariants.{Masks}
use Rattle.dpl_cert.specs.Grammar.{IsCert}
use Rattle.dpl_spec_verdict.specs.declared.Verdict.TheVariants.{Valid}
use Rattle.dpl_spec_verdict.specs.Masks.{IsVerdictOfMasks}
use Rattle.dpl_spec_verdict.specs.Gains.{letters, AreRootsOf, IsUnmarked}

-- There is a letter for each piece of the layer, and no flip of a single component of conflicts without a marked piece leaves fewer zones whose
-- two sides have differing letters. Components with a marked piece are held by the anchors.
pub record NoneLeavesFewer (marks : Option Marks) (spacing : Spacing) (overlap : ℕ) (layer : List Rect) (colours : List Bool) : Type 0 where
  pub cut : Cut
  pub is_cut : IsCut marks spacing overlap (Covers layer) cut
  pub each : length colours ≡ length cut.pieces
  pub roots : List ℕ
  pub are_roots : AreRootsOf spacing cut.pieces cut.owners roots
  pub none : (root : ℕ) → IsUnmarked marks cut.pieces roots root → ¬ Gains roots None cut.sides colours root

abbrev pub NoFlipsLeaveFewer : Type 0
NoFlipsLeaveFewer = (marks : Option Marks) (spacing : Spacing) (overlap : ℕ) (layer a b : List Rect) (head : Head) (pieces : List PieceLine) (stitches : List StitchLine) (lines : List Gain)
    → IsCert (Masks head pieces stitches (Some lines)) → IsVerdictOfMasks marks spacing overlap layer a b (Masks head pieces stitches (Some lines)) Valid
    → NoneLeavesFewer marks spacing overlap layer (letters pieces)
