-- The results of the program are valid.
use Rattle.std.specs.Prelude.{Option, ℕ, Bool, List}
use Rattle.dpl_spec_split.specs.Marks.{Marks}
use Rattle.dpl_spec_split.specs.declared.Spacing.{Spacing}
use Rattle.dpl_spec_split.specs.declared.Rect.{Rect}
use Rattle.dpl_spec_split.specs.Squares.{Covers}
use Rattle.dpl_spec_split.specs.Decomposition.{Cut, IsCut}
use Rattle.dpl_cert.specs.declared.cert.Cert.TheVariants.{Masks, Conflict}
use Rattle.dpl_spec_verdict.specs.declared.Verdict.TheVariants.{Valid}
use Rattle.dpl_spec_verdict.specs.Masks.{IsVerdictOfMasks}
use Rattle.dpl_spec_verdict.specs.Conflicts.{IsVerdictOfConflict}
use Rattle.dpl_answer.specs.Flat.{Painted, Clash, IsPaintedCut, IsClashOfCut}

-- nothing is wrong with the masks of a cut
abbrev pub PaintedIsValid : Type 0
PaintedIsValid = (fewer : Bool) (marks : Option Marks) (spacing : Spacing) (overlap : ℕ) (layer : List Rect) (cut : Cut) (p : Painted)
    → IsCut marks spacing overlap (Covers layer) cut → IsPaintedCut fewer marks spacing overlap cut p
    → IsVerdictOfMasks marks spacing overlap layer p.a p.b (Masks p.head p.pieces p.stitches p.gains) Valid

-- nothing is wrong with the cycle of a cut
abbrev pub ClashIsValid : Type 0
ClashIsValid = (marks : Option Marks) (spacing : Spacing) (overlap : ℕ) (layer : List Rect) (cut : Cut) (x : Clash)
    → IsCut marks spacing overlap (Covers layer) cut → IsClashOfCut marks spacing overlap cut x
    → IsVerdictOfConflict marks spacing overlap layer (Conflict x.head x.cycle x.near) Valid
