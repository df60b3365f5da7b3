-- The results of the program are valid.
use Rattle.std.proofs.Common.{sym, subst}
use Rattle.dpl_cert.specs.declared.cert.Head.{Head}
use Rattle.dpl_cert.specs.declared.cert.PlaceLine.{PlaceLine}
use Rattle.std.specs.Prelude.{Option, Some, None, ℕ, List}
use Rattle.dpl_spec_split.specs.declared.Spacing.{Spacing}
use Rattle.dpl_spec_split.specs.declared.Rect.{Rect}
use Rattle.dpl_spec_split.specs.Squares.{Covers}
use Rattle.dpl_spec_split.specs.Loops.{AreRectsWithin, farthest}
use Rattle.dpl_spec_split.specs.Marks.{Marks}
use Rattle.dpl_spec_split.specs.Decomposition.{Cut, IsCut}
use Rattle.dpl_cert.specs.Grammar.{IsCert, IsRule}
use Rattle.dpl_law_verdict.specs.Written.{IsCorner}
use Rattle.dpl_law_verdict.proofs.Written.{cycle-cert}
use Rattle.dpl_cert.specs.declared.cert.Cert.TheVariants.{Masks, Conflict}
use Rattle.dpl_spec_verdict.specs.declared.Verdict.TheVariants.{Valid}
use Rattle.dpl_spec_verdict.specs.Masks.{IsVerdictOfMasks}
use Rattle.dpl_spec_verdict.specs.Conflicts.{IsVerdictOfConflict}
use Rattle.dpl_answer.specs.Flat.{Clash, IsClashOfCut, Painted}
use Rattle.dpl_law_verdict.specs.Own.{head_of}
use Rattle.dpl_law_verdict.proofs.Passing.{kept-valid}
use Rattle.dpl_law_verdict.proofs.Painted.{painted-kept}
use Rattle.dpl_law_verdict.proofs.Gained.{gains-valid}
use Rattle.dpl_law_split.proofs.Lettering.{lettered, sound}
use Rattle.dpl_law_verdict.proofs.Clashing.{clash-verdict}
use Rattle.dpl_law_outcome.proofs.Anchored.{anchored-cert, anchored-verdict}
use Rattle.dpl_law_outcome.specs.Own.{PaintedIsValid, ClashIsValid}

pub painted-valid : PaintedIsValid
painted-valid fewer marks spacing overlap layer cut p is_cut a =
    subst (λ (q : Painted). IsVerdictOfMasks marks spacing overlap layer q.a q.b (Masks q.head q.pieces q.stitches q.gains) Valid) (sym a.is)
    (kept-valid marks spacing overlap _ (painted-kept marks spacing overlap layer cut a.masks is_cut (lettered fewer marks spacing cut a.masks a.are_masks) a.gains
    (sound fewer marks spacing cut a.masks a.are_masks a.even) (gains-valid fewer marks spacing overlap layer cut a.masks a.gains is_cut a.are_masks a.are_gains)))

pub clash-valid : ClashIsValid
clash-valid None spacing overlap layer cut x is_cut a =
    subst (λ (h : Head). IsVerdictOfConflict None spacing overlap layer (Conflict h x.cycle x.near) Valid) (sym a.head)
    (subst (λ (ps : List PlaceLine). IsVerdictOfConflict None spacing overlap layer (Conflict (head_of spacing overlap cut) ps x.near) Valid) (sym a.places)
    (clash-verdict spacing overlap layer cut a.cycle x.near is_cut a.reported a.nearest.pair))
clash-valid (Some m) spacing overlap layer cut x is_cut a =
    subst (λ (h : Head). IsVerdictOfConflict (Some m) spacing overlap layer (Conflict h x.cycle x.near) Valid) (sym a.head)
    (subst (λ (ps : List PlaceLine). IsVerdictOfConflict (Some m) spacing overlap layer (Conflict (head_of spacing overlap cut) ps x.near) Valid) (sym a.places)
    (anchored-verdict m spacing overlap layer cut a.cycle x.near is_cut a.reported a.nearest))

-- the lines of a cycle of a layer within the range are a certificate
pub clash-cert : (marks : Option Marks) (spacing : Spacing) (overlap : ℕ) (layer : List Rect) (cut : Cut) (x : Clash) → IsRule spacing.rule → IsCorner spacing → IsRule overlap
    → AreRectsWithin farthest layer → IsCut marks spacing overlap (Covers layer) cut → IsClashOfCut marks spacing overlap cut x → IsCert (Conflict x.head x.cycle x.near)
clash-cert None spacing overlap layer cut x ruled cornered lapped within is_cut a =
    subst (λ (h : Head). IsCert (Conflict h x.cycle x.near)) (sym a.head)
    (subst (λ (ps : List PlaceLine). IsCert (Conflict (head_of spacing overlap cut) ps x.near)) (sym a.places)
    (cycle-cert None spacing overlap layer cut ruled cornered lapped within is_cut a.cycle x.near a.reported a.nearest.each a.nearest.pair))
clash-cert (Some m) spacing overlap layer cut x ruled cornered lapped within is_cut a =
    subst (λ (h : Head). IsCert (Conflict h x.cycle x.near)) (sym a.head)
    (subst (λ (ps : List PlaceLine). IsCert (Conflict (head_of spacing overlap cut) ps x.near)) (sym a.places)
    (anchored-cert m spacing overlap layer cut a.cycle x.near is_cut a.reported a.nearest ruled cornered lapped within))
