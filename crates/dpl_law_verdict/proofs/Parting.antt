-- Masks of a valid verdict.
use Rattle.std.proofs.Common.{ℕ, inl, inr, List}
use Rattle.std.specs.Prelude.{Option}
use Rattle.dpl_spec_split.specs.declared.Spacing.{Spacing}
use Rattle.dpl_spec_split.specs.declared.Pt.{Pt}
use Rattle.dpl_spec_split.specs.declared.Rect.{Rect}
use Rattle.dpl_spec_split.specs.Marks.{Marks}
use Rattle.dpl_spec_verdict.specs.declared.Verdict.TheVariants.{Valid}
use Rattle.dpl_spec_verdict.specs.Order.{HasSquare}
use Rattle.dpl_spec_verdict.specs.Masks.{Claim, is_alone, is_misplaced, VerdictOfClaim}
use Rattle.dpl_law_verdict.specs.Valid.{AreRight, KeepMarks}
use Rattle.dpl_law_verdict.proofs.Telling.{cover-kept, overlap-kept, stands-apart}
use Rattle.dpl_law_verdict.proofs.Passing.{IsKept, covered-where, valid-kept}

pub right-masks : (marks : Option Marks) (spacing : Spacing) (overlap : ℕ) (c : Claim) → VerdictOfClaim marks spacing overlap c Valid → AreRight spacing c.layer c.a c.b c.stitches
right-masks marks spacing overlap c valid =
    let k : IsKept marks spacing overlap c = valid-kept marks spacing overlap c valid in
    let covered = cover-kept c.layer c.a c.b k.covered in
    record {
      cover = covered;
      apart_on_a = stands-apart spacing c.layer c.a (λ p here. (covered p).0 (inl here)) k.tight_a;
      apart_on_b = stands-apart spacing c.layer c.b (λ p here. (covered p).0 (inr here)) k.tight_b;
      overlap = overlap-kept overlap c.a c.b c.pieces c.stitches k.doubled k.stitches;
    }

alone-where : (mask other : List Rect) (p : Pt) → ((is_alone mask other p → ⊥) → ⊥) → is_alone mask other p
alone-where mask other p never = (
  covered-where mask p (λ off. never (λ alone. off alone.0)),
  λ on. never (λ alone. alone.1 on),
)

-- where no marked square is misplaced
pub marks-kept : (marks : Option Marks) (layer a b : List Rect) → (HasSquare (is_misplaced marks layer a b) → ⊥) → KeepMarks marks layer a b
marks-kept marks layer a b none = record {
  on_a = λ p there marked. alone-where a b p (λ off. none (p, (there, inl (marked, off))));
  on_b = λ p there marked. alone-where b a p (λ off. none (p, (there, inr (marked, off))));
}
