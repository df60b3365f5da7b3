-- The lines of a certificate of valid masks.
use Rattle.std.proofs.Common.{◌≡◌, ℕ, inl, inr, List, length, get_or, ap, ◌∙◌, arith}
use Rattle.std.specs.Prelude.{Option, pos, ◌-ℤ◌, cond}
use Rattle.std.proofs.lemmas.Int.{ints, by_lt_z}
use Rattle.dpl_spec_split.specs.declared.Spacing.{Spacing}
use Rattle.dpl_spec_split.specs.declared.Rect.{Rect}
use Rattle.dpl_spec_split.specs.Squares.{Covers}
use Rattle.dpl_spec_split.specs.Components.{AreComponents}
use Rattle.dpl_spec_split.proofs.ComponentLaws.{components-unique}
use Rattle.dpl_spec_split.specs.Marks.{Marks}
use Rattle.dpl_cert.specs.declared.cert.Head.{Head}
use Rattle.dpl_cert.specs.declared.cert.PieceLine.{PieceLine}
use Rattle.dpl_cert.specs.declared.cert.Gain.{Gain}
use Rattle.dpl_cert.specs.declared.cert.StitchLine.{StitchLine}
use Rattle.dpl_cert.specs.declared.cert.Cert.TheVariants.{Masks}
use Rattle.dpl_spec_verdict.specs.declared.Verdict.TheVariants.{Valid}
use Rattle.dpl_spec_verdict.specs.Masks.{Claim, CountDiffers, IsGoodStitch, IsBadStitch, IsBadPiece, IsVerdictOfMasks}
use Rattle.dpl_law_verdict.specs.Lines.{AreGoodLines}
use Rattle.dpl_law_verdict.proofs.Passing.{IsKept, valid-kept, none-bad, equal-where, less-where, covered-where}

count-is : (layer : List Rect) (head : Head) → (CountDiffers layer head → ⊥) → (features : List (List Rect))
    → AreComponents (Covers layer) features → head.features ≡ length features
count-is layer head none features are =
    equal-where head.features (length features)
    (λ ne. none (λ (found, found_are, is). ne
    (is ∙ ap (λ (t : List (List Rect)). length t) (components-unique (Covers layer) found features found_are are))))

good-where : (overlap : ℕ) (a b : List Rect) (pieces : List PieceLine) (s : StitchLine)
    → ((IsGoodStitch overlap (Covers a) (Covers b) pieces s → ⊥) → ⊥) → IsGoodStitch overlap (Covers a) (Covers b) pieces s
good-where overlap a b pieces s never = record {
  on_both = λ p has. (covered-where a p (λ off. never (λ g. off (g.on_both p has).0)), covered-where b p (λ off. never (λ g. off (g.on_both p has).1)));
  long = by_lt_z (s.rect.x1 -ℤ s.rect.x0) (pos overlap)
      (λ narrow. by_lt_z (s.rect.y1 -ℤ s.rect.y0) (pos overlap)
      (λ low. absurd (never (λ g. elim g.long [ inl l ↦ omega (arith, ints, l, narrow) | inr l ↦ omega (arith, ints, l, low) ])))
      (λ l. inr l))
      (λ l. inl l);
  listed = (less-where s.p (length pieces) (λ past. never (λ g. past g.listed.0)), less-where s.q (length pieces) (λ past. never (λ g. past g.listed.1)));
  letters = λ e. never (λ g. g.letters e);
}

pub good-lines : (marks : Option Marks) (spacing : Spacing) (overlap : ℕ) (layer a b : List Rect) (head : Head) (pieces : List PieceLine) (stitches : List StitchLine) (gains : Option (List Gain))
    → IsVerdictOfMasks marks spacing overlap layer a b (Masks head pieces stitches gains) Valid → AreGoodLines spacing overlap layer a b head pieces stitches
good-lines marks spacing overlap layer a b head pieces stitches gains valid =
    let claim : Claim = record { layer = layer; a = a; b = b; head = head; pieces = pieces; stitches = stitches; gains = gains } in
    let k : IsKept marks spacing overlap claim = valid-kept marks spacing overlap claim valid in
    record {
      rules = (
        equal-where head.rule spacing.rule (λ ne. k.rules (inl ne)),
        equal-where head.overlap overlap (λ ne. k.rules (inr (inl ne))),
        equal-where
            head.corner spacing.corner (λ ne. k.rules (inr (inr ne))),
      );
      counted = count-is layer head k.counts;
      stitched = λ n d n_in. good-where overlap a b pieces (get_or stitches n d) (none-bad (IsBadStitch overlap a b pieces) stitches k.stitches n d n_in);
      lettered = λ n d n_in. covered-where (cond (get_or pieces n d).b b a) (get_or pieces n d).key (none-bad (IsBadPiece a b) pieces k.pieces n d n_in);
    }
