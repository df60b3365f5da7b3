-- Edits after edits.
use Rattle.std.proofs.Common.{◌∙◌}
use Rattle.dpl_spec_split.specs.Squares.{Covers}
use Rattle.dpl_spec_edits.specs.Edits.{edited}
use Rattle.dpl_spec_edits.proofs.Making.{edited_at, edited_append}
use Rattle.dpl_session.specs.Held.{EditsOneAfterAnother}

pub one_after_another : EditsOneAfterAnother
one_after_another a b c es fs first second = (
  second.spacing_is ∙ first.spacing_is,
  second.overlap_is ∙ first.overlap_is,
  record {
    canonical = second.layer.canonical;
    covers = λ p. (
        let same = edited_at fs (Covers b.layer) (edited (Covers a.layer) es) p (first.layer.covers p) in
        let all = edited_append es fs (Covers a.layer) p in
        (λ h. all.1 (same.0 ((second.layer.covers p).0 h)), λ h. (second.layer.covers p).1 (same.1 (all.0 h))));
  },
)
