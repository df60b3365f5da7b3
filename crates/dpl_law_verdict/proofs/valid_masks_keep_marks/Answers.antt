use Rattle.dpl_spec_verdict.specs.Masks.{Claim}
use Rattle.dpl_law_verdict.proofs.Passing.{valid-kept}
use Rattle.dpl_law_verdict.proofs.Parting.{marks-kept}
use Rattle.dpl_law_verdict.proofs.valid_masks_keep_marks.Goals as goal

pub returns : goal.returns
returns c = λ marks spacing overlap layer a b head pieces stitches gains valid.
    (let claim : Claim = record { layer = layer; a = a; b = b; head = head; pieces = pieces; stitches = stitches; gains = gains } in
    marks-kept marks layer a b (valid-kept marks spacing overlap claim valid).marked)
