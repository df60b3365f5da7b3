use Rattle.dpl_law_verdict.proofs.Parting.{right-masks}
use Rattle.dpl_law_verdict.proofs.valid_masks_are_right.Goals as goal

pub returns : goal.returns
returns c = λ marks spacing overlap layer a b head pieces stitches gains valid.
    right-masks marks spacing overlap (record { layer = layer; a = a; b = b; head = head; pieces = pieces; stitches = stitches; gains = gains }) valid
