use Rattle.dpl_spec_split.specs.Squares.{Covers}
use Rattle.dpl_law_split.proofs.Lettering.{lettered}
use Rattle.dpl_law_split.proofs.Overlap.{overlap-at}
use Rattle.dpl_law_split.proofs.masks_overlap_at_stitches.Goals as goal

pub returns : goal.returns
returns c = λ fewer marks spacing overlap layer cut m is_cut are.
    overlap-at marks spacing overlap (Covers layer) cut m is_cut (lettered fewer marks spacing cut m are)
