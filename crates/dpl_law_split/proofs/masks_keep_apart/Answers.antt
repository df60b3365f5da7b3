use Rattle.dpl_spec_split.specs.Squares.{Covers}
use Rattle.dpl_law_split.proofs.Apart.{far-on-a, far-on-b}
use Rattle.dpl_law_split.proofs.Lettering.{lettered, sound}
use Rattle.dpl_law_split.proofs.masks_keep_apart.Goals as goal

pub returns : goal.returns
returns c = λ fewer marks spacing overlap layer cut m is_cut are even.
    let masks = lettered fewer marks spacing cut m are in
    let apart = sound fewer marks spacing cut m are even in
    (far-on-a marks spacing overlap (Covers layer) cut m is_cut masks apart, far-on-b marks spacing overlap (Covers layer) cut m is_cut masks apart)
