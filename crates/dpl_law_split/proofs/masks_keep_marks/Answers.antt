use Rattle.std.specs.Prelude.{Some}
use Rattle.dpl_spec_split.specs.Squares.{Covers}
use Rattle.dpl_law_split.proofs.Fixed.{fixed-on-a, fixed-on-b}
use Rattle.dpl_law_split.proofs.Lettering.{lettered, sound}
use Rattle.dpl_law_split.proofs.masks_keep_marks.Goals as goal

pub returns : goal.returns
returns c = λ fewer marks spacing overlap layer cut m is_cut are even.
    let masks = lettered fewer (Some marks) spacing cut m are in
    let apart = sound fewer (Some marks) spacing cut m are even in
    (fixed-on-a marks spacing overlap (Covers layer) cut m is_cut masks apart, fixed-on-b marks spacing overlap (Covers layer) cut m is_cut masks apart)
