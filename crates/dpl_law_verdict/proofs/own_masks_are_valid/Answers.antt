use Rattle.std.specs.Prelude.{false, None}
use Rattle.std.proofs.Common.{refl}
use Rattle.dpl_law_split.proofs.Lettering.{lettered, sound}
use Rattle.dpl_law_verdict.proofs.Gained.{gains-valid}
use Rattle.dpl_law_verdict.proofs.Passing.{kept-valid}
use Rattle.dpl_law_verdict.proofs.Painted.{painted-kept, plain}
use Rattle.dpl_law_verdict.proofs.own_masks_are_valid.Goals as goal

pub returns-clause-masks : goal.returns-clause-masks
returns-clause-masks a = λ marks spacing overlap layer c m cut are even.
    let by = plain marks spacing c m are in
    kept-valid marks spacing overlap _ (painted-kept marks spacing overlap layer c m cut (lettered false marks spacing c m by) None
    (sound false marks spacing c m by even) refl)

pub returns-clause-by : goal.returns-clause-by
returns-clause-by a = λ fewer marks spacing overlap layer c m gains cut are even told.
    kept-valid marks spacing overlap _ (painted-kept marks spacing overlap layer c m cut (lettered fewer marks spacing c m are) gains
    (sound fewer marks spacing c m are even) (gains-valid fewer marks spacing overlap layer c m gains cut are told))
