use Rattle.std.proofs.Common.{refl}
use Rattle.dpl_stars.proofs.RowLaws.{rows-none, rows-more}
use Rattle.dpl_stars.proofs.rows.rows.Goals as goal

pub loop-i-init : goal.loop-i-init
loop-i-init c = rw c.in_ok-rows.ensures.items (rows-none _ _ _)

pub loop-i-preserved : goal.loop-i-preserved
loop-i-preserved c = rw c.in_ok-push.ensures.items (rows-more _ _ _ c.loop-i.i c.loop-i.rows.items _ c.loop-i.invariant refl)
