use Rattle.std.proofs.Common.{refl, w32}
use Rattle.std.proofs.lemmas.Int.{to_z-of_z}
use Rattle.std.proofs.lemmas.Result.{IfOk-weaker}
use Rattle.dpl_sweep.proofs.FewLaws.{passes-missed, passes-moved}
use Rattle.dpl_sweep.proofs.few.pass_band.Goals as goal

pub returns-then-misses : goal.returns-then-misses
returns-then-misses c =
    passes-missed _ _ _ _ _ _ _
    (rw (to_z-of_z w32 c.args.low c.ranges.low, to_z-of_z w32 c.args.high c.ranges.high) at c.if-misses.ensures.yes refl) c.requires.rows
    c.requires.sums

pub returns : goal.returns
returns c =
    let meets = rw (to_z-of_z w32 c.args.low c.ranges.low, to_z-of_z w32 c.args.high c.ranges.high) at c.if-misses.ensures.no refl in
    let moves = rw (to_z-of_z w32 c.args.low c.ranges.low, to_z-of_z w32 c.args.high c.ranges.high) at c.moved.ensures in
    IfOk-weaker c.moved.result _ _ (λ after m. passes-moved _ _ _ _ _ _ after _ _ c.requires.order meets c.requires.none c.requires.unit c.requires.rows c.requires.sums m) moves
