use Rattle.std.proofs.Common.{◌+◌, arith}
use Rattle.std.specs.List.{Contains}
use Rattle.std.proofs.lemmas.List.{get_or_default}
use Rattle.std.proofs.lemmas.Result.{IfOk-from_err}
use Rattle.dpl_crowd.proofs.MeetLaws.{IsSame, OfFirst, all-listed, first-more, first-none, meets-as, meets-none, meets-then}
use Rattle.dpl_crowd.proofs.levels.meet_all.Goals as goal

pub loop-v-init : goal.loop-v-init
loop-v-init c = meets-none (OfFirst IsSame c.args.found.now 0) c.args.level _ _ c.requires.level (first-none IsSame c.args.found.now)

pub loop-v-preserved : goal.loop-v-preserved
loop-v-preserved c = meets-then (OfFirst IsSame c.args.found.now c.loop-v.v-index) _ (OfFirst IsSame c.args.found.now (c.loop-v.v-index + 1)) c.args.level _ c.loop-v.levels _ _ c.loop-v.next.items _
    c.requires.level (first-more IsSame c.args.found.now c.loop-v.v-index _ c.loop-v-test.true (get_or_default c.args.found.now c.loop-v.v-index _ _ c.loop-v-test.true))
    c.loop-v.invariant c.in_ok-meet.ensures

pub returns : goal.returns
returns c = meets-as (OfFirst IsSame c.args.found.now c.loop-v.v-index) (Contains c.args.found.now) c.args.level _ c.loop-v.levels _ c.loop-v.next.items
    (all-listed c.args.found.now c.loop-v.v-index (omega arith)) c.loop-v.invariant

pub returns-in_err-meet : goal.returns-in_err-meet
returns-in_err-meet c = IfOk-from_err _ _ c.from_residual.ensures.0
