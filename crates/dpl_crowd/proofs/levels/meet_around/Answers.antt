use Rattle.std.proofs.Common.{◌+◌, ◌∙◌, ℕ, length, get_or, arith}
use Rattle.std.proofs.lemmas.List.{get_or_default}
use Rattle.std.proofs.lemmas.Result.{IfOk-from_err}
use Rattle.dpl_crowd.specs.Crowds.{graph_in}
use Rattle.dpl_crowd.specs.Walking.{IsBeside}
use Rattle.dpl_crowd.proofs.MeetLaws.{Joins, OfFirst, all-beside, first-more, first-none, meets-as, meets-none, meets-then}
use Rattle.dpl_crowd.proofs.NearLaws.{found-below}
use Rattle.dpl_crowd.proofs.levels.meet_around.Goals as goal

pub loop-v-init : goal.loop-v-init
loop-v-init c = meets-none (OfFirst (Joins (graph_in c.args.crowd.now)) c.args.front.now 0) c.args.level _ _ c.requires.level (first-none (Joins (graph_in c.args.crowd.now)) c.args.front.now)

pub meet_all-requires-clause-known : goal.meet_all-requires-clause-known
meet_all-requires-clause-known c = rw c.deref.ensures.value (found-below c.args.crowd.now _ (length c.loop-v.levels) c.in_ok-found.found.items c.in_ok-found.ensures
    (c.loop-v.invariant.as_many ∙ c.requires.each))

pub loop-v-preserved : goal.loop-v-preserved
loop-v-preserved c =
    let joined = graph_in c.args.crowd.now in
    let front = c.args.front.now in
    let n : ℕ = c.loop-v.v-index in
    meets-then (OfFirst (Joins joined) front n) (λ v. graph_in c.args.crowd.now (get_or front n 0) v) (OfFirst (Joins joined) front (n + 1)) c.args.level c.args.levels.now c.loop-v.levels
    c.meet_all.new.levels c.args.next.now.items c.loop-v.next.items c.meet_all.new.next.items c.requires.level
    (first-more (Joins joined) front n (get_or front n 0) c.loop-v-test.true (get_or_default front n 0 (get_or front n 0) c.loop-v-test.true)) c.loop-v.invariant
    (meets-as _ (λ v. graph_in c.args.crowd.now (get_or front n 0) v) c.args.level c.loop-v.levels c.meet_all.new.levels c.loop-v.next.items c.meet_all.new.next.items c.in_ok-found.ensures
    (rw c.deref.ensures.value at c.in_ok-meet_all.ensures))

pub returns : goal.returns
returns c = meets-as (OfFirst (Joins (graph_in c.args.crowd.now)) c.args.front.now c.loop-v.v-index) (IsBeside (graph_in c.args.crowd.now) c.args.front.now) c.args.level
    c.args.levels.now c.loop-v.levels c.args.next.now.items c.loop-v.next.items (all-beside (graph_in c.args.crowd.now) c.args.front.now c.loop-v.v-index (omega arith)) c.loop-v.invariant

pub returns-in_err-found : goal.returns-in_err-found
returns-in_err-found c = IfOk-from_err _ _ c.from_residual.ensures.0

pub returns-in_err-meet_all : goal.returns-in_err-meet_all
returns-in_err-meet_all c = IfOk-from_err _ _ c.from_residual-in_err-meet_all.ensures.0
