use Rattle.std.proofs.Common.{take, arith, sym, ◌∙◌}
use Rattle.std.proofs.lemmas.Result.{IfOk-from_err}
use Rattle.std.proofs.lemmas.List.{take_all, take_at, take_more}
use Rattle.std.proofs.lemmas.Grind.{common_steps}
use Rattle.dpl_board.specs.declared.events.Event.TheVariants.{Take}
use Rattle.dpl_board.proofs.events.replay.Goals as goal

pub loop-event-preserved : goal.loop-event-preserved
loop-event-preserved g c =
    rw (
      take_at c.step.new.taken _ c.loop-event.taken.len (c.step.auto.taken ∙ c.deref_mut.ensures.len),
      take_more c.args.events.now c.loop-event.event-index (Take 0 0) c.loop-event-test.true,
    )
    (c.in_ok-step.ensures (take c.loop-event.event-index c.args.events.now) (rw c.deref_mut.ensures.value c.loop-event.invariant))

pub loop-event-init : goal.loop-event-init
loop-event-init g c = record {
  takers = record { len = grind (arith, common_steps); each = λ t below. grind (arith, common_steps) };
  posts = record {
    history = c.in_ok-board.ensures.history;
    stands = c.in_ok-board.ensures.stands (g.J.Job.sheet c.args.job.now) c.tiles-tiles.ensures.edges (sym c.tiles-tiles.ensures.count);
  };
}

pub step-requires : goal.step-requires
step-requires g c = record {
  taken = rw c.deref_mut.ensures.value c.loop-event.invariant.takers.len;
  tiles = c.loop-event.invariant.posts.stands.tiles;
}

pub returns : goal.returns
returns g c = rw c.of.ensures (rw (take_all c.loop-event.event-index c.args.events.now c.loop-event-test.false) at c.loop-event.invariant)

pub returns-in_err-taken : goal.returns-in_err-taken
returns-in_err-taken g c = IfOk-from_err _ _ c.from_residual.ensures.0

pub returns-in_err-board : goal.returns-in_err-board
returns-in_err-board g c = IfOk-from_err _ _ c.from_residual-in_err-board.ensures.0

pub returns-in_err-step : goal.returns-in_err-step
returns-in_err-step g c = IfOk-from_err _ _ c.from_residual-in_err-step.ensures.0
