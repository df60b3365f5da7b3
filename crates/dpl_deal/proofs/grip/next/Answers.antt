use Rattle.std.proofs.Common.{◌≡◌, subst, sym, ℕ}
use Rattle.std.specs.Prelude.{min}
use Rattle.crossbeam_deque.specs.Tasks.{FindsFew}
use Rattle.crossbeam_deque.specs.Handles.{view}
use Rattle.dpl_deal.proofs.Moves.{takes, finds_few}
use Rattle.dpl_deal.specs.Rule.{IsKept}
use Rattle.dpl_deal.proofs.grip.next.Goals as goal

pub steal_as-requires-clause-takes : goal.steal_as-requires-clause-takes
steal_as-requires-clause-takes g c = takes _ _ (rw (c.loop.invariant.1) c.requires.due.0) (rw (c.loop.invariant.1) c.requires.due.1)

pub steal_as-requires-clause-empty : goal.steal_as-requires-clause-empty
steal_as-requires-clause-empty g c = subst (λ (n : ℕ). FindsFew IsKept (min n 1) c.loop.pass.id (view c.loop.pass)
    ((view c.loop.pass).due ≡ 0)) (sym c.args.thief.now.fifo) (finds_few _ _)
