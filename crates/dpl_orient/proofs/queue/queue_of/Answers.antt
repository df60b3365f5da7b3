use Rattle.std.proofs.Common.{inl, inr, sym, subst, arith}
use Rattle.std.specs.BinaryHeap.{heap_items}
use Rattle.std.proofs.lemmas.Bool.{cases_eq}
use Rattle.dpl_orient.specs.Tallies.{GainsAt, Waits}
use Rattle.dpl_orient.proofs.Queues.{gains-within}
use Rattle.dpl_orient.proofs.queue.queue_of.Goals as goal

pub overflow_cast-root : goal.overflow_cast-root
overflow_cast-root c =
    let below = c.loop-root-test.true in
    let few = c.requires in
    omega (arith, below, few)

pub wait-requires : goal.wait-requires
wait-requires c = c.loop-root.invariant.queue

pub loop-root-preserved : goal.loop-root-preserved
loop-root-preserved c = record {
  queue = c.in_ok-wait.ensures.queue;
  all = λ r l g. elim (cases_eq r c.loop-root.root) [
    | inl same ↦ subst (Waits (heap_items c.wait.new.waiting)) (sym same) (c.in_ok-wait.ensures.gains (subst (GainsAt c.args.held c.args.tallies.now) same g))
    | inr other ↦ c.in_ok-wait.ensures.kept r (c.loop-root.invariant.all r (omega (arith, l, other)) g)
  ];
}

pub returns-clause-queue : goal.returns-clause-queue
returns-clause-queue c = c.loop-root.invariant.queue

pub returns-clause-all : goal.returns-clause-all
returns-clause-all c = λ r g.
    let within = gains-within c.args.held c.args.tallies.now r g in
    let all = c.loop-root-test.false in
    c.loop-root.invariant.all r (omega (arith, within, all)) g
