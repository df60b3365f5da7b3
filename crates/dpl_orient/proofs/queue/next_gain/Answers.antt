use Rattle.std.proofs.Common.{◌≡◌, true, false, inl, inr, sym, subst}
use Rattle.std.specs.BinaryHeap.{heap_items}
use Rattle.dpl_orient.specs.Tallies.{GainsAt}
use Rattle.dpl_orient.proofs.Queues.{waits-rest}
use Rattle.dpl_orient.proofs.queue.next_gain.Goals as goal

pub returns-then-is_gain-clause-rest : goal.returns-then-is_gain-clause-rest
returns-then-is_gain-clause-rest c = λ other g apart. elim (waits-rest (heap_items c.loop-root.waiting) (heap_items c.pop.new.self) c.in-Some.field-0.0 other
    c.in-Some.ensures.permutation (c.loop-root.invariant.all other g)) [
      | inl e ↦ absurd (apart (sym e))
      | inr w ↦ w
    ]

pub loop-root-preserved : goal.loop-root-preserved
loop-root-preserved c = record {
  queue = (c.in-Some.ensures.heap_order c.loop-root.invariant.queue).0;
  all = λ other g. elim (waits-rest (heap_items c.loop-root.waiting) (heap_items c.pop.new.self) c.in-Some.field-0.0 other
      c.in-Some.ensures.permutation (c.loop-root.invariant.all other g)) [
        | inl e ↦ absurd (let yes : c.is_gain.result ≡ true = c.is_gain.ensures.1 (subst (GainsAt c.args.held c.args.tallies.now) (sym e) g) in
            let no : c.is_gain.result ≡ false = c.if-is_gain.false in cc)
        | inr w ↦ w
      ];
}
