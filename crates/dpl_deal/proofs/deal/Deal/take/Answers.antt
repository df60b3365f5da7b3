use Rattle.std.proofs.Common.{◌≡◌, ◌∙◌, ◌≤◌, inl, inr, false, refl, length, sym, rules, ap, map, arith, None}
use Rattle.std.specs.Prelude.{is_some}
use Rattle.dpl_deal.specs.Grips.{grip_deque}
use Rattle.dpl_deal.proofs.Takings.{after_none, if_some, none_where, of_any, still, was_none, where_none}
use Rattle.dpl_deal.proofs.Tries.{done_same, done_tried, emptied, grip_fits, kept, noted, popped, stolen}
use Rattle.dpl_deal.proofs.deal.Deal.take.Goals as goal

pub returns-then-is_some-clause-some : goal.returns-then-is_some-clause-some
returns-then-is_some-clause-some g c = popped c.args.self.now c.args.hand.now c.pop-own.new.self c.pop-own.result c.requires.hand c.pop-own.ensures.some c.pop-own.ensures.grips

pub returns-then-is_some-clause-own : goal.returns-then-is_some-clause-own
returns-then-is_some-clause-own g c = if_some c.pop-own.result (λ u p. inl p.0) c.pop-own.ensures.some

pub returns-then-is_some-2-clause-own : goal.returns-then-is_some-2-clause-own
returns-then-is_some-2-clause-own g c =
    let none : is_some c.pop-own.result ≡ false = sym c.if-is_some.ensures in
    let marked = (where_none c.pop-own.result none c.pop-own.ensures.none).1 in
    of_any c.steal-stolen.result
    (λ u. inr (noted c.args.self.now c.args.hand.now c.pop-own.new.self c.steal-stolen.new.self c.requires.hand marked
    c.pop-own.ensures.notes (c.steal-stolen.ensures.own ∙ c.loop-at.invariant.0)))

pub steal-stolen-requires-clause-deque : goal.steal-stolen-requires-clause-deque
steal-stolen-requires-clause-deque g c = grip_fits c.args.self.now c.loop-at.hand.grips.items c.loop-at.at c.index.result.now
    (c.loop-at.invariant.1.deques ∙ ap (λ v. map grip_deque v.items) c.pop-own.ensures.grips ∙ c.requires.hand.1.grips) (search rules) (search rules)

pub returns-then-is_some-2-clause-hand : goal.returns-then-is_some-2-clause-hand
returns-then-is_some-2-clause-hand g c = λ me h. kept c.args.self.now me c.args.hand.now c.pop-own.new.self c.steal-stolen.new.self
    c.steal-stolen.result c.pop-own.ensures.deque c.pop-own.ensures.parts c.pop-own.ensures.limit c.pop-own.ensures.dealt
    c.pop-own.ensures.grips
    (c.steal-stolen.ensures.own ∙ c.loop-at.invariant.0) (after_none _ _ _ _ c.loop-at.invariant.1 c.steal-stolen.ensures.tried)
    c.pop-own.ensures.notes (c.steal-stolen.ensures.marked ∙ c.loop-at.invariant.3) h

pub returns-then-is_some-2-clause-some : goal.returns-then-is_some-2-clause-some
returns-then-is_some-2-clause-some g c =
    let none : is_some c.pop-own.result ≡ false = sym c.if-is_some.ensures in
    let took = (where_none c.pop-own.result none c.pop-own.ensures.none).0 in
    stolen c.args.self.now c.args.hand.now c.pop-own.new.self c.steal-stolen.new.self c.steal-stolen.result c.requires.hand took c.pop-own.ensures.grips
    (c.steal-stolen.ensures.own ∙ c.loop-at.invariant.0) (after_none _ _ _ _ c.loop-at.invariant.1 c.steal-stolen.ensures.tried)

pub returns-then-is_some-clause-hand : goal.returns-then-is_some-clause-hand
returns-then-is_some-clause-hand g c = λ me is. kept c.args.self.now me c.args.hand.now c.pop-own.new.self c.pop-own.new.self None
    c.pop-own.ensures.deque c.pop-own.ensures.parts c.pop-own.ensures.limit c.pop-own.ensures.dealt c.pop-own.ensures.grips
    refl (still _) c.pop-own.ensures.notes refl is

pub returns-then-is_some-clause-none : goal.returns-then-is_some-clause-none
returns-then-is_some-clause-none g c = none_where _ c.pop-own.result (sym c.if-is_some.ensures)

pub returns-then-is_some-clause-done : goal.returns-then-is_some-clause-done
returns-then-is_some-clause-done g c = done_same c.args.hand.now c.pop-own.new.self c.pop-own.ensures.grips

pub returns-then-is_some-2-clause-none : goal.returns-then-is_some-2-clause-none
returns-then-is_some-2-clause-none g c = none_where _ c.steal-stolen.result (sym c.if-is_some-2.ensures)

pub returns-then-is_some-2-clause-done : goal.returns-then-is_some-2-clause-done
returns-then-is_some-2-clause-done g c = done_tried c.args.hand.now c.pop-own.new.self c.steal-stolen.new.self c.steal-stolen.result c.pop-own.ensures.grips
    (after_none _ _ _ _ c.loop-at.invariant.1 c.steal-stolen.ensures.tried)

pub loop-at-init : goal.loop-at-init
loop-at-init g c = (refl, still _, λ j d l. absurd (omega (arith, l)), refl)

pub loop-at-preserved : goal.loop-at-preserved
loop-at-preserved g c =
    let none : is_some c.steal-stolen.result ≡ false = sym c.if-is_some-2.ensures in (
      c.steal-stolen.ensures.own ∙ c.loop-at.invariant.0,
      after_none _ _ _ _ c.loop-at.invariant.1 (was_none _ _ c.steal-stolen.result none c.steal-stolen.ensures.tried),
      where_none c.steal-stolen.result none c.steal-stolen.ensures.ended c.loop-at.invariant.2,
      c.steal-stolen.ensures.marked ∙ c.loop-at.invariant.3,
    )

pub returns-clause-hand : goal.returns-clause-hand
returns-clause-hand g c = λ me is. kept c.args.self.now me c.args.hand.now c.pop-own.new.self c.loop-at.hand None
    c.pop-own.ensures.deque c.pop-own.ensures.parts c.pop-own.ensures.limit c.pop-own.ensures.dealt c.pop-own.ensures.grips
    c.loop-at.invariant.0 c.loop-at.invariant.1 c.pop-own.ensures.notes c.loop-at.invariant.3 is

pub returns-clause-none : goal.returns-clause-none
returns-clause-none g c =
    let none : is_some c.pop-own.result ≡ false = sym c.if-is_some.ensures in
    let took = (where_none c.pop-own.result none c.pop-own.ensures.none).0 in
    let past = c.loop-at-test.false in
    let len = c.len-at-end.ensures in
    let long = c.args.self.now.thieves.ok.0 in
    let all : length c.args.self.now.thieves.items ≤ c.loop-at.at = omega (arith, past, len, long) in
    emptied c.args.self.now c.args.hand.now c.pop-own.new.self c.loop-at.hand c.loop-at.at c.requires.hand took c.pop-own.ensures.grips
    c.loop-at.invariant.0 c.loop-at.invariant.1 c.loop-at.invariant.2 all

pub returns-clause-done : goal.returns-clause-done
returns-clause-done g c = done_tried c.args.hand.now c.pop-own.new.self c.loop-at.hand None c.pop-own.ensures.grips c.loop-at.invariant.1
