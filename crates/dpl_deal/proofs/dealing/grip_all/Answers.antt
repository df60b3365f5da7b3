use Rattle.std.proofs.Common.{◌≡◌, ◌∙◌, ◌<◌, ◌≤◌, ◌++◌, ◌∷◌, [], sym, ap, subst, rules, length, get_or, map, arith}
use Rattle.std.proofs.lemmas.List.{length-map, get_or-map}
use Rattle.dpl_deal.specs.Rule.{after_grip, cut_off}
use Rattle.dpl_deal.specs.Grips.{grip_deque, grip_view}
use Rattle.dpl_deal.specs.Hands.{deques_of, own_deque, own_view, row_of, views_of}
use Rattle.dpl_deal.proofs.Takings.{map_put}
use Rattle.dpl_deal.proofs.Dealings.{grip_step, gripped_all, gripped_view, map_take_next}
use Rattle.dpl_deal.specs.declared.view.PassView.{PassView}
use Rattle.dpl_deal.specs.declared.hand.Hand.{Hand}
use Rattle.dpl_deal.proofs.dealing.grip_all.Goals as goal

pub grip-requires : goal.grip-requires
grip-requires c =
    let lt : c.loop-at.at < length c.loop-at.hands.items = search rules in
    let is : c.index_mut.result.now ≡ get_or c.loop-at.hands.items c.loop-at.at c.index_mut.result.now = c.index_mut.ensures.value in
    let lens : length c.args.hands.now.items ≡ length c.loop-at.hands.items = search rules in
    let e = gripped_view (views_of c.args.hands.now.items) c.loop-at.hands.items c.loop-at.at c.index_mut.result.now lt is c.loop-at.invariant.1 in
    record {
      parts = subst (λ (v : PassView). 1 < v.parts) (sym e) (c.requires.parts c.loop-at.at (own_view c.index_mut.result.now)
          (omega (arith, length-map c.args.hands.now.items own_view)));
    }

pub loop-at-preserved : goal.loop-at-preserved
loop-at-preserved c =
    let lt : c.loop-at.at < length c.loop-at.hands.items = search rules in
    let is : c.index_mut.result.now ≡ get_or c.loop-at.hands.items c.loop-at.at c.index_mut.result.now = c.index_mut.ensures.value in
    let lens : length c.args.hands.now.items ≡ length c.loop-at.hands.items = search rules in
    let w : own_view c.grip.new.self ≡ after_grip (own_view c.index_mut.result.now) = c.in_ok-grip.ensures.view in
    let q : own_deque c.grip.new.self ≡ own_deque c.index_mut.result.now = c.in_ok-grip.ensures.deque in
    let gs : c.grip.new.self.grips ≡ c.index_mut.result.now.grips = c.in_ok-grip.ensures.grips in
    let mk : c.grip.new.self.marked ≡ c.index_mut.result.now.marked = c.in_ok-grip.ensures.marked in
    let pushed : c.push.new.self.items ≡ c.loop-at.grips.items ++ c.in_ok-grip.grip ∷ [] = c.in_ok-push.ensures.items in
    let gd : grip_deque c.in_ok-grip.grip ≡ own_deque c.index_mut.result.now = c.in_ok-grip.ensures.grip.0 in
    let gv : grip_view c.in_ok-grip.grip ≡ cut_off (own_view c.index_mut.result.now) = c.in_ok-grip.ensures.grip.1 in
    let ve = gripped_view (views_of c.args.hands.now.items) c.loop-at.hands.items c.loop-at.at c.index_mut.result.now lt is c.loop-at.invariant.1 in (
      c.loop-at.invariant.0,
      grip_step (views_of c.args.hands.now.items) c.loop-at.hands.items c.loop-at.at c.index_mut.result.now c.grip.new.self lt is
          c.loop-at.invariant.1 (length-map c.args.hands.now.items own_view ∙ lens) w,
      map_put own_deque c.loop-at.hands.items c.loop-at.at c.index_mut.result.now c.grip.new.self lt is q ∙ c.loop-at.invariant.2,
      ap (map grip_deque) pushed ∙ map_take_next grip_deque c.loop-at.grips.items c.in_ok-grip.grip
          (deques_of c.args.hands.now.items) c.loop-at.at (own_deque c.index_mut.result.now)
          (omega (arith, lt, lens, length-map c.args.hands.now.items own_deque)) c.loop-at.invariant.3
          (gd ∙ ap own_deque is ∙ sym (get_or-map own_deque c.loop-at.hands.items c.loop-at.at c.index_mut.result.now
          (own_deque c.index_mut.result.now) lt)
          ∙ ap (λ l. get_or l c.loop-at.at (own_deque c.index_mut.result.now)) c.loop-at.invariant.2),
      ap (map grip_view) pushed ∙ map_take_next grip_view c.loop-at.grips.items c.in_ok-grip.grip
          (map cut_off (views_of c.args.hands.now.items)) c.loop-at.at (cut_off (own_view c.index_mut.result.now))
          (omega (arith, lt, lens, length-map (views_of c.args.hands.now.items) cut_off, length-map c.args.hands.now.items own_view))
          c.loop-at.invariant.4
          (gv ∙ ap cut_off ve ∙ sym (get_or-map cut_off (views_of c.args.hands.now.items) c.loop-at.at (own_view c.index_mut.result.now)
          (cut_off (own_view c.index_mut.result.now)) (omega (arith, lt, lens, length-map c.args.hands.now.items own_view)))),
      map_put row_of c.loop-at.hands.items c.loop-at.at c.index_mut.result.now c.grip.new.self lt is (ap (λ g. g.items) gs) ∙ c.loop-at.invariant.5,
      map_put (λ (h : Hand). h.marked) c.loop-at.hands.items c.loop-at.at c.index_mut.result.now c.grip.new.self lt is mk ∙ c.loop-at.invariant.6,
    )

pub returns-clause-views : goal.returns-clause-views
returns-clause-views c = c.loop-at.invariant.1 ∙ gripped_all c.loop-at.at (views_of c.args.hands.now.items)
    (let e : length c.args.hands.now.items ≤ c.loop-at.at = search rules in omega (arith, e, length-map c.args.hands.now.items own_view))
