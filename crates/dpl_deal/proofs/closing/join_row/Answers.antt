use Rattle.std.proofs.Common.{◌≡◌, ◌∙◌, ◌++◌, ◌∷◌, [], sym, ap, rules, length, get_or, map, arith, append_assoc, length-append}
use Rattle.std.proofs.lemmas.List.{length-map}
use Rattle.dpl_deal.specs.Grips.{grip_deque}
use Rattle.dpl_deal.specs.Hands.{own_deque, own_view, row_of, views_of}
use Rattle.dpl_deal.proofs.Takings.{map_put}
use Rattle.dpl_deal.proofs.Dealings.{join_step, next_place, same_deque, joined_length}
use Rattle.dpl_deal.proofs.closing.join_row.Goals as goal

pub join-requires : goal.join-requires
join-requires c =
    let all : c.loop-grip.yielded ++ c.in-Some.grip ∷ c.next.new.self.rest.items ≡ c.args.row.items = search rules in
    let ds = ap (map grip_deque) all ∙ c.requires.deques ∙ sym c.loop-grip.invariant.3 in
    let lt = next_place grip_deque own_deque c.loop-grip.yielded c.next.new.self.rest.items c.in-Some.grip c.loop-grip.hands.items c.loop-grip.at c.loop-grip.invariant.1 ds in
    let is : c.index_mut.result.now ≡ get_or c.loop-grip.hands.items c.loop-grip.at c.index_mut.result.now = c.index_mut.ensures.value in
    record {
      deque = same_deque grip_deque own_deque c.loop-grip.yielded c.next.new.self.rest.items c.in-Some.grip c.loop-grip.hands.items
          c.loop-grip.at c.index_mut.result.now c.loop-grip.invariant.1 lt is ds;
    }

pub loop-grip-preserved : goal.loop-grip-preserved
loop-grip-preserved c =
    let all : c.loop-grip.yielded ++ c.in-Some.grip ∷ c.next.new.self.rest.items ≡ c.args.row.items = search rules in
    let ds = ap (map grip_deque) all ∙ c.requires.deques ∙ sym c.loop-grip.invariant.3 in
    let lt = next_place grip_deque own_deque c.loop-grip.yielded c.next.new.self.rest.items c.in-Some.grip c.loop-grip.hands.items c.loop-grip.at c.loop-grip.invariant.1 ds in
    let is : c.index_mut.result.now ≡ get_or c.loop-grip.hands.items c.loop-grip.at c.index_mut.result.now = c.index_mut.ensures.value in
    let lens : length (views_of c.args.hands.now.items) ≡ length c.loop-grip.hands.items = omega (
      arith,
      length-map c.loop-grip.hands.items own_view,
      ap length c.loop-grip.invariant.2,
      joined_length (views_of c.args.hands.now.items) c.loop-grip.yielded,
    ) in (
      append_assoc c.loop-grip.yielded (c.in-Some.grip ∷ []) c.next.new.self.rest.items ∙ all,
      omega (arith, c.loop-grip.invariant.1, length-append c.loop-grip.yielded (c.in-Some.grip ∷ [])),
      join_step (views_of c.args.hands.now.items) c.loop-grip.hands.items c.loop-grip.yielded c.in-Some.grip c.loop-grip.at
          c.index_mut.result.now c.join.new.self c.loop-grip.invariant.1 lt lens is c.loop-grip.invariant.2 c.join.ensures.view,
      map_put own_deque c.loop-grip.hands.items c.loop-grip.at c.index_mut.result.now c.join.new.self lt is c.join.ensures.deque ∙ c.loop-grip.invariant.3,
      map_put row_of c.loop-grip.hands.items c.loop-grip.at c.index_mut.result.now c.join.new.self lt is (ap (λ g. g.items) c.join.ensures.grips) ∙ c.loop-grip.invariant.4,
    )
