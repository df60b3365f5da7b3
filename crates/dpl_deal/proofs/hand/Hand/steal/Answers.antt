use Rattle.std.proofs.Common.{◌≡◌, ◌<◌, ◌≤◌, arith, rules, length, get_or}
use Rattle.dpl_deal.specs.Grips.{grip_deque, grip_view}
use Rattle.dpl_deal.specs.declared.grip.Grip.{Grip}
use Rattle.dpl_deal.proofs.Takings.{all_here, all_put, ended_next, ended_put, if_none, if_some, map_put, took_more, took_same}
use Rattle.dpl_deal.proofs.hand.Hand.steal.Goals as goal

pub returns-clause-tried : goal.returns-clause-tried
returns-clause-tried g c =
    let gs = c.args.self.now.grips.items in
    let lt : c.args.at < length c.args.self.now.grips.items = search rules in
    let is : c.index_mut.result.now ≡ get_or c.args.self.now.grips.items c.args.at c.index_mut.result.now = c.index_mut.ensures.value in
    record {
      deques = map_put grip_deque gs c.args.at c.index_mut.result.now c.take.new.self lt is c.take.ensures.deque;
      within = λ tiles h. all_put (λ (y : Grip). (grip_view y).limit ≤ tiles) gs c.args.at c.index_mut.result.now c.take.new.self lt is h (λ old. rw c.take.ensures.limit old);
      below = if_some c.take.result
          (λ u p tiles h. let old = all_here (λ (y : Grip). (grip_view y).limit ≤ tiles) gs c.args.at c.index_mut.result.now lt is h in
          let q = p.1 in omega arith) c.take.ensures.some;
      some = took_more gs c.args.at c.index_mut.result.now c.take.new.self c.take.result lt is (if_some c.take.result (λ u p. p.0) c.take.ensures.some);
      none = if_none c.take.result (λ p. took_same gs c.args.at c.index_mut.result.now c.take.new.self lt is p.0) c.take.ensures.none;
      ended = ended_put gs c.args.at c.index_mut.result.now c.take.new.self lt is c.take.ensures.ended;
    }

pub returns-clause-ended : goal.returns-clause-ended
returns-clause-ended g c =
    let gs = c.args.self.now.grips.items in
    let lt : c.args.at < length c.args.self.now.grips.items = search rules in
    let is : c.index_mut.result.now ≡ get_or c.args.self.now.grips.items c.args.at c.index_mut.result.now = c.index_mut.ensures.value in
    if_none c.take.result (λ p. ended_next gs c.args.at c.index_mut.result.now c.take.new.self lt is p.1) c.take.ensures.none
