use Rattle.std.proofs.Common.{ap, rules}
use Rattle.crossbeam_deque.specs.Handles.{worker_deque, worker_view}
use Rattle.dpl_deal.specs.Hands.{own_deque, own_view}
use Rattle.dpl_deal.proofs.Takings.{map_put}
use Rattle.dpl_deal.proofs.closing.take_row.Goals as goal

pub returns-clause-views : goal.returns-clause-views
returns-clause-views c = map_put own_view c.args.hands.now.items c.args.at c.index_mut.result.now _ (search rules) (search rules) (ap (λ w. worker_view w) c.give_grips.ensures.own)

pub returns-clause-deques : goal.returns-clause-deques
returns-clause-deques c = map_put own_deque c.args.hands.now.items c.args.at c.index_mut.result.now _ (search rules) (search rules)
    (ap (λ w. worker_deque w) c.give_grips.ensures.own)
