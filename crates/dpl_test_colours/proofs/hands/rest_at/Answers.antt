use Rattle.std.proofs.Common.{rules}
use Rattle.dpl_test_colours.proofs.Places.{hand_at, hand_there, hands_put, on_ok}
use Rattle.dpl_test_colours.proofs.hands.rest_at.Goals as goal

pub rest_of-requires : goal.rest_of-requires
rest_of-requires g c = (c.args.at, hand_at c.args.deal.now c.args.hands.now.items c.args.at c.index_mut.result.now c.requires.0 (search rules) (search rules))

pub returns-clause-hands : goal.returns-clause-hands
returns-clause-hands g c = (
  hands_put c.args.deal.now c.args.hands.now.items c.args.at c.index_mut.result.now c.rest_of.new.hand
      c.requires.0 (search rules) (search rules) (c.rest_of.ensures.hand c.args.at),
  search rules,
)

pub returns-clause-done : goal.returns-clause-done
returns-clause-done g c = on_ok c.rest_of.result (hand_there c.args.hands.now.items c.args.at c.rest_of.new.hand (search rules)) c.rest_of.ensures.done
