use Rattle.std.proofs.Common.{◌≡◌, arith, rules}
use Rattle.crossbeam_deque.specs.Handles.{worker_view}
use Rattle.dpl_deal.specs.Rule.{after_seal}
use Rattle.dpl_deal.proofs.Moves.{seals, cuts_sealed}
use Rattle.dpl_deal.proofs.hand.Hand.grip.Goals as goal

pub push_as-requires-clause-pushes : goal.push_as-requires-clause-pushes
push_as-requires-clause-pushes c = seals _ _ (omega (arith, c.requires.parts))

pub another-pass-requires : goal.another-pass-requires
another-pass-requires c =
    let e : worker_view c.push_as.new.self ≡ after_seal (worker_view c.args.self.now.own) = search rules in
    cuts_sealed _ _ _ e c.requires.parts
