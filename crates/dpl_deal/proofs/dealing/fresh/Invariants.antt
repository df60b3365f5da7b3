use Rattle.std.proofs.Common.{◌≡◌, replicate, vec_len}
use Rattle.dpl_deal.specs.Rule.{dealer}
use Rattle.dpl_deal.specs.Hands.{views_of}
use Rattle.dpl_deal.proofs.dealing.fresh.Given as goal

abbrev pub invariant-loop : goal.invariant-loop
invariant-loop l = (vec_len l.hands ≡ l.counter) × (views_of l.hands.items ≡ replicate l.counter dealer)
