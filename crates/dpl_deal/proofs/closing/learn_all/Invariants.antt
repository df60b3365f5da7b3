use Rattle.std.proofs.Common.{◌≡◌, ◌<◌, ℕ, vec_len, get_or}
use Rattle.dpl_deal.specs.Rule.{times}
use Rattle.dpl_deal.specs.declared.view.PassView.{PassView}
use Rattle.dpl_deal.specs.Hands.{views_of}
use Rattle.dpl_deal.proofs.closing.learn_all.Given as goal

abbrev pub invariant-loop-at : goal.invariant-loop-at
invariant-loop-at l = (vec_len l.hands ≡ vec_len l.initial.hands)
    × (views_of l.hands.items ≡ views_of l.initial.hands.items)
    × ((j : ℕ) (d : PassView) (x : ℕ) → j < l.at → times x (get_or (views_of l.initial.hands.items) j d).dealt ≡ times x (get_or (views_of l.initial.hands.items) j d).took)
