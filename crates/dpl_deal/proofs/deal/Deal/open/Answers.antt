use Rattle.std.proofs.Common.{◌≡◌, length, subst, map, rules, ℕ, All, vec_len}
use Rattle.dpl_deal.specs.declared.deal.Deal.{Deal}
use Rattle.dpl_deal.specs.Grips.{thief_deque}
use Rattle.dpl_deal.specs.Hands.{EachAt, IsArmed, IsOut, deques_of, rows_of, views_of}
use Rattle.dpl_deal.proofs.Arming.{none_taken, opened}
use Rattle.dpl_deal.proofs.deal.Deal.open.Goals as goal

pub returns-clause-hands : goal.returns-clause-hands
returns-clause-hands c =
    let n : vec_len c.spread.new.hands ≡ length c.arm_all.new.hands.items = search rules in
    let deal : Deal = record { tiles = c.args.tiles; thieves = c.in_ok-thieves.thieves; alloc = c.args.alloc } in
    let ds : map thief_deque c.in_ok-thieves.thieves.items ≡ deques_of c.arm_all.new.hands.items = c.in_ok-thieves.ensures in
    let out = c.in_ok-arm_all.ensures.views in
    let armed : All (IsArmed (deques_of c.arm_all.new.hands.items) c.args.tiles) (rows_of c.arm_all.new.hands.items) = c.in_ok-arm_all.ensures.hands in
    opened deal c.arm_all.new.hands.items ds (subst (λ (k : ℕ). EachAt (IsOut k c.args.tiles k) (views_of c.arm_all.new.hands.items)) n out) armed c.in_ok-arm_all.ensures.marks

pub returns-clause-taken : goal.returns-clause-taken
returns-clause-taken c = none_taken _ _ _ _ _ c.arm_all.new.hands.items c.in_ok-arm_all.ensures.views c.in_ok-arm_all.ensures.hands
