use Rattle.std.proofs.Common.{◌≡◌, ◌∙◌, ◌<◌, ◌++◌, ◌∷◌, [], refl, sym, ap, rules, length, get_or, map, arith}
use Rattle.std.proofs.lemmas.List.{length-map, get_or-map, take_all}
use Rattle.dpl_deal.specs.Grips.{thief_deque}
use Rattle.dpl_deal.specs.Hands.{deques_of, own_deque}
use Rattle.dpl_deal.proofs.Dealings.{map_take_next}
use Rattle.dpl_deal.proofs.dealing.thieves_of.Goals as goal

pub loop-at-preserved : goal.loop-at-preserved
loop-at-preserved c =
    let lt : c.loop-at.at < length c.args.hands.now.items = search rules in
    let is : c.index.result.now ≡ get_or c.args.hands.now.items c.loop-at.at c.index.result.now = c.index.ensures in
    let pushed : c.push.new.self.items ≡ c.loop-at.thieves.items ++ c.in_ok-thief.thief ∷ [] = c.in_ok-push.ensures.items in
    let same : thief_deque c.in_ok-thief.thief ≡ own_deque c.index.result.now = c.in_ok-thief.ensures in
    ap (map thief_deque) pushed ∙ map_take_next thief_deque c.loop-at.thieves.items c.in_ok-thief.thief
    (deques_of c.args.hands.now.items) c.loop-at.at (own_deque c.index.result.now)
    (omega (arith, lt, length-map c.args.hands.now.items own_deque)) c.loop-at.invariant
    (same ∙ ap own_deque is ∙ sym (get_or-map own_deque c.args.hands.now.items c.loop-at.at c.index.result.now (own_deque c.index.result.now) lt))

pub loop-at-init : goal.loop-at-init
loop-at-init c = rw c.new-thieves.ensures.items refl

pub returns : goal.returns
returns c =
    let past = c.loop-at-test.false in
    let len = c.len-at-end.ensures in
    let long = c.args.hands.now.ok.0 in
    c.loop-at.invariant ∙ take_all c.loop-at.at (deques_of c.args.hands.now.items)
    (omega (arith, past, len, long, length-map c.args.hands.now.items own_deque))
