use Rattle.std.proofs.Common.{◌≡◌, ◌<◌, ◌%◌, refl, rules, length, get_or, ap, vec_len, ℕ}
use Rattle.dpl_deal.specs.Rule.{after_deal}
use Rattle.dpl_deal.specs.Hands.{own_view}
use Rattle.dpl_deal.proofs.Arming.{here_dealing, spread_start, spread_step}
use Rattle.dpl_deal.proofs.dealing.spread.Goals as goal

pub loop-tile-init : goal.loop-tile-init
loop-tile-init c = (refl, spread_start _ _ _ c.requires.fresh)

pub deal-requires-clause-dealing : goal.deal-requires-clause-dealing
deal-requires-clause-dealing c =
    let lt : c.loop-tile.tile % c.len.result < length c.loop-tile.hands.items = search rules in
    let is : c.index_mut.result.now ≡ get_or c.loop-tile.hands.items (c.loop-tile.tile % c.len.result) c.index_mut.result.now = c.index_mut.ensures.value in
    let d = here_dealing _ _ c.loop-tile.hands.items _ c.index_mut.result.now lt is c.loop-tile.invariant.1 in (d.parts, d.due, d.ended)

pub deal-requires-clause-rising : goal.deal-requires-clause-rising
deal-requires-clause-rising c =
    let lt : c.loop-tile.tile % c.len.result < length c.loop-tile.hands.items = search rules in
    let is : c.index_mut.result.now ≡ get_or c.loop-tile.hands.items (c.loop-tile.tile % c.len.result) c.index_mut.result.now = c.index_mut.ensures.value in
    let d = here_dealing _ _ c.loop-tile.hands.items _ c.index_mut.result.now lt is c.loop-tile.invariant.1 in d.limit

pub loop-tile-preserved : goal.loop-tile-preserved
loop-tile-preserved c =
    let lt : c.loop-tile.tile % c.len.result < length c.loop-tile.hands.items = search rules in
    let is : c.index_mut.result.now ≡ get_or c.loop-tile.hands.items (c.loop-tile.tile % c.len.result) c.index_mut.result.now = c.index_mut.ensures.value in
    let w : own_view c.deal.new.self ≡ after_deal (own_view c.index_mut.result.now) c.loop-tile.tile = c.in_ok-deal.ensures.dealt in
    let n : c.len.result ≡ vec_len c.args.hands.now = search rules in
    let at : c.loop-tile.tile % c.len.result ≡ c.loop-tile.tile % vec_len c.args.hands.now = ap (λ (k : ℕ). c.loop-tile.tile % k) n in (
      c.loop-tile.invariant.0,
      spread_step c.loop-tile.tile (vec_len c.args.hands.now) c.loop-tile.hands.items _ c.index_mut.result.now
          c.deal.new.self lt at is c.loop-tile.invariant.1 w,
    )
