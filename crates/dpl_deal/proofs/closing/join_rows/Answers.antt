use Rattle.std.proofs.Common.{◌≡◌, ◌∙◌, ◌<◌, sym, ap, rules, length, arith, vec_len}
use Rattle.std.proofs.lemmas.List.{length-map}
use Rattle.dpl_deal.specs.Hands.{own_deque}
use Rattle.dpl_deal.proofs.Arming.{join_next, row_fits}
use Rattle.dpl_deal.proofs.closing.join_rows.Goals as goal

pub join_row-requires : goal.join_row-requires
join_row-requires c =
    let lt : c.loop-at.at < length c.args.hands.now.items = search rules in
    let n : vec_len c.args.hands.now ≡ length c.args.hands.now.items = search rules in
    record {
      deques = row_fits c.args.hands.now.items c.loop-at.hands.items c.loop-at.at c.take_row-row.result.items lt
          (λ j d le jlt. c.loop-at.invariant.3 j d le (omega (arith, jlt, n)))
          (λ d. ap (λ v. v.items) (c.take_row-row.ensures.row d)) c.requires.rows ∙ sym (c.take_row-row.ensures.deques ∙ c.loop-at.invariant.2);
    }

pub loop-at-preserved : goal.loop-at-preserved
loop-at-preserved c =
    let lt : c.loop-at.at < length c.args.hands.now.items = search rules in
    let n : vec_len c.args.hands.now ≡ length c.args.hands.now.items = search rules in
    let m : vec_len c.join_row.new.hands ≡ length c.join_row.new.hands.items = search rules in
    let r = join_next c.args.hands.now.items c.loop-at.hands.items c.take_row-row.new.hands.items c.join_row.new.hands.items
    c.take_row-row.result.items c.loop-at.at lt c.loop-at.invariant.1 c.loop-at.invariant.2
    (λ j d le jlt. c.loop-at.invariant.3 j d le (omega (arith, jlt, n)))
    (λ d. ap (λ v. v.items) (c.take_row-row.ensures.row d)) c.take_row-row.ensures.views c.take_row-row.ensures.deques
    c.take_row-row.ensures.rows c.join_row.ensures.deques c.join_row.ensures.views c.join_row.ensures.rows in
    let ds = c.join_row.ensures.deques ∙ c.take_row-row.ensures.deques ∙ c.loop-at.invariant.2 in (
      omega (arith, n, m, ap length ds, length-map c.join_row.new.hands.items own_deque, length-map c.args.hands.now.items own_deque),
      r.0,
      ds,
      λ j d le jlt. r.1 j d le (omega (arith, jlt, n)),
    )
