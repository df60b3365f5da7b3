use Rattle.std.proofs.Common.{◌≡◌, ◌∙◌, ◌<◌, ◌≤◌, true, sym, ap, subst, rules, length, get_or, arith, All}
use Rattle.std.proofs.lemmas.List.{length-map}
use Rattle.dpl_deal.specs.declared.view.PassView.{PassView}
use Rattle.dpl_deal.specs.Rule.{times}
use Rattle.dpl_deal.specs.Hands.{own_view, views_of}
use Rattle.dpl_deal.proofs.Takings.{map_put}
use Rattle.dpl_deal.proofs.Dealings.{at_owner, learnt_more, total_same, view_here}
use Rattle.dpl_deal.proofs.closing.learn_all.Goals as goal

pub learn-requires-clause-parts : goal.learn-requires-clause-parts
learn-requires-clause-parts c =
    let lt : c.loop-at.at < length c.loop-at.hands.items = search rules in
    let is : c.index_mut.result.now ≡ get_or c.loop-at.hands.items c.loop-at.at c.index_mut.result.now = c.index_mut.ensures.value in
    (at_owner (λ v. (v.parts ≡ 1024) × (v.ended ≡ true)) c.loop-at.hands.items c.loop-at.at c.index_mut.result.now lt is
    (subst (All (λ (v : PassView). (v.parts ≡ 1024) × (v.ended ≡ true))) (sym c.loop-at.invariant.1) c.requires.views)).0

pub learn-requires-clause-ended : goal.learn-requires-clause-ended
learn-requires-clause-ended c =
    let lt : c.loop-at.at < length c.loop-at.hands.items = search rules in
    let is : c.index_mut.result.now ≡ get_or c.loop-at.hands.items c.loop-at.at c.index_mut.result.now = c.index_mut.ensures.value in
    (at_owner (λ v. (v.parts ≡ 1024) × (v.ended ≡ true)) c.loop-at.hands.items c.loop-at.at c.index_mut.result.now lt is
    (subst (All (λ (v : PassView). (v.parts ≡ 1024) × (v.ended ≡ true))) (sym c.loop-at.invariant.1) c.requires.views)).1

pub loop-at-preserved : goal.loop-at-preserved
loop-at-preserved c =
    let lt : c.loop-at.at < length c.loop-at.hands.items = search rules in
    let is : c.index_mut.result.now ≡ get_or c.loop-at.hands.items c.loop-at.at c.index_mut.result.now = c.index_mut.ensures.value in
    let v = own_view c.index_mut.result.now in (
      c.loop-at.invariant.0,
      map_put own_view c.loop-at.hands.items c.loop-at.at c.index_mut.result.now c.learn.new.self lt is c.learn.ensures.same ∙ c.loop-at.invariant.1,
      learnt_more (views_of c.args.hands.now.items) c.loop-at.at v
          (view_here c.loop-at.hands.items c.loop-at.at c.index_mut.result.now v lt is ∙ ap (λ l. get_or l c.loop-at.at v) c.loop-at.invariant.1)
          (omega (arith, lt, length-map c.loop-at.hands.items own_view, ap length c.loop-at.invariant.1))
          c.learn.ensures.all c.loop-at.invariant.2,
    )

pub returns : goal.returns
returns c = λ x. total_same (λ v. times x v.dealt) (λ v. times x v.took) (views_of c.args.hands.now.items) (λ j d lt.
    let le : length c.args.hands.now.items ≤ c.loop-at.at = search rules in
    c.loop-at.invariant.2 j d x (omega (arith, lt, le, length-map c.args.hands.now.items own_view)))
