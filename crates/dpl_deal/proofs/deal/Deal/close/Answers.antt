use Rattle.std.proofs.Common.{◌≡◌, ◌∙◌, true, sym, ap, subst, All}
use Rattle.dpl_deal.specs.declared.view.PassView.{PassView}
use Rattle.dpl_deal.specs.Hands.{dealt_times, took_times}
use Rattle.dpl_deal.proofs.Arming.{closed, hands_rows, ready}
use Rattle.dpl_deal.proofs.deal.Deal.close.Goals as goal

pub join_rows-requires : goal.join_rows-requires
join_rows-requires c = record { rows = hands_rows c.args.self c.args.hands.items c.requires.all }

pub learn_all-requires : goal.learn_all-requires
learn_all-requires c = record {
  views = subst (All (λ (v : PassView). (v.parts ≡ 1024) × (v.ended ≡ true))) (sym c.join_rows.ensures.views)
      (ready c.args.self c.args.hands.items c.requires.all c.requires.done.0 c.requires.done.1 c.requires.done.2);
}

pub returns : goal.returns
returns c = closed c.args.self c.args.hands.items c.requires.all c.requires.done.0 c.requires.done.1
    (λ x. ap (dealt_times x) (sym c.join_rows.ensures.views) ∙ c.learn_all.ensures x ∙ ap (took_times x) c.join_rows.ensures.views)
