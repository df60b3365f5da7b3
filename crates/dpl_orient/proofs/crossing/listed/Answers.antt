use Rattle.std.proofs.Common.{ap, sym, ◌∙◌}
use Rattle.std.proofs.lemmas.List.{take_all}
use Rattle.dpl_orient.specs.Crossings.{crossings_of}
use Rattle.dpl_orient.proofs.Numbers.{listed-across, listed-within}
use Rattle.dpl_orient.proofs.crossing.listed.Goals as goal
use Rattle.dpl_orient.proofs.crossing.listed.Goals.{then-is_across+in_ok-later+in_ok-zone+in_ok-push, else-is_across}

pub loop-zone-preserved : goal.loop-zone-preserved
loop-zone-preserved c = elim c.if-is_across.branch [
  | then-is_across+in_ok-later+in_ok-zone+in_ok-push w ↦ rw (w.across-is, w.in_ok-push.ensures.items, w.in_ok-zone.ensures.same)
      (listed-across c.args.chart.now c.args.sides.now c.loop-zone.zone _ c.loop-zone-test.true c.loop-zone.invariant _
      (sym c.is_across.ensures ∙ w.if-is_across.true) (w.in_ok-later.ensures.same ∙ ap (λ x. x.later) w.crossing_at.ensures))
  | else-is_across w ↦ rw w.across-is
      (listed-within c.args.chart.now c.args.sides.now c.loop-zone.zone _ c.loop-zone-test.true c.loop-zone.invariant
      (sym c.is_across.ensures ∙ w.if-is_across.false))
]

pub returns-clause-later : goal.returns-clause-later
returns-clause-later c = c.loop-zone.invariant.later

pub returns-clause-crossings : goal.returns-clause-crossings
returns-clause-crossings c =
    c.loop-zone.invariant.same ∙ ap (crossings_of c.args.chart.now) (take_all c.loop-zone.zone c.args.sides.now c.loop-zone-test.false)
