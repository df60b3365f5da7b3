use Rattle.std.proofs.Common.{◌≡◌, length, map, sym, ap, ◌∙◌, subst}
use Rattle.std.proofs.lemmas.List.{take_all}
use Rattle.dpl_orient.specs.Masks.{is_second}
use Rattle.dpl_orient.specs.Links.{links_of, AreLinksBelow}
use Rattle.dpl_orient.proofs.Linked.{links-across, links-within, links-below}
use Rattle.dpl_orient.proofs.links.links.Goals as goal
use Rattle.dpl_orient.proofs.links.links.Goals.{then-is_across+in_ok-push+in_ok-push-2, else-is_across}

pub returns-clause-below : goal.returns-clause-below
returns-clause-below c =
    let whole : c.loop-side.links.items ≡ links_of c.args.chart.now (map is_second c.args.masks.now) c.args.sides.now =
    c.loop-side.invariant ∙ ap (links_of c.args.chart.now (map is_second c.args.masks.now))
    (take_all c.loop-side.side-index c.args.sides.now c.loop-side-test.false) in
    subst (AreLinksBelow (length c.args.chart.now)) (sym whole) (links-below c.args.chart.now
    (map is_second c.args.masks.now) c.args.sides.now c.requires.low c.requires.sides)

pub loop-side-init : goal.loop-side-init
loop-side-init c = c.in_ok-links.ensures.items

pub link_of-requires-clause-first : goal.link_of-requires-clause-first
link_of-requires-clause-first c = (c.requires.sides c.loop-side.side-index (0, 0) c.loop-side-test.true).0

pub link_of-requires-clause-second : goal.link_of-requires-clause-second
link_of-requires-clause-second c = (c.requires.sides c.loop-side.side-index (0, 0) c.loop-side-test.true).1

pub link_of-requires-clause-each : goal.link_of-requires-clause-each
link_of-requires-clause-each c = c.requires.each

pub link_of-requires-then-is_across-clause-first : goal.link_of-requires-then-is_across-clause-first
link_of-requires-then-is_across-clause-first c = (c.requires.sides c.loop-side.side-index (0, 0) c.loop-side-test.true).1

pub link_of-requires-then-is_across-clause-second : goal.link_of-requires-then-is_across-clause-second
link_of-requires-then-is_across-clause-second c = (c.requires.sides c.loop-side.side-index (0, 0) c.loop-side-test.true).0

pub link_of-requires-then-is_across-clause-each : goal.link_of-requires-then-is_across-clause-each
link_of-requires-then-is_across-clause-each c = c.requires.each

pub loop-side-preserved : goal.loop-side-preserved
loop-side-preserved c =
    let colours = map is_second c.args.masks.now in
    elim c.if-is_across.branch [
      | then-is_across+in_ok-push+in_ok-push-2 w ↦
          rw (w.links-is, w.in_ok-push-2.ensures.items, w.in_ok-push.ensures.items, w.link_of-then-is_across.ensures, w.link_of.ensures, c.loop-side.invariant)
          (sym (links-across c.args.chart.now colours c.args.sides.now c.loop-side.side-index c.loop-side-test.true (sym c.is_across.ensures ∙ w.if-is_across.true)))
      | else-is_across w ↦
          rw (w.links-is, c.loop-side.invariant)
          (sym (links-within c.args.chart.now colours c.args.sides.now c.loop-side.side-index c.loop-side-test.true (sym c.is_across.ensures ∙ w.if-is_across.false)))
    ]

pub returns-clause-links : goal.returns-clause-links
returns-clause-links c =
    c.loop-side.invariant ∙ ap (links_of c.args.chart.now (map is_second c.args.masks.now))
    (take_all c.loop-side.side-index c.args.sides.now c.loop-side-test.false)
