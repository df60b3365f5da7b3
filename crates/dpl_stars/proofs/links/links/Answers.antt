use Rattle.std.proofs.Common.{◌≡◌, ◌∙◌, inl, length, take, arith}
use Rattle.std.proofs.lemmas.List.Elements.{Contains-get_or}
use Rattle.std.proofs.Math.Seq.{take-length}
use Rattle.dpl_stars.specs.Stars.{own_row}
use Rattle.dpl_stars.specs.Links.{AreLinks}
use Rattle.dpl_stars.proofs.Linking.{pieces-rising, root-there, mate-next, next-apart, links-none, links-step, links-skip}
use Rattle.dpl_stars.proofs.links.links.Goals as goal
use Rattle.dpl_stars.proofs.links.links.Goals.{then-row+in_ok-push, then-row-2, else-row-2, else-row}

pub of-requires : goal.of-requires
of-requires c = rw c.in_ok-pieces_of.ensures (pieces-rising c.args.rows.now c.requires)

pub place-requires : goal.place-requires
place-requires c = rw (c.in_ok-places.ensures, c.in_ok-pieces_of.ensures) (root-there c.args.rows.now c.requires c.loop-row.row-index (own_row 0) c.loop-row-test.true)

pub edge-requires : goal.edge-requires
edge-requires c =
    let row_in = Contains-get_or c.args.rows.now c.loop-row.row-index (own_row 0) c.loop-row-test.true in
    next-apart c.args.rows.now c.requires _ row_in c.if-row.true c.if-row-2.other
    (elim c.if-row-2.branch [
      | then-row-2 w ↦ inl (w.if-row-2.true, w.other-is)
      | else-row-2 w ↦ rw w.other-is
          (mate-next c.args.rows.now c.requires _ row_in c.in_ok-places.places c.in_ok-mates.mates.items c.in_ok-mates.ensures
          w.if-row-2.false _ w.place.ensures.within w.place.ensures.at _ _ w.index.ensures)
    ])

pub loop-row-init : goal.loop-row-init
loop-row-init c = rw c.in_ok-links.ensures.items (links-none _)

pub loop-row-preserved : goal.loop-row-preserved
loop-row-preserved c = elim c.if-row.branch [
  | then-row+in_ok-push w ↦
      let row_in = Contains-get_or c.args.rows.now c.loop-row.row-index (own_row 0) c.loop-row-test.true in
      rw (w.links-is, w.in_ok-push.ensures.items)
      (links-step c.args.rows.now c.loop-row.links.items c.requires c.loop-row.row-index (own_row 0) c.loop-row-test.true c.loop-row.invariant _ w.if-row-2.other
      (elim w.if-row-2.branch [
        | then-row-2 v ↦ inl (v.if-row-2.true, v.other-is)
        | else-row-2 v ↦ rw v.other-is
            (mate-next c.args.rows.now c.requires _ row_in c.in_ok-places.places c.in_ok-mates.mates.items c.in_ok-mates.ensures
            v.if-row-2.false _ v.place.ensures.within v.place.ensures.at _ _ v.index.ensures)
      ])
      w.edge.ensures.joins w.edge.ensures.rising)
  | else-row w ↦ rw w.links-is (links-skip c.args.rows.now c.loop-row.links.items c.requires c.loop-row.row-index
      (own_row 0) c.loop-row-test.true c.loop-row.invariant w.if-row.false)
]

pub mates_of-requires-clause-rows : goal.mates_of-requires-clause-rows
mates_of-requires-clause-rows c = c.requires

pub mates_of-requires-clause-places : goal.mates_of-requires-clause-places
mates_of-requires-clause-places c = c.in_ok-places.ensures ∙ c.in_ok-pieces_of.ensures

pub index-requires : goal.index-requires
index-requires c =
    let within = c.place.ensures.within in
    let each = c.in_ok-mates.ensures.each in
    let long = c.in_ok-mates.mates.ok.0 in
    omega (arith, within, each, long)

pub returns : goal.returns
returns c =
    let all = c.loop-row-test.false in
    let end = c.loop-row.auto.row-index-end in
    let whole : c.loop-row.row-index ≡ length c.args.rows.now = omega (arith, all, end) in
    let are : AreLinks c.args.rows.now (take c.loop-row.row-index c.args.rows.now) c.loop-row.links.items = c.loop-row.invariant in
    rw (whole, take-length) at are
