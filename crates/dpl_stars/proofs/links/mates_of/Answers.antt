use Rattle.std.proofs.Common.{◌≡◌, length, take, arith}
use Rattle.std.proofs.Math.Seq.{take-length}
use Rattle.dpl_stars.specs.Links.{HasMates}
use Rattle.dpl_stars.specs.Stars.{own_row}
use Rattle.dpl_stars.proofs.Linking.{root-there, mates-step, mates-skip}
use Rattle.dpl_stars.proofs.links.mates_of.Goals as goal
use Rattle.dpl_stars.proofs.links.mates_of.Goals.{then-row, else-row}

pub place-requires : goal.place-requires
place-requires c = rw c.requires.places (root-there c.args.rows.now c.requires.rows c.loop-row.row-index (own_row 0) c.loop-row-test.true)

pub loop-row-preserved : goal.loop-row-preserved
loop-row-preserved c = elim c.if-row.branch [
  | then-row w ↦ rw w.mates-is
      (mates-step c.args.rows.now c.requires.rows c.args.places.now c.requires.places c.loop-row.row-index
      (own_row 0) c.loop-row-test.true c.loop-row.mates.items c.loop-row.invariant
      w.if-row.true _ w.place.ensures.within w.place.ensures.at)
  | else-row w ↦ rw w.mates-is
      (mates-skip c.args.rows.now c.requires.rows c.args.places.now c.requires.places c.loop-row.row-index
      (own_row 0) c.loop-row-test.true c.loop-row.mates.items c.loop-row.invariant
      w.if-row.false)
]

pub index_mut-requires : goal.index_mut-requires
index_mut-requires c =
    let within = c.place.ensures.within in
    let each = c.loop-row.invariant.each in
    let long = c.loop-row.mates.ok.0 in
    omega (arith, within, each, long)

pub returns : goal.returns
returns c =
    let all = c.loop-row-test.false in
    let end = c.loop-row.auto.row-index-end in
    let whole : c.loop-row.row-index ≡ length c.args.rows.now = omega (arith, all, end) in
    let has : HasMates c.args.places.now c.args.rows.now (take c.loop-row.row-index c.args.rows.now) c.loop-row.mates.items = c.loop-row.invariant in
    rw (whole, take-length) at has
