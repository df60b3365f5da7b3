use Rattle.std.proofs.Common.{get_or, inl, inr}
use Rattle.std.proofs.lemmas.List.Elements.{Contains-get_or}
use Rattle.dpl_stars.proofs.PlaceLaws.{placed-next, placed-none}
use Rattle.dpl_stars.proofs.places.placed.Goals as goal

pub place-requires : goal.place-requires
place-requires c = (c.requires.touched.exactly (get_or c.args.edges.now c.loop-edge.edge-index (0, 0)).0).1 (
  (get_or c.args.edges.now c.loop-edge.edge-index (0, 0)).1,
  inl (Contains-get_or c.args.edges.now c.loop-edge.edge-index (0, 0) c.loop-edge-test.true),
)

pub place-requires-in-loop-edge : goal.place-requires-in-loop-edge
place-requires-in-loop-edge c = (c.requires.touched.exactly (get_or c.args.edges.now c.loop-edge.edge-index (0, 0)).1).1 (
  (get_or c.args.edges.now c.loop-edge.edge-index (0, 0)).0,
  inr (Contains-get_or c.args.edges.now c.loop-edge.edge-index (0, 0) c.loop-edge-test.true),
)

pub loop-edge-init : goal.loop-edge-init
loop-edge-init c = rw c.in_ok-placed.ensures.items (placed-none _)

pub loop-edge-preserved : goal.loop-edge-preserved
loop-edge-preserved c =
    rw c.in_ok-push.ensures.items
    (placed-next c.args.places.now c.args.edges.now c.loop-edge.placed.items c.loop-edge.edge-index _ _
    (0, 0) c.requires.touched.rising c.loop-edge-test.true c.loop-edge.invariant c.requires.pairs
    c.place.ensures.within c.place-in-loop-edge.ensures.within c.place.ensures.at c.place-in-loop-edge.ensures.at)
