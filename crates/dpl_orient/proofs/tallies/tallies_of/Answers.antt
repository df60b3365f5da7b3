use Rattle.std.proofs.Common.{◌≡◌, ◌<◌, false, length, get_or, ap, ◌∙◌, arith}
use Rattle.std.proofs.lemmas.List.{get_or_default}
use Rattle.dpl_orient.specs.declared.links.Link.{Link}
use Rattle.dpl_orient.specs.Tallies.{tally_at}
use Rattle.dpl_orient.proofs.Tallying.{tallies-none, tallies-more, tally-few}
use Rattle.dpl_orient.proofs.tallies.tallies_of.Goals as goal

pub loop-link-init : goal.loop-link-init
loop-link-init c = tallies-none _ _ (c.in_ok-tallies.ensures.items_if_clones_equal (λ y h. h))

pub more_by-requires : goal.more_by-requires
more_by-requires c =
    let none : Link = record { from = 0; to = 0; odd = false } in
    let l = get_or c.args.links.now c.loop-link.link-index none in
    let within : c.loop-link.link-index < length c.args.links.now = c.loop-link-test.true in
    let below : l.from < length c.args.flips.now = (c.requires c.loop-link.link-index none within).0 in
    let room : l.from < length c.loop-link.tallies.items = (let e = c.loop-link.invariant.len in omega (arith, below, e)) in
    let few = tally-few c.args.links.now c.args.flips.now c.loop-link.tallies.items c.loop-link.link-index l within
    (get_or_default c.args.links.now c.loop-link.link-index none l within) room c.loop-link.invariant below in
    let is : c.index.result.now ≡ tally_at c.loop-link.tallies.items l.from = c.index.ensures ∙ get_or_default c.loop-link.tallies.items l.from _ _ room in
    let d : c.index.result.now.differing ≡ (tally_at c.loop-link.tallies.items l.from).differing = ap (λ t. t.differing) is in
    let a : c.index.result.now.agreeing ≡ (tally_at c.loop-link.tallies.items l.from).agreeing = ap (λ t. t.agreeing) is in
    omega (arith, few, d, a)

pub loop-link-preserved : goal.loop-link-preserved
loop-link-preserved c =
    let none : Link = record { from = 0; to = 0; odd = false } in
    let l = get_or c.args.links.now c.loop-link.link-index none in
    let within : c.loop-link.link-index < length c.args.links.now = c.loop-link-test.true in
    let below : l.from < length c.args.flips.now = (c.requires c.loop-link.link-index none within).0 in
    let room : l.from < length c.loop-link.tallies.items = (let e = c.loop-link.invariant.len in omega (arith, below, e)) in
    let is : c.index.result.now ≡ tally_at c.loop-link.tallies.items l.from = c.index.ensures ∙ get_or_default c.loop-link.tallies.items l.from _ _ room in
    rw (c.more_by.ensures, c.differs_by.ensures, is) (tallies-more c.args.links.now c.args.flips.now c.loop-link.tallies.items c.loop-link.link-index l within
    (get_or_default c.args.links.now c.loop-link.link-index none l within) room c.loop-link.invariant)
