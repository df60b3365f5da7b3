use Rattle.std.proofs.Common.{◌≡◌, arith}
use Rattle.std.proofs.lemmas.Result.{IfOk-from_err}
use Rattle.dpl_zone.specs.Ways.{IsItemZone}
use Rattle.dpl_zone.proofs.SharedLaws.{of-more, of-none}
use Rattle.dpl_zone.proofs.slab_zones.zones_between.Goals as goal

pub loop-n-init : goal.loop-n-init
loop-n-init c = (
  of-none (IsItemZone c.args.shades.now.spacing c.args.shades.now.overlap c.args.items.now) c.args.items.now c.args.start _ c.new-zones.ensures.items,
  rw c.deref.ensures.value at c.portion_start-place.ensures,
)

pub portion_start-place-requires : goal.portion_start-place-requires
portion_start-place-requires c = rw c.deref.ensures.value c.requires.shades.rise

pub portion_from-at-requires-clause-rise : goal.portion_from-at-requires-clause-rise
portion_from-at-requires-clause-rise c = rw c.deref-in-loop-n.ensures.value c.requires.shades.rise

pub portion_from-at-requires-clause-start : goal.portion_from-at-requires-clause-start
portion_from-at-requires-clause-start c = rw c.deref-in-loop-n.ensures.value c.loop-n.invariant.1

pub add_item-requires-clause-known : goal.add_item-requires-clause-known
add_item-requires-clause-known c =
    let own = c.portion_from-at.ensures.number in
    let inside = c.loop-n-test.true in
    let known = c.requires.known in
    omega (arith, own, inside, known)

pub add_item-requires-clause-portion : goal.add_item-requires-clause-portion
add_item-requires-clause-portion c = rw c.deref-in-loop-n.ensures.value at c.portion_from-at.ensures.portion

pub loop-n-preserved : goal.loop-n-preserved
loop-n-preserved c =
    let own : c.portion_from-at.result.number ≡ c.loop-n.n = c.portion_from-at.ensures.number in (
      of-more (IsItemZone c.args.shades.now.spacing c.args.shades.now.overlap c.args.items.now) c.args.items.now c.args.start c.loop-n.n c.loop-n.zones.items _ (omega arith) c.loop-n.invariant.0
          (rw own at c.in_ok-add_item.ensures),
      rw (c.deref-in-loop-n.ensures.value, own) at c.portion_from-at.ensures.portion.end,
    )

pub returns : goal.returns
returns c =
    let e : c.loop-n.n ≡ c.args.end = omega arith in
    rw e at c.loop-n.invariant.0

pub returns-in_err-add_item : goal.returns-in_err-add_item
returns-in_err-add_item c = IfOk-from_err _ _ c.from_residual.ensures.0
