use Rattle.std.proofs.Common.{◌<◌, length, refl, arith, inr, rules, FitsSigned, w32}
use Rattle.std.proofs.lemmas.Int.{ints}
use Rattle.std.proofs.lemmas.Bool.{false≢true}
use Rattle.dpl_tree.proofs.ItemLaws.{item-is}
use Rattle.dpl_nearest.proofs.ItemLaws.{far-first, far-more, found-sought, item-near, none-near}
use Rattle.dpl_nearest.proofs.rects.near_any.Goals as goal

pub loop-n-init : goal.loop-n-init
loop-n-init c = record {
  here = λ d l out. c.seek-n.ensures.found d l (inr out);
  far = far-first c.args.spacing c.args.owners c.args.r.now c.widened-window.result c.args.others.now c.seek-n.result c.requires.corner c.widened-window.ensures c.seek-n.ensures.passed;
}

pub near-requires-clause-solid_b : goal.near-requires-clause-solid_b
near-requires-clause-solid_b c =
    let inside : c.loop-n.n < length c.args.others.now = rw c.count.ensures at c.loop-n-test.true in
    let solid = c.requires.others _ _ (item-is c.args.others.now c.loop-n.n c.item.result inside c.item.ensures) in
    let left : FitsSigned w32 c.item.result.rect.x0 = search rules in
    let right : FitsSigned w32 c.item.result.rect.x1 = search rules in
    let low : FitsSigned w32 c.item.result.rect.y0 = search rules in
    let high : FitsSigned w32 c.item.result.rect.y1 = search rules in
    record {
      wide = solid.wide;
      tall = solid.tall;
      left = omega (arith, ints, left.sfits);
      right = omega
          (arith, ints, right.sfits);
      low = omega (arith, ints, low.sfits);
      high = omega (arith, ints, high.sfits);
    }

pub loop-n-preserved : goal.loop-n-preserved
loop-n-preserved c =
    let inside : c.loop-n.n < length c.args.others.now = rw c.count.ensures at c.loop-n-test.true in
    let near = rw (c.item.ensures c.item.result) at c.if-near.ensures in
    record {
      here = λ d l out. c.seek-n-in-loop-n.ensures.found d l (inr out);
      far = far-more c.args.spacing c.args.owners c.args.r.now c.widened-window.result c.args.others.now c.loop-n.n c.seek-n-in-loop-n.result
          _ c.requires.corner c.widened-window.ensures inside c.loop-n.invariant.far
          (λ h. false≢true (near.1 h)) c.seek-n-in-loop-n.ensures.passed;
    }

pub returns-then-near : goal.returns-then-near
returns-then-near c =
    let inside : c.loop-n.n < length c.args.others.now = rw c.count.ensures at c.loop-n-test.true in (
      λ h. item-near c.args.spacing c.args.owners c.args.r.now c.args.others.now _ _
          (item-is c.args.others.now c.loop-n.n c.item.result inside c.item.ensures) (found-sought c.args.owners c.item.result.owner
          (rw (← c.item.ensures c.item.result) at (c.loop-n.invariant.here c.item.result inside))) (c.near.ensures.0 c.if-near.true),
      λ h. refl,
    )

pub returns : goal.returns
returns c =
    let all = rw c.count.ensures at c.loop-n-test.false in
    (λ h. absurd (false≢true h), λ near. absurd (none-near c.args.spacing c.args.owners c.args.r.now c.args.others.now c.loop-n.n all c.loop-n.invariant.far near))
