use Rattle.std.proofs.Common.{◌≡◌, ◌<◌, ◌++◌, ◌∷◌, [], length, ap, arith, rules}
use Rattle.std.proofs.lemmas.List.{length_push}
use Rattle.dpl_shade.proofs.DealtLaws.{last-share, put-all, put-more, put-none, share-sized}
use Rattle.dpl_shade.proofs.dealt.all_dealt.Goals as goal

pub loop-share-init : goal.loop-share-init
loop-share-init g c =
    let len : length c.in_ok-shares.shares.items ≡ c.workers_for-count.result = omega (arith, c.in_ok-shares.shares.ok.0, c.in_ok-shares.ensures.len) in
    put-none c.args.join.now c.args.known c.workers_for-count.result c.in_ok-shares.shares.items len c.workers_for-count.ensures c.requires.sound
    (λ k d l. let at : k < c.workers_for-count.result = omega (arith, l, len) in search rules)

pub loop-share-smaller : goal.loop-share-smaller
loop-share-smaller g c =
    let is : c.loop-share.shares.items ≡ c.pop.new.self.items ++ c.in-Some.share ∷ [] = c.in-Some.ensures.items in
    omega (arith, ap length is, length_push c.pop.new.self.items c.in-Some.share)

pub add_found-requires : goal.add_found-requires
add_found-requires g c = share-sized c.args.join.now c.args.known (length c.pop.new.self.items) c.workers_for-count.result c.in_ok-share.field-0 c.loop-share.shades
    (last-share c.args.join.now c.args.known c.workers_for-count.result c.loop-share.shares.items c.pop.new.self.items c.in-Some.share c.in_ok-share.field-0 c.loop-share.shades
    c.in-Some.ensures.items c.in_ok-share.was c.loop-share.invariant)
    c.loop-share.invariant.sound

pub loop-share-preserved : goal.loop-share-preserved
loop-share-preserved g c = put-more c.args.join.now c.args.known c.workers_for-count.result c.loop-share.shares.items c.pop.new.self.items c.in-Some.share c.in_ok-share.field-0
    c.loop-share.shades c.add_found.new.shades c.in-Some.ensures.items c.in_ok-share.was c.in_ok-add_found.ensures c.loop-share.invariant

pub returns-clause-sound : goal.returns-clause-sound
returns-clause-sound g c = c.loop-share.invariant.sound

pub returns-clause-more : goal.returns-clause-more
returns-clause-more g c = c.loop-share.invariant.more

pub returns-clause-handles : goal.returns-clause-handles
returns-clause-handles g c =
    let none : length c.loop-share.shares.items ≡ 0 = search rules in
    put-all c.args.join.now c.args.known c.workers_for-count.result c.loop-share.shares.items c.loop-share.shades none c.loop-share.invariant
