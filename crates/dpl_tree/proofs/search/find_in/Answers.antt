use Rattle.std.proofs.Common.{length, arith, rules, Fits, w64, refl, IsTrue, false}
use Rattle.dpl_tree.proofs.SearchLaws.{barred-none, barred-more, run-found}
use Rattle.dpl_tree.proofs.search.find_in.Goals as goal

pub loop-i-init : goal.loop-i-init
loop-i-init g c = barred-none g.T.Bounded.block_of c.args.things.now c.args.at c.args.window.now c.args.owners

pub loop-i-preserved : goal.loop-i-preserved
loop-i-preserved g c =
    let end = c.min-end.ensures in
    barred-more g.T.Bounded.block_of c.args.things.now c.args.at c.args.window.now c.args.owners c.loop-i.i c.index-things-i.result
    c.block.result (omega (arith, end, c.loop-i-test.true))
    c.index-things-i.is c.block.ensures c.loop-i.invariant (c.if-not-is_barred.ensures.0 refl)

pub returns-then-not-is_barred : goal.returns-then-not-is_barred
returns-then-not-is_barred g c =
    let end = c.min-end.ensures in
    let low = c.loop-i.auto.i in
    run-found g.T.Bounded.block_of c.args.things.now c.args.at c.args.window.now c.args.owners c.loop-i.i c.index-things-i.result
    c.block.result (omega (arith, end, c.loop-i-test.true)) low
    c.index-things-i.is c.block.ensures c.loop-i.invariant (λ b. let e : IsTrue false = c.if-not-is_barred.ensures.1 b in let q : ⊥ = cc in q)

pub returns : goal.returns
returns g c =
    let end = c.min-end.ensures in
    let next = c.saturating_mul.ensures in
    let fits : Fits w64 (length c.args.things.now) = search rules in (
      omega (arith, end, next, fits, c.if-at-things.false),
      omega (arith, end),
      λ i d a b. c.loop-i.invariant i d a (omega (arith, b, c.loop-i-test.false)),
    )
