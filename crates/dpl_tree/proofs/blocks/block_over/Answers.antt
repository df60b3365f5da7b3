use Rattle.std.proofs.Common.{◌+◌, ◌*◌, ◌≤◌, ◌⊎◌, inl, inr, length, arith, refl, rules, Fits, w64}
use Rattle.std.proofs.lemmas.Bool.{cases_lt}
use Rattle.dpl_tree.proofs.BlockLaws.{over-first, over-more, over-all}
use Rattle.dpl_tree.proofs.blocks.block_over.Goals as goal

pub loop-i-init : goal.loop-i-init
loop-i-init g c = over-first g.T.Bounded.block_of c.args.things.now (c.args.run * 8) (c.args.run * 8 + 1) c.index-things-first.result
    c.block-block.result refl c.requires c.index-things-first.is c.block-block.ensures

pub loop-i-preserved : goal.loop-i-preserved
loop-i-preserved g c =
    let end = c.min-end.ensures in
    over-more g.T.Bounded.block_of c.args.things.now (c.args.run * 8) c.loop-i.i c.index-things-i.result c.block.result c.loop-i.block
    c.over-block.result (omega (arith, end, c.loop-i-test.true))
    c.index-things-i.is c.block.ensures c.over-block.ensures.first c.over-block.ensures.second c.loop-i.invariant

pub returns : goal.returns
returns g c =
    let end = c.min-end.ensures in
    let near = c.saturating_add.ensures in
    let fits : Fits w64 (length c.args.things.now) = search rules in
    let far : (length c.args.things.now ≤ c.loop-i.i) ⊎ (c.args.run * 8 + 8 ≤ c.loop-i.i) =
    elim (cases_lt c.loop-i.i (length c.args.things.now)) [ inl less ↦ inr (omega (arith, end, near, fits, less, c.loop-i-test.false)) | inr more ↦ inl more ] in
    over-all g.T.Bounded.block_of c.args.things.now (c.args.run * 8) c.loop-i.i c.loop-i.block far c.loop-i.invariant
