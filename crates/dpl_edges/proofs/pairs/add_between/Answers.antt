use Rattle.std.proofs.Common.{arith}
use Rattle.std.proofs.lemmas.Result.{IfOk-from_err}
use Rattle.dpl_edges.proofs.Finding.{between-none, between-push}
use Rattle.dpl_edges.proofs.pairs.add_between.Goals as goal

pub returns-then-first-low : goal.returns-then-first-low
returns-then-first-low c = let before = c.if-first-low.true in between-none c.args.low c.args.high c.args.edge.now c.args.edges.now.items (λ from to. omega (arith, before, from))

pub returns-then-high-first : goal.returns-then-high-first
returns-then-high-first c = let over = c.if-high-first.true in between-none c.args.low c.args.high c.args.edge.now c.args.edges.now.items (λ from to. omega (arith, over, to))

pub returns : goal.returns
returns c = between-push c.args.low c.args.high c.args.edge.now c.args.edges.now.items _ c.if-first-low.false c.if-high-first.false c.in_ok-push.ensures.items

pub returns-in_err-push : goal.returns-in_err-push
returns-in_err-push c = IfOk-from_err _ _ c.from_residual.ensures.0
