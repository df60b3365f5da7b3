use Rattle.std.proofs.Common.{arith}
use Rattle.std.proofs.lemmas.Result.{IfOk-from_err}
use Rattle.dpl_tile.proofs.Adding.{adds-none}
use Rattle.dpl_edges.proofs.Finding.{IsDealtIn, dealt-all, dealt-more, dealt-past, strip-known}
use Rattle.dpl_edges.proofs.pairs.dealt_edges.Goals as goal
use Rattle.dpl_edges.proofs.pairs.dealt_edges.Goals.{then-strip-workers+in_ok-pairs+in_ok-add_edges, else-strip-workers}

pub loop-strip-init : goal.loop-strip-init
loop-strip-init c = adds-none (IsDealtIn c.args.spacing c.args.owners.now c.args.join.now c.args.workers c.args.worker) 0 _ (λ m e l k. omega (arith, l))

pub add_edges-requires-clause-known : goal.add_edges-requires-clause-known
add_edges-requires-clause-known c = rw (c.items-items.ensures, c.as_slice.ensures.value)
    (strip-known c.args.join.now c.loop-strip.strip c.in_ok-pairs.pairs.items c.in_ok-pairs.ensures)

pub loop-strip-preserved : goal.loop-strip-preserved
loop-strip-preserved c = elim c.if-strip-workers.branch [
  | then-strip-workers+in_ok-pairs+in_ok-add_edges w ↦ rw w.found-is
      (dealt-more c.args.spacing c.args.owners.now c.args.join.now c.args.workers c.args.worker c.loop-strip.strip w.in_ok-pairs.pairs.items _
      c.loop-strip.found.items w.add_edges.new.found.items w.if-strip-workers.true w.in_ok-pairs.ensures c.loop-strip.invariant
      (rw (c.items-items.ensures, w.as_slice.ensures.value) at w.in_ok-add_edges.ensures))
  | else-strip-workers w ↦ rw w.found-is
      (dealt-past c.args.spacing c.args.owners.now c.args.join.now c.args.workers c.args.worker c.loop-strip.strip _ c.loop-strip.found.items
      w.if-strip-workers.false c.loop-strip.invariant)
]

pub returns : goal.returns
returns c =
    let end = c.loop-strip-test.false in
    let count = c.strips-count.ensures.count in
    dealt-all c.args.spacing c.args.owners.now c.args.join.now c.args.workers c.args.worker c.loop-strip.strip _ c.loop-strip.found.items
    c.strips-count.ensures.homes (omega (arith, end, count)) c.new-found.ensures.items c.loop-strip.invariant

pub returns-in_err-pairs : goal.returns-in_err-pairs
returns-in_err-pairs c = IfOk-from_err _ _ c.from_residual.ensures.0

pub returns-in_err-add_edges : goal.returns-in_err-add_edges
returns-in_err-add_edges c = IfOk-from_err _ _ c.from_residual-in_err-add_edges.ensures.0
