use Rattle.std.proofs.Common.{refl, arith}
use Rattle.std.proofs.lemmas.Result.{IfOk-from_err}
use Rattle.dpl_links.proofs.SourceLaws.{unmarked_more, unmarked_all}
use Rattle.dpl_links.proofs.sources.unmarked.Goals as goal

pub loop-k-preserved : goal.loop-k-preserved
loop-k-preserved c = unmarked_more c.args.marks.now c.loop-k.k _ c.loop-k.found.items c.note_unmarked.new.found.items refl c.in_ok-note_unmarked.ensures c.loop-k.invariant

pub returns : goal.returns
returns c = unmarked_all c.args.marks.now c.loop-k.k c.loop-k.found.items (omega (arith, c.loop-k-test.false, c.loop-k.auto.k-end)) c.loop-k.invariant

pub returns-in_err-note_unmarked : goal.returns-in_err-note_unmarked
returns-in_err-note_unmarked c = IfOk-from_err _ _ c.from_residual.ensures.0
