use Rattle.std.proofs.Common.{arith}
use Rattle.dpl_shade.proofs.ShadingLaws.{rows-spans, spans-more, spans-none, tall-spans}
use Rattle.dpl_shade.proofs.shades.list_rows.Goals as goal

pub loop-s-init : goal.loop-s-init
loop-s-init c = spans-none _ _ c.clear.ensures.items

pub loop-s-preserved : goal.loop-s-preserved
loop-s-preserved c = spans-more _ c.loop-s.s-index _ c.loop-s.spans.items _ c.in_ok-push.ensures.items c.loop-s-test.true c.loop-s.invariant

pub returns-clause-tall : goal.returns-clause-tall
returns-clause-tall c = tall-spans c.args.found.now _ c.args.at.number c.loop-s.s-index c.loop-s.spans.items (omega arith) (omega arith) c.shades_at-shades.ensures c.loop-s.invariant c.requires.tall

pub returns-clause-rows : goal.returns-clause-rows
returns-clause-rows c = rows-spans c.args.found.now _ c.args.at.number c.loop-s.s-index c.loop-s.spans.items (omega arith) (omega arith) c.shades_at-shades.ensures c.loop-s.invariant
