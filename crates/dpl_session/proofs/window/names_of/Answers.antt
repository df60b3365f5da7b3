use Rattle.std.proofs.Common.{arith}
use Rattle.dpl_session.proofs.Naming.{named_all, named_first, named_next, some_at}
use Rattle.dpl_session.proofs.window.names_of.Goals as goal

pub loop-r-init : goal.loop-r-init
loop-r-init c = rw c.in_ok-names.ensures.items (named_first c.args.index.now.parts c.args.slabs.now)

pub piece_in-requires-clause-some : goal.piece_in-requires-clause-some
piece_in-requires-clause-some c = some_at c.args.index.now.parts c.args.slabs.now c.loop-r.r-index _ c.requires.solid c.requires.inside c.loop-r-test.true

pub loop-r-preserved : goal.loop-r-preserved
loop-r-preserved c = rw c.in_ok-push.ensures.items (named_next c.args.index.now.parts c.args.slabs.now c.loop-r.names.items c.loop-r.r-index _ c.piece_in.result
    c.requires.whole c.requires.inside c.loop-r-test.true
    c.piece_in.ensures.known c.piece_in.ensures.common c.loop-r.invariant)

pub returns : goal.returns
returns c = named_all c.args.index.now.parts c.args.slabs.now c.loop-r.names.items c.loop-r.r-index (omega arith) c.loop-r.invariant
