use Rattle.dpl_session.proofs.Naming.{names_known}
use Rattle.dpl_session.proofs.window.window_of.Goals as goal

pub names_of-requires-clause-inside : goal.names_of-requires-clause-inside
names_of-requires-clause-inside c = rw c.rects.ensures.value (λ p h. ((c.in_ok-slabs.ensures.covers p).0 h).0)

pub labels_of-requires-clause-names : goal.labels_of-requires-clause-names
labels_of-requires-clause-names c = rw (c.deref.ensures.value, c.owners.ensures.value)
    (names_known c.args.index.now.parts c.rects.result.now c.in_ok-names.names.items c.args.index.now.owners c.owners.ensures.each c.in_ok-names.ensures)
