use Rattle.std.proofs.Common.{◌≡◌, refl, ◌∙◌}
use Rattle.std.proofs.lemmas.Result.{IfOk-from_err}
use Rattle.dpl_walk.specs.Walk.{copies_at}
use Rattle.dpl_walk.proofs.StackLaws.{copies_are}
use Rattle.dpl_walk.proofs.ShortLaws.{cell_short}
use Rattle.dpl_walk.proofs.ways.shorten_at.Goals as goal

pub all_shortened-requires-clause-ready : goal.all_shortened-requires-clause-ready
all_shortened-requires-clause-ready c =
    let e : c.items.result.now ≡ copies_at c.args.cells.now.items c.args.structure = c.items.ensures
    ∙ copies_are c.args.cells.now.items c.args.structure c.index.result.now c.requires.structure c.index.ensures in
    rw e c.requires.ready

pub all_shortened-requires-clause-known : goal.all_shortened-requires-clause-known
all_shortened-requires-clause-known c =
    let e : c.items.result.now ≡ copies_at c.args.cells.now.items c.args.structure = c.items.ensures
    ∙ copies_are c.args.cells.now.items c.args.structure c.index.result.now c.requires.structure c.index.ensures in
    rw e c.requires.known

pub returns : goal.returns
returns c =
    let e : c.items.result.now ≡ copies_at c.args.cells.now.items c.args.structure = c.items.ensures
    ∙ copies_are c.args.cells.now.items c.args.structure c.index.result.now c.requires.structure c.index.ensures in
    cell_short c.args.ways.now c.args.cells.now.items c.args.structure c.index_mut.result.now _ c.requires.structure c.index_mut.ensures.value refl (rw e at c.in_ok-short.ensures)

pub returns-in_err-short : goal.returns-in_err-short
returns-in_err-short c = IfOk-from_err _ _ c.from_residual.ensures.0
