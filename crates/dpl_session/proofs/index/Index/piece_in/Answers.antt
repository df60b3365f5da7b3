use Rattle.std.proofs.Common.{◌<◌, ℕ, List, length}
use Rattle.dpl_tree.specs.declared.items.Item.{Item}
use Rattle.dpl_session.proofs.Seeking.{meets_seek, seek_meets}
use Rattle.dpl_session.proofs.index.Index.piece_in.Goals as goal

pub item-item-requires : goal.item-item-requires
item-item-requires c = seek_meets c.args.r.now c.self.inside.pieces.now.parts c.self.inside.tree c.seek-n.result c.self.invariant.0 (rw c.of-window.ensures at c.seek-n.ensures.passed)
    (rw (← c.self.view_is) at c.requires.some)

pub returns-clause-known : goal.returns-clause-known
returns-clause-known c =
    let items : List Item = c.self.inside.tree in
    let n : ℕ = c.seek-n.result in
    let n_in : n < length items = seek_meets c.args.r.now c.self.inside.pieces.now.parts items n c.self.invariant.0
    (rw c.of-window.ensures at c.seek-n.ensures.passed) (rw (← c.self.view_is) at c.requires.some) in
    let missed = rw (c.of-window.ensures, ← c.item-item.ensures c.item-item.result) at (c.seek-n.ensures.found c.item-item.result n_in) in
    rw (← c.self.view_is) (meets_seek c.args.r.now c.self.inside.pieces.now.parts items n c.item-item.result c.requires.solid c.self.invariant.1 c.self.invariant.0
    n_in (c.item-item.ensures c.item-item.result) missed).0

pub returns-clause-common : goal.returns-clause-common
returns-clause-common c =
    let items : List Item = c.self.inside.tree in
    let n : ℕ = c.seek-n.result in
    let n_in : n < length items = seek_meets c.args.r.now c.self.inside.pieces.now.parts items n c.self.invariant.0
    (rw c.of-window.ensures at c.seek-n.ensures.passed) (rw (← c.self.view_is) at c.requires.some) in
    let missed = rw (c.of-window.ensures, ← c.item-item.ensures c.item-item.result) at (c.seek-n.ensures.found c.item-item.result n_in) in
    rw (← c.self.view_is) (meets_seek c.args.r.now c.self.inside.pieces.now.parts items n c.item-item.result c.requires.solid c.self.invariant.1 c.self.invariant.0
    n_in (c.item-item.ensures c.item-item.result) missed).1
