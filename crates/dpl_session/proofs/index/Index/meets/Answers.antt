use Rattle.std.proofs.Common.{List, length, get_or}
use Rattle.std.specs.Prelude.{◌↔◌, IsTrue, nat_lt}
use Rattle.std.proofs.lemmas.Bool.{lt-ltb, ltb-true}
use Rattle.std.proofs.lemmas.List.{get_or_default}
use Rattle.dpl_spec_split.specs.declared.Rect.{Rect}
use Rattle.dpl_slabs.specs.Parts.{union_of}
use Rattle.dpl_tree.specs.declared.items.Item.{Item}
use Rattle.dpl_session.specs.Tiles.{IsOccupied}
use Rattle.dpl_session.proofs.Seeking.{in_union, meets_seek, no_item, seek_meets}
use Rattle.dpl_session.proofs.index.Index.meets.Goals as goal

pub returns : goal.returns
returns c =
    let items : List Item = c.self.inside.tree in
    let parts : List (List Rect) = c.self.inside.pieces.now.parts in
    let w : Rect = c.args.cell.now in
    let both : IsTrue (nat_lt c.seek-n.result (length items)) ↔ IsOccupied (union_of parts) w = (
      λ t. (
          let n_in = ltb-true c.seek-n.result (length items) t in
          let item : Item = get_or items c.seek-n.result no_item in
          let found = meets_seek w parts items c.seek-n.result item c.requires c.self.invariant.1 c.self.invariant.0
          n_in (get_or_default items c.seek-n.result no_item item n_in) (c.seek-n.ensures.found no_item n_in) in
          in_union w parts item.owner found.0 found.1),
      λ some. lt-ltb c.seek-n.result (length items) (seek_meets w parts items c.seek-n.result c.self.invariant.0 c.seek-n.ensures.passed some),
    ) in
    rw (c.count-count.ensures, ← c.self.view_is) both
