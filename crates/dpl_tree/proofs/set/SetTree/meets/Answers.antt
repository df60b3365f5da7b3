use Rattle.std.proofs.Common.{List, length}
use Rattle.std.specs.Prelude.{◌↔◌, IsTrue, nat_lt, pos}
use Rattle.std.proofs.lemmas.Bool.{lt-ltb, ltb-true}
use Rattle.dpl_spec_split.specs.declared.Pt.{Pt}
use Rattle.dpl_spec_split.specs.declared.Rect.{Rect}
use Rattle.dpl_spec_split.specs.Squares.{Covers, Has}
use Rattle.dpl_tree.specs.declared.items.Item.{Item}
use Rattle.dpl_tree.specs.Trees.{rects_of}
use Rattle.dpl_tree.proofs.SetLaws.{meeting-found, found-meeting}
use Rattle.dpl_tree.proofs.set.SetTree.meets.Goals as goal

no_item : Item
no_item = record { rect = record { x0 = pos 0; y0 = pos 0; x1 = pos 0; y1 = pos 0 }; owner = 0 }

pub returns : goal.returns
returns c =
    let items : List Item = c.self.inside.tree in
    let r : Rect = c.args.r.now in
    let both : IsTrue (nat_lt c.seek-n.result (length items)) ↔ ((p : Pt) × Has r p × Covers (rects_of items) p) = (
      λ t. meeting-found items r c.seek-n.result c.requires c.self.invariant no_item (ltb-true c.seek-n.result (length items) t)
          (rw c.of-window.ensures at (c.seek-n.ensures.found no_item (ltb-true c.seek-n.result (length items) t))),
      λ (p, mine, theirs). lt-ltb c.seek-n.result (length items) (found-meeting items r c.seek-n.result c.requires c.self.invariant (rw c.of-window.ensures at c.seek-n.ensures.passed) p mine theirs),
    ) in
    rw (c.count-count.ensures, ← c.self.view_is) both
