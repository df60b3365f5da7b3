use Rattle.std.proofs.Common.{◌≡◌, drop, length, map, ◌∙◌, rules}
use Rattle.std.proofs.lemmas.List.{take_at}
use Rattle.std.specs.List.Sorted.{IsPermutation}
use Rattle.std.proofs.lemmas.List.Sorted.{IsPermutation-map, length_permutation}
use Rattle.dpl_tree.specs.StoredItems.{item_of}
use Rattle.dpl_tree.proofs.ItemLaws.{items-sorted}
use Rattle.dpl_tree.proofs.tree.Tree.of.Goals as goal

pub returns : goal.returns
returns c =
    let same : IsPermutation c.into_items-items.result.items c.arrange.new.items = rw c.deref_mut.ensures.value at c.arrange.ensures in
    let len : length c.arrange.new.items ≡ c.into_items-items.result.len = length_permutation _ _ same ∙ search rules in
    let all = rw c.into_items-items.ensures at (items-sorted (map item_of c.into_items-items.result.items)
    (map item_of c.arrange.new.items) (IsPermutation-map item_of _ _ same)) in
    rw (take_at c.arrange.new.items (drop (length c.arrange.new.items) c.into_items-items.result.items) c.into_items-items.result.len len) all
