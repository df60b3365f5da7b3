-- Items as a tree keeps them.
use Rattle.std.proofs.Common.{◌≡◌, ℕ, ◌<◌, List, [], ◌∷◌, ◌++◌, length, get_or, map, ap, ◌∙◌, arith}
use Rattle.std.proofs.lemmas.List.{get_or-map, length-map, map-append}
use Rattle.dpl_spec_split.specs.declared.Rect.{Rect}
use Rattle.dpl_tree.specs.declared.items.Item.{Item}
use Rattle.dpl_tree.specs.declared.items.StoredItem.{StoredItem}
use Rattle.dpl_tree.specs.declared.blocks.Block.{Block}
use Rattle.dpl_tree.specs.declared.owners.Owners.{Owners}
use Rattle.dpl_tree.specs.declared.search.Finding.{Finding}
use Rattle.dpl_tree.specs.declared.search.Finding.TheVariants.{Found, Passed, Over}
use Rattle.dpl_tree.specs.StoredItems.{item_of}
use Rattle.dpl_tree.specs.Blocks.{IsFoundAmong, IsLevelOver, item_block, stored_block}

stored_item : Item → StoredItem
stored_item item = record { rect = item.rect; owner = item.owner }

pub item-at_stored : (items : List StoredItem) (i : ℕ) (d : Item) (e : StoredItem) → i < length items → get_or (map item_of items) i d ≡ item_of (get_or items i e)
item-at_stored items i d e i_in = get_or-map item_of items i e d i_in

pub items-push : (old new : List StoredItem) (item : StoredItem) → new ≡ old ++ item ∷ [] → map item_of new ≡ map item_of old ++ item_of item ∷ []
items-push old new item is = ap (map item_of) is ∙ map-append item_of old (item ∷ [])

-- blocks over items as they are kept are blocks over the items
pub level-items : (items : List StoredItem) (w : ℕ) (level : List Block) → IsLevelOver stored_block items w level → IsLevelOver item_block (map item_of items) w level
level-items items w level over =
    let len = length-map items item_of in
    let enough = over.enough in
    let few = over.few in
    record {
      enough = omega (arith, len, enough);
      few = omega (arith, len, few);
      under = λ a i d e low high l. (let i_in : i < length items = omega (arith, len, l) in
          rw (item-at_stored items i d (stored_item d) i_in) (over.under a i (stored_item d) e low high i_in));
    }

-- and so is what is found among them
pub found-items_of : (items : List StoredItem) (at : ℕ) (window : Rect) (owners : Owners) (run : Finding)
    → IsFoundAmong stored_block items at window owners run → IsFoundAmong item_block (map item_of items) at window owners run
found-items_of items at window owners (Found k) (low, k_in, before, here) =
    let len = length-map items item_of in (
      low,
      omega (arith, len, k_in),
      (λ i d a b. rw (item-at_stored items i d (stored_item d) (omega (arith, b, k_in))) (before i (stored_item d) a b)),
      (λ d. rw (item-at_stored items k d (stored_item d) k_in) (here (stored_item d))),
    )
found-items_of items at window owners (Passed k) (low, all, before) =
    let len = length-map items item_of in (
      low,
      omega (arith, len, all),
      (λ i d a b. rw (item-at_stored items i d (stored_item d) (omega (arith, b, all))) (before i (stored_item d) a b)),
    )
found-items_of items at window owners Over all = let len = length-map items item_of in omega (arith, len, all)
