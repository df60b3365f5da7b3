-- Blocks over the items of a search tree, and levels of them.
use Rattle.std.specs.Prelude.{◌≡◌, ℕ, suc, ◌+◌, ◌*◌, ◌^◌, ◌<◌, ◌≤◌, ◌⊎◌, List, [], length, slice_index_or}
use Rattle.dpl_spec_split.specs.declared.Rect.{Rect}
use Rattle.dpl_tree.specs.declared.items.Item.{Item}
use Rattle.dpl_tree.specs.declared.items.StoredItem.{StoredItem}
use Rattle.dpl_tree.specs.declared.blocks.Block.{Block}
use Rattle.dpl_tree.specs.declared.owners.Owners.{Owners}
use Rattle.dpl_tree.specs.declared.owners.Owners.TheVariants.{All, But, Only, Above}
use Rattle.dpl_tree.specs.declared.search.Place.{Place}
use Rattle.dpl_tree.specs.declared.search.Finding.{Finding}
use Rattle.dpl_tree.specs.declared.search.Finding.TheVariants.{Found, Passed, Over}
use Rattle.dpl_tree.specs.Trees.{LiesIn, LiesApart, IsMissed, ArePassed}
use Rattle.dpl_tree.specs.StoredItems.{item_of}

-- the block of one item
abbrev pub item_block : Item → Block
item_block item = record { bounds = item.rect; least = item.owner; greatest = item.owner }

-- the block of one item as a tree keeps it
abbrev pub stored_block : StoredItem → Block
stored_block item = item_block (item_of item)

abbrev pub same_block : Block → Block
same_block block = block

-- the upper block bounds the lower one and its owners
pub record IsUnder (lower upper : Block) : Type 0 where
  pub inside : LiesIn lower.bounds upper.bounds
  pub least : upper.least ≤ lower.least
  pub greatest : lower.greatest ≤ upper.greatest

-- each block is over so many things in a row, and the last over those that are left
pub record IsLevelOver {T : Type 0} (block_of : T → Block) (things : List T) (width : ℕ) (level : List Block) : Type 0 where
  pub enough : length things ≤ length level * width
  pub few : length level * width < length things + width
  pub under : (a i : ℕ) (d : T) (e : Block) → a * width ≤ i → i < a * width + width → i < length things → IsUnder (block_of (slice_index_or things i d)) (slice_index_or level a e)

abbrev pub AreCovered : List Item → List (List Block) → Type 0
AreCovered items levels = (k : ℕ) → k < length levels → IsLevelOver item_block items (8 ^ suc k) (slice_index_or levels k [])

-- Levels of blocks over the items, each of blocks eight times as wide as those of the level below. Each has more than one block, and the last has no more than eight.
pub record IsIndex (items : List Item) (levels : List (List Block)) : Type 0 where
  pub covered : AreCovered items levels
  pub high : (k : ℕ) → k < length levels → 8 ^ suc k < length items
  pub narrow : length items ≤ 8 ^ suc (length levels)

-- no owner from the block's least to its greatest is sought
abbrev pub AreLeftOut : Owners → Block → Type 0
AreLeftOut All block = ⊥
AreLeftOut (But k) block = (block.least ≡ k) × (block.greatest ≡ k)
AreLeftOut (Only k) block = (k < block.least) ⊎ (block.greatest < k)
AreLeftOut (Above k) block = block.greatest ≤ k

-- a search finds nothing in the block
abbrev pub IsBarred : Rect → Owners → Block → Type 0
IsBarred window owners block = LiesApart window block.bounds ⊎ AreLeftOut owners block

-- What is found among things from number at on: the first that isn't barred; or a later number, before which all are; or that there are no more things.
abbrev pub IsFoundAmong : {T : Type 0} → (T → Block) → List T → ℕ → Rect → Owners → Finding → Type 0
IsFoundAmong {T} block_of things at window owners (Found k) =
    (at ≤ k) × (k < length things)
    × ((i : ℕ) (d : T) → at ≤ i → i < k → IsBarred window owners (block_of (slice_index_or things i d)))
    × ((d : T) → ¬ IsBarred window owners (block_of (slice_index_or things k d)))
IsFoundAmong {T} block_of things at window owners (Passed k) =
    (at < k) × (k ≤ length things)
    × ((i : ℕ) (d : T) → at ≤ i → i < k → IsBarred window owners (block_of (slice_index_or things i d)))
IsFoundAmong block_of things at window owners Over = length things ≤ at

-- the number of the first item of a place
abbrev pub start_of : Place → ℕ
start_of place = place.at * 8 ^ place.level

-- The same from a place on, told of the items below its blocks: what is passed is missed, and at level 0 what is found isn't.
abbrev pub IsFoundAt : List Item → Place → Rect → Owners → Finding → Type 0
IsFoundAt items place window owners (Found k) =
    (place.at ≤ k) × (k * 8 ^ place.level < length items)
    × ArePassed window owners items (start_of place) (k * 8 ^ place.level)
    × (place.level ≡ 0 → (d : Item) → ¬ IsMissed window owners (slice_index_or items k d))
IsFoundAt items place window owners (Passed k) =
    (place.at < k) × (start_of place < length items) × ArePassed window owners items (start_of place) (k * 8 ^ place.level)
IsFoundAt items place window owners Over = length items ≤ start_of place
