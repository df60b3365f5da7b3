-- Items as a tree keeps them, with owners in 32 bits. The conversions change no number, only how many bits hold it.
use Rattle.dpl_tree.specs.declared.items.Item.{Item}
use Rattle.dpl_tree.specs.declared.items.StoredItem.{StoredItem}

abbrev pub item_of : StoredItem → Item
item_of item = record { rect = item.rect; owner = item.owner }
