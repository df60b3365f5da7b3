-- The zones of some items.
use Rattle.std.specs.Prelude.{◌≡◌, ℕ, ◌<◌, ◌≤◌, ◌↔◌, List}
use Rattle.std.specs.List.{Contains}
use Rattle.dpl_spec_split.specs.declared.Rect.{Rect}
use Rattle.dpl_spec_split.specs.declared.Zone.{Zone}
use Rattle.dpl_join.specs.declared.items.Item.{Item}
use Rattle.dpl_join.specs.Pairs.{item_at}

-- the zones of the items from number start up to but not end, where those of item n have P n
abbrev pub AreOfItems : (ℕ → Rect → Type 0) → List Item → ℕ → ℕ → List Zone → Type 0
AreOfItems P items start end zones =
    (z : Zone) → Contains zones z ↔ ((n : ℕ) × (start ≤ n) × (n < end) × (z.feature ≡ (item_at items n).owner) × P n z.rect)
