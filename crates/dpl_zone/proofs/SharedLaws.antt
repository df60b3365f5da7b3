-- The zones of some items, one behind the other.
use Rattle.std.proofs.Common.{◌≡◌, ℕ, ◌+◌, ◌<◌, ◌≤◌, ◌⊎◌, inl, inr, List, [], ◌++◌, ap, ◌∙◌, subst, arith}
use Rattle.std.specs.Prelude.{◌↔◌}
use Rattle.std.specs.List.{Contains}
use Rattle.std.proofs.lemmas.Bool.{cases_eq, cases_lt}
use Rattle.std.proofs.lemmas.List.Elements.{Contains-append_cases, Contains-append_left, Contains-append_right}
use Rattle.dpl_spec_split.specs.declared.Rect.{Rect}
use Rattle.dpl_spec_split.specs.declared.Zone.{Zone}
use Rattle.dpl_join.specs.declared.items.Item.{Item}
use Rattle.dpl_join.specs.Pairs.{item_at}
use Rattle.dpl_zone.specs.ItemZones.{AreOfItems}

module _ (P : ℕ → Rect → Type 0) (items : List Item) where
  pub of-none : (start : ℕ) (zones : List Zone) → zones ≡ [] → AreOfItems P items start start zones
  of-none start zones none z = (
    λ c. absurd (let (k, k_in, is) = subst (λ (zs : List Zone). Contains zs z) none c in omega (arith, k_in)),
    λ (m, low, high, e, p). absurd (omega (arith, low, high)),
  )

  -- the zones of one more item
  pub of-more : (start n : ℕ) (old new : List Zone) → start ≤ n → AreOfItems P items start n old
      → ((z : Zone) → Contains new z ↔ (Contains old z ⊎ ((z.feature ≡ (item_at items n).owner) × P n z.rect))) → AreOfItems P items start (n + 1) new
  of-more start n old new from before step z = (
    λ c. elim ((step z).0 c) [ inl a ↦ (let (m, low, high, e, p) = (before z).0 a in (m, low, omega (arith, high), e, p)) | inr (e, p) ↦ (n, from, omega arith, e, p) ],
    λ (m, low, high, e, p). elim (cases_eq m n) [
      | inl same ↦ (step z).1 (inr (e ∙ ap (λ (k : ℕ). (item_at items k).owner) same, subst (λ (k : ℕ). P k z.rect) same p))
      | inr ne ↦ (step z).1 (inl ((before z).1 (m, low, omega (arith, high, ne), e, p)))
    ],
  )

  -- the zones of some items, and behind them those of the next ones
  pub of-both : (start middle end : ℕ) (xs ys : List Zone) → start ≤ middle → middle ≤ end → AreOfItems P items start middle xs → AreOfItems P items middle end ys
      → AreOfItems P items start end (xs ++ ys)
  of-both start middle end xs ys from to first second z = (
    λ c. elim (Contains-append_cases xs ys z c) [
      | inl a ↦ (let (m, low, high, e, p) = (first z).0 a in (m, low, omega (arith, high, to), e, p))
      | inr b ↦ (let (m, low, high, e, p) = (second z).0 b in (m, omega (arith, low, from), high, e, p))
    ],
    λ (m, low, high, e, p). elim (cases_lt m middle) [
      | inl l ↦ Contains-append_left xs ys z ((first z).1 (m, low, l, e, p))
      | inr l ↦ Contains-append_right xs ys z ((second z).1 (m, l, high, e, p))
    ],
  )

  pub of-all : (n : ℕ) (zones : List Zone) → AreOfItems P items 0 n zones
      → (z : Zone) → Contains zones z ↔ ((m : ℕ) × (m < n) × (z.feature ≡ (item_at items m).owner) × P m z.rect)
  of-all n zones h z = (
    λ c. let (m, low, high, e, p) = (h z).0 c in (m, high, e, p),
    λ (m, high, e, p). (h z).1 (m, omega arith, high, e, p),
  )
