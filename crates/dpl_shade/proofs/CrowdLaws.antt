-- What all items of a crowded layer shade of a few of them.
use Rattle.std.proofs.Common.{◌≡◌, ◌≢◌, ℕ, ◌+◌, ◌<◌, ◌≤◌, inl, inr, Bool, true, false, List, length, get_or, sym, ◌∙◌, subst, arith}
use Rattle.std.proofs.lemmas.Bool.{cases_eq}
use Rattle.std.proofs.lemmas.List.{get_or_default}
use Rattle.dpl_join.specs.declared.items.Item.{Item}
use Rattle.dpl_join.specs.Pairs.{IsPair, item_at}
use Rattle.dpl_shade.specs.declared.shades.Shades.{Shades}
use Rattle.dpl_shade.specs.Shading.{Handles, HandlesAll, HandlesBoth, IsDead, IsMore, IsSound}
use Rattle.dpl_shade.proofs.ShadingLaws.{handles-more, more-more, more-same}

-- an item whose flag is set is dead
pub dead-from : (items : List Item) (t : Shades) (n : ℕ) (b : Bool) → IsSound items t → n < length items → b ≡ get_or t.dead.items n b → b ≡ true → IsDead t n
dead-from items t n b sound n_in is e = let size = sound.sized in get_or_default t.dead.items n false b (omega (arith, n_in, size)) ∙ (sym is ∙ e)

-- what is noted is sound, and what was noted is kept
pub record IsKept (items : List Item) (base t : Shades) : Type 0 where
  pub sound : IsSound items t
  pub more : IsMore base t

pub kept-same : (items : List Item) (t : Shades) → IsSound items t → IsKept items t t
kept-same items t sound = record { sound = sound; more = more-same t }

pub kept-more : (items : List Item) (base old new : Shades) → IsKept items base old → IsSound items new → IsMore old new → IsKept items base new
kept-more items base old new h sound more = record { sound = sound; more = more-more base old new h.more more }

-- what the first m items shade of item n is handled
pub record HandlesTo (items : List Item) (n m : ℕ) (base t : Shades) : Type 0 where
  pub kept : IsKept items base t
  pub handles : (k : ℕ) → k < m → (item_at items k).owner ≢ (item_at items n).owner → Handles items t n k

pub to-none : (items : List Item) (n : ℕ) (t : Shades) → IsSound items t → HandlesTo items n 0 t t
to-none items n t sound = record { kept = kept-same items t sound; handles = λ k l. absurd (omega (arith, l)) }

pub to-same : (items : List Item) (n m : ℕ) (base t : Shades) → (item_at items m).owner ≡ (item_at items n).owner → HandlesTo items n m base t → HandlesTo items n (m + 1) base t
to-same items n m base t same h = record {
  kept = h.kept;
  handles = λ k l ne. elim (cases_eq k m) [
    | inl e ↦ absurd (ne (subst (λ j. (item_at items j).owner ≡ (item_at items n).owner) (sym e) same))
    | inr other ↦ h.handles k (omega (arith, l, other)) ne
  ];
}

pub to-more : (items : List Item) (n m : ℕ) (base old new : Shades) → HandlesTo items n m base old → IsSound items new → IsMore old new → Handles items new n m
    → HandlesTo items n (m + 1) base new
to-more items n m base old new h sound more here = record {
  kept = kept-more items base old new h.kept sound more;
  handles = λ k l ne. elim (cases_eq k m) [
    | inl e ↦ subst (Handles items new n) (sym e) here
    | inr other ↦ handles-more items old new n k more (h.handles k (omega (arith, l, other)) ne)
  ];
}

pub to-all : (items : List Item) (n m : ℕ) (base t : Shades) → length items ≤ m → HandlesTo items n m base t → HandlesAll items t n
to-all items n m base t all h k k_in = h.handles k (omega (arith, all, k_in))

pub to-dead : (items : List Item) (n : ℕ) (t : Shades) → IsDead t n → HandlesAll items t n
to-dead items n t dead m m_in ne = inl dead

-- what all items shade of the first n is handled
pub record HandlesUpTo (items : List Item) (n : ℕ) (base t : Shades) : Type 0 where
  pub kept : IsKept items base t
  pub handles : (k : ℕ) → k < n → HandlesAll items t k

pub up-none : (items : List Item) (t : Shades) → IsSound items t → HandlesUpTo items 0 t t
up-none items t sound = record { kept = kept-same items t sound; handles = λ k l. absurd (omega (arith, l)) }

pub up-more : (items : List Item) (n : ℕ) (base old new : Shades) → HandlesUpTo items n base old → IsSound items new → IsMore old new → HandlesAll items new n
    → HandlesUpTo items (n + 1) base new
up-more items n base old new h sound more here = record {
  kept = kept-more items base old new h.kept sound more;
  handles = λ k l. elim (cases_eq k n) [
    | inl e ↦ subst (HandlesAll items new) (sym e) here
    | inr other ↦ λ m m_in ne. handles-more items old new k m more (h.handles k (omega (arith, l, other)) m m_in ne)
  ];
}

pub up-dead : (items : List Item) (n : ℕ) (base t : Shades) → HandlesUpTo items n base t → IsDead t n → HandlesUpTo items (n + 1) base t
up-dead items n base t h dead = up-more items n base t t h h.kept.sound (more-same t) (to-dead items n t dead)

pub up-all : (items : List Item) (n : ℕ) (base t : Shades) → length items ≤ n → HandlesUpTo items n base t → (k : ℕ) → k < length items → HandlesAll items t k
up-all items n base t all h k k_in = h.handles k (omega (arith, all, k_in))

-- so each pair is handled both ways
pub both-of-all : (items : List Item) (t : Shades) (rule : ℕ) → ((n : ℕ) → n < length items → HandlesAll items t n) → (p : ℕ × ℕ) → IsPair rule items p → HandlesBoth items t p
both-of-all items t rule all p pair =
    let order = pair.order in
    let known = pair.known in
    let first : p.0 < length items = omega (arith, order, known) in
    (all p.0 first p.1 known (λ e. pair.apart (sym e)), all p.1 known p.0 first pair.apart)
