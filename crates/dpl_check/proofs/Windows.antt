-- Items of a search tree that have a square in a window.
use Rattle.std.proofs.Common.{◌≡◌, ℕ, ◌<◌, ◌≤◌, inl, inr, List, length, get_or, sym, ap, refl, ◌∙◌, subst, arith}
use Rattle.std.specs.Prelude.{ℤ, pos, ◌+ℤ◌, ◌≤ℤ◌, ◌<ℤ◌, Option, Some, None, IfSome}
use Rattle.std.proofs.lemmas.Int.{ints, by_lt_z}
use Rattle.dpl_spec_split.specs.declared.Pt.{Pt}
use Rattle.dpl_spec_split.specs.declared.Rect.{Rect}
use Rattle.dpl_spec_split.specs.Squares.{Has}
use Rattle.dpl_spec_split.specs.Slabs.{IsSolid}
use Rattle.dpl_spec_split.specs.Zones.{at}
use Rattle.dpl_tree.specs.declared.items.Item.{Item}
use Rattle.dpl_tree.specs.declared.owners.Owners.TheVariants.{All as Everyone, Only}
use Rattle.dpl_tree.specs.Trees.{LiesApart, IsMissed, ArePassed}
use Rattle.dpl_tree.proofs.ItemLaws.{item-at}
use Rattle.dpl_nearest.specs.Search.{AreSolidItems, ItemCovers, unit_of}
use Rattle.dpl_spec_verdict.specs.Order.{HasSquare}

-- two spans that aren't apart share a number
shared : (a b c d : ℤ) → a <ℤ b → c <ℤ d → (d ≤ℤ a → ⊥) → (b ≤ℤ c → ⊥) → (x : ℤ) × (a ≤ℤ x) × (x <ℤ b) × (c ≤ℤ x) × (x <ℤ d)
shared a b c d ab cd da bc = by_lt_z a c
    (λ l. (c, omega (arith, ints, l), by_lt_z c b (λ m. m) (λ m. absurd (bc m)), omega (arith, ints), cd))
    (λ l. (a, omega (arith, ints), ab, l, by_lt_z a d (λ m. m) (λ m. absurd (da m))))

in-both : (window r : Rect) → IsSolid window → IsSolid r → (LiesApart window r → ⊥) → HasSquare (λ p. Has window p × Has r p)
in-both window r w s free =
    let (x, a, b, c, d) = shared window.x0 window.x1 r.x0 r.x1 w.wide s.wide (λ h. free (inl h)) (λ h. free (inr (inl h))) in
    let (y, e, f, g, h) = shared window.y0 window.y1 r.y0 r.y1 w.tall s.tall (λ h. free (inr (inr (inl h)))) (λ h. free (inr (inr (inr h)))) in
    (at x y, (record { left = a; right = b; low = e; high = f }, record { left = c; right = d; low = g; high = h }))

apart-none : (window r : Rect) (p : Pt) → LiesApart window r → Has window p → Has r p → ⊥
apart-none window r p (inl h) a b = let k = a.left in let l = b.right in omega (arith, ints, h, k, l)
apart-none window r p (inr (inl h)) a b = let k = a.right in let l = b.left in omega (arith, ints, h, k, l)
apart-none window r p (inr (inr (inl h))) a b = let k = a.low in let l = b.high in omega (arith, ints, h, k, l)
apart-none window r p (inr (inr (inr h))) a b = let k = a.high in let l = b.low in omega (arith, ints, h, k, l)

pub found-in : (items : List Item) (window : Rect) (n : ℕ) (d : Item) → n < length items → IsSolid window → AreSolidItems items → (IsMissed window Everyone (get_or items n d) → ⊥)
    → HasSquare (λ p. Has window p × ItemCovers (Only (get_or items n d).owner) items p)
found-in items window n d n_in w all_solid free =
    let item = item-at items n d n_in in
    let solid = all_solid (get_or items n d).rect (get_or items n d).owner item in
    let (p, (a, b)) = in-both window (get_or items n d).rect w solid (λ h. free (inl h)) in
    (p, (a, ((get_or items n d).rect, (get_or items n d).owner, item, refl, b)))

pub none-in : (items : List Item) (window : Rect) (n : ℕ) → length items ≤ n → ArePassed window Everyone items 0 n → HasSquare (λ p. Has window p × ItemCovers Everyone items p) → ⊥
none-in items window n all passed (p, (a, (r, k, (item, (j, j_in, is), rect, own), sought, b))) =
    elim (subst (λ t. IsMissed window Everyone t) is (passed j item (omega arith) (omega (arith, all, j_in)) j_in)) [
      | inl apart ↦ apart-none window item.rect p apart a (subst (λ (u : Rect). Has u p) (sym rect) b)
      | inr bad ↦ absurd bad
    ]

pub unit-only : (p q : Pt) → Has (unit_of p) q → q ≡ p
unit-only p q h =
    let a : p.x ≤ℤ q.x = h.left in
    let b : q.x <ℤ (p.x +ℤ pos 1) = h.right in
    let c : p.y ≤ℤ q.y = h.low in
    let d : q.y <ℤ (p.y +ℤ pos 1) = h.high in
    let x : q.x ≡ p.x = omega (arith, ints) in
    let y : q.y ≡ p.y = omega (arith, ints) in
    ap (λ n. at n q.y) x ∙ ap (λ n. at p.x n) y

pub unit-self : (p : Pt) → Has (unit_of p) p
unit-self p = record { left = omega (arith, ints); right = omega (arith, ints); low = omega (arith, ints); high = omega (arith, ints) }

-- an owner in the window of a square is the square's
pub at-some : (items : List Item) (p : Pt) (u : Rect) (o : Option ℕ) → u ≡ unit_of p
    → IfSome o (λ k. HasSquare (λ q. Has u q × ItemCovers (Only k) items q)) → IfSome o (λ k. ItemCovers (Only k) items p)
at-some items p u None is none = none
at-some items p u (Some k) is (q, (in-unit, own)) = subst (λ r. ItemCovers (Only k) items r) (unit-only p q (subst (λ (v : Rect). Has v q) is in-unit)) own

-- an owner is one of everyone
pub of-everyone : (items : List Item) (k : ℕ) (p : Pt) → ItemCovers (Only k) items p → ItemCovers Everyone items p
of-everyone items k p (r, j, item, sought, h) = (r, j, item, tt, h)
