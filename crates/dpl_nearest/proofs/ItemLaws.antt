-- Near items of a search tree.
use Rattle.std.proofs.Common.{◌≡◌, ℕ, ◌+◌, ◌<◌, ◌≤◌, ◌⊎◌, inl, inr, List, length, get_or, Option, Some, None, sym, ap, refl, ◌∙◌, subst, arith}
use Rattle.std.specs.Prelude.{◌↔◌}
use Rattle.std.specs.List.{All, Contains}
use Rattle.std.proofs.lemmas.Int.{ints}
use Rattle.std.proofs.lemmas.List.{get_or_default}
use Rattle.std.proofs.lemmas.Bool.{cases_eq, cases_lt, cases_order}
use Rattle.dpl_spec_split.specs.declared.Spacing.{Spacing}
use Rattle.dpl_spec_split.specs.declared.Pt.{Pt}
use Rattle.dpl_spec_split.specs.declared.Rect.{Rect}
use Rattle.dpl_spec_split.specs.Squares.{Region, AreNear, Covers, Has, gap}
use Rattle.dpl_spec_split.specs.Slabs.{IsSolid}
use Rattle.dpl_spec_split.proofs.SpacingLaws.{few-below}
use Rattle.dpl_tree.specs.declared.items.Item.{Item}
use Rattle.dpl_tree.specs.declared.owners.Owners.{Owners}
use Rattle.dpl_tree.specs.declared.owners.Owners.TheVariants.{All as Everyone, But, Only, Above}
use Rattle.dpl_tree.specs.Trees.{HasItem, LiesApart, IsLeftOut, IsMissed, ArePassed}
use Rattle.dpl_tree.specs.Windows.{IsWidened}
use Rattle.dpl_nearest.specs.Search.{ItemCovers, IsSought, AreSolidItems, IsLeastNear}

-- what has no square in a window that is wider by the rule isn't near
apart-far : (spacing : Spacing) (slab window r : Rect) → spacing.corner ≤ spacing.rule → IsWidened slab spacing.rule window → LiesApart window r → AreNear spacing (Has slab) (Has r) → ⊥
apart-far spacing slab window r less wide (inl h) (p, q, a, b, near) =
    let w = wide.left in
    let l = a.left in
    let m = b.right in
    let g = (few-below spacing (gap p.x q.x) (gap p.y q.y) less near).0 in
    omega (arith, ints, g, w, h, l, m)
apart-far spacing slab window r less wide (inr (inl h)) (p, q, a, b, near) =
    let w = wide.right in
    let l = a.right in
    let m = b.left in
    let g = (few-below spacing (gap p.x q.x) (gap p.y q.y) less near).0 in
    omega (arith, ints, g, w, h, l, m)
apart-far spacing slab window r less wide (inr (inr (inl h))) (p, q, a, b, near) =
    let w = wide.low in
    let l = a.low in
    let m = b.high in
    let g = (few-below spacing (gap p.x q.x) (gap p.y q.y) less near).1 in
    omega (arith, ints, g, w, h, l, m)
apart-far spacing slab window r less wide (inr (inr (inr h))) (p, q, a, b, near) =
    let w = wide.high in
    let l = a.high in
    let m = b.low in
    let g = (few-below spacing (gap p.x q.x) (gap p.y q.y) less near).1 in
    omega (arith, ints, g, w, h, l, m)

-- an owner that is left out isn't sought
left-out : (owners : Owners) (k : ℕ) → IsLeftOut owners k → IsSought owners k → ⊥
left-out Everyone k out sought = out
left-out (But j) k out sought = sought out
left-out (Only j) k out sought = out sought
left-out (Above j) k out sought = omega (arith, out, sought)

-- and any other is
pub found-sought : (owners : Owners) (k : ℕ) → (IsLeftOut owners k → ⊥) → IsSought owners k
found-sought Everyone k keep = tt
found-sought (But j) k keep = keep
found-sought (Only j) k keep = elim (cases_eq k j) [ inl e ↦ e | inr ne ↦ absurd (keep ne) ]
found-sought (Above j) k keep = elim (cases_lt j k) [ inl l ↦ l | inr l ↦ absurd (keep l) ]

-- an item of an owner that isn't sought, or that isn't near
abbrev pub IsFar : Spacing → Owners → Rect → Item → Type 0
IsFar spacing owners r item = IsLeftOut owners item.owner ⊎ (AreNear spacing (Has r) (Has item.rect) → ⊥)

missed-far : (spacing : Spacing) (owners : Owners) (slab window : Rect) (item : Item) → spacing.corner ≤ spacing.rule
    → IsWidened slab spacing.rule window → IsMissed window owners item → IsFar spacing owners slab item
missed-far spacing owners slab window item less wide (inl h) = inr (λ near. apart-far spacing slab window item.rect less wide h near)
missed-far spacing owners slab window item less wide (inr out) = inl out

pub item-near : (spacing : Spacing) (owners : Owners) (r : Rect) (items : List Item) (s : Rect) (k : ℕ) → HasItem items s k → IsSought owners k
    → AreNear spacing (Has r) (Has s) → AreNear spacing (Has r) (ItemCovers owners items)
item-near spacing owners r items s k item sought (p, q, a, b, near) = (p, q, a, (s, k, item, sought, b), near)

-- the first n items are far, and so is each square of one that is sought
abbrev pub AreFarFrom : Spacing → Owners → Rect → List Item → ℕ → Type 0
AreFarFrom spacing owners r items n = (j : ℕ) (d : Item) → j < n → j < length items → IsFar spacing owners r (get_or items j d)

pub none-near : (spacing : Spacing) (owners : Owners) (r : Rect) (items : List Item) (n : ℕ) → length items ≤ n → AreFarFrom spacing owners r items n
    → AreNear spacing (Has r) (ItemCovers owners items) → ⊥
none-near spacing owners r items n all far (p, q, a, (s, k, (item, (j, j_in, is), rect, own), sought, b), near) =
    elim (subst (λ t. IsFar spacing owners r t) is (far j item (omega (arith, all, j_in)) j_in)) [
      | inl out ↦ left-out owners item.owner out (subst (λ m. IsSought owners m) (sym own) sought)
      | inr apart ↦ apart (p, q, a, subst (λ (u : Rect). Has u q) (sym rect) b, near)
    ]

-- the items of a tree of rectangles
abbrev pub AreItemsOfRects : List Rect → List Item → Type 0
AreItemsOfRects rects items = (r : Rect) (k : ℕ) → HasItem items r k ↔ ((k ≡ 0) × Contains rects r)

pub items-solid : (rects : List Rect) (items : List Item) → AreItemsOfRects rects items → All IsSolid rects → AreSolidItems items
items-solid rects items are solid r k item =
    let (zero, (m, m_in, is)) = (are r k).0 item in
    subst (λ u. IsSolid u) is (solid m r m_in)

pub items-cover : (rects : List Rect) (items : List Item) → AreItemsOfRects rects items → (p : Pt) → ItemCovers Everyone items p → Covers rects p
items-cover rects items are p (r, k, item, sought, h) = let (zero, (m, m_in, is)) = (are r k).0 item in (m, r, m_in, is, h)

pub covers-items : (rects : List Rect) (items : List Item) → AreItemsOfRects rects items → (p : Pt) → Covers rects p → ItemCovers Everyone items p
covers-items rects items are p (m, r, m_in, is, h) = (r, 0, (are r 0).1 (refl, (m, m_in, is)), tt, h)

pub least-beside : (spacing : Spacing) (a b c : Region) (found : Option Pt) → ((p : Pt) → b p → c p) → ((p : Pt) → c p → b p) → IsLeastNear spacing a b found → IsLeastNear spacing a c found
least-beside spacing a b c None to from far = λ (p, q, p_in, q_in, close). far (p, q, p_in, from q q_in, close)
least-beside spacing a b c (Some m) to from least =
    let (t, t_in, close) = least.inside.1 in
    record {
      inside = (least.inside.0, (t, to t t_in, close));
      first = λ q (q_in, (u, u_in, near)). least.first q (q_in, (u, from u u_in, near));
    }

pub far-first : (spacing : Spacing) (owners : Owners) (r window : Rect) (items : List Item) (next : ℕ) → spacing.corner ≤ spacing.rule → IsWidened r spacing.rule window
    → ArePassed window owners items 0 next → AreFarFrom spacing owners r items next
far-first spacing owners r window items next less wide passed j d l j_in = missed-far spacing owners r window (get_or items j d) less wide (passed j d (omega arith) l j_in)

-- item number n isn't near, and the search goes past those up to the next
pub far-more : (spacing : Spacing) (owners : Owners) (r window : Rect) (items : List Item) (n next : ℕ) (e : Item) → spacing.corner ≤ spacing.rule → IsWidened r spacing.rule window
    → n < length items → AreFarFrom spacing owners r items n
    → (AreNear spacing (Has r) (Has (get_or items n e).rect) → ⊥) → ArePassed window owners items (n + 1) next → AreFarFrom spacing owners r items next
far-more spacing owners r window items n next e corner wide n_in before here passed j d l j_in = elim (cases_order j n) [
  | inr (inl less) ↦ before j d less j_in
  | inl same ↦ subst (λ t. IsFar spacing owners r t) (get_or_default items n e d n_in ∙ ap (λ m. get_or items m d) (sym same)) (inr here)
  | inr (inr more) ↦ missed-far spacing owners r window (get_or items j d) corner wide (passed j d (omega (arith, more)) l j_in)
]
