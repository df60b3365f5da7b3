-- Loops over cells.
use Rattle.std.proofs.Common.{◌≡◌, ℕ, ◌+◌, ◌-◌, ◌*◌, ◌<◌, ◌≤◌, ◌⊎◌, inl, inr, List, [], ◌∷◌, ◌++◌, length, get_or, take, sym, refl, ap, ◌∙◌, subst, arith}
use Rattle.std.specs.Prelude.{◌↔◌, pos, ◌-ℤ◌}
use Rattle.std.specs.List.{Contains, sum_by}
use Rattle.std.proofs.lemmas.List.Sums.{sum_by_more}
use Rattle.std.proofs.lemmas.List.{get_or_default}
use Rattle.std.proofs.lemmas.List.Elements.{Contains-append_left, Contains-push, Contains-push_cases}
use Rattle.std.proofs.lemmas.Bool.{cases_eq}
use Rattle.std.proofs.lemmas.Int.{ints}
use Rattle.std.proofs.lemmas.Nat.{mul-le}
use Rattle.dpl_spec_split.specs.declared.Rect.{Rect}
use Rattle.dpl_tile.specs.declared.grid.Grid.{Grid}
use Rattle.dpl_tile.specs.declared.grid.Block.{Block}
use Rattle.dpl_tile.specs.Adding.{Adds}
use Rattle.dpl_tile.specs.Tiles.{numbers_in, cells_met, pairs_of}
use Rattle.dpl_tile.specs.Kept.{HasOneCell, IsBlockOf, IsSomeBlock, IsOver, IsInRow, IsInBlock, IsMet}
use Rattle.dpl_tile.proofs.Numbers.{number-le}
use Rattle.dpl_tile.proofs.Adding.{OfFirst, added-to_none, adds-none, adds-next, adds-same}

-- of the element at number n of a list
abbrev pub Nth : {X : Type 0} {Y : Type 0} → (X → Y → Type 0) → List X → ℕ → Y → Type 0
Nth {X} Kind xs n y = (x : X) × (n < length xs) × (get_or xs n x ≡ x) × Kind x y

-- of some element of a list
abbrev pub OfSome : {X : Type 0} {Y : Type 0} → (X → Y → Type 0) → List X → Y → Type 0
OfSome {X} Kind xs y = (x : X) × Contains xs x × Kind x y

module _ {X Y : Type 0} (Kind : X → Y → Type 0) (xs : List X) where
  pub each-none : (ys : List Y) → Adds (OfFirst (Nth Kind xs) 0) ys ys
  each-none ys = adds-none (Nth Kind xs) 0 ys (λ m e l k. omega (arith, l))

  nth_kind : (n : ℕ) (d : X) → n < length xs → (e : Y) → Kind (get_or xs n d) e ↔ Nth Kind xs n e
  nth_kind n d n_in e = (
    λ h. (get_or xs n d, n_in, get_or_default xs n (get_or xs n d) d n_in, h),
    λ (s, k, is, h). subst (λ u. Kind u e) (sym is ∙ get_or_default xs n s d n_in) h,
  )

  pub each-next : (n : ℕ) (d : X) (base old new : List Y) → n < length xs → Adds (OfFirst (Nth Kind xs) n) base old
      → Adds (Kind (get_or xs n d)) old new → Adds (OfFirst (Nth Kind xs) (n + 1)) base new
  each-next n d base old new n_in before step =
      adds-next (Nth Kind xs) n (n + 1) base old new (omega arith) (λ m e a b k. omega (arith, a, b)) before
      (adds-same (Kind (get_or xs n d)) (Nth Kind xs n) old new (nth_kind n d n_in) step)

  -- the same, where an item was taken from the list
  pub each-item : (n : ℕ) (x : X) (base old new : List Y) → n < length xs → get_or xs n x ≡ x → Adds (OfFirst (Nth Kind xs) n) base old
      → Adds (Kind x) old new → Adds (OfFirst (Nth Kind xs) (n + 1)) base new
  each-item n x base old new n_in is before step = each-next n x base old new n_in before (subst (λ u. Adds (Kind u) old new) (sym is) step)

  all_kind : (n : ℕ) → length xs ≤ n → (e : Y) → OfFirst (Nth Kind xs) n e ↔ OfSome Kind xs e
  all_kind n all e = (λ (m, l, (s, m_in, is, h)). (s, (m, m_in, is), h), λ (s, (m, m_in, is), h). (m, omega (arith, all, m_in), (s, m_in, is, h)))

  pub each-all : (n : ℕ) (old new : List Y) → length xs ≤ n → Adds (OfFirst (Nth Kind xs) n) old new → Adds (OfSome Kind xs) old new
  each-all n old new all h = adds-same (OfFirst (Nth Kind xs) n) (OfSome Kind xs) old new (all_kind n all) h

pub adds-then : {Y : Type 0} (First Second Both : Y → Type 0) (base old new : List Y) → ((e : Y) → Both e ↔ (First e ⊎ Second e))
    → Adds First base old → Adds Second old new → Adds Both base new
adds-then First Second Both base old new both before step e = (
  λ h. elim ((step e).0 h) [ inl a ↦ elim ((before e).0 a) [ inl b ↦ inl b | inr f ↦ inr ((both e).1 (inl f)) ] | inr k ↦ inr ((both e).1 (inr k)) ],
  λ h. elim h [
    | inl b ↦ (step e).1 (inl ((before e).1 (inl b)))
    | inr k ↦ elim ((both e).0 k) [ inl f ↦ (step e).1 (inl ((before e).1 (inr f))) | inr t ↦ (step e).1 (inr t) ]
  ],
)

pub adds-push : {Y : Type 0} (old new : List Y) (y : Y) → new ≡ old ++ y ∷ [] → Adds (λ x. x ≡ y) old new
adds-push old new y is e =
    rw is (
      (λ h. elim (Contains-push_cases old y e h) [ inl a ↦ inl a | inr same ↦ inr (sym same) ]),
      (λ h. elim h [ inl a ↦ Contains-append_left old (y ∷ []) e a | inr same ↦ rw same (Contains-push old y) ]),
    )

-- an element that was there was added
pub adds-again : {Y : Type 0} (xs : List Y) (y : Y) → Contains xs y → Adds (λ x. x ≡ y) xs xs
adds-again xs y there e = (λ h. inl h, λ h. elim h [ inl a ↦ a | inr same ↦ rw same there ])

-- the places of a row from the block's first column up to but not n
abbrev pub IsInRowTo : ℕ → Block → ℕ → ℕ × ℕ → Type 0
IsInRowTo row b n e = (e.0 ≡ row) × (b.column0 ≤ e.1) × (e.1 < n)

pub row-none : (row : ℕ) (b : Block) (xs : List (ℕ × ℕ)) → Adds (IsInRowTo row b b.column0) xs xs
row-none row b xs e = (λ h. inl h, λ h. elim h [ inl a ↦ a | inr (r, l, m) ↦ absurd (omega (arith, l, m)) ])

pub row-more : (row : ℕ) (b : Block) (n : ℕ) (base old new : List (ℕ × ℕ)) → b.column0 ≤ n → Adds (λ e. e ≡ (row, n)) old new
    → Adds (IsInRowTo row b n) base old → Adds (IsInRowTo row b (n + 1)) base new
row-more row b n base old new from step before =
    adds-then (IsInRowTo row b n) (λ e. e ≡ (row, n)) (IsInRowTo row b (n + 1)) base old new
    (λ e. (
      λ (r, l, m). elim (cases_eq e.1 n) [ inl same ↦ inr (ap (λ u. (u, e.1)) r ∙ ap (λ u. (row, u)) same) | inr ne ↦ inl (r, l, omega (arith, m, ne)) ],
      λ h. elim h [ inl (r, l, m) ↦ (r, l, omega (arith, m)) | inr same ↦ rw same (refl, from, omega arith) ],
    ))
    before step

-- the places of a block from its first row up to but not n
abbrev pub IsInBlockTo : Block → ℕ → ℕ × ℕ → Type 0
IsInBlockTo b n e = (b.row0 ≤ e.0) × (e.0 < n) × (b.column0 ≤ e.1) × (e.1 < b.column1)

pub block-more : (b : Block) (n : ℕ) (base old new : List (ℕ × ℕ)) → b.row0 ≤ n → Adds (IsInBlockTo b n) base old
    → Adds (IsInRow n b) old new → Adds (IsInBlockTo b (n + 1)) base new
block-more b n base old new from before step =
    adds-then (IsInBlockTo b n) (IsInRow n b) (IsInBlockTo b (n + 1)) base old new
    (λ e. (
      λ (l, m, c, d). elim (cases_eq e.0 n) [ inl same ↦ inr (same, c, d) | inr ne ↦ inl (l, omega (arith, m, ne), c, d) ],
      λ h. elim h [ inl (l, m, c, d) ↦ (l, omega (arith, m), c, d) | inr (same, c, d) ↦ (omega (arith, same, from), omega (arith, same), c, d) ],
    ))
    before step

pub block-count : (b : Block) (n rows columns : ℕ) → b.row0 ≤ n → rows ≡ n - b.row0 → (n + 1 - b.row0) * columns ≡ (n - b.row0) * columns + columns
block-count b n rows columns from is = let e : n + 1 - b.row0 ≡ n - b.row0 + 1 = omega (arith, from) in ap (λ m. m * columns) e ∙ grind arith

-- a block has the places that its rectangle meets
block_met : (g : Grid) (r : Rect) (b : Block) → IsBlockOf g r b → (e : ℕ × ℕ) → IsInBlock b e ↔ IsMet g r e
block_met g r b h e =
    let r0 = h.row0 in
    let r1 = h.row1 in
    let c0 = h.column0 in
    let c1 = h.column1 in (
      λ (k, l, m, n). record { from_row = omega (arith, r0, k); to_row = omega (arith, r1, l); from_column = omega (arith, c0, m); to_column = omega (arith, c1, n) },
      λ met. (let k = met.from_row in let l = met.to_row in let m = met.from_column in let n = met.to_column in
          (omega (arith, r0, k), omega (arith, r1, l), omega (arith, c0, m), omega (arith, c1, n))),
    )

same-place : (e place : ℕ × ℕ) → e.0 ≡ place.0 → e.1 ≡ place.1 → e ≡ place
same-place e place row column = ap (λ (u : ℕ). (u, e.1)) row ∙ ap (λ (u : ℕ). (place.0, u)) column

-- two rectangles that meet one cell alone, the same
pub one-met : (g : Grid) (r s : Rect) (b c : Block) (place : ℕ × ℕ) → IsBlockOf g r b → IsBlockOf g s c → HasOneCell b → HasOneCell c → b.row0 ≡ c.row0 → b.column0 ≡ c.column0
    → place.0 ≡ b.row0 → place.1 ≡ b.column0 → (e : ℕ × ℕ) → (e ≡ place) ↔ (IsMet g r e ⊎ IsMet g s e)
one-met g r s b c place b_of c_of (b_row, b_column) (c_row, c_column) rows columns row_is column_is e = (
  λ is. (let row = ap (λ (p : ℕ × ℕ). p.0) is in let column = ap (λ (p : ℕ × ℕ). p.1) is in
      inl ((block_met g r b b_of e).0
      (omega (arith, row, row_is), omega (arith, row, row_is, b_row), omega (arith, column, column_is), omega (arith, column, column_is, b_column)))),
  λ h. elim h [
    | inl met ↦ (let (k, l, m, n) = (block_met g r b b_of e).1 met in same-place e place (omega (arith, k, l, b_row, row_is)) (omega (arith, m, n, b_column, column_is)))
    | inr met ↦ (let (k, l, m, n) = (block_met g s c c_of e).1 met in
        same-place e place (omega (arith, k, l, c_row, rows, row_is)) (omega (arith, m, n, c_column, columns, column_is)))
  ],
)

pub block-adds : (g : Grid) (r : Rect) (b : Block) (old new : List (ℕ × ℕ)) → IsBlockOf g r b → Adds (IsInBlock b) old new → Adds (IsMet g r) old new
block-adds g r b old new h step = adds-same (IsInBlock b) (IsMet g r) old new (block_met g r b h) step

pub block-cells : (g : Grid) (r : Rect) (b : Block) → IsBlockOf g r b → IsSomeBlock b → (b.row1 - b.row0) * (b.column1 - b.column0) ≡ cells_met g r
block-cells g r b h some =
    let r0 = h.row0 in
    let r1 = h.row1 in
    let c0 = h.column0 in
    let c1 = h.column1 in
    let a = some.rows in
    let c = some.columns in
    let rows : b.row1 - b.row0 ≡ numbers_in g.side g.y r.y0 r.y1 = omega (arith, r0, r1, a) in
    let columns : b.column1 - b.column0 ≡ numbers_in g.side g.x r.x0 r.x1 = omega (arith, c0, c1, c) in
    ap (λ m. m * (b.column1 - b.column0)) rows ∙ ap (λ m. numbers_in g.side g.y r.y0 r.y1 * m) columns

pub block-some : (g : Grid) (r : Rect) (b : Block) → 1 ≤ g.side → IsOver g r → IsBlockOf g r b → b.row1 ≤ 2000000001 → b.column1 ≤ 2000000001 → IsSomeBlock b
block-some g r b some over h low left =
    let wide = over.solid.wide in
    let tall = over.solid.tall in
    let r0 = h.row0 in
    let r1 = h.row1 in
    let c0 = h.column0 in
    let c1 = h.column1 in
    let rows = number-le g.side g.y r.y0 (r.y1 -ℤ pos 1) some over.up (omega (arith, ints, tall)) in
    let columns = number-le g.side g.x r.x0 (r.x1 -ℤ pos 1) some over.right (omega (arith, ints, wide)) in
    record { rows = omega (arith, r0, r1, rows); columns = omega (arith, c0, c1, columns); low = low; left = left }

pub block-small : (b : Block) → IsSomeBlock b → (b.row1 - b.row0) * (b.column1 - b.column0) ≤ 9223372036854775808
block-small b h =
    let low = h.low in
    let left = h.left in
    let m : (b.row1 - b.row0) * (b.column1 - b.column0) ≤ 2000000001 * 2000000001 = mul-le (b.row1 - b.row0)
    (b.column1 - b.column0) 2000000001 2000000001 (omega (arith, low)) (omega (arith, left)) in
    omega (arith, m)

pub rects-count : (g : Grid) (rects : List Rect) (n : ℕ) (d : Rect) (b : Block) (a m k : ℕ) → n < length rects
    → IsBlockOf g (get_or rects n d) b → IsSomeBlock b → m ≤ a + sum_by (cells_met g) (take n rects)
    → k ≤ m + (b.row1 - b.row0) * (b.column1 - b.column0) → k ≤ a + sum_by (cells_met g) (take (n + 1) rects)
rects-count g rects n d b a m k n_in h some before more =
    let cells = block-cells g (get_or rects n d) b h some in
    let sum = sum_by_more (cells_met g) rects n d n_in in
    omega (arith, more, before, cells, sum)

pub parts-count : (g : Grid) (parts : List (List Rect)) (n : ℕ) (x : List Rect) (a m k : ℕ) → n < length parts → get_or parts n x ≡ x
    → m ≤ a + pairs_of g (take n parts) → k ≤ m + sum_by (cells_met g) x → k ≤ a + pairs_of g (take (n + 1) parts)
parts-count g parts n x a m k n_in is before more =
    let sum = sum_by_more (λ part. sum_by (cells_met g) part) parts n x n_in in
    let same : sum_by (cells_met g) (get_or parts n x) ≡ sum_by (cells_met g) x = ap (λ part. sum_by (cells_met g) part) is in
    omega (arith, more, before, sum, same)

-- what two steps add to nothing, and what has the same elements
pub both-added : {Y : Type 0} (First Second : Y → Type 0) (none one two new : List Y) → none ≡ [] → Adds First none one → Adds Second one two
    → ((y : Y) → Contains new y ↔ Contains two y) → (y : Y) → Contains new y ↔ (First y ⊎ Second y)
both-added First Second none one two new is first second same y =
    let h = added-to_none (λ y. First y ⊎ Second y) none two is (adds-then First Second (λ y. First y ⊎ Second y) none one two (λ y. (λ k. k, λ k. k)) first second) y in
    (λ c. h.0 ((same y).0 c), λ k. (same y).1 (h.1 k))
