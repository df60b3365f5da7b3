-- A set of squares has one canonical list of slabs.
use Rattle.std.proofs.Common.{◌≡◌, ◌⊎◌, inl, inr, List, ◌∷◌, sym, refl, ap, ◌∙◌, subst, arith}
use Rattle.std.specs.Prelude.{ℤ, pos, ◌+ℤ◌, ◌-ℤ◌, ◌≤ℤ◌, ◌<ℤ◌}
use Rattle.std.specs.List.{AllPairs, Contains}
use Rattle.std.proofs.lemmas.Int.{ints, by_lt_z}
use Rattle.std.proofs.lemmas.List.Elements.{All-contains}
use Rattle.dpl_spec_split.specs.declared.Pt.{Pt}
use Rattle.dpl_spec_split.specs.declared.Rect.{Rect}
use Rattle.dpl_spec_split.specs.Squares.{SameSquares, Has, Covers, Precedes, IsLeast}
use Rattle.dpl_spec_split.specs.Slabs.{IsSolid, Before, ShareRow, StandApart, Follows, IsCanonical}
use Rattle.dpl_spec_split.proofs.Ordered.{members_cases, same_members, Contains-head, Contains-cases, AllPairs-first}

-- a square of a member is a square of the list
pub Covers-member : (rs : List Rect) (r : Rect) (p : Pt) → Contains rs r → Has r p → Covers rs p
Covers-member rs r p (k, within, is) has = (k, r, within, is, has)

-- some member has the square
pub member-Covers : (rs : List Rect) (p : Pt) → Covers rs p → (r : Rect) × Contains rs r × Has r p
member-Covers rs p (k, r, within, is, has) = (r, (k, within, is), has)

pub Before-strict : (a b : Rect) → Before a b → Before b a → ⊥
Before-strict a b (inl l) (inl m) = omega (arith, ints)
Before-strict a b (inl l) (inr m) = omega (arith, ints)
Before-strict a b (inr l) (inl m) = omega (arith, ints)
Before-strict a b (inr l) (inr m) = omega (arith, ints)

Follows-strict : (a b : Rect) → Follows a b → Follows b a → ⊥
Follows-strict a b f g = Before-strict a b f.before g.before

not_apart : (a b : Rect) → a.x0 ≤ℤ b.x1 → b.x0 ≤ℤ a.x1 → StandApart a b → ⊥
not_apart a b l r (inl s) = omega (arith, ints)
not_apart a b l r (inr s) = omega (arith, ints)

-- two slabs that share a row and overlap or touch there are one
pub meet_is_same : (rs : List Rect) (a b : Rect) → IsCanonical rs → Contains rs a → Contains rs b → ShareRow a b → a.x0 ≤ℤ b.x1 → b.x0 ≤ℤ a.x1 → a ≡ b
meet_is_same rs a b c in_a in_b rows left right =
    elim (members_cases Follows rs a b c.follow in_a in_b) [
      | inl f ↦ absurd (not_apart a b left right (f.apart rows))
      | inr e ↦ elim e [
        | inl same ↦ same
        | inr f ↦ absurd (not_apart b a right left (f.apart (rows.1, rows.0)))
      ]
    ]

-- directly left of a slab's row there is no square of the list
pub none_left : (rs : List Rect) (r : Rect) (q : Pt) → IsCanonical rs → Contains rs r → r.y0 ≤ℤ q.y → q.y <ℤ r.y1 → q.x +ℤ pos 1 ≡ r.x0 → Covers rs q → ⊥
none_left rs r q c in_r low high beside covered =
    let found = member-Covers rs q covered in
    let other : Rect = found.0 in
    let has : Has other q = found.2 in
    let solid : IsSolid r = All-contains IsSolid rs r c.solid in_r in
    let same : other ≡ r = meet_is_same rs other r c found.1 in_r (
      omega (arith, ints, has.low, has.high),
      omega (arith, ints, has.low, has.high),
    ) (omega (arith, ints, has.left, has.right, solid.wide))
    (omega (arith, ints, has.left, has.right, solid.wide)) in
    let again : Has r q = subst (λ s. Has s q) same has in
    omega (arith, ints, again.left)

-- nor directly right of it
pub none_right : (rs : List Rect) (r : Rect) (q : Pt) → IsCanonical rs → Contains rs r → r.y0 ≤ℤ q.y → q.y <ℤ r.y1 → q.x ≡ r.x1 → Covers rs q → ⊥
none_right rs r q c in_r low high beside covered =
    let found = member-Covers rs q covered in
    let other : Rect = found.0 in
    let has : Has other q = found.2 in
    let solid : IsSolid r = All-contains IsSolid rs r c.solid in_r in
    let same : other ≡ r = meet_is_same rs other r c found.1 in_r (
      omega (arith, ints, has.low, has.high),
      omega (arith, ints, has.low, has.high),
    ) (omega (arith, ints, has.left, has.right, solid.wide))
    (omega (arith, ints, has.left, has.right, solid.wide)) in
    let again : Has r q = subst (λ s. Has s q) same has in
    omega (arith, ints, again.right)

abbrev pub at : ℤ → ℤ → Pt
at x y = record { x = x; y = y }

-- Below, r is a slab of one list and s one of another, with a square p in both.
left_least : (rs ss : List Rect) (r s : Rect) (p : Pt) → IsCanonical rs → Contains rs r → Contains ss s → Has r p → Has s p → ((q : Pt) → Covers ss q → Covers rs q) → r.x0 ≤ℤ s.x0
left_least rs ss r s p c in_r in_s hr hs within =
    by_lt_z s.x0 r.x0
    (λ l. let q : Pt = at (r.x0 -ℤ pos 1) p.y in
    let has : Has s q = record { left = omega (arith, ints, l); right = omega (arith, ints, hr.left, hs.right); low = hs.low; high = hs.high } in
    absurd (none_left rs r q c in_r hr.low hr.high (omega (arith, ints)) (within q (Covers-member ss s q in_s has))))
    (λ h. h)

right_most : (rs ss : List Rect) (r s : Rect) (p : Pt) → IsCanonical rs → Contains rs r → Contains ss s → Has r p → Has s p → ((q : Pt) → Covers ss q → Covers rs q) → s.x1 ≤ℤ r.x1
right_most rs ss r s p c in_r in_s hr hs within =
    by_lt_z r.x1 s.x1
    (λ l. let q : Pt = at r.x1 p.y in
    let has : Has s q = record { left = omega (arith, ints, hr.right, hs.left); right = l; low = hs.low; high = hs.high } in
    absurd (none_right rs r q c in_r hr.low hr.high refl (within q (Covers-member ss s q in_s has))))
    (λ h. h)

pub record SameColumns (r s : Rect) : Type 0 where
  pub left : r.x0 ≡ s.x0
  pub right : r.x1 ≡ s.x1

module _ (rs ss : List Rect) (cr : IsCanonical rs) (cs : IsCanonical ss) (into : (q : Pt) → Covers rs q → Covers ss q) (back : (q : Pt) → Covers ss q → Covers rs q) where
  same_columns : (r s : Rect) (p : Pt) → Contains rs r → Contains ss s → Has r p → Has s p → SameColumns r s
  same_columns r s p in_r in_s hr hs =
      let a = left_least rs ss r s p cr in_r in_s hr hs back in
      let b = left_least ss rs s r p cs in_s in_r hs hr into in
      let c = right_most rs ss r s p cr in_r in_s hr hs back in
      let d = right_most ss rs s r p cs in_s in_r hs hr into in
      record { left = omega (arith, ints, a, b); right = omega (arith, ints, c, d) }

  -- a slab with r's columns that has a square in the row below r is no slab of r's list
  pub none_below : (r t : Rect) (q : Pt) → Contains rs r → Contains rs t → SameColumns t r → Has t q → q.y +ℤ pos 1 ≡ r.y0 → ⊥
  none_below r t q in_r in_t same has beside =
      let solid : IsSolid r = All-contains IsSolid rs r cr.solid in_r in
      by_lt_z r.y0 t.y1
      (λ l. let one : t ≡ r = meet_is_same rs t r cr in_t in_r (omega (arith, ints, has.low, solid.tall), l)
      (omega (arith, ints, same.left, same.right, solid.wide)) (omega (arith, ints, same.left, same.right, solid.wide)) in
      let again : Has r q = subst (λ u. Has u q) one has in
      omega (arith, ints, again.low))
      (λ h. elim (members_cases Follows rs t r cr.follow in_t in_r) [
        | inl f ↦ f.separate (record { row = omega (arith, ints, has.high, h); left = sym same.left; right = sym same.right })
        | inr e ↦ elim e [
          | inl one ↦ (let again : Has r q = subst (λ u. Has u q) one has in omega (arith, ints, again.low))
          | inr f ↦ Before-strict r t f.before (inl (omega (arith, ints, has.low)))
        ]
      ])

  low_least : (r s : Rect) (p : Pt) → Contains rs r → Contains ss s → Has r p → Has s p → r.y0 ≤ℤ s.y0
  low_least r s p in_r in_s hr hs =
      by_lt_z s.y0 r.y0
      (λ l. let q : Pt = at p.x (r.y0 -ℤ pos 1) in
      let has : Has s q = record { left = hs.left; right = hs.right; low = omega (arith, ints, l); high = omega (arith, ints, hr.low, hs.high) } in
      let found = member-Covers rs q (back q (Covers-member ss s q in_s has)) in
      let t : Rect = found.0 in
      let t_s = same_columns t s q found.1 in_s found.2 has in
      let r_s = same_columns r s p in_r in_s hr hs in
      absurd (none_below r t q in_r found.1 (record { left = t_s.left ∙ sym r_s.left; right = t_s.right ∙ sym r_s.right }) found.2 (omega (arith, ints))))
      (λ h. h)

  pub none_above : (r t : Rect) (q : Pt) → Contains rs r → Contains rs t → SameColumns t r → Has t q → q.y ≡ r.y1 → ⊥
  none_above r t q in_r in_t same has beside =
      let solid : IsSolid r = All-contains IsSolid rs r cr.solid in_r in
      by_lt_z t.y0 r.y1
      (λ l. let one : t ≡ r = meet_is_same rs t r cr in_t in_r (l, omega (arith, ints, has.high, solid.tall))
      (omega (arith, ints, same.left, same.right, solid.wide)) (omega (arith, ints, same.left, same.right, solid.wide)) in
      let again : Has r q = subst (λ u. Has u q) one has in
      omega (arith, ints, again.high))
      (λ h. elim (members_cases Follows rs t r cr.follow in_t in_r) [
        | inl f ↦ Before-strict t r f.before (inl (omega (arith, ints, has.low, solid.tall, h)))
        | inr e ↦ elim e [
          | inl one ↦ (let again : Has r q = subst (λ u. Has u q) one has in omega (arith, ints, again.high))
          | inr f ↦ f.separate (record { row = omega (arith, ints, has.low, h); left = same.left; right = same.right })
        ]
      ])

  high_most : (r s : Rect) (p : Pt) → Contains rs r → Contains ss s → Has r p → Has s p → s.y1 ≤ℤ r.y1
  high_most r s p in_r in_s hr hs =
      by_lt_z r.y1 s.y1
      (λ l. let q : Pt = at p.x r.y1 in
      let has : Has s q = record { left = hs.left; right = hs.right; low = omega (arith, ints, hr.high, hs.low); high = l } in
      let found = member-Covers rs q (back q (Covers-member ss s q in_s has)) in
      let t : Rect = found.0 in
      let t_s = same_columns t s q found.1 in_s found.2 has in
      let r_s = same_columns r s p in_r in_s hr hs in
      absurd (none_above r t q in_r found.1 (record { left = t_s.left ∙ sym r_s.left; right = t_s.right ∙ sym r_s.right }) found.2 refl))
      (λ h. h)

pub same_rect : (r s : Rect) → r.x0 ≡ s.x0 → r.y0 ≡ s.y0 → r.x1 ≡ s.x1 → r.y1 ≡ s.y1 → r ≡ s
same_rect r s a b c d =
    let of_corners : ℤ → ℤ → ℤ → ℤ → Rect = λ x0 y0 x1 y1. record { x0 = x0; y0 = y0; x1 = x1; y1 = y1 } in
    ap (λ x0. of_corners x0 r.y0 r.x1 r.y1) a
    ∙ (ap (λ y0. of_corners s.x0 y0 r.x1 r.y1) b
    ∙ (ap (λ x1. of_corners s.x0 s.y0 x1 r.y1) c ∙ ap (λ y1. of_corners s.x0 s.y0 s.x1 y1) d))

-- each slab of one list is a slab of the other
members_into : (rs ss : List Rect) → IsCanonical rs → IsCanonical ss → ((q : Pt) → Covers rs q → Covers ss q)
    → ((q : Pt) → Covers ss q → Covers rs q) → (r : Rect) → Contains rs r → Contains ss r
members_into rs ss cr cs into back r in_r =
    let solid : IsSolid r = All-contains IsSolid rs r cr.solid in_r in
    let p : Pt = at r.x0 r.y0 in
    let has : Has r p = record { left = omega (arith, ints); right = solid.wide; low = omega (arith, ints); high = solid.tall } in
    let found = member-Covers ss p (into p (Covers-member rs r p in_r has)) in
    let s : Rect = found.0 in
    let columns = same_columns rs ss cr cs into back r s p in_r found.1 has found.2 in
    let a = low_least rs ss cr cs into back r s p in_r found.1 has found.2 in
    let b = low_least ss rs cs cr back into s r p found.1 in_r found.2 has in
    let c = high_most rs ss cr cs into back r s p in_r found.1 has found.2 in
    let d = high_most ss rs cs cr back into s r p found.1 in_r found.2 has in
    let same : s ≡ r = same_rect s r (sym columns.left) (omega (arith, ints, a, b)) (sym columns.right) (omega (arith, ints, c, d)) in
    subst (λ t. Contains ss t) same found.1

-- two canonical lists of the same squares are one list
pub canonical-unique : (rs ss : List Rect) → IsCanonical rs → IsCanonical ss → SameSquares (Covers rs) (Covers ss) → rs ≡ ss
canonical-unique rs ss cr cs same =
    let into : (q : Pt) → Covers rs q → Covers ss q = λ q. (same q).0 in
    let back : (q : Pt) → Covers ss q → Covers rs q = λ q. (same q).1 in
    same_members Follows Follows-strict rs ss cr.follow cs.follow (λ r. (members_into rs ss cr cs into back r, members_into ss rs cs cr back into r))

-- the corner of a rectangle comes before each square of a rectangle that is not before it
corner_first : (r s : Rect) (q : Pt) → (r ≡ s) ⊎ Before r s → Has s q → (at r.x0 r.y0 ≡ q) ⊎ Precedes (at r.x0 r.y0) q
corner_first r s q order has =
    let row : r.y0 ≤ℤ q.y = elim order [
      | inl same ↦ (let again : Has r q = subst (λ u. Has u q) (sym same) has in again.low)
      | inr b ↦ elim b [ inl l ↦ omega (arith, ints, has.low, l) | inr l ↦ omega (arith, ints, has.low, l) ]
    ] in
    by_lt_z r.y0 q.y (λ l. inr (inl l)) (λ l.
    let level : r.y0 ≡ q.y = omega (arith, ints, row, l) in
    let column : r.x0 ≤ℤ q.x = elim order [
      | inl same ↦ (let again : Has r q = subst (λ u. Has u q) (sym same) has in again.left)
      | inr b ↦ elim b [ inl m ↦ absurd (omega (arith, ints, has.low, m, level)) | inr m ↦ omega (arith, ints, has.left, m) ]
    ] in
    by_lt_z r.x0 q.x (λ m. inr (inr (level, m))) (λ m.
    let line : r.x0 ≡ q.x = omega (arith, ints, column, m) in
    inl (ap (λ x. at x r.y0) line ∙ ap (λ y. at q.x y) level)))

first_or_later : (r : Rect) (rs : List Rect) (s : Rect) → AllPairs Follows (r ∷ rs) → (r ≡ s) ⊎ Contains rs s → (r ≡ s) ⊎ Before r s
first_or_later r rs s all (inl same) = inl same
first_or_later r rs s all (inr later) = let f : Follows r s = AllPairs-first Follows r s rs all later in inr f.before

-- the corner of the first slab is the least square
pub IsLeast-first : (r : Rect) (rs : List Rect) → IsCanonical (r ∷ rs) → IsLeast (Covers (r ∷ rs)) (at r.x0 r.y0)
IsLeast-first r rs c =
    let solid : IsSolid r = All-contains IsSolid (r ∷ rs) r c.solid (Contains-head r rs) in
    record {
      inside = Covers-member (r ∷ rs) r _ (Contains-head r rs) (record { left = omega (arith, ints); right = solid.wide; low = omega (arith, ints); high = solid.tall });
      first = λ q covered. let found = member-Covers (r ∷ rs) q covered in
          corner_first r found.0 q (first_or_later r rs found.0 c.follow (Contains-cases r found.0 rs found.1)) found.2;
    }
