-- The least rectangle round some squares.
use Rattle.std.proofs.Common.{◌≡◌, inl, inr, ◌⊎◌, List, [], ◌∷◌, sym, refl, ◌∙◌, subst, arith, rules}
use Rattle.std.specs.Prelude.{◌↔◌, ℤ, pos, ◌+ℤ◌, ◌-ℤ◌, ◌≤ℤ◌, Option, Some, None, IsNone, IfSome}
use Rattle.std.specs.List.{Any, Contains, fold}
use Rattle.std.proofs.lemmas.Int.{ints, clamps, by_lt_z}
use Rattle.std.specs.Int.{int_min, int_max}
use Rattle.dpl_spec_split.specs.declared.Pt.{Pt}
use Rattle.dpl_spec_split.specs.declared.Rect.{Rect}
use Rattle.dpl_spec_split.specs.Squares.{Region, Has, Covers}
use Rattle.dpl_spec_split.specs.Slabs.{IsSolid}
use Rattle.dpl_spec_split.proofs.Ordered.{Contains-head, Contains-later, Contains-cases, Contains-nil}
use Rattle.dpl_slabs.specs.Parts.{union_of}
use Rattle.dpl_base.specs.Bounds.{round_one}
use Rattle.dpl_tile.specs.Bounds.{round_all}
use Rattle.dpl_tile.specs.Tiles.{IsBounds}

-- none, or the least rectangle round the set
abbrev pub AreRound : Region → Option Rect → Type 0
AreRound a None = (p : Pt) → a p → ⊥
AreRound a (Some b) = IsBounds a b

smaller-is : (x y : ℤ) → ((int_min x y ≡ x) × (x ≤ℤ y)) ⊎ ((int_min x y ≡ y) × (y ≤ℤ x))
smaller-is x y = by_lt_z y x (λ l. inr (omega (arith, ints, clamps, l), omega (arith, ints, l))) (λ l. inl (omega (arith, ints, clamps, l), l))

greater-is : (x y : ℤ) → ((int_max x y ≡ x) × (y ≤ℤ x)) ⊎ ((int_max x y ≡ y) × (x ≤ℤ y))
greater-is x y = by_lt_z y x (λ l. inl (omega (arith, ints, clamps, l), omega (arith, ints, l))) (λ l. inr (omega (arith, ints, clamps, l), l))

smaller-le : (x y : ℤ) → (int_min x y ≤ℤ x) × (int_min x y ≤ℤ y)
smaller-le x y = (omega (arith, ints, clamps), omega (arith, ints, clamps))

greater-ge : (x y : ℤ) → (x ≤ℤ int_max x y) × (y ≤ℤ int_max x y)
greater-ge x y = (omega (arith, ints, clamps), omega (arith, ints, clamps))

-- one set and a rectangle more
abbrev Or : Region → Rect → Region
Or a r p = a p ⊎ Has r p

round_none : (a : Region) (r : Rect) → IsSolid r → ((p : Pt) → a p → ⊥) → IsBounds (Or a r) r
round_none a r solid none =
    let w = solid.wide in
    let t = solid.tall in
    record {
      inside = λ p h. elim h [ inl b ↦ absurd (none p b) | inr b ↦ b ];
      left = (record { x = r.x0; y = r.y0 }, inr (record { left = omega (arith, ints); right = w; low = omega (arith, ints); high = t }), refl);
      right = (
        record { x = r.x1 -ℤ pos 1; y = r.y0 },
        inr (record { left = omega (arith, ints, w); right = omega (arith, ints); low = omega (arith, ints); high = t }),
        omega (arith, ints),
      );
      low = (record { x = r.x0; y = r.y0 }, inr (record { left = omega (arith, ints); right = w; low = omega (arith, ints); high = t }), refl);
      high = (
        record { x = r.x0; y = r.y1 -ℤ pos 1 },
        inr (record { left = omega (arith, ints); right = w; low = omega (arith, ints, t); high = omega (arith, ints) }),
        omega (arith, ints),
      );
    }

module _ (a : Region) (b r : Rect) (solid : IsSolid r) (old : IsBounds a b) where
  within_old : (p : Pt) → Has b p → Has (record { x0 = int_min b.x0 r.x0; y0 = int_min b.y0 r.y0; x1 = int_max b.x1 r.x1; y1 = int_max b.y1 r.y1 }) p
  within_old p h =
      let l = (smaller-le b.x0 r.x0).0 in
      let m = (smaller-le b.y0 r.y0).0 in
      let n = (greater-ge b.x1 r.x1).0 in
      let k = (greater-ge b.y1 r.y1).0 in
      let c = h.left in
      let d = h.right in
      let e = h.low in
      let f = h.high in
      record { left = omega (arith, ints, l, c); right = omega (arith, ints, n, d); low = omega (arith, ints, m, e); high = omega (arith, ints, k, f) }

  within_new : (p : Pt) → Has r p → Has (record { x0 = int_min b.x0 r.x0; y0 = int_min b.y0 r.y0; x1 = int_max b.x1 r.x1; y1 = int_max b.y1 r.y1 }) p
  within_new p h =
      let l = (smaller-le b.x0 r.x0).1 in
      let m = (smaller-le b.y0 r.y0).1 in
      let n = (greater-ge b.x1 r.x1).1 in
      let k = (greater-ge b.y1 r.y1).1 in
      let c = h.left in
      let d = h.right in
      let e = h.low in
      let f = h.high in
      record { left = omega (arith, ints, l, c); right = omega (arith, ints, n, d); low = omega (arith, ints, m, e); high = omega (arith, ints, k, f) }

  new_left : (p : Pt) × Or a r p × (p.x ≡ int_min b.x0 r.x0)
  new_left =
      let none = round_none (λ p. ⊥) r solid (λ p h. h) in
      elim (smaller-is b.x0 r.x0) [
        | inl (e, l) ↦ (let (p, h, is) = old.left in (p, inl h, is ∙ sym e))
        | inr (e, l) ↦ (let (p, h, is) = none.left in (p, elim h [ inl q ↦ absurd q | inr q ↦ inr q ], is ∙ sym e))
      ]

  new_right : (p : Pt) × Or a r p × (p.x +ℤ pos 1 ≡ int_max b.x1 r.x1)
  new_right =
      let none = round_none (λ p. ⊥) r solid (λ p h. h) in
      elim (greater-is b.x1 r.x1) [
        | inl (e, l) ↦ (let (p, h, is) = old.right in (p, inl h, is ∙ sym e))
        | inr (e, l) ↦ (let (p, h, is) = none.right in (p, elim h [ inl q ↦ absurd q | inr q ↦ inr q ], is ∙ sym e))
      ]

  new_low : (p : Pt) × Or a r p × (p.y ≡ int_min b.y0 r.y0)
  new_low =
      let none = round_none (λ p. ⊥) r solid (λ p h. h) in
      elim (smaller-is b.y0 r.y0) [
        | inl (e, l) ↦ (let (p, h, is) = old.low in (p, inl h, is ∙ sym e))
        | inr (e, l) ↦ (let (p, h, is) = none.low in (p, elim h [ inl q ↦ absurd q | inr q ↦ inr q ], is ∙ sym e))
      ]

  new_high : (p : Pt) × Or a r p × (p.y +ℤ pos 1 ≡ int_max b.y1 r.y1)
  new_high =
      let none = round_none (λ p. ⊥) r solid (λ p h. h) in
      elim (greater-is b.y1 r.y1) [
        | inl (e, l) ↦ (let (p, h, is) = old.high in (p, inl h, is ∙ sym e))
        | inr (e, l) ↦ (let (p, h, is) = none.high in (p, elim h [ inl q ↦ absurd q | inr q ↦ inr q ], is ∙ sym e))
      ]

  round_some : IsBounds (Or a r) (record { x0 = int_min b.x0 r.x0; y0 = int_min b.y0 r.y0; x1 = int_max b.x1 r.x1; y1 = int_max b.y1 r.y1 })
  round_some =
      record {
        inside = λ p h. elim h [ inl q ↦ within_old p (old.inside p q) | inr q ↦ within_new p q ];
        left = new_left;
        right = new_right;
        low = new_low;
        high = new_high;
      }

one_round : (a : Region) (o : Option Rect) (r : Rect) → IsSolid r → AreRound a o → AreRound (Or a r) (round_one o r)
one_round a None r solid h = round_none a r solid h
one_round a (Some b) r solid h = round_some a b r solid h

region_same : (a b : Region) (o : Option Rect) → ((p : Pt) → a p ↔ b p) → AreRound a o → AreRound b o
region_same a b None same h = λ p q. h p ((same p).1 q)
region_same a b (Some r) same h =
    record {
      inside = λ p q. h.inside p ((same p).1 q);
      left = (let (p, q, is) = h.left in (p, (same p).0 q, is));
      right = (let (p, q, is) = h.right in (p, (same p).0 q, is));
      low = (let (p, q, is) = h.low in (p, (same p).0 q, is));
      high = (let (p, q, is) = h.high in (p, (same p).0 q, is));
    }

any_cases : {X : Type 0} (P : X → Type 0) (x : X) (xs : List X) → Any P (x ∷ xs) ↔ (P x ⊎ Any P xs)
any_cases P x xs = (
  λ (k, y, k_in, is, h). elim (Contains-cases x y xs (k, k_in, is)) [ inl same ↦ inl (subst P (sym same) h) | inr (m, m_in, m_is) ↦ inr (m, y, m_in, m_is, h) ],
  λ h. elim h [
    | inl p ↦ (let (m, m_in, m_is) = Contains-head x xs in (m, x, m_in, m_is, p))
    | inr (k, y, k_in, is, p) ↦ (let (m, m_in, m_is) = Contains-later x y xs (k, k_in, is) in (m, y, m_in, m_is, p))
  ],
)

any_nil : {X : Type 0} (P : X → Type 0) → Any P [] → ⊥
any_nil P (k, y, k_in, is, h) = Contains-nil y (k, k_in, is)

rects_round : (rects : List Rect) (a : Region) (o : Option Rect) → ((r : Rect) → Contains rects r → IsSolid r) → AreRound a o
    → AreRound (λ p. a p ⊎ Covers rects p) (round_all o rects)
rects_round [] a o solid h = region_same a (λ p. a p ⊎ Covers [] p) o (λ p. (λ q. inl q, λ q. elim q [ inl b ↦ b | inr b ↦ absurd (any_nil (λ r. Has r p) b) ])) h
rects_round (r ∷ rects) a o solid h =
    region_same (λ p. Or a r p ⊎ Covers rects p) (λ p. a p ⊎ Covers (r ∷ rects) p) (round_all (round_one o r) rects)
    (λ p. (
      λ q. elim q [ inl b ↦ elim b [ inl c ↦ inl c | inr c ↦ inr ((any_cases (λ s. Has s p) r rects).1 (inl c)) ] | inr b ↦ inr ((any_cases (λ s. Has s p) r rects).1 (inr b)) ],
      λ q. elim q [ inl b ↦ inl (inl b) | inr b ↦ elim ((any_cases (λ s. Has s p) r rects).0 b) [ inl c ↦ inl (inr c) | inr c ↦ inr c ] ],
    ))
    (rects_round rects (Or a r) (round_one o r) (λ s s_in. solid s (Contains-later r s rects s_in)) (one_round a o r (solid r (Contains-head r rects)) h))

parts_round : (parts : List (List Rect)) (a : Region) (o : Option Rect) → ((part : List Rect) (r : Rect) → Contains parts part → Contains part r → IsSolid r) → AreRound a o
    → AreRound (λ p. a p ⊎ union_of parts p) (fold round_all o parts)
parts_round [] a o solid h = region_same a (λ p. a p ⊎ union_of [] p) o (λ p. (λ q. inl q, λ q. elim q [ inl b ↦ b | inr b ↦ absurd (any_nil (λ part. Covers part p) b) ])) h
parts_round (s ∷ parts) a o solid h =
    region_same (λ p. (a p ⊎ Covers s p) ⊎ union_of parts p) (λ p. a p ⊎ union_of (s ∷ parts) p) (fold round_all (round_all o s) parts)
    (λ p. (
      λ q. elim q [
        | inl b ↦ elim b [ inl c ↦ inl c | inr c ↦ inr ((any_cases (λ t. Covers t p) s parts).1 (inl c)) ]
        | inr b ↦ inr ((any_cases (λ t. Covers t p) s parts).1 (inr b))
      ],
      λ q. elim q [ inl b ↦ inl (inl b) | inr b ↦ elim ((any_cases (λ t. Covers t p) s parts).0 b) [ inl c ↦ inl (inr c) | inr c ↦ inr c ] ],
    ))
    (parts_round parts (λ p. a p ⊎ Covers s p) (round_all o s) (λ t r t_in r_in. solid t r (Contains-later s t parts t_in) r_in)
    (rects_round s a o (λ r r_in. solid s r (Contains-head s parts) r_in) h))

-- the bounds of the parts
pub parts-round : (parts : List (List Rect)) → ((part : List Rect) (r : Rect) → Contains parts part → Contains part r → IsSolid r)
    → AreRound (union_of parts) (fold round_all None parts)
parts-round parts solid =
    region_same (λ p. ⊥ ⊎ union_of parts p) (union_of parts) (fold round_all None parts)
    (λ p. (λ q. elim q [ inl b ↦ absurd b | inr b ↦ b ], λ q. inr q)) (parts_round parts (λ p. ⊥) None solid (λ p h. h))

pub none-round : (a : Region) (o : Option Rect) → AreRound a o → IsNone o → (p : Pt) → a p → ⊥
none-round a None h n = h
none-round a (Some b) h n = λ p q. cc

pub some-round : (a : Region) (o : Option Rect) → AreRound a o → IfSome o (λ b. IsBounds a b)
some-round a None h = search rules
some-round a (Some b) h = h
