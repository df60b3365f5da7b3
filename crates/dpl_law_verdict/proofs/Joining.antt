-- Places of a cycle: whether two are joined can be told, and joined places have joined vertices.
use Rattle.std.proofs.Common.{◌≡◌, ◌≢◌, ℕ, ◌<◌, ◌⊎◌, inl, inr, Bool, true, false, [], length, get_or, refl, sym, ap, subst, arith}
use Rattle.std.specs.Prelude.{Option, Some, None}
use Rattle.std.proofs.lemmas.Int.{ints, by_lt_z}
use Rattle.std.proofs.lemmas.Bool.{cases_eq, cases_lt}
use Rattle.dpl_spec_split.proofs.SpacingLaws.{near-or_far}
use Rattle.dpl_spec_split.specs.declared.Spacing.{Spacing}
use Rattle.dpl_spec_split.specs.declared.Pt.{Pt}
use Rattle.dpl_spec_split.specs.Squares.{Region, Covers, IsLeast, Near}
use Rattle.dpl_spec_split.specs.Zones.{part_at}
use Rattle.dpl_spec_split.specs.Pieces.{Conflict}
use Rattle.dpl_spec_split.specs.Decomposition.{Cut, IsCut, cut_graph}
use Rattle.dpl_spec_split.specs.Marks.{Marks, conflict, up, down, anchors, fixed_to_a, fixed_to_b}
use Rattle.dpl_law_split.proofs.Parts.{zip-at}
use Rattle.dpl_cert.specs.declared.cert.PlaceLine.{PlaceLine}
use Rattle.dpl_cert.specs.declared.cert.PlaceLine.TheVariants.{Piece, Anchor}
use Rattle.dpl_cert.specs.declared.cert.NearLine.{NearLine}
use Rattle.dpl_cert.specs.declared.cert.NearLine.TheVariants.{Pair, Mark, Anchors}
use Rattle.dpl_spec_verdict.specs.Conflicts.{AreInConflict, AreJoined, AreSame, IsHeldBy, IsNamed, marked_against}
use Rattle.dpl_law_verdict.specs.Valid.{IsKeyed, vertex_of}
use Rattle.dpl_law_verdict.proofs.Telling.{covered_or_not, part-known}

-- ---- what can be told

point_or_not : (p q : Pt) → (p ≡ q) ⊎ ((p ≡ q) → ⊥)
point_or_not p q =
    by_lt_z p.x q.x (λ l. inr (λ e. let x = ap (λ (s : Pt). s.x) e in omega (arith, ints, l, x)))
    (λ a. by_lt_z q.x p.x (λ l. inr (λ e. let x = ap (λ (s : Pt). s.x) e in omega (arith, ints, l, x)))
    (λ b. by_lt_z p.y q.y (λ l. inr (λ e. let y = ap (λ (s : Pt). s.y) e in omega (arith, ints, l, y)))
    (λ c. by_lt_z q.y p.y (λ l. inr (λ e. let y = ap (λ (s : Pt). s.y) e in omega (arith, ints, l, y)))
    (λ d. inl (let x : p.x ≡ q.x = omega (arith, ints, a, b) in let y : p.y ≡ q.y = omega (arith, ints, c, d) in λ i. record { x = x i; y = y i })))))

less_or_not : (m n : ℕ) → (m < n) ⊎ (m < n → ⊥)
less_or_not m n = elim (cases_lt m n) [ inl l ↦ inl l | inr l ↦ inr (λ h. omega (arith, l, h)) ]

both_or_not : (A B : Type 0) → A ⊎ (A → ⊥) → B ⊎ (B → ⊥) → (A × B) ⊎ (A × B → ⊥)
both_or_not A B (inr a) second = inr (λ h. a h.0)
both_or_not A B (inl first) (inr b) = inr (λ h. b h.1)
both_or_not A B (inl first) (inl second) = inl (first, second)

conflict_if : (spacing : Spacing) (cut : Cut) (i j : ℕ) (p q : Pt) → part_at cut.pieces i p ⊎ (part_at cut.pieces i p → ⊥)
    → part_at cut.pieces j q ⊎ (part_at cut.pieces j q → ⊥) → Near spacing p q ⊎ (Near spacing p q → ⊥)
    → (get_or cut.owners i 0 ≡ get_or cut.owners j 0) ⊎ (get_or cut.owners i 0 ≢ get_or cut.owners j 0)
    → AreInConflict spacing cut i j p q ⊎ (AreInConflict spacing cut i j p q → ⊥)
conflict_if spacing cut i j p q (inr a) to near owners = inr (λ h. a h.from)
conflict_if spacing cut i j p q (inl from) (inr a) near owners = inr (λ h. a h.to)
conflict_if spacing cut i j p q (inl from) (inl to) (inr a) owners = inr (λ h. a h.near)
conflict_if spacing cut i j p q (inl from) (inl to) (inl near) (inl same) = inr (λ h. h.apart same)
conflict_if spacing cut i j p q (inl from) (inl to) (inl near) (inr apart) = inl (record { from = from; to = to; near = near; apart = apart })

conflict_or_not : (spacing : Spacing) (cut : Cut) (i j : ℕ) (p q : Pt) → AreInConflict spacing cut i j p q ⊎ (AreInConflict spacing cut i j p q → ⊥)
conflict_or_not spacing cut i j p q =
    conflict_if spacing cut i j p q (covered_or_not (get_or cut.pieces i []) p) (covered_or_not (get_or cut.pieces j []) q) (near-or_far spacing p q)
    (cases_eq (get_or cut.owners i 0) (get_or cut.owners j 0))

mark_or_not : (marks : Option Marks) (b : Bool) (p : Pt) → marked_against marks b p ⊎ (marked_against marks b p → ⊥)
mark_or_not None false p = inr (λ h. h)
mark_or_not None true p = inr (λ h. h)
mark_or_not (Some m) false p = covered_or_not m.b p
mark_or_not (Some m) true p = covered_or_not m.a p

held_or_not : (marks : Option Marks) (cut : Cut) (i : ℕ) (b : Bool) (p : Pt) → IsHeldBy marks cut i b p ⊎ (IsHeldBy marks cut i b p → ⊥)
held_or_not marks cut i b p = both_or_not (part_at cut.pieces i p) (marked_against marks b p) (covered_or_not (get_or cut.pieces i []) p) (mark_or_not marks b p)

pub joined_or_not : (marks : Option Marks) (spacing : Spacing) (cut : Cut) (x y : PlaceLine) (l : NearLine)
    → AreJoined marks spacing cut x y l ⊎ (AreJoined marks spacing cut x y l → ⊥)
joined_or_not marks spacing cut (Piece i a) (Piece j b) (Pair p q) = conflict_or_not spacing cut i j p q
joined_or_not marks spacing cut (Piece i a) (Piece j b) (Mark p) = inr (λ h. h)
joined_or_not marks spacing cut (Piece i a) (Piece j b) Anchors = inr (λ h. h)
joined_or_not marks spacing cut (Piece i a) (Anchor b) (Pair p q) = inr (λ h. h)
joined_or_not marks spacing cut (Piece i a) (Anchor b) (Mark p) = held_or_not marks cut i b p
joined_or_not marks spacing cut (Piece i a) (Anchor b) Anchors = inr (λ h. h)
joined_or_not marks spacing cut (Anchor b) (Piece j a) (Pair p q) = inr (λ h. h)
joined_or_not marks spacing cut (Anchor b) (Piece j a) (Mark p) = held_or_not marks cut j b p
joined_or_not marks spacing cut (Anchor b) (Piece j a) Anchors = inr (λ h. h)
joined_or_not marks spacing cut (Anchor b) (Anchor c) (Pair p q) = inr (λ h. h)
joined_or_not marks spacing cut (Anchor b) (Anchor c) (Mark p) = inr (λ h. h)
joined_or_not marks spacing cut (Anchor b) (Anchor c) Anchors = inl tt

pub named_or_not : (marks : Option Marks) (cut : Cut) (x : PlaceLine) → IsNamed marks cut x ⊎ (IsNamed marks cut x → ⊥)
named_or_not marks cut (Piece n key) =
    both_or_not (n < length cut.pieces) (key ≡ get_or cut.keys n key) (less_or_not n (length cut.pieces)) (point_or_not key (get_or cut.keys n key))
named_or_not None cut (Anchor b) = inr (λ h. h)
named_or_not (Some m) cut (Anchor b) = inl tt

-- ---- what it gives

pub same-back : (x y : PlaceLine) → AreSame x y → AreSame y x
same-back (Piece i a) (Piece j b) e = sym e
same-back (Piece i a) (Anchor b) h = h
same-back (Anchor b) (Piece j a) h = h
same-back (Anchor b) (Anchor c) e = sym e

-- one vertex is one place
pub same-vertex : (marks : Option Marks) (cut : Cut) (x y : PlaceLine) → IsNamed marks cut x → IsNamed marks cut y → vertex_of marks x ≡ vertex_of marks y → AreSame x y
same-vertex None cut (Piece i a) (Piece j b) x_named y_named e = e
same-vertex None cut (Piece i a) (Anchor b) x_named y_named e = absurd y_named
same-vertex None cut (Anchor b) y x_named y_named e = absurd x_named
same-vertex (Some m) cut (Piece i a) (Piece j b) x_named y_named e = omega (arith, e)
same-vertex (Some m) cut (Piece i a) (Anchor false) x_named y_named e = absurd (omega (arith, e))
same-vertex (Some m) cut (Piece i a) (Anchor true) x_named y_named e = absurd (omega (arith, e))
same-vertex (Some m) cut (Anchor false) (Piece j a) x_named y_named e = absurd (omega (arith, e))
same-vertex (Some m) cut (Anchor true) (Piece j a) x_named y_named e = absurd (omega (arith, e))
same-vertex (Some m) cut (Anchor false) (Anchor false) x_named y_named e = refl
same-vertex (Some m) cut (Anchor false) (Anchor true) x_named y_named e = absurd (omega (arith, e))
same-vertex (Some m) cut (Anchor true) (Anchor false) x_named y_named e = absurd (omega (arith, e))
same-vertex (Some m) cut (Anchor true) (Anchor true) x_named y_named e = refl

shown-conflict : (spacing : Spacing) (cut : Cut) (i j : ℕ) (p q : Pt) → AreInConflict spacing cut i j p q → Conflict spacing cut.pieces cut.owners i j
shown-conflict spacing cut i j p q h = record {
  first = part-known cut.pieces i p h.from;
  second = part-known cut.pieces j q h.to;
  apart = h.apart;
  near = (p, q, h.from, h.to, h.near);
}

unmarked : (b : Bool) (p : Pt) → marked_against None b p → ⊥
unmarked false p h = h
unmarked true p h = h

-- joined places are different, or their vertices are joined
pub joined-edge : (marks : Option Marks) (spacing : Spacing) (cut : Cut) (x y : PlaceLine) (l : NearLine) → IsNamed marks cut x → (AreSame x y → ⊥)
    → AreJoined marks spacing cut x y l → cut_graph marks spacing cut (vertex_of marks x) (vertex_of marks y)
joined-edge None spacing cut (Piece i a) (Piece j b) (Pair p q) named apart h = shown-conflict spacing cut i j p q h
joined-edge (Some m) spacing cut (Piece i a) (Piece j b) (Pair p q) named apart h = conflict i j (shown-conflict spacing cut i j p q h) refl refl
joined-edge marks spacing cut (Piece i a) (Piece j b) (Mark p) named apart h = absurd h
joined-edge marks spacing cut (Piece i a) (Piece j b) Anchors named apart h = absurd h
joined-edge marks spacing cut (Piece i a) (Anchor b) (Pair p q) named apart h = absurd h
joined-edge None spacing cut (Piece i a) (Anchor b) (Mark p) named apart h = absurd (unmarked b p h.1)
joined-edge (Some m) spacing cut (Piece i a) (Anchor false) (Mark p) named apart h =
    down (fixed_to_b i (part-known cut.pieces i p h.0) (p, h.0, h.1) refl refl)
joined-edge (Some m) spacing cut (Piece i a) (Anchor true) (Mark p) named apart h =
    down (fixed_to_a i (part-known cut.pieces i p h.0) (p, h.0, h.1) refl refl)
joined-edge marks spacing cut (Piece i a) (Anchor b) Anchors named apart h = absurd h
joined-edge None spacing cut (Anchor b) y l named apart h = absurd named
joined-edge (Some m) spacing cut (Anchor b) (Piece j a) (Pair p q) named apart h = absurd h
joined-edge (Some m) spacing cut (Anchor false) (Piece j a) (Mark p) named apart h =
    up (fixed_to_b j (part-known cut.pieces j p h.0) (p, h.0, h.1) refl refl)
joined-edge (Some m) spacing cut (Anchor true) (Piece j a) (Mark p) named apart h =
    up (fixed_to_a j (part-known cut.pieces j p h.0) (p, h.0, h.1) refl refl)
joined-edge (Some m) spacing cut (Anchor b) (Piece j a) Anchors named apart h = absurd h
joined-edge (Some m) spacing cut (Anchor b) (Anchor c) (Pair p q) named apart h = absurd h
joined-edge (Some m) spacing cut (Anchor b) (Anchor c) (Mark p) named apart h = absurd h
joined-edge (Some m) spacing cut (Anchor false) (Anchor false) Anchors named apart h = absurd (apart refl)
joined-edge (Some m) spacing cut (Anchor false) (Anchor true) Anchors named apart h = up (anchors refl refl)
joined-edge (Some m) spacing cut (Anchor true) (Anchor false) Anchors named apart h = down (anchors refl refl)
joined-edge (Some m) spacing cut (Anchor true) (Anchor true) Anchors named apart h = absurd (apart refl)

pub named-keyed : (marks : Option Marks) (spacing : Spacing) (overlap : ℕ) (layer : Region) (cut : Cut) → IsCut marks spacing overlap layer cut → (x : PlaceLine)
    → IsNamed marks cut x → IsKeyed marks cut.pieces x
named-keyed marks spacing overlap layer cut is (Piece n key) named =
    subst (λ q. IsLeast (part_at cut.pieces n) q) (sym named.1)
    (zip-at (λ piece q. IsLeast (Covers piece) q) cut.pieces cut.keys n [] key is.pieces.keyed named.0)
named-keyed marks spacing overlap layer cut is (Anchor b) named = named
