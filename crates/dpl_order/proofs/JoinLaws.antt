-- Pieces put on one another.
use Rattle.std.proofs.Common.{◌≡◌, refl, Bool, true, false, drop, ℕ, ◌+◌, ◌≤◌, ◌<◌, ◌⊎◌, inl, inr, List, [], ◌∷◌, ◌++◌, length, get_or, sym, ap, ◌∙◌, subst, arith}
use Rattle.std.specs.Prelude.{◌↔◌}
use Rattle.std.specs.List.{All, AllPairs, Contains}
use Rattle.std.specs.List.Sorted.{IsPermutation}
use Rattle.std.specs.List.Retain.{DedupsFrom, IsDeduped}
use Rattle.std.proofs.lemmas.Int.{ints, by_lt_z}
use Rattle.std.proofs.lemmas.Bool.{cases_eq}
use Rattle.std.proofs.lemmas.List.{get_or_default, length-drop, drop_more, append_assoc}
use Rattle.std.proofs.lemmas.List.Elements.{All-contains, Contains-append_left, Contains-push, Contains-push_cases, Contains-get_or, All-push}
use Rattle.std.proofs.lemmas.List.Quantifiers.{all_pairs_push}
use Rattle.std.proofs.lemmas.List.Sorted.{IsPermutation-sym, Contains-permutation, All-permutation}
use Rattle.dpl_spec_split.specs.declared.Pt.{Pt}
use Rattle.dpl_spec_split.specs.declared.Rect.{Rect}
use Rattle.dpl_spec_split.specs.Squares.{Has, Covers, SameSquares}
use Rattle.dpl_spec_split.specs.Slabs.{IsSolid, Before, StandApart, StandsOn, AreSlabsOf}
use Rattle.dpl_spec_split.proofs.SlabLaws.{Covers-member, member-Covers}
use Rattle.dpl_order.specs.Pieces.{AreApart}
use Rattle.dpl_order.specs.Orders.{ColumnsBefore, ColumnsRise, CornerBefore, CornersRise}
use Rattle.dpl_order.specs.Joins.{taller, Loose, Strict, Apart, Later, Kept, AreJoined, HasGrown, IsToCome, CoversFirst, AreSoFar}
use Rattle.dpl_order.proofs.PieceLaws.{share-taller}
use Rattle.dpl_order.proofs.Permuted.{AllPairs-permutation}

apart-flip : (a b : Rect) → Apart a b → Apart b a
apart-flip a b f (l, m) = elim (f (m, l)) [ inl x ↦ inr x | inr x ↦ inl x ]

-- two pieces with a common column and a common row don't stand apart
same_columns-apart : (a b : Rect) → IsSolid a → IsSolid b → a.x0 ≡ b.x0 → StandApart a b → ⊥
same_columns-apart a b s t e (inl h) = let w = s.wide in omega (arith, ints, e, h, w)
same_columns-apart a b s t e (inr h) = let w = t.wide in omega (arith, ints, e, h, w)

later-from : (a b : Rect) → IsSolid a → IsSolid b → ColumnsBefore a b → Apart a b → Later a b
later-from a b s t (inl l) f = record { loose = inl l; apart = f }
later-from a b s t (inr (e, inl l)) f = record { loose = inr (e, inl l); apart = f }
later-from a b s t (inr (e, inr (g, h))) f =
    record {
      loose = inr (e, inr (g, by_lt_z b.y0 a.y1 (λ l. absurd (same_columns-apart a b s t e (f (let w = t.tall in omega (arith, ints, h, w), l)))) (λ m. m)));
      apart = f;
    }

strict-from : (a b : Rect) → Loose a b → (StandsOn a b → ⊥) → Strict a b
strict-from a b (inl l) apart = inl l
strict-from a b (inr (e, inl l)) apart = inr (e, inl l)
strict-from a b (inr (e, inr (f, h))) apart = inr
    (e, inr (f, by_lt_z a.y1 b.y0 (λ l. l) (λ m. absurd (apart (record { row = omega (arith, ints, h, m); left = sym e; right = sym f })))))

strict-on : (a b c : Rect) → IsSolid b → Strict a b → Loose b c → Strict a c
strict-on a b c s (inl l) (inl m) = inl (omega (arith, ints, l, m))
strict-on a b c s (inl l) (inr (f, m)) = inl (omega (arith, ints, l, f))
strict-on a b c s (inr (e, l)) (inl m) = inl (omega (arith, ints, e, m))
strict-on a b c s (inr (e, inl l)) (inr (f, inl m)) = inr (e ∙ f, inl (omega (arith, ints, l, m)))
strict-on a b c s (inr (e, inl l)) (inr (f, inr (g, m))) = inr (e ∙ f, inl (omega (arith, ints, l, g)))
strict-on a b c s (inr (e, inr (h, l))) (inr (f, inl m)) = inr (e ∙ f, inl (omega (arith, ints, h, m)))
strict-on a b c s (inr (e, inr (h, l))) (inr (f, inr (g, m))) = inr (e ∙ f, inr (h ∙ g, (let w = s.tall in omega (arith, ints, l, m, w))))

to_come-solid : (pieces : List Rect) (n : ℕ) (q : Rect) → All IsSolid pieces → IsToCome pieces n q → IsSolid q
to_come-solid pieces n q solids (k, l, k_in, is) = All-contains IsSolid pieces q solids (k, k_in, is)

module _ (pieces : List Rect) (n : ℕ) (done : List Rect) (last piece : Rect) (here : n < length pieces)
    (piece_is : piece ≡ get_or pieces n piece) (s : AreSoFar pieces n done last) (solids : All IsSolid pieces) (next : (q : Rect)
    → IsToCome pieces (n + 1) q → Later piece q) where
  piece_in : Contains pieces piece
  piece_in = (n, here, sym piece_is)

  solid : IsSolid piece
  solid = All-contains IsSolid pieces piece solids piece_in

  come : IsToCome pieces n piece
  come = (n, omega arith, here, sym piece_is)

  go_on : (q : Rect) → IsToCome pieces (n + 1) q → IsToCome pieces n q
  go_on q (k, l, k_in, is) = (k, omega (arith, l), k_in, is)

  covers-next : (new : List Rect) (top : Rect) → ((p : Pt) → (Covers new p ⊎ Has top p) ↔ ((Covers done p ⊎ Has last p) ⊎ Has piece p))
      → (p : Pt) → (Covers new p ⊎ Has top p) ↔ CoversFirst pieces (n + 1) p
  covers-next new top step p = (
    λ h. elim ((step p).0 h) [
      | inl a ↦ (let (k, r, l, k_in, is, has) = (s.covers p).0 a in (k, r, omega (arith, l), k_in, is, has))
      | inr has ↦ (n, piece, omega arith, here, sym piece_is, has)
    ],
    λ (k, r, l, k_in, is, has). elim (cases_eq k n) [
      | inl e ↦ (step p).1 (inr (subst (λ t. Has t p) (sym is ∙ (ap (λ q. get_or pieces q r) e ∙ (get_or_default pieces n r piece here ∙ sym piece_is))) has))
      | inr ne ↦ (step p).1 (inl ((s.covers p).1 (k, r, omega arith, k_in, is, has)))
    ],
  )

  pushed : (StandsOn last piece → ⊥) → AreSoFar pieces (n + 1) (done ++ last ∷ []) piece
  pushed off = record {
    solid = All-push IsSolid done last s.solid s.last_solid;
    last_solid = solid;
    pairs = all_pairs_push Kept done last s.pairs (λ k d k_in. s.kept (get_or done k d) (Contains-get_or done k d k_in));
    kept = λ a a_in. elim (Contains-push_cases done last a a_in) [
      | inl old ↦ record { strict = strict-on a last piece s.last_solid (s.kept a old).strict (s.last_later piece come).loose; apart = (s.later a piece old come).apart }
      | inr e ↦ subst (λ t. Kept t piece) e (record { strict = strict-from last piece (s.last_later piece come).loose off; apart = (s.last_later piece come).apart })
    ];
    later = λ a q a_in q_in. elim (Contains-push_cases done last a a_in) [
      | inl old ↦ s.later a q old (go_on q q_in)
      | inr e ↦ subst (λ t. Later t q) e (s.last_later q (go_on q q_in))
    ];
    last_later = next;
    covers = covers-next (done ++ last ∷ []) piece (λ p. (
      (λ h. elim h [
        | inl c ↦ (let found = member-Covers _ p c in elim (Contains-push_cases done last found.0 found.1) [
          | inl old ↦ inl (inl (Covers-member done found.0 p old found.2))
          | inr e ↦ inl (inr (subst (λ t. Has t p) (sym e) found.2))
        ])
        | inr has ↦ inr has
      ]),
      λ h. elim h [
        | inl c ↦ elim c [
          | inl old ↦ (let found = member-Covers done p old in inl (Covers-member _ found.0 p (Contains-append_left done (last ∷ []) found.0 found.1) found.2))
          | inr has ↦ inl (Covers-member _ last p (Contains-push done last) has)
        ]
        | inr has ↦ inr has
      ],
    ));
  }

  stacked : StandsOn last piece → AreSoFar pieces (n + 1) done (taller last piece.y1)
  stacked on =
      let row = on.row in
      let left = on.left in
      let right = on.right in
      let low = s.last_solid.tall in
      let high = solid.tall in
      record {
        solid = s.solid;
        last_solid = record { wide = s.last_solid.wide; tall = omega (arith, ints, row, low, high) };
        pairs = s.pairs;
        kept = λ a a_in. record {
          strict = (s.kept a a_in).strict;
          apart = λ share. elim (share-taller a last piece (All-contains IsSolid done a s.solid a_in) on share) [
            | inl h ↦ (s.kept a a_in).apart h
            | inr h ↦ elim ((s.later a piece a_in come).apart h) [ inl k ↦ inl (omega (arith, ints, k, left)) | inr k ↦ inr (omega (arith, ints, k, right)) ]
          ];
        };
        later = λ a q a_in q_in. s.later a q a_in (go_on q q_in);
        last_later = λ q q_in. record {
          loose = elim (next q q_in).loose [
            | inl l ↦ inl (omega (arith, ints, l, left))
            | inr h ↦ inr (omega (arith, ints, h.0, left), elim h.1 [ inl l ↦ inl (omega (arith, ints, l, right)) | inr k ↦ inr (omega (arith, ints, k.0, right), k.1) ])
          ];
          apart = λ share. apart-flip q (taller last piece.y1) (λ rows. elim (share-taller q last piece (to_come-solid pieces (n + 1) q solids q_in) on rows) [
            | inl h ↦ apart-flip last q (s.last_later q (go_on q q_in)).apart h
            | inr h ↦ elim (apart-flip piece q (next q q_in).apart h) [ inl k ↦ inl (omega (arith, ints, k, left)) | inr k ↦ inr (omega (arith, ints, k, right)) ]
          ]) share;
        };
        covers = covers-next done (taller last piece.y1) (λ p. (
          (λ h. elim h [
            | inl c ↦ inl (inl c)
            | inr has ↦ (let hl = has.left in let hr = has.right in let lo = has.low in let hi = has.high in by_lt_z p.y last.y1
                (λ l. inl (inr (record { left = hl; right = hr; low = lo; high = l })))
                (λ m. inr (record { left = omega (arith, ints, hl, left); right = omega (arith, ints, hr, right); low = omega (arith, ints, m, row); high = hi })))
          ]),
          λ h. elim h [
            | inl c ↦ elim c [
              | inl old ↦ inl old
              | inr has ↦ (let hi = has.high in inr (record { left = has.left; right = has.right; low = has.low; high = omega (arith, ints, hi, row, high) }))
            ]
            | inr has ↦ (let hl = has.left in let hr = has.right in let lo = has.low in
                inr (record {
                  left = omega (arith, ints, hl, left);
                  right = omega (arith, ints, hr, right);
                  low = omega
                      (arith, ints, lo, row, low);
                  high = has.high;
                }))
          ],
        ));
      }

-- a piece and each later one, in order
later-pieces : (pieces : List Rect) → AreApart pieces → ColumnsRise pieces → (i j : ℕ) (d : Rect) → i < j → j < length pieces → Later (get_or pieces i d) (get_or pieces j d)
later-pieces pieces a rise i j d l j_in =
    let in_i = Contains-get_or pieces i d (omega (arith, l, j_in)) in
    let in_j = Contains-get_or pieces j d j_in in
    later-from (get_or pieces i d) (get_or pieces j d) (All-contains IsSolid pieces (get_or pieces i d) a.solid in_i)
    (All-contains IsSolid pieces (get_or pieces j d) a.solid in_j) (rise i j d (omega (arith, l)) j_in) (a.apart i j d l j_in)

later-next : (pieces : List Rect) → AreApart pieces → ColumnsRise pieces → (n : ℕ) (piece : Rect) → n < length pieces
    → piece ≡ get_or pieces n piece → (q : Rect) → IsToCome pieces (n + 1) q → Later piece q
later-next pieces a rise n piece here piece_is q (k, l, k_in, is) =
    let h = later-pieces pieces a rise n k q (omega (arith, l)) k_in in
    let e : get_or pieces n q ≡ piece = get_or_default pieces n q piece here ∙ sym piece_is in
    rw (e, is) at h

-- the first piece alone
so_far-first : (pieces : List Rect) (first : Rect) → AreApart pieces → ColumnsRise pieces → 0 < length pieces → first ≡ get_or pieces 0 first → AreSoFar pieces 1 [] first
so_far-first pieces first a rise some first_is =
    record {
      solid = λ i d k. absurd (omega (arith, k));
      last_solid = All-contains IsSolid pieces first a.solid (0, some, sym first_is);
      pairs = λ i j d l k. absurd (omega (arith, k));
      kept = λ b (k, k_in, is). absurd (omega (arith, k_in));
      later = λ b q (k, k_in, is) q_in. absurd (omega (arith, k_in));
      last_later = λ q (k, l, k_in, is). later-next pieces a rise 0 first some first_is q (k, omega (arith, l), k_in, is);
      covers = λ p. (
        (λ h. elim h [ inl (k, r, k_in, is, has) ↦ absurd (omega (arith, k_in)) | inr has ↦ (0, first, omega arith, some, sym first_is, has) ]),
        λ (k, r, l, k_in, is, has). (let zero_is : k ≡ 0 = omega (arith, l) in
            inr (subst (λ t. Has t p) (sym is ∙ (ap (λ q. get_or pieces q r) zero_is ∙ (get_or_default pieces 0 r first some ∙ sym first_is))) has)),
      );
    }

-- after the last piece
joined-all : (pieces : List Rect) (n : ℕ) (done : List Rect) (last : Rect) → length pieces ≤ n → AreSoFar pieces n done last → AreJoined pieces (done ++ last ∷ [])
joined-all pieces n done last all s =
    record {
      solid = All-push IsSolid done last s.solid s.last_solid;
      pairs = all_pairs_push Kept done last s.pairs (λ k d k_in. s.kept (get_or done k d) (Contains-get_or done k d k_in));
      covers = λ p. (
        (λ h. let found = member-Covers _ p h in
            let (k, r, l, k_in, is, has) = (s.covers p).0 (elim (Contains-push_cases done last found.0 found.1) [
              | inl old ↦ inl (Covers-member done found.0 p old found.2)
              | inr e ↦ inr (subst (λ t. Has t p) (sym e) found.2)
            ]) in
            (k, r, k_in, is, has)),
        λ (k, r, k_in, is, has). elim ((s.covers p).1 (k, r, omega (arith, all, k_in), k_in, is, has)) [
          | inl old ↦ (let found = member-Covers done p old in Covers-member _ found.0 p (Contains-append_left done (last ∷ []) found.0 found.1) found.2)
          | inr has ↦ Covers-member _ last p (Contains-push done last) has
        ],
      );
    }

joined-none : AreJoined [] []
joined-none = record { solid = λ i d k. absurd (omega (arith, k)); pairs = λ i j d l k. absurd (omega (arith, k)); covers = λ p. (λ h. h, λ h. h) }

-- the piece of number n comes next, and the rest after it
module _ (pieces : List Rect) (a : AreApart pieces) (rise : ColumnsRise pieces) (n : ℕ) (piece : Rect) (rest : List Rect) (is : drop n pieces ≡ piece ∷ rest) where
  here : n < length pieces
  here = let left = ap length (sym is) ∙ length-drop n pieces in omega (arith, left)

  ahead : piece ∷ rest ≡ get_or pieces n piece ∷ drop (n + 1) pieces
  ahead = sym is ∙ drop_more pieces n piece here

  piece_is : piece ≡ get_or pieces n piece
  piece_is = ap (λ l. get_or l 0 piece) ahead

  rest_is : drop (n + 1) pieces ≡ rest
  rest_is = ap (drop 1) (sym ahead)

  on-last : (done : List Rect) (last : Rect) → AreSoFar pieces n done last → StandsOn last piece → AreSoFar pieces (n + 1) done (taller last piece.y1)
  on-last done last s = stacked pieces n done last piece here piece_is s a.solid (later-next pieces a rise n piece here piece_is)

  after-last : (done : List Rect) (last : Rect) → AreSoFar pieces n done last → (StandsOn last piece → ⊥) → AreSoFar pieces (n + 1) (done ++ last ∷ []) piece
  after-last done last s = pushed pieces n done last piece here piece_is s a.solid (later-next pieces a rise n piece here piece_is)

-- each later piece is shown to the last slab, in turn
module _ {S : Type 0} (R : S → Rect → Rect → Bool → S → Rect → Rect → Type 0) (grows : (s t : S) (piece slab : Rect) (stands : Bool)
    (left next : Rect) → R s piece slab stands t left next → (left ≡ piece) × HasGrown slab piece stands next) (pieces : List Rect)
    (a : AreApart pieces) (rise : ColumnsRise pieces) where
  joined-from : (rest : List Rect) (n : ℕ) (s : S) (done : List Rect) (last : Rect) (slabs : List Rect) → drop n pieces ≡ rest
      → AreSoFar pieces n done last → DedupsFrom R s last rest slabs → AreJoined pieces (done ++ slabs)
  joined-from [] n s done last slabs is h e = rw e (joined-all pieces n done last (let left = ap length (sym is) ∙ length-drop n pieces in omega (arith, left)) h)
  joined-from (piece ∷ rest) n s done last slabs is h (true, t, left, next, called, more) =
      let (left_is, (on, next_is)) = grows s t piece last true left next called in
      joined-from rest (n + 1) t done next slabs (rest_is pieces a rise n piece rest is) (rw next_is (on-last pieces a rise n piece rest is done last h on)) more
  joined-from (piece ∷ rest) n s done last slabs is h (false, t, left, next, called, more) =
      let (left_is, (off, next_is)) = grows s t piece last false left next called in
      let (zs, later, e) = more in
      let joined = joined-from rest (n + 1) t (done ++ last ∷ []) left zs (rest_is pieces a rise n piece rest is)
      (rw left_is (after-last pieces a rise n piece rest is done last h off)) later in
      let slabs_are : done ++ slabs ≡ (done ++ last ∷ []) ++ zs = ap (λ l. done ++ l) (e ∙ ap (λ r. r ∷ zs) next_is) ∙ sym (append_assoc done (last ∷ []) zs) in
      rw slabs_are joined

pub joined-deduped : {S : Type 0} (R : S → Rect → Rect → Bool → S → Rect → Rect → Type 0)
    → ((s t : S) (piece slab : Rect) (stands : Bool) (left next : Rect) → R s piece slab stands t left next
    → (left ≡ piece) × HasGrown slab piece stands next) → (s : S) (pieces slabs : List Rect) → AreApart pieces → ColumnsRise pieces
    → IsDeduped R s pieces slabs → AreJoined pieces slabs
joined-deduped R grows s [] slabs a rise d = rw d.told joined-none
joined-deduped R grows s (first ∷ rest) slabs a rise d = joined-from R grows (first ∷ rest) a rise rest 1 s [] first slabs refl
    (so_far-first (first ∷ rest) first a rise (omega arith) refl) d.told

-- the pieces in another order
covers-permutation : (xs ys : List Rect) (p : Pt) → IsPermutation xs ys → Covers xs p → Covers ys p
covers-permutation xs ys p same h = let found = member-Covers xs p h in Covers-member ys found.0 p (Contains-permutation xs ys found.0 same found.1) found.2

pub covers-same : (xs ys : List Rect) → IsPermutation xs ys → SameSquares (Covers xs) (Covers ys)
covers-same xs ys same p = (covers-permutation xs ys p same, covers-permutation ys xs p (IsPermutation-sym xs ys same))

pub apart-permutation : (xs ys : List Rect) → IsPermutation xs ys → AreApart xs → AreApart ys
apart-permutation xs ys same a =
    record { solid = All-permutation IsSolid xs ys same a.solid; apart = AllPairs-permutation Apart apart-flip xs ys same a.apart }

-- one of the two comes first
abbrev Either : Rect → Rect → Type 0
Either a b = Kept a b ⊎ Kept b a

either-flip : (a b : Rect) → Either a b → Either b a
either-flip a b (inl h) = inr h
either-flip a b (inr h) = inl h

either-from : (xs : List Rect) → AllPairs Kept xs → AllPairs Either xs
either-from xs all i j d l j_in = inl (all i j d l j_in)

either-apart : (a b : Rect) → Either a b → Apart a b
either-apart a b (inl h) = h.apart
either-apart a b (inr h) = apart-flip b a h.apart

strict-not_on : (a b : Rect) → StandsOn a b → Strict a b → ⊥
strict-not_on a b on (inl l) = let h = on.left in omega (arith, ints, l, h)
strict-not_on a b on (inr (e, inl l)) = let h = on.right in omega (arith, ints, l, h)
strict-not_on a b on (inr (e, inr (f, l))) = let h = on.row in omega (arith, ints, l, h)

strict-not_under : (a b : Rect) → IsSolid a → IsSolid b → StandsOn a b → Strict b a → ⊥
strict-not_under a b s t on (inl l) = let h = on.left in omega (arith, ints, l, h)
strict-not_under a b s t on (inr (e, inl l)) = let h = on.right in omega (arith, ints, l, h)
strict-not_under a b s t on (inr (e, inr (f, l))) = let h = on.row in let v = s.tall in let w = t.tall in omega (arith, ints, l, h, v, w)

either-not_on : (a b : Rect) → IsSolid a → IsSolid b → Either a b → StandsOn a b → ⊥
either-not_on a b s t (inl h) on = strict-not_on a b on h.strict
either-not_on a b s t (inr h) on = strict-not_under a b s t on h.strict

before-from : (a b : Rect) → IsSolid a → IsSolid b → Apart a b → CornerBefore a b → Before a b
before-from a b s t f (inl l) = inl l
before-from a b s t f (inr (e, l)) =
    by_lt_z a.x0 b.x0 (λ m. inr (e, m))
    (λ m. absurd (let v = s.tall in let w = t.tall in same_columns-apart a b s t (omega (arith, ints, l, m)) (f (omega (arith, ints, e, w), omega (arith, ints, e, v)))))

pub slabs-from_joined : (pieces slabs sorted : List Rect) → AreJoined pieces slabs → IsPermutation slabs sorted → CornersRise sorted → AreSlabsOf (Covers pieces) sorted
slabs-from_joined pieces slabs sorted j same rise =
    let solid : All IsSolid sorted = All-permutation IsSolid slabs sorted same j.solid in
    let pairs : AllPairs Either sorted = AllPairs-permutation Either either-flip slabs sorted same (either-from slabs j.pairs) in
    record {
      canonical = record {
        solid = solid;
        follow = λ i k d l k_in. (
            let a : Rect = get_or sorted i d in
            let b : Rect = get_or sorted k d in
            let s : IsSolid a = All-contains IsSolid sorted a solid (Contains-get_or sorted i d (omega (arith, l, k_in))) in
            let t : IsSolid b = All-contains IsSolid sorted b solid (Contains-get_or sorted k d k_in) in
            let e : Either a b = pairs i k d l k_in in
            record {
              before = before-from a b s t (either-apart a b e) (rise i k d (omega (arith, l)) k_in);
              apart = either-apart a b e;
              separate = either-not_on a b s t e;
            });
      };
      covers = λ p. (
        (λ h. (j.covers p).0 (covers-permutation sorted slabs p (IsPermutation-sym slabs sorted same) h)),
        λ h. covers-permutation slabs sorted p same ((j.covers p).1 h),
      );
    }

pub slabs-same : (a b slabs : List Rect) → SameSquares (Covers a) (Covers b) → AreSlabsOf (Covers b) slabs → AreSlabsOf (Covers a) slabs
slabs-same a b slabs same s = record { canonical = s.canonical; covers = λ p. (λ h. (same p).1 ((s.covers p).0 h), λ h. (s.covers p).1 ((same p).0 h)) }

-- joined pieces in another order before
pub joined-permuted : (pieces sorted slabs : List Rect) → IsPermutation pieces sorted → AreJoined sorted slabs → AreJoined pieces slabs
joined-permuted pieces sorted slabs same j = record {
  solid = j.solid;
  pairs = j.pairs;
  covers = λ p. ((λ h. (covers-same pieces sorted same p).1 ((j.covers p).0 h)), λ h. (j.covers p).1 ((covers-same pieces sorted same p).0 h));
}

pub joined-apart : (pieces slabs : List Rect) → AreJoined pieces slabs → AreApart slabs
joined-apart pieces slabs j = record { solid = j.solid; apart = λ i k d l k_in. (j.pairs i k d l k_in).apart }
