-- A piece put down.
use Rattle.std.proofs.Common.{ℕ, ◌<◌, ◌⊎◌, inl, inr, List, [], ◌∷◌, ◌++◌, length, get_or, sym, subst, arith, length-append}
use Rattle.std.specs.Prelude.{◌≤ℤ◌, ◌<ℤ◌}
use Rattle.std.specs.List.{All, AllPairs}
use Rattle.std.proofs.lemmas.List.Elements.{Contains-append_left, Contains-push, Contains-push_cases, Contains-get_or, All-push}
use Rattle.std.proofs.lemmas.List.Quantifiers.{all_pairs_push}
use Rattle.dpl_spec_split.specs.declared.Rect.{Rect}
use Rattle.dpl_spec_split.specs.Squares.{Has}
use Rattle.dpl_spec_split.specs.Slabs.{IsSolid, ShareRow, StandApart, StandsOn}
use Rattle.dpl_spec_split.proofs.SlabLaws.{Covers-member, member-Covers}
use Rattle.dpl_order.specs.Pieces.{Puts, Continues}
use Rattle.dpl_order.specs.Joins.{taller}
use Rattle.std.proofs.lemmas.Int.{ints, by_lt_z}
use Rattle.std.proofs.lemmas.List.Elements.{All-contains}
use Rattle.std.proofs.lemmas.List.{get_or_append_left}
use Rattle.std.proofs.Math.Seq.{get_or-append_seam}

pub Puts-push : (old : List Rect) (piece : Rect) → Puts old (old ++ piece ∷ []) piece
Puts-push old piece =
    record {
      covers = λ p. (
        (λ h. let found = member-Covers _ p h in
            let r : Rect = found.0 in
            elim (Contains-push_cases old piece r found.1) [
              | inl before ↦ inl (Covers-member old r p before found.2)
              | inr same ↦ inr (subst (λ t. Has t p) (sym same) found.2)
            ]),
        λ h. elim h [
          | inl before ↦ (let found = member-Covers old p before in Covers-member _ found.0 p (Contains-append_left old (piece ∷ []) found.0 found.1) found.2)
          | inr has ↦ Covers-member _ piece p (Contains-push old piece) has
        ],
      );
      ends = λ y x before ends r r_in. elim (Contains-push_cases old piece r r_in) [
        | inl at ↦ before r at
        | inr same ↦ subst (λ t. let u : Rect = t in u.y0 ≤ℤ y → y <ℤ u.y1 → u.x1 <ℤ x) same ends
      ];
      apart = λ solid left before. record {
        solid = All-push IsSolid old piece before.solid solid;
        apart = all_pairs_push (λ a b. ShareRow a b → StandApart a b) old piece before.apart (λ k d k_in rows. inl (left (get_or old k d) (Contains-get_or old k d k_in) rows));
      };
    }

-- what shares a row with the taller slab shares one with the slab or with the piece on it
pub share-taller : (a last piece : Rect) → IsSolid a → StandsOn last piece → ShareRow a (taller last piece.y1) → ShareRow a last ⊎ ShareRow a piece
share-taller a last piece tall s (l, m) =
    let r = s.row in
    let t = tall.tall in
    by_lt_z a.y0 last.y1 (λ h. inl (h, m)) (λ h. by_lt_z piece.y0 a.y1 (λ k. inr (l, k)) (λ k. absurd (omega (arith, ints, h, k, r, t))))

front-pairs : (R : Rect → Rect → Type 0) (xs : List Rect) (y : Rect) → AllPairs R (xs ++ y ∷ []) → AllPairs R xs
front-pairs R xs y all i j d l j_in =
    let len = length-append xs (y ∷ []) in
    let a = get_or_append_left xs (y ∷ []) d i (omega (arith, l, j_in)) in
    let b = get_or_append_left xs (y ∷ []) d j j_in in
    let h = all i j d l (omega (arith, len, j_in)) in
    rw (a, b) at h

front-last : (R : Rect → Rect → Type 0) (xs : List Rect) (y : Rect) → AllPairs R (xs ++ y ∷ []) → (k : ℕ) (d : Rect) → k < length xs → R (get_or xs k d) y
front-last R xs y all k d k_in =
    let len = length-append xs (y ∷ []) in
    let a = get_or_append_left xs (y ∷ []) d k k_in in
    let b = get_or-append_seam xs y [] d in
    let h = all k (length xs) d k_in (omega (arith, len)) in
    rw (a, b) at h

front-all : (xs : List Rect) (y : Rect) → All IsSolid (xs ++ y ∷ []) → All IsSolid xs
front-all xs y all k d k_in =
    let len = length-append xs (y ∷ []) in
    let a = get_or_append_left xs (y ∷ []) d k k_in in
    let h = all k d (omega (arith, len, k_in)) in
    rw a at h

-- the last piece, made taller
pub Puts-taller : (front : List Rect) (last piece : Rect) → Continues last piece → Puts (front ++ last ∷ []) (front ++ taller last piece.y1 ∷ []) piece
Puts-taller front last piece c =
    let top : Rect = taller last piece.y1 in
    let row = c.on.row in
    let left = c.on.left in
    let right = c.on.right in
    let low = c.low in
    let high = c.high in
    record {
      covers = λ p. (
        (λ h. let found = member-Covers (front ++ top ∷ []) p h in
            elim (Contains-push_cases front top found.0 found.1) [
              | inl before ↦ inl (Covers-member (front ++ last ∷ []) found.0 p (Contains-append_left front (last ∷ []) found.0 before) found.2)
              | inr same ↦ (let has : Has top p = subst (λ t. Has t p) (sym same) found.2 in
                  let a = has.left in let b = has.right in
                  by_lt_z p.y last.y1
                  (λ l. inl (Covers-member (front ++ last ∷ []) last p (Contains-push front last) (record { left = a; right = b; low = has.low; high = l })))
                  (λ m. inr (record { left = omega (arith, ints, a, left); right = omega (arith, ints, b, right); low = omega (arith, ints, m, row); high = has.high })))
            ]),
        λ h. elim h [
          | inl old ↦ (let found = member-Covers (front ++ last ∷ []) p old in
              elim (Contains-push_cases front last found.0 found.1) [
                | inl before ↦ Covers-member (front ++ top ∷ []) found.0 p (Contains-append_left front (top ∷ []) found.0 before) found.2
                | inr same ↦ (let has : Has last p = subst (λ t. Has t p) (sym same) found.2 in
                    let k = has.high in
                    Covers-member (front ++ top ∷ []) top p (Contains-push front top)
                    (record { left = has.left; right = has.right; low = has.low; high = omega (arith, ints, k, row, high) }))
              ])
          | inr has ↦ (let a = has.left in let b = has.right in let k = has.low in
              Covers-member (front ++ top ∷ []) top p (Contains-push front top)
              (record {
                left = omega (arith, ints, a, left);
                right = omega (arith, ints, b, right);
                low = omega
                    (arith, ints, k, row, low);
                high = has.high;
              }))
        ],
      );
      ends = λ y x before at r r_in. elim (Contains-push_cases front top r r_in) [
        | inl there ↦ before r (Contains-append_left front (last ∷ []) r there)
        | inr same ↦ subst (λ t. let u : Rect = t in u.y0 ≤ℤ y → y <ℤ u.y1 → u.x1 <ℤ x) same
            (λ l h. by_lt_z y last.y1 (λ k. before last (Contains-push front last) l k) (λ m. (let e = at (omega (arith, ints, m, row)) h in omega (arith, ints, e, right))))
      ];
      apart = λ solid ends before.
          (let pairs = front-pairs (λ a b. ShareRow a b → StandApart a b) front last before.apart in
          let solids = front-all front last before.solid in
          let wide = solid.wide in
          record {
            solid = All-push IsSolid front top solids (record { wide = omega (arith, ints, wide, left, right); tall = omega (arith, ints, low, row, high) });
            apart = all_pairs_push (λ a b. ShareRow a b → StandApart a b) front top pairs (λ k d k_in share.
                (let r : Rect = get_or front k d in
                let r_in = Contains-get_or front k d k_in in
                elim (share-taller r last piece (All-contains IsSolid front r solids r_in) c.on share) [
                  | inl h ↦ front-last (λ a b. ShareRow a b → StandApart a b) front last before.apart k d k_in h
                  | inr h ↦ inl (let e = ends r (Contains-append_left front (last ∷ []) r r_in) h in omega (arith, ints, e, left))
                ]));
          });
    }
