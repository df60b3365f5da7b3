-- Pieces that are numbered and sorted, and those beside zones.
use Rattle.std.proofs.Common.{◌≡◌, ℕ, ◌<◌, inl, inr, List, [], length, get_or, sym, ap, ◌∙◌, subst, arith}
use Rattle.std.specs.Prelude.{ℤ}
use Rattle.std.specs.List.{All, AllZip, Contains}
use Rattle.std.proofs.lemmas.List.{get_or_default, get_or-map, length-map}
use Rattle.std.proofs.lemmas.List.Elements.{Contains-get_or}
use Rattle.dpl_spec_split.specs.declared.Rect.{Rect}
use Rattle.dpl_spec_split.specs.declared.Zone.{Zone}
use Rattle.dpl_spec_split.specs.Squares.{Covers}
use Rattle.dpl_sides.specs.declared.corner.Kind.{Kind}
use Rattle.dpl_sides.specs.declared.corner.Kind.TheVariants.{LowerLeft, LowerRight, UpperLeft}
use Rattle.dpl_sides.specs.declared.piece.Piece.{Piece}
use Rattle.dpl_sides.specs.Corners.{corner_at, IsCornerOf, StandBeside}
use Rattle.dpl_sides.specs.Noted.{piece_at, AreNumbered, IsPlaced, IsSortedWith}
use Rattle.dpl_sides.specs.Pieces.{parts_in, whole_piece, zone_at}
use Rattle.dpl_piece.specs.Pieces.{feature_at}
use Rattle.dpl_piece.specs.Share.{ArePiecesOf, AreSidesOfShare}
use Rattle.dpl_piece.proofs.Broken.{any-in}
use Rattle.dpl_sides.proofs.CornerLaws.{number-is, renumber}
use Rattle.dpl_piece.proofs.CornerLaws.{corner-known, zip-from}
use Rattle.dpl_piece.proofs.Sides.{IsBelow}

module _ (features : List (List Rect)) (zones : List Zone) (Share : ℕ → Type 0) (old new : List Piece) (are : AreNumbered old new) (h : ArePiecesOf features zones Share old) where
  at-new : (k : ℕ) (d : Piece) → k < length new → get_or new k d ≡ record { part = (piece_at old k).part; owner = (piece_at old k).owner; origin = (piece_at old k).origin; number = k }
  at-new k d k_in = get_or_default new k d (whole_piece 0 []) k_in ∙ are.same k (omega (arith, k_in, are.each))

  -- they are the same pieces
  pub numbered : ArePiecesOf features zones Share new
  numbered = record {
    each = λ k d k_in. (let is = h.each k (whole_piece 0 []) (omega (arith, k_in, are.each)) in
        rw (at-new k d k_in) (record { owner = is.owner; inside = is.inside; canonical = is.canonical; within = is.within; whole = is.whole; kept = is.kept; cut = is.cut }));
    all = λ k p l in_k none. (let (i, x, i_in, is, has) = h.all k p l in_k none in
        let i_new : i < length new = omega (arith, i_in, are.each) in
        let x_is : piece_at old i ≡ x = get_or_default old i (whole_piece 0 []) x i_in ∙ is in
        let same : (piece_at new i).part ≡ (piece_at old i).part = ap (λ y. let u : Piece = y in u.part) (are.same i i_in) in
        any-in (λ y. let u : Piece = y in Covers u.part p) new (piece_at new i) (Contains-get_or new i (whole_piece 0 []) i_new)
        (subst (λ t. Covers t p) (sym same) (subst (λ y. let u : Piece = y in Covers u.part p) (sym x_is) has)));
    apart = λ i j d l j_in. rw (at-new i d (omega (arith, l, j_in)), at-new j d j_in) (h.apart i j (whole_piece 0 []) l (omega (arith, j_in, are.each)));
  }

-- a corner of a piece is one of the same piece elsewhere
placed-corner : (kind : Kind) (old new : List Piece) (x y : ℤ) (a b : ℕ) → IsPlaced old new a b → IsCornerOf kind (parts_in old) (corner_at x y a)
    → IsCornerOf kind (parts_in new) (corner_at x y b)
placed-corner kind old new x y a b (b_in, same) (i, r, i_in, r_in, is) =
    let e : i ≡ a = number-is kind i a r x y is in
    let i_at : i < length old = subst (λ m. i < m) (length-map old (λ x. let u : Piece = x in u.part)) i_in in
    let part-old : get_or (parts_in old) i [] ≡ (piece_at old i).part = get_or-map (λ x. let u : Piece = x in u.part) old i (whole_piece 0 []) [] i_at in
    let part-new : get_or (parts_in new) b [] ≡ (piece_at new b).part = get_or-map (λ x. let u : Piece = x in u.part) new b (whole_piece 0 []) [] b_in in
    let whole : get_or (parts_in old) i [] ≡ get_or (parts_in new) b [] = part-old ∙ (ap (λ q. (piece_at old q).part) e ∙ (sym same ∙ sym part-new)) in (
      b,
      r,
      subst (λ m. b < m) (sym (length-map new (λ x. let u : Piece = x in u.part))) b_in,
      subst (λ s. Contains s r) whole r_in,
      renumber kind i a b r x y is,
    )

-- the numbers that are noted are those of pieces
module _ (zones : List Zone) (n : ℕ) (pieces : List Piece) (firsts seconds : List ℕ) (h : AreSidesOfShare zones (IsBelow n) (parts_in pieces) firsts seconds)
    (below : All (λ z. let u : Zone = z in u.feature < n) zones) where
  in-pieces : (k : ℕ) → k < length (parts_in pieces) → k < length pieces
  in-pieces k l = subst (λ m. k < m) (length-map pieces (λ x. let u : Piece = x in u.part)) l

  pub firsts-known : All (λ k. k < length pieces) firsts
  firsts-known j d j_in =
      let at : j < length zones = omega (arith, j_in, h.firsts-each) in
      let z : Zone = zone_at zones j in
      let l : get_or firsts j 0 < length (parts_in pieces) = elim (h.before j at (below j (zone_at [] 0) at)) [
        | inl c ↦ corner-known LowerRight (parts_in pieces) z.rect.x0 z.rect.y0 (get_or firsts j 0) c
        | inr c ↦ corner-known UpperLeft (parts_in pieces) z.rect.x0 z.rect.y0 (get_or firsts j 0) c
      ] in
      in-pieces (get_or firsts j d) (subst (λ m. m < length (parts_in pieces)) (get_or_default firsts j 0 d j_in) l)

  pub seconds-known : All (λ k. k < length pieces) seconds
  seconds-known j d j_in =
      let at : j < length zones = omega (arith, j_in, h.seconds-each) in
      let z : Zone = zone_at zones j in
      let l : get_or seconds j 0 < length (parts_in pieces) = elim (h.after j at (below j (zone_at [] 0) at)) [
        | inl c ↦ corner-known LowerLeft (parts_in pieces) z.rect.x1 z.rect.y0 (get_or seconds j 0) c
        | inr c ↦ corner-known LowerLeft (parts_in pieces) z.rect.x0 z.rect.y1 (get_or seconds j 0) c
      ] in
      in-pieces (get_or seconds j d) (subst (λ m. m < length (parts_in pieces)) (get_or_default seconds j 0 d j_in) l)

-- the sorted pieces beside each zone
pub sorted-sides : (zones : List Zone) (n : ℕ) (old new : List Piece) (firsts seconds : List ℕ) (sides : List (ℕ × ℕ))
    → AreSidesOfShare zones (IsBelow n) (parts_in old) firsts seconds → All (λ z. let u : Zone = z in u.feature < n) zones → IsSortedWith old new firsts seconds sides
    → AllZip (StandBeside (parts_in new)) zones sides
sorted-sides zones n old new firsts seconds sides h below s =
    zip-from (StandBeside (parts_in new)) zones sides (sym (s.each ∙ h.firsts-each)) (λ j z e j_in. (
    let z_is : get_or zones j z ≡ zone_at zones j = get_or_default zones j z (zone_at [] 0) j_in in
    let l : feature_at zones j < n = below j (zone_at [] 0) j_in in
    let at : j < length firsts = omega (arith, j_in, h.firsts-each) in
    let e_is : get_or sides j e ≡ get_or sides j (0, 0) = get_or_default sides j e (0, 0) (omega (arith, at, s.each)) in
    let (one, two) = s.placed j at in
    let u : Zone = zone_at zones j in
    rw (z_is, e_is) (
      elim (h.before j j_in l) [
        | inl c ↦ inl (placed-corner LowerRight old new u.rect.x0 u.rect.y0 (get_or firsts j 0) (get_or sides j (0, 0)).0 one c)
        | inr c ↦ inr (placed-corner UpperLeft old new u.rect.x0 u.rect.y0 (get_or firsts j 0) (get_or sides j (0, 0)).0 one c)
      ],
      elim (h.after j j_in l) [
        | inl c ↦ inl (placed-corner LowerLeft old new u.rect.x1 u.rect.y0 (get_or seconds j 0) (get_or sides j (0, 0)).1 two c)
        | inr c ↦ inr (placed-corner LowerLeft old new u.rect.x0 u.rect.y1 (get_or seconds j 0) (get_or sides j (0, 0)).1 two c)
      ],
    )))
