-- Features that zones cut, as they were before.
use Rattle.std.proofs.Common.{◌≡◌, ℕ, ◌+◌, ◌<◌, ◌⊎◌, inl, inr, List, [], ◌∷◌, ◌++◌, length, get_or, refl, sym, ap, ◌∙◌, subst, arith}
use Rattle.std.specs.Prelude.{ℤ, pos, ◌-ℤ◌}
use Rattle.std.specs.List.{All, AllPairs, AllZip, Contains}
use Rattle.std.proofs.lemmas.Bool.{cases_eq, cases_order}
use Rattle.std.proofs.lemmas.Int.{ints}
use Rattle.std.proofs.lemmas.List.{get_or_default, get_or-map, length-map}
use Rattle.std.proofs.lemmas.List.Elements.{All-contains, All-push, Contains-append_left, Contains-get_or, Contains-push}
use Rattle.std.proofs.lemmas.List.Quantifiers.{all_pairs_push}
use Rattle.dpl_spec_split.specs.declared.Pt.{Pt}
use Rattle.dpl_spec_split.specs.declared.Rect.{Rect}
use Rattle.dpl_spec_split.specs.declared.Zone.{Zone}
use Rattle.dpl_spec_split.specs.Squares.{Covers, Has, IsSolidWithin, Touch}
use Rattle.dpl_spec_split.specs.Loops.{farthest}
use Rattle.dpl_spec_split.specs.Slabs.{IsCanonical, IsSolid}
use Rattle.dpl_spec_split.specs.Components.{AreComponents}
use Rattle.dpl_spec_split.specs.Zones.{at, part_at}
use Rattle.dpl_spec_split.specs.Pieces.{IsOwner}
use Rattle.dpl_spec_split.proofs.SlabLaws.{Covers-member}
use Rattle.dpl_spec_split.proofs.SquareLaws.{Touch-from_close, Touch-sym}
use Rattle.dpl_spec_split.proofs.WholeLaws.{part-unique}
use Rattle.dpl_slabs.specs.Parts.{union_of}
use Rattle.dpl_slabs.specs.Scattered.{AreUntouched}
use Rattle.dpl_sides.specs.declared.corner.Corner.{Corner}
use Rattle.dpl_sides.specs.declared.corner.Kind.{Kind}
use Rattle.dpl_sides.specs.declared.corner.Kind.TheVariants.{LowerLeft, LowerRight, UpperLeft}
use Rattle.dpl_sides.specs.declared.piece.Origin.{Origin}
use Rattle.dpl_sides.specs.declared.piece.Origin.TheVariants.{Whole as AsWhole, Broken}
use Rattle.dpl_sides.specs.declared.piece.Piece.{Piece}
use Rattle.dpl_piece.specs.declared.piece.Whole.{Whole}
use Rattle.dpl_sides.specs.Corners.{IsCornerOf, StandBeside, corner_at, corner_of}
use Rattle.dpl_piece.specs.Cutting.{AreFeatures, AreTheirZones}
use Rattle.dpl_sides.specs.Pieces.{parts_in, whole_piece}
use Rattle.dpl_piece.specs.Pieces.{AreCut, AreHolesOf, HasZone, owners_in}
use Rattle.dpl_piece.specs.Wholes.{AreOwnSides, AreWholes, AreWholesBelow, HasWhole, IsZoneIn, KeepsWhole, LieIn, LieInSome, whole_of}
use Rattle.dpl_piece.proofs.Beside.{closed, in-set, kept, kept-inside, part-known}
use Rattle.dpl_sides.proofs.CornerLaws.{corner-number}
use Rattle.dpl_piece.proofs.CornerLaws.{zip-at, zip-from, zip-length}
use Rattle.dpl_piece.proofs.Cuts.{all-owned, comps}

-- of features that don't touch, only one has squares that touch
pub feature-one : (features : List (List Rect)) (f g : ℕ) (p q : Pt) → AllPairs AreUntouched features → part_at features f p → part_at features g q → Touch p q → f ≡ g
feature-one features f g p q apart in_f in_g t = elim (cases_order f g) [
  | inl e ↦ e
  | inr o ↦ elim o [
    | inl l ↦ absurd (apart f g [] l (part-known features g q in_g) (p, q, in_f, in_g, t))
    | inr l ↦ absurd (apart g f [] l (part-known features f p in_f) (q, p, in_g, in_f, Touch-sym p q t))
  ]
]

pub wholes-none : (features : List (List Rect)) (zones : List Zone) → AreWholesBelow features zones 0 []
wholes-none features zones = record {
  kept = λ k d k_in. absurd (omega (arith, k_in));
  rise = λ i j d l j_in. absurd (omega (arith, j_in));
  each = λ k l. absurd (omega (arith, l));
}

module _ (features : List (List Rect)) (zones : List Zone) (n : ℕ) (old new : List Whole) (h : AreWholesBelow features zones n old) where
  -- one feature more is kept
  pub wholes-kept : new ≡ old ++ whole_of n (get_or features n []) ∷ [] → AreWholesBelow features zones (n + 1) new
  wholes-kept is =
      let new_one : Whole = whole_of n (get_or features n []) in
      rw is (record {
        kept = All-push (λ w. (w.feature < n + 1) × (get_or features w.feature [] ≡ w.set)) old new_one
            (λ k d k_in. (let (l, e) = h.kept k d k_in in (omega (arith, l), e))) (omega arith, refl);
        rise = all_pairs_push (λ (v w : Whole). v.feature < w.feature) old new_one h.rise (λ k d k_in. (h.kept k d k_in).0);
        each = λ k l zone. elim (cases_eq k n) [
          | inl e ↦ (new_one, Contains-push old new_one, sym e)
          | inr ne ↦ (let (w, w_in, w_is) = h.each k (omega (arith, l, ne)) zone in (w, Contains-append_left old (new_one ∷ []) w w_in, w_is))
        ];
      })

  -- or one without a zone isn't
  wholes-left : (HasZone zones n → ⊥) → new ≡ old → AreWholesBelow features zones (n + 1) new
  wholes-left none is = rw is (record {
    kept = λ k d k_in. (let (l, e) = h.kept k d k_in in (omega (arith, l), e));
    rise = h.rise;
    each = λ k l zone. elim (cases_eq k n) [
      | inl e ↦ absurd (none (subst (HasZone zones) e zone))
      | inr ne ↦ h.each k (omega (arith, l, ne)) zone
    ];
  })

  module _ (holes : List Rect) (own : AreHolesOf zones n holes) where
    no-zone : length holes ≡ 0 → HasZone zones n → ⊥
    no-zone none (z, z_in, e) = (let (i, i_in, is) = (own z.rect).1 (z, z_in, e, refl) in omega (arith, none, i_in))

    pub wholes-next : KeepsWhole (get_or features n []) holes n old new → AreWholesBelow features zones (n + 1) new
    wholes-next (inl (none, is)) = wholes-left (no-zone none) is
    wholes-next (inr (some, is)) = wholes-kept is

origin-cases : (o : Origin) → (o ≡ AsWhole) ⊎ (o ≡ Broken)
origin-cases AsWhole = inl refl
origin-cases Broken = inr refl

-- what the cut of features leaves lies in them
module _ (features : List (List Rect)) (zones : List Zone) (given : AreFeatures features) (theirs : AreTheirZones features zones)
    (pieces : List Piece) (cut : AreCut features zones pieces) (wholes : List Whole) (w : AreWholes features zones wholes) where
  c : AreComponents (union_of features) features
  c = comps features zones given theirs

  untouched : AllPairs AreUntouched features
  untouched i j d l j_in (p, q, in_p, in_q, t) =
      let i_in : i < length features = omega (arith, l, j_in) in
      let p_i : part_at features i p = subst (λ s. Covers s p) (get_or_default features i d [] i_in) in_p in
      let q_j : part_at features j q = subst (λ s. Covers s q) (get_or_default features j d [] j_in) in_q in
      let q_i : part_at features i q = closed (union_of features) features i q p c i_in (in-set (union_of features) features j q c j_in q_j) p_i (Touch-sym p q t) in
      let same = part-unique (union_of features) features i j q c i_in j_in q_i q_j in
      omega (arith, same, l)

  lie-kept : (i : ℕ) → i < length (parts_in pieces) → ¬ HasWhole wholes (get_or (owners_in pieces) i 0)
      → get_or features (get_or (owners_in pieces) i 0) [] ≡ get_or (parts_in pieces) i []
  lie-kept i i_in none =
      let at_i : i < length pieces = subst (λ n. i < n) (length-map pieces (λ x. x.part)) i_in in
      let x : Piece = get_or pieces i (whole_piece 0 []) in
      let owner : get_or (owners_in pieces) i 0 ≡ x.owner = get_or-map (λ y. y.owner) pieces i (whole_piece 0 []) 0 at_i in
      let part : get_or (parts_in pieces) i [] ≡ x.part = get_or-map (λ y. y.part) pieces i (whole_piece 0 []) [] at_i in
      elim (origin-cases x.origin) [
        | inl e ↦ ap (λ k. get_or features k []) owner ∙ (cut.kept i (whole_piece 0 []) at_i e ∙ sym part)
        | inr e ↦ absurd (none (subst (HasWhole wholes) (sym owner) (w.each x.owner (cut.owned i (whole_piece 0 []) at_i).0 (cut.cut i (whole_piece 0 []) at_i e))))
      ]

  pub lie-in : LieInSome (length features) (parts_in pieces) (owners_in pieces) zones wholes
  lie-in = record {
    features = features;
    each = refl;
    lie = record {
      untouched = untouched;
      left = cut.components.together;
      owned = all-owned features zones given theirs pieces cut;
      zoned = λ j d j_in. (
          let (spacing, overlap, some, zs) = theirs in
          let (f_in, kept_z) = kept spacing overlap (union_of features) features zones c zs (get_or zones j d) (Contains-get_or zones j d j_in) in
          (f_in, λ p has. kept-inside spacing overlap (union_of features) features zones c zs (part_at features (get_or zones j d).feature) (get_or zones j d).rect p kept_z has));
      cut = w.kept;
      rise = w.rise;
      kept = lie-kept;
    };
  }

-- the pieces beside a zone are of its feature
module _ (features parts : List (List Rect)) (owners : List ℕ) (zones : List Zone) (wholes : List Whole)
    (lie : LieIn features parts owners zones wholes) (canonical : All IsCanonical parts) where
  touch-own : (k : ℕ) (r : Rect) (z : Zone) (p q : Pt) → k < length parts → Contains (get_or parts k []) r → IsZoneIn features z → Has r p
      → Has z.rect q → Touch p q → get_or owners k 0 ≡ z.feature
  touch-own k r z p q k_in r_in zone hp hq t =
      let in_k : part_at features (get_or owners k 0) p = (zip-at (IsOwner features) parts owners k [] 0 lie.owned k_in).1 p (Covers-member (get_or parts k []) r p r_in hp) in
      feature-one features (get_or owners k 0) z.feature p q lie.untouched in_k (zone.1 q hq) t

  corner-own : (kind : Kind) (x y : ℤ) (s : ℕ) (z : Zone) → IsZoneIn features z → IsCornerOf kind parts (corner_at x y s)
      → ((r : Rect) → IsSolid r → corner_of kind s r ≡ corner_at x y s → (p q : Pt) × Has r p × Has z.rect q × Touch p q) → get_or owners s 0 ≡ z.feature
  corner-own kind x y s z zone (k, r, k_in, r_in, is) touching =
      let same : k ≡ s = sym (corner-number kind k r) ∙ ap (λ t. let u : Corner = t in u.number) is in
      let solid : IsSolid r = All-contains IsSolid (get_or parts k []) r (canonical k [] k_in).solid r_in in
      let (p, q, hp, hq, t) = touching r solid (subst (λ n. corner_of kind n r ≡ corner_at x y s) same is) in
      ap (λ n. get_or owners n 0) (sym same) ∙ touch-own k r z p q k_in r_in zone hp hq t

  beside-own : (z : Zone) (side : ℕ × ℕ) → IsZoneIn features z → IsSolidWithin farthest z.rect → StandBeside parts z side → AreOwnSides owners z side
  beside-own z side zone solid (before, after) =
      let wide = solid.wide in
      let tall = solid.tall in
      let low : Pt = at z.rect.x0 z.rect.y0 in
      let low_in : Has z.rect low = record { left = omega (arith, ints); right = wide; low = omega (arith, ints); high = tall } in (
        elim before [
          | inl h ↦ corner-own LowerRight z.rect.x0 z.rect.y0 side.0 z zone h (λ r s is. (
              let x : r.x1 ≡ z.rect.x0 = ap (λ t. let u : Corner = t in u.x) is in
              let y : r.y0 ≡ z.rect.y0 = ap (λ t. let u : Corner = t in u.y) is in
              let w = s.wide in
              let p : Pt = at (r.x1 -ℤ pos 1) r.y0 in (
                p,
                low,
                record { left = omega (arith, ints, w); right = omega (arith, ints); low = omega (arith, ints); high = s.tall },
                low_in,
                Touch-from_close p low (omega (arith, ints, x)) (omega (arith, ints, x)) (omega (arith, ints, y))
                    (omega (arith, ints, y)),
              )))
          | inr h ↦ corner-own UpperLeft z.rect.x0 z.rect.y0 side.0 z zone h (λ r s is. (
              let x : r.x0 ≡ z.rect.x0 = ap (λ t. let u : Corner = t in u.x) is in
              let y : r.y1 ≡ z.rect.y0 = ap (λ t. let u : Corner = t in u.y) is in
              let w = s.tall in
              let p : Pt = at r.x0 (r.y1 -ℤ pos 1) in (
                p,
                low,
                record { left = omega (arith, ints); right = s.wide; low = omega (arith, ints, w); high = omega (arith, ints) },
                low_in,
                Touch-from_close p low (omega (arith, ints, x)) (omega (arith, ints, x)) (omega (arith, ints, y))
                    (omega (arith, ints, y)),
              )))
        ],
        elim after [
          | inl h ↦ corner-own LowerLeft z.rect.x1 z.rect.y0 side.1 z zone h (λ r s is. (
              let x : r.x0 ≡ z.rect.x1 = ap (λ t. let u : Corner = t in u.x) is in
              let y : r.y0 ≡ z.rect.y0 = ap (λ t. let u : Corner = t in u.y) is in
              let p : Pt = at r.x0 r.y0 in
              let q : Pt = at (z.rect.x1 -ℤ pos 1) z.rect.y0 in (
                p,
                q,
                record { left = omega (arith, ints); right = s.wide; low = omega (arith, ints); high = s.tall },
                record { left = omega (arith, ints, wide); right = omega (arith, ints); low = omega (arith, ints); high = tall },
                Touch-from_close p q (omega (arith, ints, x)) (omega (arith, ints, x)) (omega (arith, ints, y)) (omega (arith, ints, y)),
              )))
          | inr h ↦ corner-own LowerLeft z.rect.x0 z.rect.y1 side.1 z zone h (λ r s is. (
              let x : r.x0 ≡ z.rect.x0 = ap (λ t. let u : Corner = t in u.x) is in
              let y : r.y0 ≡ z.rect.y1 = ap (λ t. let u : Corner = t in u.y) is in
              let p : Pt = at r.x0 r.y0 in
              let q : Pt = at z.rect.x0 (z.rect.y1 -ℤ pos 1) in (
                p,
                q,
                record { left = omega (arith, ints); right = s.wide; low = omega (arith, ints); high = s.tall },
                record { left = omega (arith, ints); right = wide; low = omega (arith, ints, tall); high = omega (arith, ints) },
                Touch-from_close p q (omega (arith, ints, x)) (omega (arith, ints, x)) (omega (arith, ints, y)) (omega (arith, ints, y)),
              )))
        ],
      )

  pub all-own : (sides : List (ℕ × ℕ)) → All (λ z. IsSolidWithin farthest z.rect) zones → AllZip (StandBeside parts) zones sides → AllZip (AreOwnSides owners) zones sides
  all-own sides solid stand = zip-from (AreOwnSides owners) zones sides (zip-length (StandBeside parts) zones sides stand) (λ k d e k_in.
      beside-own (get_or zones k d) (get_or sides k e) (lie.zoned k d k_in) (solid k d k_in) (zip-at (StandBeside parts) zones sides k d e stand k_in))
