-- Features put on masks one after the other.
use Rattle.std.proofs.Common.{◌≡◌, ◌≢◌, ℕ, ◌+◌, ◌≤◌, ◌<◌, ◌⊎◌, inl, inr, List, [], ◌∷◌, ◌++◌, Bool, length, get_or, map, refl, sym, ap, ◌∙◌, subst, arith}
use Rattle.std.specs.Prelude.{◌↔◌, pos}
use Rattle.std.specs.List.{All, AllPairs, Any}
use Rattle.std.specs.List.Sorted.{IsNonDecreasingBy}
use Rattle.std.proofs.lemmas.Bool.{cases_eq, cases_lt, cases_order}
use Rattle.std.proofs.lemmas.Int.{ints, by_lt_z}
use Rattle.std.proofs.lemmas.List.{get_or_default}
use Rattle.dpl_spec_split.specs.declared.Pt.{Pt}
use Rattle.dpl_spec_split.specs.declared.Rect.{Rect}
use Rattle.dpl_spec_split.specs.declared.Zone.{Zone}
use Rattle.dpl_spec_split.specs.Squares.{Covers, Has, Region, Touch}
use Rattle.dpl_spec_split.specs.Slabs.{IsCanonical, AreSlabsOf}
use Rattle.dpl_spec_split.specs.Loops.{AreRectsWithin, farthest}
use Rattle.dpl_spec_split.specs.Colours.{colour_at, on_mask}
use Rattle.dpl_spec_split.specs.Zones.{part_at}
use Rattle.dpl_spec_split.proofs.Ordered.{Contains-cases, Contains-head, Contains-later}
use Rattle.dpl_spec_split.specs.Pieces.{IsOwner}
use Rattle.dpl_spec_split.proofs.SquareLaws.{Touch-from_close, Touch-sym}
use Rattle.dpl_slabs.specs.Parts.{union_of}
use Rattle.dpl_slabs.specs.Scattered.{AreUntouched}
use Rattle.dpl_slabs.proofs.LoopLaws.{covers-appended, rects-appended}
use Rattle.dpl_slabs.proofs.ScatteredLaws.{scattered-more}
use Rattle.dpl_piece.specs.Cutting.{CutPieces}
use Rattle.dpl_piece.specs.declared.matched.Cut.{Cut}
use Rattle.dpl_piece.specs.declared.piece.Whole.{Whole}
use Rattle.dpl_piece.specs.Wholes.{AreOwnSides, HasWhole, IsZoneIn, LieIn}
use Rattle.dpl_piece.proofs.CornerLaws.{zip-at, zip-length}
use Rattle.dpl_piece.proofs.Beside.{part-known}
use Rattle.dpl_piece.proofs.WholeLaws.{feature-one}
use Rattle.dpl_orient.specs.declared.mask.Mask.{Mask as Letter}
use Rattle.dpl_orient.specs.Masks.{is_second}
use Rattle.dpl_masks.specs.declared.ink.Ink.{Ink}
use Rattle.dpl_masks.specs.declared.ink.Ink.TheVariants.{Uncut, Blank, One, Both}
use Rattle.dpl_masks.specs.declared.rest.Patch.{Patch}
use Rattle.dpl_masks.specs.Inks.{IsInk, IsMixed, IsOne, IsUncut, ink_at}
use Rattle.dpl_masks.specs.declared.pair.Masks.{Masks}
use Rattle.dpl_masks.specs.Painting.{AreMasksOf, AreMasksOfCut, HoldFrom, Holds}
use Rattle.dpl_masks.specs.Sheets.{AreInked, AreKnown, AreRest, AreUnitedTo, IsAmong, IsDone, AreOwnPatches, IsSheet, IsSheetTo, PutsOne, PutsUncut, in_some}
use Rattle.dpl_masks.proofs.MaskLaws.{covers_none}

abbrev no_patch : Patch
no_patch = record { feature = 0; rect = record { x0 = pos 0; y0 = pos 0; x1 = pos 0; y1 = pos 0 } }

touch-self : (p : Pt) → Touch p p
touch-self p = Touch-from_close p p (omega (arith, ints)) (omega (arith, ints)) (omega (arith, ints)) (omega (arith, ints))

has-decided : (r : Rect) (p : Pt) → Has r p ⊎ (Has r p → ⊥)
has-decided r p =
    by_lt_z p.x r.x0 (λ l. inr (λ h. let a = h.left in omega (arith, ints, l, a))) (λ a.
    by_lt_z p.x r.x1 (λ b.
    by_lt_z p.y r.y0 (λ l. inr (λ h. let c = h.low in omega (arith, ints, l, c))) (λ c.
    by_lt_z p.y r.y1 (λ d. inl (record { left = a; right = b; low = c; high = d })) (λ l. inr (λ h. let d = h.high in omega (arith, ints, l, d)))))
    (λ l. inr (λ h. let b = h.right in omega (arith, ints, l, b))))

any-decided : {X : Type 0} (P : X → Type 0) (each : (x : X) → P x ⊎ (P x → ⊥)) (xs : List X) → Any P xs ⊎ (Any P xs → ⊥)
any-decided P each [] = inr (λ (k, x, k_in, is, h). omega (arith, k_in))
any-decided P each (x ∷ xs) = elim (each x) [
  | inl h ↦ (let (k, k_in, is) = Contains-head x xs in inl (k, x, k_in, is, h))
  | inr none ↦ elim (any-decided P each xs) [
    | inl (k, y, k_in, is, h) ↦ (let (j, j_in, j_is) = Contains-later x y xs (k, k_in, is) in inl (j, y, j_in, j_is, h))
    | inr later ↦ inr (λ (k, y, k_in, is, h). elim (Contains-cases x y xs (k, k_in, is)) [
      | inl e ↦ none (subst P (sym e) h)
      | inr (j, j_in, j_is) ↦ later (j, y, j_in, j_is, h)
    ])
  ]
]

mixed-uncut : (i : Ink) → IsMixed i → IsUncut i → ⊥
mixed-uncut Uncut m u = m
mixed-uncut Blank m u = u
mixed-uncut (One l) m u = u
mixed-uncut Both m u = u

mixed-one : (i : Ink) → IsMixed i → IsOne i → ⊥
mixed-one Uncut m u = m
mixed-one Blank m u = u
mixed-one (One l) m u = m
mixed-one Both m u = u

uncut-one : (i : Ink) → IsUncut i → IsOne i → ⊥
uncut-one Uncut m u = u
uncut-one Blank m u = m
uncut-one (One l) m u = m
uncut-one Both m u = m

-- what a mask has of more features is put
pub sheet-more : (features : List (List Rect)) (mask : Region) (done more all : ℕ → Type 0) (out set : List Rect)
    → AllPairs AreUntouched features → IsSheet features mask done out → IsCanonical set → AreRectsWithin farthest set
    → ((f : ℕ) (p : Pt) → done f → more f → part_at features f p → ⊥) → ((f : ℕ) → all f ↔ (done f ⊎ more f))
    → ((p : Pt) → Covers set p ↔ (mask p × in_some features more p)) → IsSheet features mask all (out ++ set)
sheet-more features mask done more all out set apart h c w differ either own = record {
  scattered = scattered-more out set h.scattered c (λ (p, q, hp, hq, t). (
      let (mp, (f, f_done, in_f)) = (h.covers p).0 hp in
      let (mq, (g, g_more, in_g)) = (own q).0 hq in
      elim (cases_order f g) [
        | inl e ↦ differ f q f_done (subst more (sym e) g_more) (subst (λ n. part_at features n q) (sym e) in_g)
        | inr o ↦ elim o [
          | inl l ↦ apart f g [] l (part-known features g q in_g) (p, q, in_f, in_g, t)
          | inr l ↦ apart g f [] l (part-known features f p in_f) (q, p, in_g, in_f, Touch-sym p q t)
        ]
      ]));
  covers = λ p. (
      let step = covers-appended (λ q. mask q × in_some features more q) out set own p in (
        λ x. elim (step.0 x) [
          | inl old ↦ (let (m, (f, f_done, in_f)) = (h.covers p).0 old in (m, (f, (either f).1 (inl f_done), in_f)))
          | inr (m, (f, f_more, in_f)) ↦ (m, (f, (either f).1 (inr f_more), in_f))
        ],
        λ (m, (f, f_all, in_f)). elim ((either f).0 f_all) [
          | inl f_done ↦ step.1 (inl ((h.covers p).1 (m, (f, f_done, in_f))))
          | inr f_more ↦ step.1 (inr (m, (f, f_more, in_f)))
        ],
      ));
  within = rects-appended farthest out set h.within w;
}

-- features of which the mask has nothing
pub sheet-same : (features : List (List Rect)) (mask : Region) (done more all : ℕ → Type 0) (out : List Rect) → IsSheet features mask done out
    → ((f : ℕ) → all f ↔ (done f ⊎ more f)) → ((p : Pt) → mask p → in_some features more p → ⊥) → IsSheet features mask all out
sheet-same features mask done more all out h either none = record {
  scattered = h.scattered;
  covers = λ p. (
    λ x. (let (m, (f, f_done, in_f)) = (h.covers p).0 x in (m, (f, (either f).1 (inl f_done), in_f))),
    λ (m, (f, f_all, in_f)). elim ((either f).0 f_all) [
      | inl f_done ↦ (h.covers p).1 (m, (f, f_done, in_f))
      | inr f_more ↦ absurd (none p m (f, f_more, in_f))
    ],
  );
  within = h.within;
}

module _ (features parts : List (List Rect)) (owners : List ℕ) (zones : List Zone) (sides : List (ℕ × ℕ)) (wholes : List Whole)
    (colours : List Bool) (inks : List Ink) (known : AreKnown features parts owners zones sides wholes colours inks) where
  abbrev Mask : Bool → Region
  Mask letter = on_mask parts zones sides colours letter

  abbrev owner : ℕ → ℕ
  owner k = get_or owners k 0

  one : (f g : ℕ) (p : Pt) → part_at features f p → part_at features g p → f ≡ g
  one f g p in_f in_g = feature-one features f g p p known.lie.untouched in_f in_g (touch-self p)

  -- a piece lies in its owner
  owned : (k : ℕ) (p : Pt) → k < length parts → part_at parts k p → part_at features (owner k) p
  owned k p k_in in_k = (zip-at (IsOwner features) parts owners k [] 0 known.lie.owned k_in).1 p in_k

  -- a zone lies in its feature
  zoned : (j : ℕ) (z : Zone) (p : Pt) → j < length zones → get_or zones j z ≡ z → Has z.rect p → part_at features z.feature p
  zoned j z p j_in is has = (subst (IsZoneIn features) is (known.lie.zoned j z j_in)).1 p has

  -- the pieces on its sides are of its feature
  own-sides : (j : ℕ) (z : Zone) (side : ℕ × ℕ) → j < length zones → get_or zones j z ≡ z → get_or sides j side ≡ side → AreOwnSides owners z side
  own-sides j z side j_in is side_is =
      subst (λ s. AreOwnSides owners z s) side_is (subst (λ y. AreOwnSides owners y (get_or sides j side)) is (zip-at (AreOwnSides owners) zones sides j z side known.own j_in))

  side-known : (j : ℕ) (side : ℕ × ℕ) → j < length zones → get_or sides j side ≡ side → (side.0 < length parts) × (side.1 < length parts)
  side-known j side j_in side_is =
      let each = zip-length (AreOwnSides owners) zones sides known.own in
      subst (λ s. (s.0 < length parts) × (s.1 < length parts)) side_is (known.known j side (omega (arith, each, j_in)))

  -- two pieces with a square in common are one
  piece-one : (i k : ℕ) (p : Pt) → i < length parts → k < length parts → part_at parts i p → part_at parts k p → i ≡ k
  piece-one i k p i_in k_in in_i in_k = elim (cases_order i k) [
    | inl e ↦ e
    | inr o ↦ elim o [
      | inl l ↦ absurd (known.apart.apart i k [] l k_in p in_i in_k)
      | inr l ↦ absurd (known.apart.apart k i [] l i_in p in_k in_i)
    ]
  ]

  in-parts : (k : ℕ) (p : Pt) → k < length parts → part_at parts k p → union_of parts p
  in-parts k p k_in in_k = (k, get_or parts k [], k_in, get_or_default parts k (get_or parts k []) [] k_in, in_k)

  from-parts : (p : Pt) → union_of parts p → (k : ℕ) × (k < length parts) × part_at parts k p
  from-parts p (k, part, k_in, is, has) = (k, k_in, subst (λ s. Covers s p) (sym is ∙ get_or_default parts k part [] k_in) has)

  ink-is : (f : ℕ) (p : Pt) → part_at features f p → IsInk (length owners) owners colours wholes f (ink_at inks f)
  ink-is f p in_f = known.inked.is f (part-known features f p in_f)

  each-owner : (k : ℕ) → k < length parts → k < length owners
  each-owner k k_in = let each = zip-length (IsOwner features) parts owners known.lie.owned in omega (arith, each, k_in)

  uncut-none : (f : ℕ) (i : Ink) → IsInk (length owners) owners colours wholes f i → IsUncut i → HasWhole wholes f → ⊥
  uncut-none f Uncut h u = h
  uncut-none f Blank h u = absurd u
  uncut-none f (One l) h u = absurd u
  uncut-none f Both h u = absurd u

  -- piece k of an uncut feature is that feature
  module _ (k : ℕ) (k_in : k < length parts) (uncut : IsUncut (ink_at inks (owner k))) where
    whole-feature : get_or features (owner k) [] ≡ get_or parts k []
    whole-feature = known.lie.kept k k_in
        (uncut-none (owner k) (ink_at inks (owner k))
        (known.inked.is (owner k) (zip-at (IsOwner features) parts owners k [] 0 known.lie.owned k_in).0) uncut)

    to-piece : (p : Pt) → part_at features (owner k) p → part_at parts k p
    to-piece p in_f = subst (λ s. Covers s p) whole-feature in_f

    abbrev Here : ℕ → Type 0
    Here f = f ≡ owner k

    uncut-covers : (letter : Bool) → colour_at colours k ≡ letter → (p : Pt) → Covers (get_or parts k []) p ↔ (Mask letter p × in_some features Here p)
    uncut-covers letter c p = (
      λ h. (inl (k, k_in, c, h), (owner k, refl, owned k p k_in h)),
      λ (m, (f, e, in_f)). to-piece p (subst (λ g. part_at features g p) e in_f),
    )

    uncut-other : (letter : Bool) → (colour_at colours k ≡ letter → ⊥) → (p : Pt) → Mask letter p → in_some features Here p → ⊥
    uncut-other letter other p (inl (i, i_in, c, in_i)) (f, e, in_f) =
        let same = piece-one i k p i_in k_in in_i (to-piece p (subst (λ g. part_at features g p) e in_f)) in
        other (subst (λ j. colour_at colours j ≡ letter) same c)
    uncut-other letter other p (inr (j, z, side, j_in, is, side_is, either, has)) (f, e, in_f) =
        ((known.lie.left p).0 (in-parts k p k_in (to-piece p (subst (λ g. part_at features g p) e in_f)))).1 (j, z, j_in, is, has)

    -- it is none of those that are done
    uncut-fresh : (m : ℕ) (f : ℕ) (p : Pt) → m ≤ 0 → IsDone owners wholes inks k m f → Here f → part_at features f p → ⊥
    uncut-fresh m f p none (inl mixed) e in_f = mixed-uncut (ink_at inks f) mixed (subst (λ g. IsUncut (ink_at inks g)) (sym e) uncut)
    uncut-fresh m f p none (inr (inl (i, l, i_is, u))) e in_f =
        let i_in : i < length parts = omega (arith, l, k_in) in
        let same = known.lie.kept i i_in
        (uncut-none (owner i) (ink_at inks (owner i))
        (known.inked.is (owner i) (zip-at (IsOwner features) parts owners i [] 0 known.lie.owned i_in).0)
        (subst (λ g. IsUncut (ink_at inks g)) (sym i_is) u)) in
        let in_i : part_at parts i p = subst (λ s. Covers s p) same (subst (λ g. part_at features g p) (sym i_is) in_f) in
        let e2 = piece-one i k p i_in k_in in_i (to-piece p (subst (λ g. part_at features g p) e in_f)) in
        omega (arith, e2, l)
    uncut-fresh m f p none (inr (inr (i, w, l, i_in, is, w_is, u))) e in_f = omega (arith, l, none)

    uncut-done : (m : ℕ) (f : ℕ) → IsDone owners wholes inks (k + 1) m f ↔ (IsDone owners wholes inks k m f ⊎ Here f)
    uncut-done m f = (
      λ d. elim d [
        | inl mixed ↦ inl (inl mixed)
        | inr r ↦ elim r [
          | inl (i, l, i_is, u) ↦ elim (cases_eq i k) [
            | inl e ↦ inr (sym i_is ∙ ap owner e)
            | inr ne ↦ inl (inr (inl (i, omega (arith, l, ne), i_is, u)))
          ]
          | inr w ↦ inl (inr (inr w))
        ]
      ],
      λ d. elim d [
        | inl old ↦ elim old [
          | inl mixed ↦ inl mixed
          | inr r ↦ elim r [ inl (i, l, i_is, u) ↦ inr (inl (i, omega (arith, l), i_is, u)) | inr w ↦ inr (inr w) ]
        ]
        | inr e ↦ inr (inl (k, omega arith, sym e, subst (λ g. IsUncut (ink_at inks g)) (sym e) uncut))
      ],
    )

  -- a piece of a feature that isn't uncut changes nothing
  other-done : (k m f : ℕ) → (IsUncut (ink_at inks (owner k)) → ⊥) → IsDone owners wholes inks (k + 1) m f ↔ (IsDone owners wholes inks k m f ⊎ ⊥)
  other-done k m f other = (
    λ d. elim d [
      | inl mixed ↦ inl (inl mixed)
      | inr r ↦ elim r [
        | inl (i, l, i_is, u) ↦ elim (cases_eq i k) [
          | inl e ↦ absurd (other (subst (λ g. IsUncut (ink_at inks g)) (sym i_is ∙ ap owner e) u))
          | inr ne ↦ inl (inr (inl (i, omega (arith, l, ne), i_is, u)))
        ]
        | inr w ↦ inl (inr (inr w))
      ]
    ],
    λ d. elim d [
      | inl old ↦ elim old [
        | inl mixed ↦ inl mixed
        | inr r ↦ elim r [ inl (i, l, i_is, u) ↦ inr (inl (i, omega (arith, l), i_is, u)) | inr w ↦ inr (inr w) ]
      ]
      | inr none ↦ absurd none
    ],
  )

  in-union : (f : ℕ) (p : Pt) → part_at features f p → union_of features p
  in-union f p in_f =
      let f_in = part-known features f p in_f in
      (f, get_or features f [], f_in, get_or_default features f (get_or features f []) [] f_in, in_f)

  side-at : (j : ℕ) → j < length zones → get_or sides j (get_or sides j (0, 0)) ≡ get_or sides j (0, 0)
  side-at j j_in = let each = zip-length (AreOwnSides owners) zones sides known.own in get_or_default sides j _ _ (omega (arith, each, j_in))

  -- a feature that lies on one mask is what the mask has of it
  module _ (f : ℕ) (letter : Letter) (ink : ink_at inks f ≡ One letter) where
    abbrev This : ℕ → Type 0
    This g = g ≡ f

    letters : (p : Pt) → part_at features f p → (k : ℕ) → k < length parts → owner k ≡ f → colour_at colours k ≡ is_second letter
    letters p in_f k k_in e = (subst (IsInk (length owners) owners colours wholes f) ink (ink-is f p in_f)).1 k (each-owner k k_in) e

    one-mask : (p : Pt) → part_at features f p → Mask (is_second letter) p
    one-mask p in_f = elim (any-decided (λ (z : Zone). Has z.rect p) (λ z. has-decided z.rect p) zones) [
      | inl (j, z, j_in, is, has) ↦
          (let side : ℕ × ℕ = get_or sides j (0, 0) in
          let side_is : get_or sides j side ≡ side = side-at j j_in in
          let own = own-sides j z side j_in is side_is in
          let there = side-known j side j_in side_is in
          let mine : z.feature ≡ f = one z.feature f p (zoned j z p j_in is has) in_f in
          inr (j, z, side, j_in, is, side_is, inl (letters p in_f side.0 there.0 (own.0 ∙ mine)), has))
      | inr none ↦
          (let (k, k_in, in_k) = from-parts p ((known.lie.left p).1 (in-union f p in_f, none)) in
          inl (k, k_in, letters p in_f k k_in (one (owner k) f p (owned k p k_in in_k) in_f), in_k))
    ]

    one-covers : (set : List Rect) → get_or features f [] ≡ set → (p : Pt) → Covers set p ↔ (Mask (is_second letter) p × in_some features This p)
    one-covers set is p = (
      λ h. (let in_f : part_at features f p = subst (λ s. Covers s p) (sym is) h in (one-mask p in_f, (f, refl, in_f))),
      λ (m, (g, e, in_g)). subst (λ s. Covers s p) is (subst (λ n. part_at features n p) e in_g),
    )

    one-other : (l : Bool) → (is_second letter ≡ l → ⊥) → (p : Pt) → Mask l p → in_some features This p → ⊥
    one-other l other p (inl (i, i_in, c, in_i)) (g, e, in_g) =
        let in_f : part_at features f p = subst (λ n. part_at features n p) e in_g in
        other (sym (letters p in_f i i_in (one (owner i) f p (owned i p i_in in_i) in_f)) ∙ c)
    one-other l other p (inr (j, z, side, j_in, is, side_is, either, has)) (g, e, in_g) =
        let in_f : part_at features f p = subst (λ n. part_at features n p) e in_g in
        let own = own-sides j z side j_in is side_is in
        let there = side-known j side j_in side_is in
        let mine : z.feature ≡ f = one z.feature f p (zoned j z p j_in is has) in_f in
        elim either [
          | inl c ↦ other (sym (letters p in_f side.0 there.0 (own.0 ∙ mine)) ∙ c)
          | inr c ↦ other (sym (letters p in_f side.1 there.1 (own.1 ∙ mine)) ∙ c)
        ]

  -- one more of the features that were cut
  module _ (n k : ℕ) (w : Whole) (k_in : k < length wholes) (w_is : get_or wholes k w ≡ w) where
    abbrev Its : ℕ → Type 0
    Its g = g ≡ w.feature

    whole-fresh : IsOne (ink_at inks w.feature) → (f : ℕ) (p : Pt) → IsDone owners wholes inks n k f → Its f → part_at features f p → ⊥
    whole-fresh is f p (inl mixed) e in_f = mixed-one (ink_at inks f) mixed (subst (λ g. IsOne (ink_at inks g)) (sym e) is)
    whole-fresh is f p (inr (inl (i, l, i_is, u))) e in_f = uncut-one (ink_at inks f) u (subst (λ g. IsOne (ink_at inks g)) (sym e) is)
    whole-fresh is f p (inr (inr (i, v, l, i_in, v_at, v_is, u))) e in_f =
        let below : (get_or wholes i v).feature < (get_or wholes k v).feature = known.lie.rise i k v l k_in in
        let left : (get_or wholes i v).feature ≡ f = ap (λ (x : Whole). x.feature) v_at ∙ v_is in
        let right : (get_or wholes k v).feature ≡ f = ap (λ (x : Whole). x.feature) (get_or_default wholes k v w k_in ∙ w_is) ∙ sym e in
        omega (arith, below, left, right)

    whole-done : IsOne (ink_at inks w.feature) → (f : ℕ) → IsDone owners wholes inks n (k + 1) f ↔ (IsDone owners wholes inks n k f ⊎ Its f)
    whole-done is f = (
      λ d. elim d [
        | inl mixed ↦ inl (inl mixed)
        | inr r ↦ elim r [
          | inl u ↦ inl (inr (inl u))
          | inr (i, v, l, i_in, v_at, v_is, u) ↦ elim (cases_eq i k) [
            | inl e ↦ inr (sym v_is
                ∙ (ap (λ (x : Whole). x.feature) (sym v_at) ∙ (ap (λ j. (get_or wholes j v).feature) e ∙ ap (λ (x : Whole). x.feature)
                (get_or_default wholes k v w k_in ∙ w_is))))
            | inr ne ↦ inl (inr (inr (i, v, omega (arith, l, ne), i_in, v_at, v_is, u)))
          ]
        ]
      ],
      λ d. elim d [
        | inl old ↦ elim old [
          | inl mixed ↦ inl mixed
          | inr r ↦ elim r [ inl u ↦ inr (inl u) | inr (i, v, l, i_in, v_at, v_is, u) ↦ inr (inr (i, v, omega (arith, l), i_in, v_at, v_is, u)) ]
        ]
        | inr e ↦ inr (inr (k, w, omega arith, k_in, w_is, sym e, subst (λ g. IsOne (ink_at inks g)) (sym e) is))
      ],
    )

    other-whole : (IsOne (ink_at inks w.feature) → ⊥) → (f : ℕ) → IsDone owners wholes inks n (k + 1) f ↔ (IsDone owners wholes inks n k f ⊎ ⊥)
    other-whole other f = (
      λ d. elim d [
        | inl mixed ↦ inl (inl mixed)
        | inr r ↦ elim r [
          | inl u ↦ inl (inr (inl u))
          | inr (i, v, l, i_in, v_at, v_is, u) ↦ elim (cases_eq i k) [
            | inl e ↦ absurd (other
                (subst (λ g. IsOne (ink_at inks g))
                (sym v_is ∙ (ap (λ (x : Whole). x.feature) (sym v_at)
                ∙ (ap (λ j. (get_or wholes j v).feature) e ∙ ap (λ (x : Whole). x.feature) (get_or_default wholes k v w k_in ∙ w_is)))) u))
            | inr ne ↦ inl (inr (inr (i, v, omega (arith, l, ne), i_in, v_at, v_is, u)))
          ]
        ]
      ],
      λ d. elim d [
        | inl old ↦ elim old [
          | inl mixed ↦ inl mixed
          | inr r ↦ elim r [ inl u ↦ inr (inl u) | inr (i, v, l, i_in, v_at, v_is, u) ↦ inr (inr (i, v, omega (arith, l), i_in, v_at, v_is, u)) ]
        ]
        | inr none ↦ absurd none
      ],
    )

  abbrev Sheet : Bool → ℕ → ℕ → List Rect → Type 0
  Sheet letter n m out = IsSheet features (Mask letter) (IsDone owners wholes inks n m) out

  abbrev Sheet-of : Bool → List Patch → ℕ → List Rect → Type 0
  Sheet-of letter patches n out = IsSheet features (Mask letter) (IsAmong patches inks n) out

  -- no feature more
  sheet-none : (letter : Bool) (done all : ℕ → Type 0) (out : List Rect) → ((f : ℕ) → all f ↔ (done f ⊎ ⊥))
      → IsSheet features (Mask letter) done out → IsSheet features (Mask letter) all out
  sheet-none letter done all out either h = sheet-same features (Mask letter) done (λ f. ⊥) all out h either (λ p m (f, none, in_f). none)

  piece-step : (letter : Bool) (k : ℕ) → k < length parts → (out out2 : List Rect) → Sheet letter k 0 out
      → PutsUncut (ink_at inks (owner k)) (colour_at colours k) letter (get_or parts k []) out out2 → Sheet letter (k + 1) 0 out2
  piece-step letter k k_in out out2 h (inl (u, inl (c, is))) =
      rw is (sheet-more features (Mask letter) _ (λ f. f ≡ owner k) _ out (get_or parts k []) known.lie.untouched h
      (known.apart.canonical k [] k_in) (known.apart.within k [] k_in) (λ f p. uncut-fresh k k_in u 0 f p (omega arith))
      (uncut-done k k_in u 0) (uncut-covers k k_in u letter c))
  piece-step letter k k_in out out2 h (inl (u, inr (other, is))) =
      rw is (sheet-same features (Mask letter) _ (λ f. f ≡ owner k) _ out h (uncut-done k k_in u 0) (uncut-other k k_in u letter other))
  piece-step letter k k_in out out2 h (inr (other, is)) = rw is (sheet-none letter _ _ out (λ f. other-done k 0 f other) h)

  whole-step : (letter : Bool) (n k : ℕ) (w : Whole) → k < length wholes → get_or wholes k w ≡ w → IsCanonical w.set
      → AreRectsWithin farthest w.set → (out out2 : List Rect) → Sheet letter n k out
      → PutsOne (ink_at inks w.feature) letter w.set out out2 → Sheet letter n (k + 1) out2
  whole-step letter n k w k_in w_is canonical within out out2 h (inl (own, ink, inl (c, is))) =
      let alone : IsOne (ink_at inks w.feature) = subst IsOne (sym ink) tt in
      let set_is : get_or features w.feature [] ≡ w.set = (subst (λ (x : Whole). (x.feature < length features)
      × (get_or features x.feature [] ≡ x.set)) w_is (known.lie.cut k w k_in)).1 in
      rw is (sheet-more features (Mask letter) _ (λ f. f ≡ w.feature) _ out w.set known.lie.untouched h canonical within
      (whole-fresh n k w k_in w_is alone) (whole-done n k w k_in w_is alone)
      (subst (λ l. (p : Pt) → Covers w.set p ↔ (Mask l p × in_some features (λ f. f ≡ w.feature) p)) c
      (one-covers w.feature own ink w.set set_is)))
  whole-step letter n k w k_in w_is canonical within out out2 h (inl (own, ink, inr (other, is))) =
      let alone : IsOne (ink_at inks w.feature) = subst IsOne (sym ink) tt in
      rw is (sheet-same features (Mask letter) _ (λ f. f ≡ w.feature) _ out h (whole-done n k w k_in w_is alone) (one-other w.feature own ink letter other))
  whole-step letter n k w k_in w_is canonical within out out2 h (inr (other, is)) = rw is (sheet-none letter _ _ out (other-whole n k w k_in w_is other) h)

  -- what features on both masks have on one, patch by patch of each feature
  module _ (letter : Bool) (patches : List Patch) (rest : AreRest parts owners zones sides colours inks letter patches)
      (rise : IsNonDecreasingBy (λ (t : Patch). t.feature) patches) where
    abbrev patch : ℕ → Patch
    patch k = get_or patches k no_patch

    patch-is : (k : ℕ) (t : Patch) → k < length patches → get_or patches k t ≡ t → patch k ≡ t
    patch-is k t k_in is = get_or_default patches k no_patch t k_in ∙ is

    rest-at : (f : ℕ) (p : Pt) → Holds patches f p ↔ (Mask letter p × IsMixed (ink_at inks f) × part_at features f p)
    rest-at f p = (
      λ x. elim ((rest.covers f p).0 x) [
        | inl (k, z, side, l, k_in, is, side_is, either, mixed, own, has) ↦ (
          inr (k, z, side, k_in, is, side_is, either, has),
          subst (λ g. IsMixed (ink_at inks g)) own mixed,
          subst (λ g. part_at features g p) own (zoned k z p k_in is has),
        )
        | inr (k, l, k_in, c, mixed, own, in_k) ↦ (
          inl (k, k_in, c, in_k),
          subst (λ g. IsMixed (ink_at inks g)) own mixed,
          subst (λ g. part_at features g p) own (owned k p k_in in_k),
        )
      ],
      λ (m, mixed, in_f). (rest.covers f p).1 (elim m [
        | inl (k, k_in, c, in_k) ↦
            (let e : owner k ≡ f = one (owner k) f p (owned k p k_in in_k) in_f in
            inr (k, k_in, k_in, c, subst (λ g. IsMixed (ink_at inks g)) (sym e) mixed, e, in_k))
        | inr (k, z, side, k_in, is, side_is, either, has) ↦
            (let e : z.feature ≡ f = one z.feature f p (zoned k z p k_in is has) in_f in
            inl (k, z, side, k_in, k_in, is, side_is, either, subst (λ g. IsMixed (ink_at inks g)) (sym e) mixed, e, has))
      ]),
    )

    abbrev Apart : ℕ → Type 0
    Apart n = (j k : ℕ) (d : Patch) → j < n → n ≤ k → k < length patches → (get_or patches j d).feature ≢ (get_or patches k d).feature

    -- no patch has a square
    united-none : Sheet-of letter patches 0 []
    united-none = record {
      scattered = record { solid = λ k d k_in. absurd (omega (arith, k_in)); follow = λ i j d l j_in. absurd (omega (arith, j_in)) };
      covers = λ p. (λ x. absurd (covers_none p x), λ (m, (f, (mixed, k, t, l, k_in, is, t_is), in_f)). absurd (omega (arith, l)));
      within = λ r r_in. absurd (omega (arith, r_in.1));
    }

    module _ (start end : ℕ) (start_in : start < length patches) (own_ones : AreOwnPatches patches start end) (apart : Apart start) where
      abbrev Own : ℕ → Type 0
      Own f = IsMixed (ink_at inks f) × (f ≡ (patch start).feature)

      later : (k : ℕ) → end ≤ k → k < length patches → (patch start).feature < (patch k).feature
      later k from k_in =
          let more = own_ones.more in
          let end_in : end < length patches = omega (arith, from, k_in) in
          let up = rise start end no_patch (omega (arith, more)) end_in in
          let on = rise end k no_patch from k_in in
          let ne = own_ones.next no_patch end_in in
          elim (cases_eq (patch end).feature (patch start).feature) [ inl e ↦ absurd (ne e) | inr other ↦ omega (arith, up, on, other) ]

      here : (k : ℕ) (t : Patch) → start ≤ k → k < end → get_or patches k t ≡ t → t.feature ≡ (patch start).feature
      here k t from l is =
          let within = own_ones.within in
          ap (λ (u : Patch). u.feature) (sym (patch-is k t (omega (arith, l, within)) is)) ∙ own_ones.one k no_patch from l

      -- all patches of its feature are among them
      in-its : (f k : ℕ) (t : Patch) → k < length patches → get_or patches k t ≡ t → t.feature ≡ f → Own f → (start ≤ k) × (k < end)
      in-its f k t k_in is own (mixed, e) =
          let at : (patch k).feature ≡ (patch start).feature = ap (λ (u : Patch). u.feature) (patch-is k t k_in is) ∙ (own ∙ e) in (
            elim (cases_lt k start) [ inl l ↦ absurd (apart k start no_patch l (omega arith) start_in at) | inr ge ↦ ge ],
            elim (cases_lt k end) [ inl l ↦ l | inr ge ↦ (let up = later k ge k_in in absurd (omega (arith, up, at))) ],
          )

      its-fresh : (f : ℕ) (p : Pt) → IsAmong patches inks start f → Own f → part_at features f p → ⊥
      its-fresh f p (mixed, k, t, l, k_in, is, own) its in_f = let inside = in-its f k t k_in is own its in omega (arith, l, inside.0)

      its-done : (f : ℕ) → IsAmong patches inks end f ↔ (IsAmong patches inks start f ⊎ Own f)
      its-done f =
          let more = own_ones.more in (
            λ (mixed, k, t, l, k_in, is, own). elim (cases_lt k start) [
              | inl low ↦ inl (mixed, k, t, low, k_in, is, own)
              | inr ge ↦ inr (mixed, sym own ∙ here k t ge l is)
            ],
            λ h. elim h [
              | inl (mixed, k, t, l, k_in, is, own) ↦ (mixed, k, t, omega (arith, l, more), k_in, is, own)
              | inr (mixed, e) ↦ (mixed, start, patch start, more, start_in, get_or_default patches start (patch start) no_patch start_in, sym e)
            ],
          )

      its-covers : (set : List Rect) → AreSlabsOf (HoldFrom patches start end) set → (p : Pt) → Covers set p ↔ (Mask letter p × in_some features Own p)
      its-covers set s p = (
        λ x. (let (k, t, from, l, is, has) = (s.covers p).0 x in
            let within = own_ones.within in
            let (m, mixed, in_f) = (rest-at (patch start).feature p).0 (k, t, omega (arith, l, within), is, (here k t from l is, has)) in
            (m, ((patch start).feature, (mixed, refl), in_f))),
        λ (m, (f, its, in_f)). (let (k, t, k_in, is, (own, has)) = (rest-at f p).1 (m, its.0, in_f) in
            let inside = in-its f k t k_in is own its in (s.covers p).1 (k, t, inside.0, inside.1, is, has)),
      )

      its-apart : Apart end
      its-apart j k d l from k_in same =
          let within = own_ones.within in
          let j_in : j < length patches = omega (arith, l, within) in
          let more = own_ones.more in
          elim (cases_lt j start) [
            | inl low ↦ apart j k d low (omega (arith, more, from)) k_in same
            | inr ge ↦
                (let own : (patch j).feature ≡ (patch start).feature = own_ones.one j no_patch ge l in
                let up = later k from k_in in
                let at : (patch j).feature ≡ (patch k).feature = ap (λ (u : Patch). u.feature) (get_or_default patches j no_patch d j_in) ∙ (same
                ∙ ap (λ (u : Patch). u.feature) (get_or_default patches k d no_patch k_in)) in
                omega (arith, own, up, at))
          ]

      -- one more feature is united
      united-more : (out set : List Rect) → Sheet-of letter patches start out → AreSlabsOf (HoldFrom patches start end) set → AreRectsWithin farthest set
          → Sheet-of letter patches end (out ++ set)
      united-more out set h s w = sheet-more features (Mask letter) (IsAmong patches inks start) Own (IsAmong patches inks end) out set
          known.lie.untouched h s.canonical w its-fresh its-done (its-covers set s)

    -- all are united
    united-all : (n : ℕ) (out : List Rect) → length patches ≤ n → Sheet-of letter patches n out → Sheet letter 0 0 out
    united-all n out all h = record {
      scattered = h.scattered;
      covers = λ p. (
        λ x. (let (m, (f, among, in_f)) = (h.covers p).0 x in (m, (f, inl among.0, in_f))),
        λ (m, (f, done, in_f)). elim done [
          | inl mixed ↦
              (let (k, t, k_in, is, (own, has)) = (rest-at f p).1 (m, mixed, in_f) in
              (h.covers p).1 (m, (f, (mixed, k, t, omega (arith, k_in, all), k_in, is, own), in_f)))
          | inr r ↦ elim r [ inl (k, l, e, u) ↦ absurd (omega (arith, l)) | inr (k, w, l, k_in, e, i, u) ↦ absurd (omega (arith, l)) ]
        ],
      );
      within = h.within;
    }

  done-ink : (f : ℕ) (i : Ink) → ink_at inks f ≡ i → IsInk (length owners) owners colours wholes f i → (k : ℕ) → k < length parts
      → owner k ≡ f → IsDone owners wholes inks (length parts) (length wholes) f
  done-ink f Uncut e h k k_in own = inr (inl (k, k_in, own, subst IsUncut (sym e) tt))
  done-ink f Blank e h k k_in own = inl (subst IsMixed (sym e) tt)
  done-ink f (One l) e h k k_in own = (let (w, (i, i_in, is), w_is) = h.0 in inr (inr (i, w, i_in, i_in, is, w_is, subst IsOne (sym e) tt)))
  done-ink f Both e h k k_in own = inl (subst IsMixed (sym e) tt)

  all-done : (letter : Bool) (p : Pt) → Mask letter p → in_some features (IsDone owners wholes inks (length parts) (length wholes)) p
  all-done letter p (inl (k, k_in, c, in_k)) =
      let in_f = owned k p k_in in_k in
      (owner k, done-ink (owner k) _ refl (ink-is (owner k) p in_f) k k_in refl, in_f)
  all-done letter p (inr (j, z, side, j_in, is, side_is, either, has)) =
      let in_f = zoned j z p j_in is has in
      let own = own-sides j z side j_in is side_is in
      (z.feature, done-ink z.feature _ refl (ink-is z.feature p in_f) side.0 (side-known j side j_in side_is).0 own.0, in_f)

  sheet-slabs : (letter : Bool) (out slabs : List Rect) → Sheet letter (length parts) (length wholes) out → AreSlabsOf (Covers out) slabs → AreSlabsOf (Mask letter) slabs
  sheet-slabs letter out slabs h s = record {
    canonical = s.canonical;
    covers = λ p. (λ x. ((h.covers p).0 ((s.covers p).0 x)).0, λ m. (s.covers p).1 ((h.covers p).1 (m, all-done letter p m)));
  }

pub piece-put : (i j : Ink) (l m letter : Bool) (s t old new : List Rect) → i ≡ j → l ≡ m → s ≡ t → PutsUncut i l letter s old new → PutsUncut j m letter t old new
piece-put i j l m letter s t old new e f g h =
    subst (λ x. PutsUncut x m letter t old new) e (subst (λ x. PutsUncut i x letter t old new) f (subst (λ x. PutsUncut i l letter x old new) g h))

-- the numbers of features are known
pub owners-known : (features parts : List (List Rect)) (owners : List ℕ) (zones : List Zone) (wholes : List Whole) (count : ℕ)
    → LieIn features parts owners zones wholes → length features ≡ count → All (λ k. k < count) owners
owners-known features parts owners zones wholes count lie each k d k_in =
    let same = zip-length (IsOwner features) parts owners lie.owned in
    let below = (zip-at (IsOwner features) parts owners k [] d lie.owned (omega (arith, same, k_in))).0 in
    omega (arith, below, each)

pub zones-known : (features parts : List (List Rect)) (owners : List ℕ) (zones : List Zone) (wholes : List Whole) (count : ℕ)
    → LieIn features parts owners zones wholes → length features ≡ count → All (λ z. z.feature < count) zones
zones-known features parts owners zones wholes count lie each k d k_in = let below = (lie.zoned k d k_in).0 in omega (arith, below, each)

pub wholes-known : (features parts : List (List Rect)) (owners : List ℕ) (zones : List Zone) (wholes : List Whole) (count : ℕ)
    → LieIn features parts owners zones wholes → length features ≡ count → All (λ w. w.feature < count) wholes
wholes-known features parts owners zones wholes count lie each k d k_in = let below = (lie.cut k d k_in).0 in omega (arith, below, each)

-- what is known of coloured pieces, list by list
module _ (cut : Cut) (letters : List Letter) (inks : List Ink) (h : AreInked cut letters inks) where
  pub inked-owned : All (λ k. k < length inks) cut.owners.items
  inked-owned = owners-known h.features cut.parts cut.owners.items cut.zones.items cut.wholes.items _ h.facts.lie (sym h.facts.inked.each)

  pub inked-owners : length cut.owners.items ≡ length cut.parts
  inked-owners = let each = zip-length (IsOwner h.features) cut.parts cut.owners.items h.facts.lie.owned in omega (arith, each)

  pub inked-sides : length cut.sides.items ≡ length cut.zones.items
  inked-sides = let each = zip-length (AreOwnSides cut.owners.items) cut.zones.items cut.sides.items h.facts.own in omega (arith, each)

module _ (parts : List (List Rect)) (owners : List ℕ) (zones : List Zone) (sides : List (ℕ × ℕ)) (wholes : List Whole) (colours : List Bool)
    (inks : List Ink) (letter : Bool) where
  pub sheet-piece : (k : ℕ) (out out2 : List Rect) → k < length parts → IsSheetTo parts owners zones sides wholes colours inks letter k 0 out
      → PutsUncut (ink_at inks (get_or owners k 0)) (colour_at colours k) letter (get_or parts k []) out out2
      → IsSheetTo parts owners zones sides wholes colours inks letter (k + 1) 0 out2
  sheet-piece k out out2 k_in s puts = record {
    features = s.features;
    facts = s.facts;
    sheet = piece-step s.features parts owners zones sides wholes colours inks s.facts letter k k_in out out2 s.sheet puts;
  }

  pub sheet-whole : (n k : ℕ) (w : Whole) (out out2 : List Rect) → k < length wholes → get_or wholes k w ≡ w → IsCanonical w.set
      → AreRectsWithin farthest w.set → IsSheetTo parts owners zones sides wholes colours inks letter n k out
      → PutsOne (ink_at inks w.feature) letter w.set out out2 → IsSheetTo parts owners zones sides wholes colours inks letter n (k + 1) out2
  sheet-whole n k w out out2 k_in w_is canonical within s puts = record {
    features = s.features;
    facts = s.facts;
    sheet = whole-step s.features parts owners zones sides wholes colours inks s.facts letter n k w k_in w_is canonical within out out2 s.sheet puts;
  }

  pub mask-slabs : (out slabs : List Rect) → IsSheetTo parts owners zones sides wholes colours inks letter (length parts) (length wholes) out
      → AreSlabsOf (Covers out) slabs → AreSlabsOf (on_mask parts zones sides colours letter) slabs
  mask-slabs out slabs s t = sheet-slabs s.features parts owners zones sides wholes colours inks s.facts letter out slabs s.sheet t

-- patches that are united feature by feature
module _ (cut : Cut) (letters : List Letter) (inks : List Ink) (letter : Bool) (patches : List Patch)
    (rest : AreRest cut.parts cut.owners.items cut.zones.items cut.sides.items (map is_second letters) inks letter patches)
    (rise : IsNonDecreasingBy (λ (t : Patch). t.feature) patches) where
  pub its-none : (out : List Rect) → out ≡ [] → AreInked cut letters inks → AreUnitedTo cut letters inks letter patches 0 out
  its-none out none h = record {
    features = h.features;
    facts = h.facts;
    apart = λ j k d l. absurd (omega (arith, l));
    sheet = rw none (united-none h.features cut.parts cut.owners.items cut.zones.items cut.sides.items cut.wholes.items
        (map is_second letters) inks h.facts letter patches rest rise);
  }

  pub its-more : (start end : ℕ) (out out2 set : List Rect) → start < length patches → AreOwnPatches patches start end → out2 ≡ out ++ set
      → AreSlabsOf (HoldFrom patches start end) set → AreRectsWithin farthest set → AreUnitedTo cut letters inks letter patches start out
      → AreUnitedTo cut letters inks letter patches end out2
  its-more start end out out2 set start_in own_ones is s w h = record {
    features = h.features;
    facts = h.facts;
    apart = its-apart h.features cut.parts cut.owners.items cut.zones.items cut.sides.items cut.wholes.items
        (map is_second letters) inks h.facts letter patches rest rise start end start_in own_ones h.apart;
    sheet = rw is (united-more h.features cut.parts cut.owners.items cut.zones.items cut.sides.items cut.wholes.items
        (map is_second letters) inks h.facts letter patches rest rise start end start_in own_ones h.apart out set h.sheet s w);
  }

  pub its-all : (n : ℕ) (out : List Rect) → length patches ≤ n → AreUnitedTo cut letters inks letter patches n out
      → IsSheetTo cut.parts cut.owners.items cut.zones.items cut.sides.items cut.wholes.items (map is_second letters) inks letter 0 0 out
  its-all n out all h = record {
    features = h.features;
    facts = h.facts;
    sheet = united-all h.features cut.parts cut.owners.items cut.zones.items cut.sides.items cut.wholes.items
        (map is_second letters) inks h.facts letter patches rest rise n out all h.sheet;
  }

-- the masks of a cut are those of its pieces
pub cut-masks : (c : CutPieces) (cut : Cut) (letters : List Letter) (colours : List Bool) → cut.parts ≡ c.parts → cut.zones.items ≡ c.zones → cut.sides.items ≡ c.sides
    → map is_second letters ≡ colours → (m : Masks) → AreMasksOfCut cut (map is_second letters) m → AreMasksOf c colours m
cut-masks c cut letters colours parts zones sides same m are =
    record { first = rw (parts, zones, sides, same) at are.first; second = rw (parts, zones, sides, same) at are.second }
