-- What features on both masks have on one.
use Rattle.std.proofs.Common.{◌≡◌, ℕ, ◌+◌, ◌≤◌, ◌<◌, ◌⊎◌, inl, inr, List, [], ◌∷◌, ◌++◌, Bool, length, get_or, take, sym, ap, ◌∙◌, subst, arith}
use Rattle.std.specs.Prelude.{◌↔◌}
use Rattle.std.specs.List.{Contains}
use Rattle.std.proofs.lemmas.Bool.{cases_eq}
use Rattle.std.proofs.lemmas.List.{get_or_default, length-take-le, take_more}
use Rattle.dpl_spec_split.specs.declared.Pt.{Pt}
use Rattle.dpl_spec_split.specs.declared.Rect.{Rect}
use Rattle.dpl_spec_split.specs.declared.Zone.{Zone}
use Rattle.dpl_spec_split.specs.Squares.{Covers, Has}
use Rattle.dpl_spec_split.specs.Slabs.{AreSlabsOf}
use Rattle.dpl_spec_split.specs.Colours.{colour_at}
use Rattle.dpl_spec_split.specs.Zones.{part_at}
use Rattle.dpl_masks.specs.declared.ink.Ink.{Ink}
use Rattle.dpl_masks.specs.declared.rest.Patch.{Patch}
use Rattle.dpl_masks.specs.Inks.{IsMixed, ink_at}
use Rattle.dpl_masks.specs.Painting.{Adds, ArePatchesWithin, HoldFrom, Holds, IsEither}
use Rattle.dpl_masks.specs.Sheets.{AreRest, rest_pieces, rest_zones}
use Rattle.dpl_masks.proofs.MaskLaws.{adds_same, adds_then, any_push, covers_none, holds_none, nothing_added, patch_added}

-- the first slabs of a piece, with one more
pub slabs-more : (feature k : ℕ) (slabs : List Rect) (r : Rect) (old mid new : List Patch) → k < length slabs → r ≡ get_or slabs k r
    → Adds old mid (λ f p. (feature ≡ f) × Covers (take k slabs) p) → new ≡ mid ++ record { feature = feature; rect = r } ∷ []
    → Adds old new (λ f p. (feature ≡ f) × Covers (take (k + 1) slabs) p)
slabs-more feature k slabs r old mid new k_in r_is first is =
    let cut : take (k + 1) slabs ≡ take k slabs ++ r ∷ [] = take_more slabs k r k_in ∙ ap (λ (x : Rect). take k slabs ++ x ∷ []) (sym r_is) in
    adds_same old new _ _
    (λ f p. (
      λ h. elim h [
        | inl (e, c) ↦ (e, rw cut ((any_push (λ s. Has s p) (take k slabs) r).1 (inl c)))
        | inr (e, has) ↦ (e, rw cut ((any_push (λ s. Has s p) (take k slabs) r).1 (inr has)))
      ],
      λ (e, c). elim ((any_push (λ s. Has s p) (take k slabs) r).0 (rw cut at c)) [ inl was ↦ inl (e, was) | inr has ↦ inr (e, has) ],
    ))
    (adds_then old mid new _ _ first (patch_added mid new (record { feature = feature; rect = r }) is))

pub no-slabs : (feature : ℕ) (slabs : List Rect) (old : List Patch) → Adds old old (λ f p. (feature ≡ f) × Covers (take 0 slabs) p)
no-slabs feature slabs old = nothing_added old _ (λ f p (e, (k, r, l, is, has)). omega (arith, l, length-take-le 0 slabs (omega arith)))

pub no-rest_pieces : (old : List Patch) (parts : List (List Rect)) (owners : List ℕ) (colours : List Bool) (inks : List Ink) (letter : Bool)
    → Adds old old (rest_pieces 0 parts owners colours inks letter)
no-rest_pieces old parts owners colours inks letter = nothing_added old _ (λ f p (k, l, k_in, c, m, own, has). omega (arith, l))

pub no-rest_zones : (old : List Patch) (zones : List Zone) (sides : List (ℕ × ℕ)) (colours : List Bool) (inks : List Ink) (letter : Bool)
    → Adds old old (rest_zones 0 zones sides colours inks letter)
no-rest_zones old zones sides colours inks letter = nothing_added old _ (λ f p (k, z, side, l, k_in, is, side_is, either, m, own, has). omega (arith, l))

pub rest-piece-more : (old mid new : List Patch) (parts : List (List Rect)) (owners : List ℕ) (colours : List Bool) (inks : List Ink)
    (letter : Bool) (n : ℕ) (part : List Rect) (c : Bool) (i : Ink) → n < length parts → part ≡ get_or parts n part → c ≡ colour_at colours n
    → i ≡ ink_at inks (get_or owners n 0)
    → Adds old mid (rest_pieces n parts owners colours inks letter)
    → Adds mid new (λ f p. IsMixed i × (c ≡ letter) × (get_or owners n 0 ≡ f) × Covers part p)
    → Adds old new (rest_pieces (n + 1) parts owners colours inks letter)
rest-piece-more old mid new parts owners colours inks letter n part c i n_in part_is c_is i_is first second =
    let there : get_or parts n [] ≡ part = get_or_default parts n [] part n_in ∙ sym part_is in
    adds_same old new _ _
    (λ f p. (
      λ h. elim h [
        | inl (k, l, k_in, d, m, own, has) ↦ (k, omega (arith, l), k_in, d, m, own, has)
        | inr (m, d, own, has) ↦ (n, omega arith, n_in, sym c_is ∙ d, subst IsMixed i_is m, own, subst (λ s. Covers s p) (sym there) has)
      ],
      λ (k, l, k_in, d, m, own, has). elim (cases_eq k n) [
        | inl e ↦ inr (
          subst IsMixed (sym i_is) (subst (λ j. IsMixed (ink_at inks (get_or owners j 0))) e m),
          c_is ∙ subst (λ j. colour_at colours j ≡ letter) e d,
          subst (λ j. get_or owners j 0 ≡ f) e own,
          subst (λ s. Covers s p) there (subst (λ j. part_at parts j p) e has),
        )
        | inr ne ↦ inl (k, omega (arith, l, ne), k_in, d, m, own, has)
      ],
    ))
    (adds_then old mid new _ _ first second)

pub rest-zone-more : (old mid new : List Patch) (zones : List Zone) (sides : List (ℕ × ℕ)) (colours : List Bool) (inks : List Ink)
    (letter : Bool) (n : ℕ) (z : Zone) (side : ℕ × ℕ) (a b : Bool) (i : Ink) → n < length zones → n < length sides → get_or zones n z ≡ z
    → get_or sides n side ≡ side → a ≡ colour_at colours side.0 → b ≡ colour_at colours side.1 → i ≡ ink_at inks z.feature
    → Adds old mid (rest_zones n zones sides colours inks letter)
    → Adds mid new (λ f p. IsMixed i × ((a ≡ letter) ⊎ (b ≡ letter)) × (z.feature ≡ f) × Has z.rect p)
    → Adds old new (rest_zones (n + 1) zones sides colours inks letter)
rest-zone-more old mid new zones sides colours inks letter n z side a b i n_in s_in z_is side_is a_is b_is i_is first second =
    adds_same old new _ _
    (λ f p. (
      λ h. elim h [
        | inl (k, y, ends, l, k_in, is, ends_is, either, m, own, has) ↦ (k, y, ends, omega (arith, l), k_in, is, ends_is, either, m, own, has)
        | inr (m, either, own, has) ↦ (
          n,
          z,
          side,
          omega arith,
          n_in,
          z_is,
          side_is,
          elim either [ inl c ↦ inl (sym a_is ∙ c) | inr c ↦ inr (sym b_is ∙ c) ],
          subst IsMixed i_is m,
          own,
          has,
        )
      ],
      λ (k, y, ends, l, k_in, is, ends_is, either, m, own, has). elim (cases_eq k n) [
        | inl e ↦
            (let zone : y ≡ z = sym is ∙ (ap (λ j. get_or zones j y) e ∙ (get_or_default zones n y z n_in ∙ z_is)) in
            let same : ends ≡ side = sym ends_is ∙ (ap (λ j. get_or sides j ends) e ∙ (get_or_default sides n ends side s_in ∙ side_is)) in
            let one : IsEither colours side letter = subst (λ s. IsEither colours s letter) same either in
            inr (
              subst IsMixed (sym i_is) (subst (λ (x : Zone). IsMixed (ink_at inks x.feature)) zone m),
              elim one [
                | inl c ↦ inl (a_is ∙ c)
                | inr c ↦ inr (b_is ∙ c)
              ],
              subst (λ (x : Zone). x.feature ≡ f) zone own,
              subst (λ (x : Zone). Has x.rect p) zone has,
            ))
        | inr ne ↦ inl (k, y, ends, omega (arith, l, ne), k_in, is, ends_is, either, m, own, has)
      ],
    ))
    (adds_then old mid new _ _ first second)

-- what was added, in any order
pub are-rest : (parts : List (List Rect)) (owners : List ℕ) (zones : List Zone) (sides : List (ℕ × ℕ)) (colours : List Bool)
    (inks : List Ink) (letter : Bool) (r0 r1 r2 r3 : List Patch) → r0 ≡ []
    → Adds r0 r1 (rest_zones (length zones) zones sides colours inks letter)
    → Adds r1 r2 (rest_pieces (length parts) parts owners colours inks letter) → ArePatchesWithin r2
    → ((t : Patch) → Contains r3 t ↔ Contains r2 t) → AreRest parts owners zones sides colours inks letter r3
are-rest parts owners zones sides colours inks letter r0 r1 r2 r3 none first second within same =
    let both = adds_then r0 r1 r2 _ _ first second in
    let held : (xs ys : List Patch) → ((t : Patch) → Contains xs t → Contains ys t) → (f : ℕ) (p : Pt) → Holds xs f p → Holds ys f p = λ xs ys from f p (k, t, k_in, is, has). (
    let (j, j_in, j_is) = from t (k, k_in, is) in (j, t, j_in, j_is, has)) in
    record {
      covers = λ f p. (
        λ h. elim ((both f p).0 (held r3 r2 (λ t. (same t).0) f p h)) [ inl c ↦ absurd (holds_none f p (subst (λ (r : List Patch). Holds r f p) none c)) | inr x ↦ x ],
        λ x. held r2 r3 (λ t. (same t).1) f p ((both f p).1 (inr x)),
      );
      within = λ t t_in. within t ((same t).0 t_in);
    }

-- the first patches from a place on, with one more
pub from-more : (patches : List Patch) (start k : ℕ) (t : Patch) (old new : List Rect) → start ≤ k → t ≡ get_or patches k t → k < length patches
    → ((p : Pt) → Covers old p ↔ HoldFrom patches start k p) → new ≡ old ++ t.rect ∷ [] → (p : Pt) → Covers new p ↔ HoldFrom patches start (k + 1) p
from-more patches start k t old new from t_is k_in before is p =
    let step = any_push (λ (r : Rect). Has r p) old t.rect in (
      λ h. elim (step.0 (rw is at h)) [
        | inl was ↦ (let (j, u, ge, l, u_is, has) = (before p).0 was in (j, u, ge, omega (arith, l), u_is, has))
        | inr has ↦ (k, t, from, omega arith, sym t_is, has)
      ],
      λ (j, u, ge, l, u_is, has). rw is (step.1 (elim (cases_eq j k) [
        | inl e ↦
            (let same : u ≡ t = sym u_is ∙ (ap (λ i. get_or patches i u) e ∙ (get_or_default patches k u t k_in ∙ sym t_is)) in
            inr (subst (λ (x : Patch). Has x.rect p) same has))
        | inr ne ↦ inl ((before p).1 (j, u, ge, omega (arith, l, ne), u_is, has))
      ])),
    )

pub from-none : (patches : List Patch) (start : ℕ) (rects : List Rect) → rects ≡ [] → (p : Pt) → Covers rects p ↔ HoldFrom patches start start p
from-none patches start rects none p = (
  λ h. absurd (covers_none p (subst (λ (r : List Rect). Covers r p) none h)),
  λ (j, u, ge, l, u_is, has). absurd (omega (arith, ge, l)),
)

pub held-slabs : (patches : List Patch) (start end : ℕ) (rects slabs : List Rect) → ((p : Pt) → Covers rects p ↔ HoldFrom patches start end p)
    → AreSlabsOf (Covers rects) slabs → AreSlabsOf (HoldFrom patches start end) slabs
held-slabs patches start end rects slabs same s = record {
  canonical = s.canonical;
  covers = λ p. (λ x. (same p).0 ((s.covers p).0 x), λ x. (s.covers p).1 ((same p).1 x));
}
