-- Masks overlap at stitches alone.
use Rattle.std.proofs.Common.{◌≡◌, ℕ, ◌<◌, ◌⊎◌, inl, inr, Bool, true, false, List, length, map, get_or, sym, refl, ap, ◌∙◌, subst}
use Rattle.std.specs.Prelude.{Option, ◌↔◌}
use Rattle.std.specs.List.{Contains}
use Rattle.std.proofs.lemmas.List.{get_or_default, get_or-map, length-map}
use Rattle.dpl_spec_split.specs.declared.Spacing.{Spacing}
use Rattle.dpl_spec_split.specs.declared.Pt.{Pt}
use Rattle.dpl_spec_split.specs.declared.Zone.{Zone}
use Rattle.dpl_spec_split.specs.Squares.{Region, Covers, Has}
use Rattle.dpl_spec_split.specs.Colours.{differ, colour_at, on_mask}
use Rattle.dpl_spec_split.specs.Marks.{Marks, letters_by}
use Rattle.dpl_spec_split.specs.Decomposition.{Cut, IsCut, Masks}
use Rattle.dpl_law_split.specs.Letters.{AreLettered}
use Rattle.dpl_law_split.specs.Masks.{rect_at, rects_of}
use Rattle.dpl_law_split.proofs.Parts.{part-same, piece-rest, zone-same}
use Rattle.dpl_law_split.proofs.Cover.{as_many_sides}

-- the squares of a list of zones by number
covers-zone : (zones : List Zone) (ks : List ℕ) (p : Pt) (k : ℕ) → Contains ks k → Has (rect_at zones k) p → Covers (rects_of zones ks) p
covers-zone zones ks p k (n, l, is) has =
    let here : get_or (map (rect_at zones) ks) n (rect_at zones k) ≡ rect_at zones k = get_or-map (rect_at zones) ks n k (rect_at zones k) l ∙ ap (rect_at zones) is in
    (n, rect_at zones k, subst (λ t. n < t) (sym (length-map ks (rect_at zones))) l, here, has)

zone-covered : (zones : List Zone) (ks : List ℕ) (p : Pt) → Covers (rects_of zones ks) p → (k : ℕ) × Contains ks k × Has (rect_at zones k) p
zone-covered zones ks p (n, r, l, is, has) =
    let within : n < length ks = subst (λ t. n < t) (length-map ks (rect_at zones)) l in
    let k = get_or ks n 0 in
    let here : r ≡ rect_at zones k = sym is ∙ get_or-map (rect_at zones) ks n 0 r within in
    (k, (n, within, get_or_default ks n k 0 within), subst (λ s. Has s p) here has)

both-letters : (a b : Bool) → (a ≡ false) ⊎ (b ≡ false) → (a ≡ true) ⊎ (b ≡ true) → differ a b ≡ true
both-letters false false x (inl e) = e
both-letters false false x (inr e) = e
both-letters false true x y = refl
both-letters true false x y = refl
both-letters true true (inl e) y = sym e
both-letters true true (inr e) y = sym e

has-letters : (a b : Bool) → differ a b ≡ true → ((a ≡ false) ⊎ (b ≡ false)) × ((a ≡ true) ⊎ (b ≡ true))
has-letters false false e = (inl refl, inl e)
has-letters false true e = (inl refl, inr refl)
has-letters true false e = (inr refl, inl refl)
has-letters true true e = (inl (sym e), inl refl)

module _ (marks : Option Marks) (spacing : Spacing) (overlap : ℕ) (layer : Region) (c : Cut) (m : Masks) (cut : IsCut marks spacing overlap layer c) (masks : AreLettered marks c m) where
  abbrev masked : Bool → Region
  masked letter p = on_mask c.pieces c.zones c.sides (letters_by marks masks.colours) letter p

  stitched : (p : Pt) → on_mask c.pieces c.zones c.sides (letters_by marks masks.colours) false p → on_mask c.pieces c.zones c.sides
      (letters_by marks masks.colours) true p → Covers (rects_of c.zones m.stitches) p
  stitched p (inl (k, k_in, k_is, in_k)) (inl (l, l_in, l_is, in_l)) =
      let same : k ≡ l = part-same _ c.pieces k l p cut.pieces.components in_k in_l in
      let e : false ≡ true = sym k_is ∙ (ap (λ n. colour_at (letters_by marks masks.colours) n) same ∙ l_is) in cc
  stitched p (inl (k, k_in, k_is, in_k)) (inr (l, w, t, l_in, w_is, t_is, letter, has)) = absurd ((piece-rest marks spacing overlap layer c cut k p in_k).1 (l, w, l_in, w_is, has))
  stitched p (inr (k, z, s, k_in, z_is, s_is, letter, has)) (inl (l, l_in, l_is, in_l)) = absurd ((piece-rest marks spacing overlap layer c cut l p in_l).1 (k, z, k_in, z_is, has))
  stitched p (inr (k, z, s, k_in, z_is, s_is, of_a, has)) (inr (l, w, t, l_in, w_is, t_is, of_b, has_w)) =
      let same : l ≡ k = sym (zone-same marks spacing overlap layer c cut k l z w p k_in l_in z_is w_is has has_w) in
      let k_side : k < length c.sides = subst (λ n. k < n) (sym (as_many_sides marks spacing overlap layer c cut (letters_by marks masks.colours))) k_in in
      let t_at : get_or c.sides k t ≡ t = subst (λ n. get_or c.sides n t ≡ t) same t_is in
      let sides : t ≡ s = sym t_at ∙ (get_or_default c.sides k t s k_side ∙ s_is) in
      let both : differ (colour_at (letters_by marks masks.colours) s.0) (colour_at (letters_by marks masks.colours) s.1) ≡ true =
      both-letters (colour_at (letters_by marks masks.colours) s.0) (colour_at (letters_by marks masks.colours) s.1) of_a
      (subst (λ x. (colour_at (letters_by marks masks.colours) x.0 ≡ true) ⊎ (colour_at (letters_by marks masks.colours) x.1 ≡ true)) sides of_b) in
      let listed = (masks.stitches.exactly k).1 (s, k_side, s_is, both) in
      covers-zone c.zones m.stitches p k listed (subst (λ v. Has v.rect p) (sym z_is ∙ get_or_default c.zones k z _ k_in) has)

  unstitched : (p : Pt) → Covers (rects_of c.zones m.stitches) p → on_mask c.pieces c.zones c.sides (letters_by marks masks.colours) false p × on_mask
      c.pieces c.zones c.sides (letters_by marks masks.colours) true p
  unstitched p covered =
      let (k, listed, has) = zone-covered c.zones m.stitches p covered in
      let (s, k_side, s_is, both) = (masks.stitches.exactly k).0 listed in
      let k_in : k < length c.zones = subst (λ n. k < n) (as_many_sides marks spacing overlap layer c cut (letters_by marks masks.colours)) k_side in
      let (of_a, of_b) = has-letters (colour_at (letters_by marks masks.colours) s.0) (colour_at (letters_by marks masks.colours) s.1) both in
      (inr (k, _, s, k_in, get_or_default c.zones k _ _ k_in, s_is, of_a, has), inr (k, _, s, k_in, get_or_default c.zones k _ _ k_in, s_is, of_b, has))

  pub overlap-at : (p : Pt) → (Covers m.a p × Covers m.b p) ↔ Covers (rects_of c.zones m.stitches) p
  overlap-at p = (
    λ (a, b). stitched p ((masks.a.covers p).0 a) ((masks.b.covers p).0 b),
    λ h. let (a, b) = unstitched p h in ((masks.a.covers p).1 a, (masks.b.covers p).1 b),
  )
