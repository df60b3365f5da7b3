-- The zones of all parts, horizontal and vertical.
use Rattle.std.proofs.Common.{◌≡◌, ℕ, ◌<◌, ◌≤◌, ◌⊎◌, inl, inr, List, [], length, get_or, map, sym, refl, ap, ◌∙◌, subst, arith}
use Rattle.std.specs.Prelude.{◌↔◌}
use Rattle.std.specs.List.{All, AllPairs, Contains}
use Rattle.std.proofs.lemmas.List.{get_or_default, get_or-map, length-map}
use Rattle.dpl_spec_split.specs.declared.Spacing.{Spacing}
use Rattle.dpl_spec_split.specs.declared.Pt.{Pt}
use Rattle.dpl_spec_split.specs.declared.Rect.{Rect}
use Rattle.dpl_spec_split.specs.declared.Zone.{Zone}
use Rattle.dpl_spec_split.specs.Loops.{farthest}
use Rattle.dpl_spec_split.specs.Squares.{Covers, IsSolidWithin, SameSquares}
use Rattle.dpl_spec_split.specs.Zones.{IsHorizontalZone, at, part_at, transposed, transposed_rect}
use Rattle.dpl_slabs.specs.Parts.{AreApart, AreParts, union_of}
use Rattle.dpl_shade.specs.Rows.{AreWithin}
use Rattle.dpl_zone.specs.Layers.{IsPartZone, TouchesOwn, transposed_zone}
use Rattle.dpl_zone.specs.Owned.{transposed_parts}
use Rattle.dpl_zone.specs.Ways.{AreFlat, AreUpright}
use Rattle.dpl_zone.proofs.Keeping.{inside-within, upright-inside, zone-inside}
use Rattle.dpl_zone.proofs.TransposedLaws.{transposed-covers, within-slabs, zone-as}

-- a transposed part
turned-at : (parts : List (List Rect)) (k : ℕ) → k < length parts → get_or (transposed_parts parts) k [] ≡ map transposed_rect (get_or parts k [])
turned-at parts k k_in = get_or-map (map transposed_rect) parts k [] [] k_in

turned-part : (parts : List (List Rect)) (k : ℕ) → k < length parts → SameSquares (part_at (transposed_parts parts) k) (transposed (part_at parts k))
turned-part parts k k_in p =
    let is = turned-at parts k k_in in
    let same = transposed-covers (get_or parts k []) p in
    (λ a. same.0 (subst (λ (rs : List Rect). Covers rs p) is a), λ b. subst (λ (rs : List Rect). Covers rs p) (sym is) (same.1 b))

-- a part that has a square
some-part : (parts : List (List Rect)) (p : Pt) → union_of parts p ↔ ((k : ℕ) × (k < length parts) × part_at parts k p)
some-part parts p = (
  λ (k, part, k_in, is, covers). (k, k_in, subst (λ (rs : List Rect). Covers rs p) (sym is ∙ get_or_default parts k part [] k_in) covers),
  λ (k, k_in, covers). (k, get_or parts k [], k_in, get_or_default parts k (get_or parts k []) [] k_in, covers),
)

turned-union : (parts : List (List Rect)) (p : Pt) → union_of (transposed_parts parts) p ↔ union_of parts (at p.y p.x)
turned-union parts p = (
  λ a.
      (let (k, k_in, covers) = (some-part (transposed_parts parts) p).0 a in
      let l : k < length parts = omega (arith, k_in, length-map parts (map transposed_rect)) in
      (some-part parts (at p.y p.x)).1 (k, l, (turned-part parts k l p).0 covers)),
  λ b.
      (let (k, k_in, covers) = (some-part parts (at p.y p.x)).0 b in
      (some-part (transposed_parts parts) p).1 (k, omega (arith, k_in, length-map parts (map transposed_rect)), (turned-part parts k k_in p).1 covers)),
)

pub apart-turned : (parts : List (List Rect)) → AllPairs AreApart parts → AllPairs AreApart (transposed_parts parts)
apart-turned parts apart i j d l j_in p first second =
    let j_at : j < length parts = omega (arith, j_in, length-map parts (map transposed_rect)) in
    let i_at : i < length parts = omega (arith, l, j_at) in
    let first_is = get_or_default (transposed_parts parts) i d [] (omega (arith, l, j_in)) in
    let second_is = get_or_default (transposed_parts parts) j d [] j_in in
    apart i j [] l j_at (at p.y p.x)
    ((turned-part parts i i_at p).0 (subst (λ (rs : List Rect). Covers rs p) first_is first))
    ((turned-part parts j j_at p).0 (subst (λ (rs : List Rect). Covers rs p) second_is second))

in-turned : (found : List Zone) (z : Zone) → Contains (map transposed_zone found) z ↔ Contains found (transposed_zone z)
in-turned found z = (
  λ (k, l, is).
      (let k_in : k < length found = omega (arith, l, length-map found transposed_zone) in
      (k, k_in, get_or_default found k (transposed_zone z) z k_in ∙ ap transposed_zone (sym (get_or-map transposed_zone found k z z k_in) ∙ is))),
  λ (k, l, is). (k, omega (arith, l, length-map found transposed_zone), get_or-map transposed_zone found k (transposed_zone z) z l ∙ ap transposed_zone is),
)

-- the vertical zones of the transposed parts, transposed
pub flat-from : (spacing : Spacing) (overlap : ℕ) (parts : List (List Rect)) (found zones : List Zone) → AreUpright spacing overlap (transposed_parts parts) found → zones ≡ map transposed_zone found
    → AreFlat spacing overlap parts zones
flat-from spacing overlap parts found zones are is z =
    let size : length (transposed_parts parts) ≡ length parts = length-map parts (map transposed_rect) in
    let members = are (transposed_zone z) in
    let layer : SameSquares (transposed (union_of (transposed_parts parts))) (union_of parts) = λ p. turned-union parts (at p.y p.x) in
    let back : SameSquares (union_of parts) (transposed (union_of (transposed_parts parts))) = λ p. ((layer p).1, (layer p).0) in
    rw is (
      (λ c.
          (let (k_in, zone) = members.0 ((in-turned found z).0 c) in
          let l : z.feature < length parts = omega (arith, k_in, size) in (
            l,
            zone-as spacing overlap (transposed (union_of (transposed_parts parts))) (union_of parts) (transposed (part_at (transposed_parts parts) z.feature)) (part_at parts z.feature)
                layer (λ p. turned-part parts z.feature l (at p.y p.x)) z.rect zone,
          ))),
      (λ (l, zone). (in-turned found z).1 (members.1 (
        omega (arith, l, size),
        zone-as spacing overlap (union_of parts) (transposed (union_of (transposed_parts parts))) (part_at parts z.feature) (transposed (part_at (transposed_parts parts) z.feature))
            back (λ p. ((turned-part parts z.feature l (at p.y p.x)).1, (turned-part parts z.feature l (at p.y p.x)).0)) z.rect zone,
      ))),
    )

-- zones lie in the range of the layer
module _ (spacing : Spacing) (overlap : ℕ) (parts : List (List Rect)) (some : 1 ≤ overlap) (of : AreParts parts) where
  part-within : (k : ℕ) → k < length parts → AreWithin (get_or parts k [])
  part-within k k_in = within-slabs (get_or parts k []) (of.canonical k [] k_in) (of.within k [] k_in)

  pub flat-solid : (zones : List Zone) → AreFlat spacing overlap parts zones → All (λ z. IsSolidWithin farthest z.rect) zones
  flat-solid zones are i d l =
      let z : Zone = get_or zones i d in
      let (k_in, zone) = (are z).0 (i, l, get_or_default zones i z d l) in
      inside-within (get_or parts z.feature []) z.rect (part-within z.feature k_in) (zone-inside spacing overlap (union_of parts) (part_at parts z.feature) z.rect some zone)

  pub upright-solid : (zones : List Zone) → AreUpright spacing overlap parts zones → All (λ z. IsSolidWithin farthest z.rect) zones
  upright-solid zones are i d l =
      let z : Zone = get_or zones i d in
      let (k_in, zone) = (are z).0 (i, l, get_or_default zones i z d l) in
      inside-within (get_or parts z.feature []) z.rect (part-within z.feature k_in) (upright-inside spacing overlap (union_of parts) (part_at parts z.feature) z.rect some zone)

-- the horizontal zones, and the vertical ones that touch none of their feature
pub kept-all : (spacing : Spacing) (overlap : ℕ) (parts : List (List Rect)) (flat upright kept : List Zone) → AreFlat spacing overlap parts flat → AreUpright spacing overlap parts upright
    → ((z : Zone) → Contains kept z ↔ (Contains flat z ⊎ (Contains upright z × (TouchesOwn flat z → ⊥)))) → (z : Zone)
    → Contains kept z ↔ ((z.feature < length parts) × IsPartZone spacing overlap parts z)
kept-all spacing overlap parts flat upright kept is_flat is_upright are z = (
  λ c. elim ((are z).0 c) [
    | inl a ↦ (let (k_in, zone) = (is_flat z).0 a in (k_in, inl zone))
    | inr (b, free) ↦
        (let (k_in, zone) = (is_upright z).0 b in
        (k_in, inr (zone, λ h level touch. (let w : Zone = record { rect = h; feature = z.feature } in free (w, (is_flat w).1 (k_in, level), refl, touch)))))
  ],
  λ (k_in, kept_zone). elim kept_zone [
    | inl level ↦ (are z).1 (inl ((is_flat z).1 (k_in, level)))
    | inr (zone, free) ↦ (are z).1 (inr (
      (is_upright z).1 (k_in, zone),
      λ (w, c, e, touch). (let (w_in, level) = (is_flat w).0 c in
          free w.rect (subst (λ (k : ℕ). IsHorizontalZone spacing overlap (union_of parts) (part_at parts k) w.rect) e level) touch),
    ))
  ],
)
