-- The slabs of a layer, each by itself.
use Rattle.std.proofs.Common.{◌≡◌, ℕ, ◌<◌, inl, inr, List, [], ◌∷◌, length, get_or, subst, ◌∙◌, arith}
use Rattle.std.proofs.lemmas.Int.{ints}
use Rattle.std.proofs.lemmas.List.{get_or_default}
use Rattle.std.proofs.lemmas.List.Elements.{Contains-get_or}
use Rattle.dpl_spec_split.specs.declared.Pt.{Pt}
use Rattle.dpl_spec_split.specs.declared.Rect.{Rect}
use Rattle.dpl_spec_split.specs.Squares.{Has}
use Rattle.dpl_spec_split.specs.Slabs.{Follows, IsCanonical}
use Rattle.dpl_spec_split.specs.Loops.{farthest, AreRectsWithin, IsRectWithin}
use Rattle.dpl_spec_split.proofs.Ordered.{Contains-cases, Contains-nil}
use Rattle.dpl_slabs.specs.Parts.{AreParts}
use Rattle.dpl_feature.proofs.Dealing.{canonical-one}
use Rattle.dpl_wide.specs.Touching.{alone, no_slab, slab_at}
use Rattle.dpl_wide.proofs.Tiles.{alone-at, many-alone, one-has}

-- a slab has no square of a later one
follows-apart : (r s : Rect) (p : Pt) → Follows r s → Has r p → Has s p → ⊥
follows-apart r s p f in_r in_s =
    let a = in_r.left in
    let b = in_r.right in
    let c = in_r.low in
    let d = in_r.high in
    let e = in_s.left in
    let g = in_s.right in
    let h = in_s.low in
    let i = in_s.high in
    elim (f.apart (omega (arith, ints, c, i), omega (arith, ints, h, d))) [ inl l ↦ omega (arith, ints, l, b, e) | inr l ↦ omega (arith, ints, l, g, a) ]

module _ (slabs : List Rect) (canonical : IsCanonical slabs) where
  at-alone : (k : ℕ) (d : List Rect) → k < length (alone slabs) → get_or (alone slabs) k d ≡ slab_at slabs k ∷ []
  at-alone k d l = let many = many-alone slabs in get_or_default (alone slabs) k d [] l ∙ alone-at slabs k (omega (arith, l, many))

  -- they are disjoint sets within the range of a layer
  pub alone-parts : AreRectsWithin farthest slabs → AreParts (alone slabs)
  alone-parts within =
      let many = many-alone slabs in
      record {
        apart = λ i j d l j_in. rw (at-alone i d (omega (arith, l, j_in)), at-alone j d j_in) (λ p in_i in_j.
            follows-apart (slab_at slabs i) (slab_at slabs j) p (canonical.follow i j no_slab l (omega (arith, j_in, many)))
            ((one-has slabs (slab_at slabs i) p).0 in_i) ((one-has slabs (slab_at slabs j) p).0 in_j));
        canonical = λ k d l. rw (at-alone k d l) (canonical-one (slab_at slabs k) (canonical.solid k no_slab (omega (arith, l, many))));
        within = λ k d l. rw (at-alone k d l) (λ r c. elim (Contains-cases (slab_at slabs k) r [] c) [
          | inl same ↦ subst (λ (u : Rect). IsRectWithin farthest u) same (within (slab_at slabs k) (Contains-get_or slabs k no_slab (omega (arith, l, many))))
          | inr none ↦ absurd (Contains-nil r none)
        ]);
      }
