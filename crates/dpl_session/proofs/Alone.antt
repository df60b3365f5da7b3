-- Slabs that are sets of their own.
use Rattle.std.proofs.Common.{◌≡◌, ◌∙◌, ◌+◌, ◌<◌, ◌≤◌, ℕ, zero, suc, inl, inr, List, [], ◌∷◌, ◌++◌, length, take, get_or, subst, sym, refl, ap, arith}
use Rattle.std.specs.Prelude.{pos}
use Rattle.std.specs.List.{Contains}
use Rattle.std.proofs.lemmas.Int.{ints}
use Rattle.std.proofs.lemmas.List.{get_or-map, length-map, get_or_default, map_more, take_all}
use Rattle.std.proofs.lemmas.List.Elements.{Contains-get_or}
use Rattle.dpl_spec_split.specs.declared.Pt.{Pt}
use Rattle.dpl_spec_split.specs.declared.Rect.{Rect}
use Rattle.dpl_spec_split.specs.Squares.{Covers, Has}
use Rattle.dpl_spec_split.specs.Slabs.{Follows, IsCanonical, IsSolid}
use Rattle.dpl_spec_split.specs.Zones.{part_at}
use Rattle.dpl_spec_split.specs.Loops.{farthest, AreRectsWithin}
use Rattle.dpl_slabs.specs.Parts.{AreParts}
use Rattle.dpl_session.specs.Windows.{each_alone, slab_at}

abbrev pub alone : Rect → List Rect
alone r = r ∷ []

pub zero_rect : Rect
zero_rect = record { x0 = pos 0; y0 = pos 0; x1 = pos 0; y1 = pos 0 }

pub alone_only : (r : Rect) (p : Pt) → Covers (alone r) p → Has r p
alone_only r p (zero, s, l, is, has) = subst (λ t. Has t p) (sym is) has
alone_only r p (suc k, s, l, is, has) = absurd (omega (arith, l))

pub only_alone : (r : Rect) (p : Pt) → Has r p → Covers (alone r) p
only_alone r p has = (0, r, omega arith, refl, has)

-- the squares of a slab alone
pub alone_has : (rs : List Rect) (i : ℕ) (p : Pt) → part_at (each_alone rs) i p → i < length rs → slab_at rs i p
alone_has rs i p has i_in =
    let here : Covers (alone (get_or rs i zero_rect)) p = subst (λ s. Covers s p) (get_or-map alone rs i zero_rect [] i_in) has in
    (get_or rs i zero_rect, i_in, get_or_default rs i (get_or rs i zero_rect) zero_rect i_in, alone_only _ p here)

pub has_alone : (rs : List Rect) (i : ℕ) (p : Pt) → slab_at rs i p → part_at (each_alone rs) i p
has_alone rs i p (r, i_in, is, has) = subst (λ s. Covers s p) (sym (get_or-map alone rs i r [] i_in)) (0, r, omega arith, is, has)

-- two slabs have no square in common
slabs_apart : (r s : Rect) (p : Pt) → Follows r s → Has r p → Has s p → ⊥
slabs_apart r s p f a b =
    let a0 = a.left in
    let a1 = a.right in
    let a2 = a.low in
    let a3 = a.high in
    let b0 = b.left in
    let b1 = b.right in
    let b2 = b.low in
    let b3 = b.high in
    elim (f.apart (omega (arith, ints, a2, a3, b2, b3), omega (arith, ints, a2, a3, b2, b3))) [
      | inl l ↦ omega (arith, ints, l, a1, b0)
      | inr l ↦ omega (arith, ints, l, a0, b1)
    ]

alone_canonical : (r : Rect) → IsSolid r → IsCanonical (alone r)
alone_canonical r solid = record {
  solid = λ k d l. (let z : k ≡ 0 = omega (arith, l) in subst (λ m. IsSolid (get_or (alone r) m d)) (sym z) solid);
  follow = λ i j d l j_in. absurd (omega (arith, l, j_in));
}

-- one set is a list of parts
pub one_part : (rs : List Rect) → IsCanonical rs → AreRectsWithin farthest rs → AreParts (rs ∷ [])
one_part rs canonical within = record {
  apart = λ i j d l j_in. absurd (omega (arith, l, j_in));
  canonical = λ k d l. (let z : k ≡ 0 = omega (arith, l) in subst (λ m. IsCanonical (get_or (rs ∷ []) m d)) (sym z) canonical);
  within = λ k d l. (let z : k ≡ 0 = omega (arith, l) in subst (λ m. AreRectsWithin farthest (get_or (rs ∷ []) m d)) (sym z) within);
}

pub alone_parts : (rs : List Rect) → IsCanonical rs → AreRectsWithin farthest rs → AreParts (each_alone rs)
alone_parts rs canonical within =
    let many : length (each_alone rs) ≡ length rs = length-map rs alone in
    record {
      apart = λ i j d l j_in p in_i in_j. (
          let j_there : j < length rs = omega (arith, j_in, many) in
          let i_there : i < length rs = omega (arith, l, j_there) in
          let a : Covers (alone (get_or rs i zero_rect)) p = subst (λ s. Covers s p) (get_or-map alone rs i zero_rect d i_there) in_i in
          let b : Covers (alone (get_or rs j zero_rect)) p = subst (λ s. Covers s p) (get_or-map alone rs j zero_rect d j_there) in_j in
          slabs_apart (get_or rs i zero_rect) (get_or rs j zero_rect) p (canonical.follow i j zero_rect l j_there) (alone_only _ p a) (alone_only _ p b));
      canonical = λ k d k_in. (
          let there : k < length rs = omega (arith, k_in, many) in
          subst IsCanonical (sym (get_or-map alone rs k zero_rect d there)) (alone_canonical (get_or rs k zero_rect) (canonical.solid k zero_rect there)));
      within = λ k d k_in. (
          let there : k < length rs = omega (arith, k_in, many) in
          subst (AreRectsWithin farthest) (sym (get_or-map alone rs k zero_rect d there)) (λ r (m, m_in, is). (
          let z : m ≡ 0 = omega (arith, m_in) in
          let same : get_or rs k zero_rect ≡ r = subst (λ n. get_or (alone (get_or rs k zero_rect)) n r ≡ r) z is in
          within r (subst (Contains rs) same (Contains-get_or rs k zero_rect there)))));
    }

-- one slab more
pub alone_more : (rs : List Rect) (i : ℕ) (r : Rect) (sets more : List (List Rect)) (one : List Rect) → i < length rs → r ≡ get_or rs i r → one ≡ r ∷ []
    → sets ≡ each_alone (take i rs) → more ≡ sets ++ one ∷ []
    → more ≡ each_alone (take (i + 1) rs)
alone_more rs i r sets more one i_in is one_is before pushed =
    let next : each_alone (take (i + 1) rs) ≡ each_alone (take i rs) ++ alone (get_or rs i r) ∷ [] = map_more alone rs i r i_in in
    pushed ∙ (ap (λ s. s ++ one ∷ []) before ∙ (ap (λ o. each_alone (take i rs) ++ o ∷ []) (one_is ∙ ap alone is) ∙ sym next))

pub alone_next : (rs : List Rect) (i : ℕ) (d : Rect) (sets more : List (List Rect)) (one : List Rect) → i < length rs → one ≡ get_or rs i d ∷ []
    → sets ≡ each_alone (take i rs) → more ≡ sets ++ one ∷ []
    → more ≡ each_alone (take (i + 1) rs)
alone_next rs i d sets more one i_in is before pushed = alone_more rs i (get_or rs i d) sets more one i_in (get_or_default rs i d (get_or rs i d) i_in) is before pushed

pub alone_all : (rs : List Rect) (i : ℕ) (sets : List (List Rect)) → length rs ≤ i → sets ≡ each_alone (take i rs) → sets ≡ each_alone rs
alone_all rs i sets over is = is ∙ ap each_alone (take_all i rs over)
