-- Zones without a marked square.
use Rattle.std.proofs.Common.{◌≡◌, ℕ, ◌+◌, ◌<◌, ◌≤◌, inl, inr, List, [], ◌∷◌, ◌++◌, length, get_or, sym, ap, ◌∙◌, subst, arith}
use Rattle.std.specs.Prelude.{◌↔◌}
use Rattle.std.specs.List.{AllPairs, Contains}
use Rattle.std.proofs.lemmas.Bool.{cases_eq}
use Rattle.std.proofs.lemmas.List.{get_or_default}
use Rattle.std.proofs.lemmas.List.Elements.{Contains-append_left, Contains-push, Contains-push_cases}
use Rattle.std.proofs.lemmas.List.Quantifiers.{all_pairs_push}
use Rattle.dpl_spec_split.specs.declared.Pt.{Pt}
use Rattle.dpl_spec_split.specs.declared.Rect.{Rect}
use Rattle.dpl_spec_split.specs.declared.Zone.{Zone}
use Rattle.dpl_spec_split.specs.Slabs.{Before}
use Rattle.dpl_spec_split.specs.Squares.{Region, Covers, Has}
use Rattle.dpl_spec_split.specs.Zones.{IsUnmarked}

-- an unmarked one of the first n zones
abbrev FirstUnmarked : Region → List Zone → ℕ → Zone → Type 0
FirstUnmarked marked zs n z = (i : ℕ) × (i < n) × (i < length zs) × (get_or zs i z ≡ z) × IsUnmarked marked z.rect

-- those of the first n zones that are unmarked, in their order
pub record AreUnmarked (marked : Region) (zones : List Zone) (n : ℕ) (kept : List Zone) : Type 0 where
  pub ordered : AllPairs (λ a b. Before a.rect b.rect) kept
  pub members : (z : Zone) → Contains kept z ↔ FirstUnmarked marked zones n z

pub unmarked-none : (marked : Region) (zones : List Zone) → AreUnmarked marked zones 0 []
unmarked-none marked zones =
    record {
      ordered = λ i j d l within. absurd (omega (arith, within));
      members = λ z. (λ (k, l, is). absurd (omega (arith, l)), λ (i, l, i_in, is, free). absurd (omega (arith, l)));
    }

pub unmarked-all : (marked : Region) (zones : List Zone) (n : ℕ) (kept : List Zone) → length zones ≤ n → AreUnmarked marked zones n kept
    → (z : Zone) → Contains kept z ↔ (Contains zones z × IsUnmarked marked z.rect)
unmarked-all marked zones n kept all h z = (
  λ a. (let (i, l, i_in, is, free) = (h.members z).0 a in ((i, i_in, is), free)),
  λ ((i, i_in, is), free). (h.members z).1 (i, omega (arith, all, i_in), i_in, is, free),
)

-- where nothing is marked all stay
pub unmarked-nowhere : (marked : List Rect) (zones : List Zone) → length marked ≡ 0 → (z : Zone) → Contains zones z ↔ (Contains zones z × IsUnmarked (Covers marked) z.rect)
unmarked-nowhere marked zones none z = (λ a. (a, λ p has (k, r, k_in, is, at). omega (arith, none, k_in)), λ (a, free). a)

module _ (marked : Region) (zones : List Zone) (order : AllPairs (λ a b. Before a.rect b.rect) zones) (i : ℕ) (s : Zone) (kept : List Zone)
    (i_in : i < length zones) (is : s ≡ get_or zones i s) (h : AreUnmarked marked zones i kept) where
  this : (k : ℕ) (z : Zone) → k ≡ i → get_or zones k z ≡ z → s ≡ z
  this k z e k_is = is ∙ (get_or_default zones i s z i_in ∙ (ap (λ n. get_or zones n z) (sym e) ∙ k_is))

  pub unmarked-dropped : (p : Pt) → Has s.rect p → marked p → AreUnmarked marked zones (i + 1) kept
  unmarked-dropped p has at =
      record {
        ordered = h.ordered;
        members = λ z. (
          λ a. (let (k, m, k_in, k_is, free) = (h.members z).0 a in (k, omega (arith, m), k_in, k_is, free)),
          λ (k, m, k_in, k_is, free). elim (cases_eq k i) [
            | inl e ↦ absurd (free p (subst (λ t. let u : Zone = t in Has u.rect p) (this k z e k_is) has) at)
            | inr ne ↦ (h.members z).1 (k, omega (arith, m, ne), k_in, k_is, free)
          ],
        );
      }

  before_new : (k : ℕ) (d : Zone) → k < length kept → Before (get_or kept k d).rect s.rect
  before_new k d l =
      let w : Zone = get_or kept k d in
      let (j, m, j_in, j_is, free) = (h.members w).0 (k, l, get_or_default kept k w d l) in
      let at_i : get_or zones i w ≡ s = get_or_default zones i w s i_in ∙ sym is in
      subst (λ t. let u : Zone = t in Before w.rect u.rect) at_i (subst (λ t. let u : Zone = t in Before u.rect (get_or zones i w).rect) j_is (order j i w m i_in))

  pub unmarked-more : IsUnmarked marked s.rect → AreUnmarked marked zones (i + 1) (kept ++ s ∷ [])
  unmarked-more free =
      record {
        ordered = all_pairs_push (λ a b. Before a.rect b.rect) kept s h.ordered before_new;
        members = λ z. (
          λ a. elim (Contains-push_cases kept s z a) [
            | inl b ↦ (let (k, m, k_in, k_is, own) = (h.members z).0 b in (k, omega (arith, m), k_in, k_is, own))
            | inr e ↦ (i, omega arith, i_in, get_or_default zones i z s i_in ∙ (sym is ∙ e), subst (λ t. let u : Zone = t in IsUnmarked marked u.rect) e free)
          ],
          λ (k, m, k_in, k_is, own). elim (cases_eq k i) [
            | inl e ↦ subst (λ t. Contains (kept ++ s ∷ []) t) (this k z e k_is) (Contains-push kept s)
            | inr ne ↦ Contains-append_left kept (s ∷ []) z ((h.members z).1 (k, omega (arith, m, ne), k_in, k_is, own))
          ],
        );
      }

pub dropped-at : (marked : Region) (zones : List Zone) → AllPairs (λ a b. Before a.rect b.rect) zones → (i : ℕ) (kept : List Zone) → i < length zones → AreUnmarked marked zones i kept
    → (d : Zone) (p : Pt) → Has (get_or zones i d).rect p → marked p → AreUnmarked marked zones (i + 1) kept
dropped-at marked zones order i kept i_in h d p has at =
    unmarked-dropped marked zones order i (get_or zones i d) kept i_in (get_or_default zones i d (get_or zones i d) i_in) h p has at
