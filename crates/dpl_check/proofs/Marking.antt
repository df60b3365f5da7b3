-- Marked squares that aren't on their mask alone, by slabs.
use Rattle.std.proofs.Common.{◌≡◌, ◌⊎◌, inl, inr, List, [], ◌∷◌, length, arith}
use Rattle.std.specs.Prelude.{Option}
use Rattle.dpl_spec_split.specs.declared.Pt.{Pt}
use Rattle.dpl_spec_split.specs.declared.Rect.{Rect}
use Rattle.dpl_spec_split.specs.Squares.{Covers}
use Rattle.dpl_spec_split.specs.Slabs.{AreSlabsOf}
use Rattle.dpl_spec_split.specs.Marks.{Marks, AreMarks}
use Rattle.dpl_spec_split.proofs.Ordered.{Contains-nil}
use Rattle.dpl_spec_split.proofs.SlabLaws.{member-Covers}
use Rattle.dpl_spec_verdict.specs.Masks.{is_alone, is_misplaced}
use Rattle.dpl_check.specs.Findings.{is_off}

-- where nothing is marked nothing is off
pub none-off : (layer mask other marked : List Rect) → length marked ≡ 0 → AreSlabsOf (is_off layer mask other marked) []
none-off layer mask other [] none = record {
  canonical = record { solid = λ i d k. absurd (omega (arith, k)); follow = λ i j d l k. absurd (omega (arith, k)) };
  covers = λ p. (λ h. absurd (nothing p h), λ (in_layer, at, off). absurd (nothing p at));
}
  where
    nothing : (p : Pt) → Covers [] p → ⊥
    nothing p c = let found = member-Covers [] p c in Contains-nil found.0 found.1
none-off layer mask other (r ∷ marked) none = absurd (omega (arith, none))

pub squares-are : (layer mask other marked fixed alone off : List Rect) → AreSlabsOf (λ p. Covers layer p × Covers marked p) fixed → AreSlabsOf (is_alone mask other) alone
    → AreSlabsOf (λ p. Covers fixed p × ¬ Covers alone p) off → AreSlabsOf (is_off layer mask other marked) off
squares-are layer mask other marked fixed alone off f l o = record {
  canonical = o.canonical;
  covers = λ p. (
    λ h. (let (in_fixed, none) = (o.covers p).0 h in let (in_layer, at) = (f.covers p).0 in_fixed in (in_layer, at, λ is. none ((l.covers p).1 is))),
    λ (in_layer, at, none). (o.covers p).1 ((f.covers p).1 (in_layer, at), λ is. none ((l.covers p).0 is)),
  );
}

pub misplaced-are : (marks : Option Marks) (layer a b mark_a mark_b first second all : List Rect) → AreMarks mark_a mark_b marks
    → AreSlabsOf (is_off layer a b mark_a) first → AreSlabsOf (is_off layer b a mark_b) second → AreSlabsOf (λ p. Covers first p ⊎ Covers second p) all
    → AreSlabsOf (is_misplaced marks layer a b) all
misplaced-are marks layer a b mark_a mark_b first second all are f s u = record {
  canonical = u.canonical;
  covers = λ p. (
    λ h. elim ((u.covers p).0 h) [
      | inl one ↦ (let (in_layer, at, none) = (f.covers p).0 one in (in_layer, inl ((are.on_a p).0 at, none)))
      | inr one ↦ (let (in_layer, at, none) = (s.covers p).0 one in (in_layer, inr ((are.on_b p).0 at, none)))
    ],
    λ (in_layer, which). (u.covers p).1 (elim which [
      | inl (at, none) ↦ inl ((f.covers p).1 (in_layer, (are.on_a p).1 at, none))
      | inr (at, none) ↦ inr ((s.covers p).1 (in_layer, (are.on_b p).1 at, none))
    ]),
  );
}
