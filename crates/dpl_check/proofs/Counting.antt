-- The counts of a layer's cut.
use Rattle.std.proofs.Common.{◌≡◌, ℕ, ◌⊎◌, inl, inr, Bool, true, false, List, [], length, refl, sym, ap, ◌∙◌}
use Rattle.std.proofs.lemmas.Bool.{cases_eq}
use Rattle.dpl_spec_split.specs.declared.Spacing.{Spacing}
use Rattle.dpl_spec_split.specs.declared.Rect.{Rect}
use Rattle.dpl_spec_split.specs.Squares.{Covers}
use Rattle.dpl_spec_split.specs.Slabs.{AreSlabsOf}
use Rattle.dpl_spec_split.specs.Decomposition.{Cut, IsCut}
use Rattle.std.specs.Prelude.{Option}
use Rattle.dpl_spec_split.proofs.MarkLaws.{none-marked}
use Rattle.dpl_spec_split.specs.Marks.{asked, AreMarks, Marks}
use Rattle.dpl_spec_verdict.proofs.GainLaws.{one-cut}
use Rattle.dpl_cert.specs.declared.cert.Head.{Head}
use Rattle.dpl_spec_verdict.specs.Conflicts.{Claim, CountsDiffer, VerdictFromCounts}
use Rattle.dpl_spec_verdict.specs.declared.Verdict.{Verdict}
use Rattle.dpl_cut.specs.declared.LayerCut.{LayerCut}
use Rattle.dpl_piece.specs.View.{IsMarkedSet, cut_view}
use Rattle.dpl_check.specs.Cutting.{HasOtherCounts, VerdictOfConflictByCut}

-- the squares of two sets are marked
pub marked-united : (a b both : List Rect) (marks : Option Marks) → AreSlabsOf (λ p. Covers a p ⊎ Covers b p) both → AreMarks a b marks → IsMarkedSet both marks
marked-united a b both marks united are p = (
  λ h. elim ((united.covers p).0 h) [ inl in_a ↦ inl ((are.on_a p).0 in_a) | inr in_b ↦ inr ((are.on_b p).0 in_b) ],
  λ h. (united.covers p).1 (elim h [ inl on_a ↦ inl ((are.on_a p).1 on_a) | inr on_b ↦ inr ((are.on_b p).1 on_b) ]),
)

-- where marks are asked for, and where they aren't
pub asked-united : (flag : Bool) (a b both : List Rect) → flag ≡ true → AreSlabsOf (λ p. Covers a p ⊎ Covers b p) both → IsMarkedSet both (asked flag a b)
asked-united true a b both e united p = united.covers p
asked-united false a b both e united p = absurd (let no : ⊥ = cc in no)

pub asked-none : (flag : Bool) (a b set : List Rect) → flag ≡ false → set ≡ [] → IsMarkedSet set (asked flag a b)
asked-none false a b set e none = none-marked set none
asked-none true a b set e none = absurd (let no : ⊥ = cc in no)

module _ (marks : Option Marks) (spacing : Spacing) (overlap : ℕ) (layer : List Rect) (head : Head) (c : LayerCut) (features : List (List Rect))
    (many : length features ≡ c.features) (is : IsCut marks spacing overlap (Covers layer) (cut_view features c.pieces)) where
  pub counts-differ : HasOtherCounts head c → CountsDiffer marks spacing overlap layer head
  counts-differ (inl other) (d, d_is, f, p, z) = other
      (sym many ∙ (ap (λ (x : Cut). length x.features) (one-cut marks spacing overlap (Covers layer) (cut_view features c.pieces) d is d_is) ∙ sym f))
  counts-differ (inr (inl other)) (d, d_is, f, p, z) = other
      (ap (λ (x : Cut). length x.pieces) (one-cut marks spacing overlap (Covers layer) (cut_view features c.pieces) d is d_is) ∙ sym p)
  counts-differ (inr (inr other)) (d, d_is, f, p, z) = other (ap (λ (x : Cut). length x.zones) (one-cut marks spacing overlap (Covers layer) (cut_view features c.pieces) d is d_is) ∙ sym z)

  pub counts-kept : (HasOtherCounts head c → ⊥) → CountsDiffer marks spacing overlap layer head → ⊥
  counts-kept same differ = elim (cases_eq c.features head.features) [
    | inr other ↦ same (inl other)
    | inl f ↦ elim (cases_eq (length c.pieces.parts) head.pieces) [
      | inr other ↦ same (inr (inl other))
      | inl p ↦ elim (cases_eq (length c.pieces.zones) head.zones) [
        | inr other ↦ same (inr (inr other))
        | inl z ↦ differ (cut_view features c.pieces, is, sym (many ∙ f), sym p, sym z)
      ]
    ]
  ]

-- what is said by a cut of the layer is said of the layer
pub verdict-by-cut : (marks : Option Marks) (spacing : Spacing) (overlap : ℕ) (claim : Claim) (c : LayerCut) (features : List (List Rect))
    → length features ≡ c.features → IsCut marks spacing overlap (Covers claim.layer) (cut_view features c.pieces) → (v : Verdict)
    → VerdictOfConflictByCut marks spacing c claim v → VerdictFromCounts marks spacing overlap claim v
verdict-by-cut marks spacing overlap claim c features many is v (inl (other, shows)) = inl (
  counts-differ marks spacing overlap claim.layer claim.head c features many is other,
  (c.features, length c.pieces.parts, length c.pieces.zones, (cut_view features c.pieces, is, sym many, refl, refl), shows),
)
verdict-by-cut marks spacing overlap claim c features many is v (inr (same, told)) =
    inr (counts-kept marks spacing overlap claim.layer claim.head c features many is same, (cut_view features c.pieces, is, told features))
