-- Where nothing is broken, each property is kept.
use Rattle.std.proofs.Common.{◌≡◌, ◌≢◌, ℕ, ◌<◌, inl, inr, List, length, get_or, subst, arith}
use Rattle.std.proofs.lemmas.Bool.{cases_lt, cases_eq}
use Rattle.std.proofs.lemmas.List.{get_or_default}
use Rattle.dpl_spec_split.specs.declared.Spacing.{Spacing}
use Rattle.dpl_spec_split.specs.declared.Pt.{Pt}
use Rattle.dpl_spec_split.specs.declared.Rect.{Rect}
use Rattle.dpl_spec_split.specs.Squares.{Covers}
use Rattle.std.specs.Prelude.{Option}
use Rattle.dpl_spec_split.specs.Marks.{Marks}
use Rattle.dpl_spec_verdict.specs.declared.Verdict.TheVariants.{Valid}
use Rattle.dpl_spec_verdict.specs.Order.{HasBad, HasSquare, RulesDiffer, ShowsRules, ShowsCounts}
use Rattle.dpl_spec_verdict.specs.Masks.{Claim, CountDiffers, is_uncovered, is_doubled, is_misplaced, IsTight, IsBadStitch, IsBadPiece, ShowsCover}
use Rattle.dpl_spec_verdict.specs.Masks.{ShowsOverlap, ShowsSpacingA, ShowsSpacingB, ShowsMarked, ShowsStitch, ShowsPiece, VerdictFromCounts}
use Rattle.dpl_spec_verdict.specs.Masks.{VerdictFromCover, VerdictFromOverlap, VerdictFromSpacingA, VerdictFromSpacingB, VerdictFromMarked}
use Rattle.dpl_spec_verdict.specs.Masks.{VerdictFromStitches, VerdictFromPieces, VerdictFromGains, VerdictOfClaim}
use Rattle.dpl_law_verdict.proofs.Telling.{unbroken, covered_or_not}

-- no property of masks is broken
pub record IsKept (marks : Option Marks) (spacing : Spacing) (overlap : ℕ) (c : Claim) : Type 0 where
  pub rules : RulesDiffer spacing overlap c.head → ⊥
  pub counts : CountDiffers c.layer c.head → ⊥
  pub covered : HasSquare (is_uncovered c.layer c.a c.b) → ⊥
  pub doubled : HasSquare (is_doubled c.a c.b c.stitches) → ⊥
  pub tight_a : IsTight spacing c.layer c.a → ⊥
  pub tight_b : IsTight spacing c.layer c.b → ⊥
  pub marked : HasSquare (is_misplaced marks c.layer c.a c.b) → ⊥
  pub stitches : HasBad (IsBadStitch overlap c.a c.b c.pieces) c.stitches → ⊥
  pub pieces : HasBad (IsBadPiece c.a c.b) c.pieces → ⊥
  pub gained : VerdictFromGains marks spacing overlap c Valid

pub kept-valid : (marks : Option Marks) (spacing : Spacing) (overlap : ℕ) (c : Claim) → IsKept marks spacing overlap c → VerdictOfClaim marks spacing overlap c Valid
kept-valid marks spacing overlap c k =
    inr (k.rules, inr (k.counts, inr (k.covered, inr (k.doubled, inr (k.tight_a, inr (k.tight_b, inr (k.marked, inr (k.stitches, inr (k.pieces, k.gained)))))))))

pub valid-kept : (marks : Option Marks) (spacing : Spacing) (overlap : ℕ) (c : Claim) → VerdictOfClaim marks spacing overlap c Valid → IsKept marks spacing overlap c
valid-kept marks spacing overlap c valid =
    let one = unbroken (RulesDiffer spacing overlap c.head) (ShowsRules c.head c.gains) (VerdictFromCounts marks spacing overlap c) Valid (λ e. cc) valid in
    let two = unbroken (CountDiffers c.layer c.head) (ShowsCounts marks spacing overlap c.layer) (VerdictFromCover marks spacing overlap c) Valid (λ (f, p, z, are, e). cc) one.1 in
    let cover = unbroken (HasSquare (is_uncovered c.layer c.a c.b)) (ShowsCover c) (VerdictFromOverlap marks spacing overlap c) Valid (λ (p, least, e). cc) two.1 in
    let doubled = unbroken (HasSquare (is_doubled c.a c.b c.stitches)) (ShowsOverlap c) (VerdictFromSpacingA marks spacing overlap c) Valid (λ (p, least, e). cc) cover.1 in
    let on_a = unbroken (IsTight spacing c.layer c.a) (ShowsSpacingA spacing c) (VerdictFromSpacingB marks spacing overlap c) Valid (λ (p, q, least, e). cc) doubled.1 in
    let on_b = unbroken (IsTight spacing c.layer c.b) (ShowsSpacingB spacing c) (VerdictFromMarked marks spacing overlap c) Valid (λ (p, q, least, e). cc) on_a.1 in
    let marked = unbroken (HasSquare (is_misplaced marks c.layer c.a c.b)) (ShowsMarked marks c) (VerdictFromStitches marks spacing overlap c) Valid (λ (p, least, e). cc) on_b.1 in
    let stitches = unbroken (HasBad (IsBadStitch overlap c.a c.b c.pieces) c.stitches) (ShowsStitch overlap c) (VerdictFromPieces marks spacing overlap c) Valid (λ (k, bad, e). cc) marked.1 in
    let pieces = unbroken (HasBad (IsBadPiece c.a c.b) c.pieces) (ShowsPiece c) (VerdictFromGains marks spacing overlap c) Valid (λ (k, bad, e). cc) stitches.1 in
    record {
      rules = one.0;
      counts = two.0;
      covered = cover.0;
      doubled = doubled.0;
      tight_a = on_a.0;
      tight_b = on_b.0;
      marked = marked.0;
      stitches = stitches.0;
      pieces = pieces.0;
      gained = pieces.1;
    }

-- where no item is bad, each one isn't
pub none-bad : {X : Type 0} (bad : ℕ → X → Type 0) (xs : List X) → (HasBad bad xs → ⊥) → (k : ℕ) (d : X) → k < length xs → bad k (get_or xs k d) → ⊥
none-bad bad xs none k d k_in h = none (k, k_in, λ e. subst (λ x. bad k x) (get_or_default xs k d e k_in) h)

pub equal-where : (m n : ℕ) → ((m ≢ n) → ⊥) → m ≡ n
equal-where m n never = elim (cases_eq m n) [ inl e ↦ e | inr ne ↦ absurd (never ne) ]

pub less-where : (m n : ℕ) → ((m < n → ⊥) → ⊥) → m < n
less-where m n never = elim (cases_lt m n) [ inl l ↦ l | inr le ↦ absurd (never (λ l. omega (arith, l, le))) ]

pub covered-where : (rs : List Rect) (p : Pt) → ((Covers rs p → ⊥) → ⊥) → Covers rs p
covered-where rs p never = elim (covered_or_not rs p) [ inl there ↦ there | inr missing ↦ absurd (never missing) ]
