-- There is one verdict.
use Rattle.std.proofs.Common.{◌≡◌, ℕ, inl, inr, sym, ap, ◌∙◌, subst, List, length, false}
use Rattle.std.specs.Prelude.{Option, None, pos}
use Rattle.dpl_spec_split.specs.declared.Spacing.{Spacing}
use Rattle.dpl_spec_split.specs.Zones.{at}
use Rattle.std.proofs.lemmas.Bool.{cases_order}
use Rattle.dpl_spec_split.specs.declared.Pt.{Pt}
use Rattle.dpl_spec_split.specs.declared.Rect.{Rect}
use Rattle.dpl_spec_split.specs.Squares.{Region, Covers, Precedes, IsLeast}
use Rattle.dpl_spec_split.specs.Decomposition.{Cut}
use Rattle.dpl_spec_split.proofs.SquareLaws.{Precedes-strict, IsLeast-unique, SameSquares-refl}
use Rattle.dpl_spec_split.specs.Marks.{Marks}
use Rattle.dpl_cert.specs.declared.cert.Head.{Head}
use Rattle.dpl_cert.specs.declared.cert.PieceLine.{PieceLine}
use Rattle.dpl_cert.specs.declared.cert.StitchLine.{StitchLine}
use Rattle.dpl_cert.specs.declared.cert.Gain.{Gain}
use Rattle.dpl_cert.specs.declared.cert.PlaceLine.{PlaceLine}
use Rattle.dpl_cert.specs.declared.cert.PlaceLine.TheVariants.{Piece as PieceAt}
use Rattle.dpl_cert.specs.declared.cert.Cert.{Cert}
use Rattle.dpl_cert.specs.declared.cert.Cert.TheVariants.{Masks, Conflict, Fault}
use Rattle.dpl_spec_verdict.specs.declared.Verdict.{Verdict}
use Rattle.dpl_spec_verdict.specs.declared.Verdict.TheVariants.{Counts, Cover, Overlap, SpacingA, SpacingB, Marked, Stitch, Piece, Cycle}
use Rattle.dpl_spec_verdict.proofs.GainLaws.{first-unique, one-cut, gains-unique}
use Rattle.dpl_spec_verdict.specs.Order.{IsValid, HasSquare, HasBad, IsFirstBad, IsLeastPair, RulesDiffer, ShowsRules, ShowsCounts}
use Rattle.dpl_spec_verdict.specs.Gains.{letters}
use Rattle.dpl_spec_verdict.specs.Masks.{Claim, IsBadPiece, IsBadStitch, is_doubled, is_misplaced, is_uncovered, AreTooClose, IsTight, CountDiffers}
use Rattle.dpl_spec_verdict.specs.Masks.{ShowsCover, ShowsOverlap, ShowsSpacingA, ShowsSpacingB, ShowsMarked, ShowsStitch, ShowsPiece, VerdictFromCounts}
use Rattle.dpl_spec_verdict.specs.Masks.{VerdictFromCover, VerdictFromOverlap, VerdictFromSpacingA, VerdictFromSpacingB, VerdictFromMarked}
use Rattle.dpl_spec_verdict.specs.Masks.{VerdictFromStitches, VerdictFromPieces, VerdictFromGains, VerdictOfClaim, IsVerdictOfMasks}
use Rattle.dpl_spec_verdict.specs.Conflicts.{IsBadPlace, CountsDiffer, ShowsCycle, VerdictOfCycle, VerdictFromCycle, IsVerdictOfConflict}
use Rattle.dpl_spec_verdict.specs.Conflicts.{Claim as CycleClaim, VerdictOfClaim as CycleVerdict, VerdictFromCounts as CycleVerdictFromCounts}

no_piece : PieceLine
no_piece = record { b = false; key = at (pos 0) (pos 0) }

no_stitch : StitchLine
no_stitch = record { rect = record { x0 = pos 0; y0 = pos 0; x1 = pos 0; y1 = pos 0 }; p = 0; q = 0 }

no_place : PlaceLine
no_place = PieceAt 0 (at (pos 0) (pos 0))

-- two verdicts that show the same thing
same-shown : {X : Type 0} (make : X → Verdict) (v w : Verdict) (x y : X) → x ≡ y → v ≡ make x → w ≡ make y → v ≡ w
same-shown make v w x y e f g = f ∙ (ap make e ∙ sym g)

first-bad-unique : {X : Type 0} (bad : ℕ → X → Type 0) (xs : List X) (d : X) (j k : ℕ) → IsFirstBad bad xs j → IsFirstBad bad xs k → j ≡ k
first-bad-unique bad xs d j k f g = elim (cases_order j k) [
  | inl e ↦ e
  | inr (inl l) ↦ absurd (g.first j d l (f.is d))
  | inr (inr l) ↦ absurd (f.first k d l (g.is d))
]

not-before : (p q : Pt) → p ≡ q → Precedes p q → ⊥
not-before p q e before = let itself : Precedes q q = subst (λ r. Precedes r q) e before in Precedes-strict q q itself itself

pair-unique : (related : Pt → Pt → Type 0) (p q r s : Pt) → IsLeastPair related p q → IsLeastPair related r s → (p ≡ r) × (q ≡ s)
pair-unique related p q r s h k = elim (h.least r s k.are) [
  | inl before ↦ elim (k.least p q h.are) [
    | inl after ↦ absurd (Precedes-strict p r before after)
    | inr (e, upto) ↦ absurd (not-before p r (sym e) before)
  ]
  | inr (e, inl f) ↦ (e, f)
  | inr (e, inr before) ↦ elim (k.least p q h.are) [
    | inl after ↦ absurd (not-before r p (sym e) after)
    | inr (g, inl f) ↦ (e, sym f)
    | inr (g, inr after) ↦ absurd (Precedes-strict q s before after)
  ]
]

least-shown : (a : Region) (make : Pt → Verdict) (v w : Verdict) → (p : Pt) × IsLeast a p × (v ≡ make p) → (q : Pt) × IsLeast a q × (w ≡ make q) → v ≡ w
least-shown a make v w (p, p_least, e) (q, q_least, f) = same-shown make v w p q (IsLeast-unique a a p q (SameSquares-refl a) p_least q_least) e f

bad-shown : {X : Type 0} (bad : ℕ → X → Type 0) (xs : List X) (d : X) (make : ℕ → Verdict) (v w : Verdict)
    → (j : ℕ) × IsFirstBad bad xs j × (v ≡ make j) → (k : ℕ) × IsFirstBad bad xs k × (w ≡ make k) → v ≡ w
bad-shown bad xs d make v w (j, j_bad, e) (k, k_bad, f) = same-shown make v w j k (first-bad-unique bad xs d j k j_bad k_bad) e f

pair-shown : (related : Pt → Pt → Type 0) (make : Pt → Pt → Verdict) (v w : Verdict)
    → (p q : Pt) × IsLeastPair related p q × (v ≡ make p q) → (r s : Pt) × IsLeastPair related r s × (w ≡ make r s) → v ≡ w
pair-shown related make v w (p, q, one, e) (r, s, other, f) =
    let same = pair-unique related p q r s one other in
    e ∙ (ap (λ x. make x q) same.0 ∙ (ap (λ y. make r y) same.1 ∙ sym f))

counts-shown : (marks : Option Marks) (spacing : Spacing) (overlap : ℕ) (layer : List Rect) (v w : Verdict) → ShowsCounts marks spacing overlap layer v →
    ShowsCounts marks spacing overlap layer w → v ≡ w
counts-shown marks spacing overlap layer v w (f, p, z, (c, c_is, cf, cp, cz), e) (g, q, y, (d, d_is, df, dp, dz), h) =
    let same : c ≡ d = one-cut marks spacing overlap (Covers layer) c d c_is d_is in
    let ff : f ≡ g = cf ∙ (ap (λ (x : Cut). length x.features) same ∙ sym df) in
    let pp : p ≡ q = cp ∙ (ap (λ (x : Cut). length x.pieces) same ∙ sym dp) in
    let zz : z ≡ y = cz ∙ (ap (λ (x : Cut). length x.zones) same ∙ sym dz) in
    e ∙ (ap (λ x. Counts x p z) ff ∙ (ap (λ x. Counts g x z) pp ∙ (ap (λ x. Counts g q x) zz ∙ sym h)))

rules-shown : (head : Head) (gains : Option (List Gain)) (v w : Verdict) → ShowsRules head gains v → ShowsRules head gains w → v ≡ w
rules-shown head gains v w e f = e ∙ sym f

valid-shown : (v w : Verdict) → IsValid v → IsValid w → v ≡ w
valid-shown v w e f = e ∙ sym f

claim-unique : (marks : Option Marks) (spacing : Spacing) (overlap : ℕ) (c : Claim) (v w : Verdict) → VerdictOfClaim marks spacing overlap c v → VerdictOfClaim marks spacing overlap c w → v ≡ w
claim-unique marks spacing overlap c v w =
    first-unique (RulesDiffer spacing overlap c.head) (ShowsRules c.head c.gains) (VerdictFromCounts marks spacing overlap c) v w (rules-shown c.head c.gains v w)
    (first-unique (CountDiffers c.layer c.head) (ShowsCounts marks spacing overlap c.layer) (VerdictFromCover marks spacing overlap c) v w
    (counts-shown marks spacing overlap c.layer v w)
    (first-unique (HasSquare (is_uncovered c.layer c.a c.b)) (ShowsCover c) (VerdictFromOverlap marks spacing overlap c) v w
    (least-shown (is_uncovered c.layer c.a c.b) Cover v w)
    (first-unique (HasSquare (is_doubled c.a c.b c.stitches)) (ShowsOverlap c) (VerdictFromSpacingA marks spacing overlap c) v w
    (least-shown (is_doubled c.a c.b c.stitches) Overlap v w)
    (first-unique (IsTight spacing c.layer c.a) (ShowsSpacingA spacing c) (VerdictFromSpacingB marks spacing overlap c) v w
    (pair-shown (AreTooClose spacing (Covers c.layer) (Covers c.a)) SpacingA v w)
    (first-unique (IsTight spacing c.layer c.b) (ShowsSpacingB spacing c) (VerdictFromMarked marks spacing overlap c) v w
    (pair-shown (AreTooClose spacing (Covers c.layer) (Covers c.b)) SpacingB v w)
    (first-unique (HasSquare (is_misplaced marks c.layer c.a c.b)) (ShowsMarked marks c) (VerdictFromStitches marks spacing overlap c) v w
    (least-shown (is_misplaced marks c.layer c.a c.b) Marked v w)
    (first-unique (HasBad (IsBadStitch overlap c.a c.b c.pieces) c.stitches) (ShowsStitch overlap c) (VerdictFromPieces marks spacing overlap c) v w
    (bad-shown (IsBadStitch overlap c.a c.b c.pieces) c.stitches no_stitch Stitch v w)
    (first-unique (HasBad (IsBadPiece c.a c.b) c.pieces) (ShowsPiece c) (VerdictFromGains marks spacing overlap c) v w
    (bad-shown (IsBadPiece c.a c.b) c.pieces no_piece Piece v w)
    (gains-unique marks spacing overlap c.layer c.head (letters c.pieces) c.gains v w)))))))))

pub masks-unique : (marks : Option Marks) (spacing : Spacing) (overlap : ℕ) (layer a b : List Rect) (cert : Cert) (v w : Verdict)
    → IsVerdictOfMasks marks spacing overlap layer a b cert v → IsVerdictOfMasks marks spacing overlap layer a b cert w → v ≡ w
masks-unique marks spacing overlap layer a b (Masks h ps ss gs) v w e f = claim-unique marks spacing overlap
    (record { layer = layer; a = a; b = b; head = h; pieces = ps; stitches = ss; gains = gs }) v w e f
masks-unique marks spacing overlap layer a b (Conflict h cs ns) v w e f = absurd e
masks-unique marks spacing overlap layer a b (Fault name at) v w e f = absurd e

-- by the one cut
cycle-unique : (marks : Option Marks) (spacing : Spacing) (overlap : ℕ) (c : CycleClaim) (v w : Verdict) → VerdictFromCycle marks spacing overlap c v →
    VerdictFromCycle marks spacing overlap c w → v ≡ w
cycle-unique marks spacing overlap c v w (k, k_is, e) (l, l_is, f) =
    let same : k ≡ l = one-cut marks spacing overlap (Covers c.layer) k l k_is l_is in
    let g : VerdictOfCycle marks spacing k c w = subst (λ (x : Cut). VerdictOfCycle marks spacing x c w) (sym same) f in
    first-unique (HasBad (IsBadPlace marks spacing k c.cycle c.near) c.cycle) (ShowsCycle marks spacing k c) IsValid v w
    (bad-shown (IsBadPlace marks spacing k c.cycle c.near) c.cycle no_place Cycle v w) (valid-shown v w) e g

conflict-claim-unique : (marks : Option Marks) (spacing : Spacing) (overlap : ℕ) (c : CycleClaim) (v w : Verdict) → CycleVerdict marks spacing overlap c v →
    CycleVerdict marks spacing overlap c w → v ≡ w
conflict-claim-unique marks spacing overlap c v w =
    first-unique (RulesDiffer spacing overlap c.head) (ShowsRules c.head None) (CycleVerdictFromCounts marks spacing overlap c) v w (rules-shown c.head None v w)
    (first-unique (CountsDiffer marks spacing overlap c.layer c.head) (ShowsCounts marks spacing overlap c.layer) (VerdictFromCycle marks spacing overlap c) v w
    (counts-shown marks spacing overlap c.layer v w) (cycle-unique marks spacing overlap c v w))

pub conflict-unique : (marks : Option Marks) (spacing : Spacing) (overlap : ℕ) (layer : List Rect) (cert : Cert) (v w : Verdict) → IsVerdictOfConflict marks spacing overlap layer cert v
    → IsVerdictOfConflict marks spacing overlap layer cert w → v ≡ w
conflict-unique marks spacing overlap layer (Masks h ps ss gs) v w e f = absurd e
conflict-unique marks spacing overlap layer (Conflict h cs ns) v w e f = conflict-claim-unique marks spacing overlap (record { layer = layer; head = h; cycle = cs; near = ns }) v w e f
conflict-unique marks spacing overlap layer (Fault name at) v w e f = absurd e
