-- There is one verdict of gains.
use Rattle.std.proofs.Common.{◌≡◌, ℕ, ◌<◌, Option, Some, None, Bool, List, length, get_or, inl, inr, sym, ap, ◌∙◌, subst, arith}
use Rattle.std.proofs.lemmas.Grind.{same_number_lists}
use Rattle.std.proofs.lemmas.Bool.{cases_order}
use Rattle.dpl_spec_split.specs.declared.Spacing.{Spacing}
use Rattle.dpl_spec_split.specs.declared.Rect.{Rect}
use Rattle.dpl_spec_split.specs.Squares.{Region, Covers}
use Rattle.dpl_spec_split.specs.Marks.{Marks, marked_by}
use Rattle.dpl_spec_split.specs.Pieces.{Conflict}
use Rattle.dpl_spec_split.specs.Decomposition.{Cut, IsCut}
use Rattle.dpl_spec_split.proofs.GraphLaws.{root-unique}
use Rattle.dpl_spec_split.proofs.Ordered.{same_members}
use Rattle.dpl_spec_split.proofs.SideLaws.{sides-unique, some_zones}
use Rattle.dpl_spec_split.proofs.WholeLaws.{cut-unique}
use Rattle.dpl_cert.specs.declared.cert.Head.{Head}
use Rattle.dpl_cert.specs.declared.cert.Gain.{Gain}
use Rattle.dpl_spec_verdict.specs.declared.Verdict.{Verdict}
use Rattle.dpl_spec_verdict.specs.declared.Verdict.TheVariants.{Gain as GainAt}
use Rattle.dpl_spec_verdict.specs.Order.{FirstOf, IsValid}
use Rattle.dpl_spec_verdict.specs.Gains.{IsGainOf, AreRootsOf, AreGainsOf, IsFirstBadGain, HasBadGain, ShowsGain, HasOtherPieces, ShowsOtherPieces, VerdictOfLines, VerdictOfGains}

pub first-unique : (broken : Type 0) (shows rest : Verdict → Type 0) (v w : Verdict) → (shows v → shows w → v ≡ w) → (rest v → rest w → v ≡ w)
    → FirstOf broken shows rest v → FirstOf broken shows rest w → v ≡ w
first-unique broken shows rest v w one other (inl (b, s)) (inl (d, t)) = one s t
first-unique broken shows rest v w one other (inl (b, s)) (inr (n, r)) = absurd (n b)
first-unique broken shows rest v w one other (inr (n, r)) (inl (d, t)) = absurd (n d)
first-unique broken shows rest v w one other (inr (n, r)) (inr (m, q)) = other r q

-- a layer has one cut
pub one-cut : (marks : Option Marks) (spacing : Spacing) (overlap : ℕ) (layer : Region) (c d : Cut) → IsCut marks spacing overlap layer c
    → IsCut marks spacing overlap layer d → c ≡ d
one-cut marks spacing overlap layer c d a b =
    cut-unique marks spacing overlap layer c d (sides-unique spacing overlap layer c.features c.pieces c.zones a.features
    (some_zones spacing overlap layer c.features (marked_by marks) c.zones a.zones) a.pieces.components) a b

-- pieces have one list of roots
pub roots-same : (spacing : Spacing) (pieces : List (List Rect)) (owners r s : List ℕ) → AreRootsOf spacing pieces owners r
    → AreRootsOf spacing pieces owners s → r ≡ s
roots-same spacing pieces owners r s a b =
    same_number_lists r s (a.each ∙ sym b.each)
    (λ k lt.
    let within : k < length pieces = omega (arith, a.each) in
    root-unique (Conflict spacing pieces owners) k (get_or r k 0) (get_or s k 0) (a.rooted k within) (b.rooted k within))

rising-strict : (g h : Gain) → g.piece < h.piece → h.piece < g.piece → ⊥
rising-strict g h a b = omega arith

-- the components of a cut have one list of gains
pub gains-same : (marks : Option Marks) (spacing : Spacing) (cut : Cut) (colours : List Bool) (xs ys : List Gain) → AreGainsOf marks spacing cut colours xs
    → AreGainsOf marks spacing cut colours ys → xs ≡ ys
gains-same marks spacing cut colours xs ys a b =
    let same = roots-same spacing cut.pieces cut.owners a.roots b.roots a.are_roots b.are_roots in
    same_members (λ (g h : Gain). g.piece < h.piece) rising-strict xs ys a.ordered b.ordered
    (λ g. (
      (λ h. (b.exactly g).1 (subst (λ (r : List ℕ). IsGainOf marks cut.pieces cut.sides r colours g) same ((a.exactly g).0 h))),
      (λ h. (a.exactly g).1 (subst (λ (r : List ℕ). IsGainOf marks cut.pieces cut.sides r colours g) (sym same) ((b.exactly g).0 h))),
    ))

first-same : (found lines : List Gain) (j k : ℕ) → IsFirstBadGain found lines j → IsFirstBadGain found lines k → j ≡ k
first-same found lines j k f g = elim (cases_order j k) [
  | inl e ↦ e
  | inr (inl l) ↦ absurd (g.first j l f.is)
  | inr (inr l) ↦ absurd (f.first k l g.is)
]

gain-shown : (found lines : List Gain) (v w : Verdict) → ShowsGain found lines v → ShowsGain found lines w → v ≡ w
gain-shown found lines v w (j, j_is, e) (k, k_is, f) = e ∙ (ap (λ (n : ℕ). GainAt n) (first-same found lines j k j_is k_is) ∙ sym f)

of-lines : (found lines : List Gain) (v w : Verdict) → FirstOf (HasBadGain found lines) (ShowsGain found lines) IsValid v
    → FirstOf (HasBadGain found lines) (ShowsGain found lines) IsValid w → v ≡ w
of-lines found lines v w =
    first-unique (HasBadGain found lines) (ShowsGain found lines) IsValid v w (gain-shown found lines v w) (λ e f. e ∙ sym f)

lines-unique : (marks : Option Marks) (spacing : Spacing) (cut : Cut) (colours : List Bool) (lines : List Gain) (v w : Verdict)
    → VerdictOfLines marks spacing cut colours lines v → VerdictOfLines marks spacing cut colours lines w → v ≡ w
lines-unique marks spacing cut colours lines v w (xs, xs_are, e) (ys, ys_are, f) =
    let same = gains-same marks spacing cut colours ys xs ys_are xs_are in
    of-lines xs lines v w e (subst (λ (found : List Gain). FirstOf (HasBadGain found lines) (ShowsGain found lines) IsValid w) same f)

pub gains-unique : (marks : Option Marks) (spacing : Spacing) (overlap : ℕ) (layer : List Rect) (head : Head) (colours : List Bool)
    (gains : Option (List Gain)) (v w : Verdict) → VerdictOfGains marks spacing overlap layer head colours gains v
    → VerdictOfGains marks spacing overlap layer head colours gains w → v ≡ w
gains-unique marks spacing overlap layer head colours None v w e f = e ∙ sym f
gains-unique marks spacing overlap layer head colours (Some lines) v w (c, c_is, e) (d, d_is, f) =
    let same = one-cut marks spacing overlap (Covers layer) d c d_is c_is in
    let g = subst (λ (x : Cut). FirstOf (HasOtherPieces x head) ShowsOtherPieces (VerdictOfLines marks spacing x colours lines) w) same f in
    first-unique (HasOtherPieces c head) ShowsOtherPieces (VerdictOfLines marks spacing c colours lines) v w (λ a b. a ∙ sym b)
    (lines-unique marks spacing c colours lines v w) e g
