-- What is checked of a conflict, in order.
use Rattle.std.specs.Prelude.{Option, Some, None, Bool, true, false, ◌≡◌, ◌≢◌, ℕ, pos, ◌+◌, ◌%◌, ◌<◌, List, length, slice_index, slice_index_or}
use Rattle.dpl_spec_split.specs.declared.Spacing.{Spacing}
use Rattle.dpl_spec_split.specs.declared.Pt.{Pt}
use Rattle.dpl_spec_split.specs.declared.Rect.{Rect}
use Rattle.dpl_spec_split.specs.Squares.{Region, Covers, Near}
use Rattle.dpl_spec_split.specs.Zones.{at, part_at}
use Rattle.dpl_spec_split.specs.Decomposition.{Cut, IsCut}
use Rattle.dpl_spec_split.specs.Marks.{Marks, marked_a, marked_b}
use Rattle.dpl_cert.specs.declared.cert.Head.{Head}
use Rattle.dpl_cert.specs.declared.cert.PlaceLine.{PlaceLine}
use Rattle.dpl_cert.specs.declared.cert.PlaceLine.TheVariants.{Piece, Anchor}
use Rattle.dpl_cert.specs.declared.cert.NearLine.{NearLine}
use Rattle.dpl_cert.specs.declared.cert.NearLine.TheVariants.{Pair, Mark, Anchors}
use Rattle.dpl_cert.specs.declared.cert.Cert.{Cert}
use Rattle.dpl_cert.specs.declared.cert.Cert.TheVariants.{Masks, Conflict, Fault}
use Rattle.dpl_spec_verdict.specs.declared.Verdict.{Verdict}
use Rattle.dpl_spec_verdict.specs.declared.Verdict.TheVariants.{Cycle}
use Rattle.dpl_spec_verdict.specs.Order.{FirstOf, IsFirstBad, HasBad, RulesDiffer, ShowsRules, AreCounts, ShowsCounts, IsValid}

-- what a certificate says of an odd cycle of pieces of a layer
pub record Claim : Type 0 where
  pub layer : List Rect
  pub head : Head
  pub cycle : List PlaceLine
  pub near : List NearLine

-- the layer has another number of features, pieces or zones
abbrev pub CountsDiffer : Option Marks → Spacing → ℕ → List Rect → Head → Type 0
CountsDiffer marks spacing overlap layer head = ¬ AreCounts marks spacing overlap layer head.features head.pieces head.zones

-- a place of the cycle; where there is none, it doesn't matter which
abbrev pub place_at : List PlaceLine → ℕ → PlaceLine
place_at cycle k = slice_index_or cycle k (Piece 0 (at (pos 0) (pos 0)))

-- two places name one piece, or one anchor
abbrev pub AreSame : PlaceLine → PlaceLine → Type 0
AreSame (Piece i key) (Piece j other) = i ≡ j
AreSame (Piece i key) (Anchor b) = ⊥
AreSame (Anchor b) (Piece j other) = ⊥
AreSame (Anchor b) (Anchor c) = b ≡ c

-- marks are asked for
abbrev pub AreAsked : Option Marks → Type 0
AreAsked None = ⊥
AreAsked (Some m) = Unit {0}

-- a piece of the layer, with its key, or an anchor, where marks are asked for
abbrev pub IsNamed : Option Marks → Cut → PlaceLine → Type 0
IsNamed marks cut (Piece n key) = (n < length cut.pieces) × (key ≡ slice_index_or cut.keys n key)
IsNamed marks cut (Anchor b) = AreAsked marks

-- squares of two pieces that are near, and the two of different features
pub record AreInConflict (spacing : Spacing) (cut : Cut) (i j : ℕ) (p q : Pt) : Type 0 where
  pub from : part_at cut.pieces i p
  pub to : part_at cut.pieces j q
  pub near : Near spacing p q
  pub apart : slice_index cut.owners i ≢ slice_index cut.owners j

-- the squares that join their pieces to the anchor of a mask: those that are fixed to the other mask
abbrev pub marked_against : Option Marks → Bool → Region
marked_against marks false p = marked_b marks p
marked_against marks true p = marked_a marks p

-- a square of the piece that joins it to the anchor
abbrev pub IsHeldBy : Option Marks → Cut → ℕ → Bool → Pt → Type 0
IsHeldBy marks cut i b p = part_at cut.pieces i p × marked_against marks b p

-- the line shows that two pieces conflict
abbrev pub ShowsConflict : Spacing → Cut → ℕ → ℕ → NearLine → Type 0
ShowsConflict spacing cut i j (Pair from to) = AreInConflict spacing cut i j from to
ShowsConflict spacing cut i j (Mark at) = ⊥
ShowsConflict spacing cut i j Anchors = ⊥

-- the line shows that a piece is joined to an anchor
abbrev pub ShowsMark : Option Marks → Cut → ℕ → Bool → NearLine → Type 0
ShowsMark marks cut i b (Pair from to) = ⊥
ShowsMark marks cut i b (Mark at) = IsHeldBy marks cut i b at
ShowsMark marks cut i b Anchors = ⊥

-- the line is that of two anchors
abbrev pub ShowsAnchors : NearLine → Type 0
ShowsAnchors (Pair from to) = ⊥
ShowsAnchors (Mark at) = ⊥
ShowsAnchors Anchors = Unit {0}

-- the line shows that two places are joined
abbrev pub AreJoined : Option Marks → Spacing → Cut → PlaceLine → PlaceLine → NearLine → Type 0
AreJoined marks spacing cut (Piece i key) (Piece j other) line = ShowsConflict spacing cut i j line
AreJoined marks spacing cut (Piece i key) (Anchor b) line = ShowsMark marks cut i b line
AreJoined marks spacing cut (Anchor b) (Piece j other) line = ShowsMark marks cut j b line
AreJoined marks spacing cut (Anchor b) (Anchor c) line = ShowsAnchors line

-- A piece of the layer with its key, or an anchor, that hasn't stood before, and that the line shows to be joined to the next one, the first one after the last.
pub record IsGoodPlace (marks : Option Marks) (spacing : Spacing) (cut : Cut) (cycle : List PlaceLine) (place next : PlaceLine) (k : ℕ) (line : NearLine) : Type 0 where
  pub named : IsNamed marks cut place
  pub new : (j : ℕ) → j < k → ¬ AreSame (place_at cycle j) place
  pub joined : AreJoined marks spacing cut place next line

-- place k isn't a good one; d stands in where there is no line k
abbrev pub IsBadPlace : Option Marks → Spacing → Cut → List PlaceLine → List NearLine → ℕ → PlaceLine → Type 0
IsBadPlace marks spacing cut cycle near k place =
    (d : NearLine) → ¬ IsGoodPlace marks spacing cut cycle place (place_at cycle ((k + 1) % length cycle)) k (slice_index_or near k d)

-- the first bad place is told
abbrev pub ShowsCycle : Option Marks → Spacing → Cut → Claim → Verdict → Type 0
ShowsCycle marks spacing cut c v = (k : ℕ) × IsFirstBad (IsBadPlace marks spacing cut c.cycle c.near) c.cycle k × (v ≡ Cycle k)

-- the first bad place, or valid where there is none
abbrev pub VerdictOfCycle : Option Marks → Spacing → Cut → Claim → Verdict → Type 0
VerdictOfCycle marks spacing cut c = FirstOf (HasBad (IsBadPlace marks spacing cut c.cycle c.near) c.cycle) (ShowsCycle marks spacing cut c) IsValid

-- by the features and pieces of the layer
abbrev pub VerdictFromCycle : Option Marks → Spacing → ℕ → Claim → Verdict → Type 0
VerdictFromCycle marks spacing overlap c v = (cut : Cut) × IsCut marks spacing overlap (Covers c.layer) cut × VerdictOfCycle marks spacing cut c v

abbrev pub VerdictFromCounts : Option Marks → Spacing → ℕ → Claim → Verdict → Type 0
VerdictFromCounts marks spacing overlap c = FirstOf (CountsDiffer marks spacing overlap c.layer c.head) (ShowsCounts marks spacing overlap c.layer) (VerdictFromCycle marks spacing overlap c)

abbrev pub VerdictOfClaim : Option Marks → Spacing → ℕ → Claim → Verdict → Type 0
VerdictOfClaim marks spacing overlap c = FirstOf (RulesDiffer spacing overlap c.head) (ShowsRules c.head None) (VerdictFromCounts marks spacing overlap c)

abbrev pub IsOfConflict : Cert → Type 0
IsOfConflict (Masks h ps ss gs) = ⊥
IsOfConflict (Conflict h cs ns) = Unit {0}
IsOfConflict (Fault name at) = ⊥

-- the verdict of a layer's conflict, by its certificate
abbrev pub IsVerdictOfConflict : Option Marks → Spacing → ℕ → List Rect → Cert → Verdict → Type 0
IsVerdictOfConflict marks spacing overlap layer (Masks h ps ss gs) v = ⊥
IsVerdictOfConflict marks spacing overlap layer (Conflict h cs ns) v =
    VerdictOfClaim marks spacing overlap (record { layer = layer; head = h; cycle = cs; near = ns }) v
IsVerdictOfConflict marks spacing overlap layer (Fault name at) v = ⊥
