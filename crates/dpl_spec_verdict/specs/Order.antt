-- The first of several properties that is broken, and what shows it.
use Rattle.std.specs.Prelude.{Option, ◌≡◌, ◌≢◌, ℕ, ◌<◌, ◌⊎◌, List, length, slice_index_or}
use Rattle.dpl_spec_split.specs.declared.Spacing.{Spacing}
use Rattle.dpl_spec_split.specs.declared.Pt.{Pt}
use Rattle.dpl_spec_split.specs.declared.Rect.{Rect}
use Rattle.dpl_spec_split.specs.Squares.{Region, Covers, Precedes}
use Rattle.dpl_spec_split.specs.Components.{AreComponents}
use Rattle.dpl_spec_split.specs.Decomposition.{Cut, IsCut}
use Rattle.dpl_spec_split.specs.Marks.{Marks}
use Rattle.dpl_cert.specs.declared.cert.Head.{Head}
use Rattle.dpl_cert.specs.declared.cert.Gain.{Gain}
use Rattle.dpl_cert.specs.Grammar.{named_corner, version}
use Rattle.dpl_spec_verdict.specs.declared.Verdict.{Verdict}
use Rattle.dpl_spec_verdict.specs.declared.Verdict.TheVariants.{Valid, Rules, Counts}

-- Where the property is broken the verdict shows it, and else it is that of the properties after it.
abbrev pub FirstOf : Type 0 → (Verdict → Type 0) → (Verdict → Type 0) → Verdict → Type 0
FirstOf broken shows rest v = (broken × shows v) ⊎ (¬ broken × rest v)

-- no property is broken
abbrev pub IsValid : Verdict → Type 0
IsValid v = v ≡ Valid

abbrev pub HasSquare : Region → Type 0
HasSquare a = (p : Pt) × a p

-- the first item of a list that is bad, by its place from 0
pub record IsFirstBad {X : Type 0} (bad : ℕ → X → Type 0) (xs : List X) (k : ℕ) : Type 0 where
  pub inside : k < length xs
  pub is : (d : X) → bad k (slice_index_or xs k d)
  pub first : (j : ℕ) (d : X) → j < k → ¬ bad j (slice_index_or xs j d)

-- some item of a list is bad
abbrev pub HasBad : {X : Type 0} → (ℕ → X → Type 0) → List X → Type 0
HasBad bad xs = (k : ℕ) × (k < length xs) × ((d : _) → bad k (slice_index_or xs k d))

-- the least of related pairs of squares, by the first and then by the second
pub record IsLeastPair (related : Pt → Pt → Type 0) (p q : Pt) : Type 0 where
  pub are : related p q
  pub least : (r s : Pt) → related r s → Precedes p r ⊎ ((p ≡ r) × ((q ≡ s) ⊎ Precedes q s))

-- the certificate is for another rule, another overlap or another corner rule
abbrev pub RulesDiffer : Spacing → ℕ → Head → Type 0
RulesDiffer spacing overlap head = (head.rule ≢ spacing.rule) ⊎ ((head.overlap ≢ overlap) ⊎ (head.corner ≢ spacing.corner))

-- the corner rule is shown where the certificate names it
abbrev pub ShowsRules : Head → Option (List Gain) → Verdict → Type 0
ShowsRules head gains v = v ≡ Rules head.rule head.overlap (named_corner (version head gains) head.corner)

-- how many features the layer has
abbrev pub IsFeatureCount : List Rect → ℕ → Type 0
IsFeatureCount layer n = (features : List (List Rect)) × AreComponents (Covers layer) features × (n ≡ length features)

-- how many features, pieces and zones
abbrev pub AreCounts : Option Marks → Spacing → ℕ → List Rect → ℕ → ℕ → ℕ → Type 0
AreCounts marks spacing overlap layer features pieces zones =
    (c : Cut) × IsCut marks spacing overlap (Covers layer) c × (features ≡ length c.features) × (pieces ≡ length c.pieces) × (zones ≡ length c.zones)

abbrev pub ShowsCounts : Option Marks → Spacing → ℕ → List Rect → Verdict → Type 0
ShowsCounts marks spacing overlap layer v = (f p z : ℕ) × AreCounts marks spacing overlap layer f p z × (v ≡ Counts f p z)
