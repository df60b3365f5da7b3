-- The lines before the rows, and the last one, as values.
use Rattle.std.specs.Prelude.{◌≡◌, ℕ, ◌+◌, ◌<◌, ◌≤◌, List, [], ◌∷◌, ◌++◌, length, Option, Some, None}
use Rattle.dpl_cert.specs.declared.cert.Head.{Head}
use Rattle.dpl_cert.specs.declared.cert.Gain.{Gain}
use Rattle.dpl_cert.specs.declared.cert.Version.{Version}
use Rattle.dpl_cert.specs.declared.cert.Version.TheVariants.{One, Two, Three}
use Rattle.dpl_parse.specs.declared.heads.Second.{Second}
use Rattle.dpl_parse.specs.declared.heads.Second.TheVariants.{Rule, Refused}
use Rattle.dpl_parse.specs.declared.heads.Counts.{Counts}
use Rattle.dpl_parse.specs.declared.heads.CycleCount.{CycleCount}
use Rattle.dpl_parse.specs.declared.heads.GainCount.{GainCount}
use Rattle.dpl_cert.specs.Lines.{line}
use Rattle.dpl_cert.specs.Grammar.{opening, rule_words, fault_words, count_words, stitches_words, cycle_words, gains_words, IsRule, IsNumber, IsCycleLength}

abbrev pub second_words : ℕ → Second → List (List ℕ)
second_words n (Rule r m corner) = rule_words r m corner
second_words n (Refused name at) = fault_words name at

-- a corner rule isn't greater than the rule
abbrev pub IsCornerOf : ℕ → Option ℕ → Type 0
IsCornerOf rule None = Unit {0}
IsCornerOf rule (Some c) = (1 ≤ c) × (c ≤ rule)

abbrev pub IsSecond : Second → Type 0
IsSecond (Rule r m corner) = IsRule r × IsRule m × IsCornerOf r corner
IsSecond (Refused name at) = IsNumber at

-- which second lines a version has
abbrev pub Follows : Version → Second → Type 0
Follows One (Rule r m None) = Unit {0}
Follows One (Rule r m (Some c)) = ⊥
Follows One (Refused name at) = Unit {0}
Follows Two (Rule r m None) = ⊥
Follows Two (Rule r m (Some c)) = c < r
Follows Two (Refused name at) = ⊥
Follows Three (Rule r m None) = ⊥
Follows Three (Rule r m (Some c)) = Unit {0}
Follows Three (Refused name at) = ⊥

-- which corner rules a version has
abbrev pub IsOfVersion : Version → ℕ → ℕ → Type 0
IsOfVersion One rule corner = corner ≡ rule
IsOfVersion Two rule corner = corner < rule
IsOfVersion Three rule corner = Unit {0}

-- the corner rule, which is the rule where it isn't named
abbrev pub corner_or : ℕ → Option ℕ → ℕ
corner_or rule None = rule
corner_or rule (Some c) = c

abbrev pub stitches_left : Option ℕ → List (List ℕ)
stitches_left None = []
stitches_left (Some k) = stitches_words k

abbrev pub AreStitches : Option ℕ → Type 0
AreStitches None = Unit {0}
AreStitches (Some k) = IsNumber k

abbrev pub head_of_counts : Counts → Head
head_of_counts c = record { rule = 0; overlap = 0; corner = 0; features = c.features; pieces = c.pieces; zones = c.zones }

abbrev pub counts_words : ℕ → Counts → List (List ℕ)
counts_words n c = count_words (head_of_counts c) (stitches_left c.stitches)

pub record AreCounts (c : Counts) : Type 0 where
  pub features : IsNumber c.features
  pub pieces : IsNumber c.pieces
  pub zones : IsNumber c.zones
  pub stitches : AreStitches c.stitches

-- certificates of version 3 are of masks alone
abbrev pub AreCountsOf : Version → Option ℕ → Type 0
AreCountsOf One o = Unit {0}
AreCountsOf Two o = Unit {0}
AreCountsOf Three None = ⊥
AreCountsOf Three (Some k) = Unit {0}

abbrev pub cycle_count_words : ℕ → CycleCount → List (List ℕ)
cycle_count_words n c = cycle_words c.len

abbrev pub IsCycleCount : CycleCount → Type 0
IsCycleCount c = IsCycleLength c.len

abbrev pub gain_count_words : ℕ → GainCount → List (List ℕ)
gain_count_words n c = gains_words c.len

abbrev pub IsGainCount : GainCount → Type 0
IsGainCount c = IsNumber c.len

-- how many gains there are to be, by the version
abbrev pub IsGainedBy : Version → Option ℕ → Type 0
IsGainedBy One o = o ≡ None
IsGainedBy Two o = o ≡ None
IsGainedBy Three None = ⊥
IsGainedBy Three (Some n) = IsNumber n

abbrev pub gains_left : Option ℕ → List (List ℕ)
gains_left None = []
gains_left (Some n) = line (gains_words n) ∷ []

-- the lines of masks up to those of their pieces
abbrev pub masks_head : Version → Head → ℕ → Option ℕ → List (List ℕ)
masks_head v h k g = opening v h.rule h.overlap h.corner ++ (line (count_words h (stitches_words k)) ∷ gains_left g)

-- the lines of a conflict up to that of its cycle's length
abbrev pub conflict_counts : Version → Head → List (List ℕ)
conflict_counts v h = opening v h.rule h.overlap h.corner ++ (line (count_words h []) ∷ [])

-- a number that there may be
abbrev pub number : Option ℕ → ℕ
number None = 0
number (Some n) = n

-- as many gains as there are to be
abbrev pub AreAsMany : Option ℕ → Option (List Gain) → Type 0
AreAsMany None None = Unit {0}
AreAsMany None (Some gains) = ⊥
AreAsMany (Some n) None = ⊥
AreAsMany (Some n) (Some gains) = length gains ≡ n
