-- What the words of a command line give, where they are taken.
use Rattle.std.specs.Prelude.{◌≡◌, ◌≤◌, ◌⊎◌, ℕ, true, All, List, Option, Some, None, codes, is_some, length}
use Rattle.std.specs.Str.{bytes_eq}
use Rattle.clap.specs.Walk.{Row, Text, first_of, many_of, one_of}
use Rattle.dpl_words.specs.Meaning.{AsksBatch, AsksCheck, AsksDemo, AsksEdit, AsksSplit, BatchValues, CheckValues, DemoValues, EditValues, RequestValues, SplitValues}
use Rattle.dpl_words.specs.Meaning.{is_apart, is_batch_apart, is_edit_apart, number_at, number_below}

-- a number is there, from low to high
abbrev pub IsFrom : ℕ → ℕ → Option ℕ → Type 0
IsFrom low high None = ⊥
IsFrom low high (Some n) = (low ≤ n) × (n ≤ high)

-- a number is from low to high, where it is there
abbrev pub IsFromIfGiven : ℕ → ℕ → Option ℕ → Type 0
IsFromIfGiven low high None = Unit {0}
IsFromIfGiven low high (Some n) = (low ≤ n) × (n ≤ high)

-- numbers of k bits are there, each from low to high
abbrev pub AreFrom : ℕ → ℕ → ℕ → Option (List Text) → Type 0
AreFrom k low high None = ⊥
AreFrom k low high (Some texts) = (1 ≤ length texts) × All (λ t. IsFrom low high (number_below k t)) texts

abbrev pub IsThere : Option Text → Type 0
IsThere text = is_some text ≡ true

-- a flag's text is there, and says that it is given, or that it isn't
abbrev pub IsFlagText : Option Text → Type 0
IsFlagText None = ⊥
IsFlagText (Some text) = (text ≡ codes "true") ⊎ (text ≡ codes "false")

-- the entries of `split` have each number, in its range, the flag, and the name of each file
pub record AreThere (rows : List Row) : Type 0 where
  pub layer : IsFrom 0 65535 (number_at 16 (codes "layer") rows)
  pub datatype : IsFrom 0 65535 (number_at 16 (codes "datatype") rows)
  pub rule : IsFrom 1 1000000 (number_at 32 (codes "rule") rows)
  pub overlap : IsFrom 1 1000000 (number_at 32 (codes "overlap") rows)
  pub corner : IsFromIfGiven 1 1000000 (number_at 32 (codes "corner") rows)
  pub a : IsFrom 0 65535 (number_at 16 (codes "a") rows)
  pub b : IsFrom 0 65535 (number_at 16 (codes "b") rows)
  pub mark_a : IsFromIfGiven 0 65535 (number_at 16 (codes "mark-a") rows)
  pub mark_b : IsFromIfGiven 0 65535 (number_at 16 (codes "mark-b") rows)
  pub tile : IsFrom 1 1073741824 (number_at 32 (codes "tile") rows)
  pub workers : IsFrom 1 64 (number_at 32 (codes "workers") rows)
  pub fewer : IsFlagText (one_of (codes "fewer") rows)
  pub input : IsThere (first_of (codes "in") rows)
  pub output : IsThere (first_of (codes "out") rows)
  pub certificate : IsThere (first_of (codes "cert") rows)

-- the entries of `check` have each number, in its range, and the name of each file
pub record AreThereForCheck (rows : List Row) : Type 0 where
  pub layer : IsFrom 0 65535 (number_at 16 (codes "layer") rows)
  pub datatype : IsFrom 0 65535 (number_at 16 (codes "datatype") rows)
  pub rule : IsFrom 1 1000000 (number_at 32 (codes "rule") rows)
  pub overlap : IsFrom 1 1000000 (number_at 32 (codes "overlap") rows)
  pub corner : IsFromIfGiven 1 1000000 (number_at 32 (codes "corner") rows)
  pub a : IsFrom 0 65535 (number_at 16 (codes "a") rows)
  pub b : IsFrom 0 65535 (number_at 16 (codes "b") rows)
  pub mark_a : IsFromIfGiven 0 65535 (number_at 16 (codes "mark-a") rows)
  pub mark_b : IsFromIfGiven 0 65535 (number_at 16 (codes "mark-b") rows)
  pub input : IsThere (first_of (codes "in") rows)
  pub output : IsThere (first_of (codes "out") rows)
  pub certificate : IsThere (first_of (codes "cert") rows)

-- the entries of `demo` have each number, in its range
pub record AreThereForDemo (entries : List Row) : Type 0 where
  pub seed : IsFrom 0 18446744073709551615 (number_at 64 (codes "seed") entries)
  pub rows : IsFrom 1 1000000 (number_at 32 (codes "rows") entries)
  pub tile : IsFrom 1 1073741824 (number_at 32 (codes "tile") entries)
  pub workers : IsFrom 1 64 (number_at 32 (codes "workers") entries)

-- the entries of `batch` have each number, in its range, the names, and layers, each in its range
pub record AreThereForBatch (rows : List Row) : Type 0 where
  pub datatype : IsFrom 0 65535 (number_at 16 (codes "datatype") rows)
  pub rule : IsFrom 1 1000000 (number_at 32 (codes "rule") rows)
  pub overlap : IsFrom 1 1000000 (number_at 32 (codes "overlap") rows)
  pub corner : IsFromIfGiven 1 1000000 (number_at 32 (codes "corner") rows)
  pub a : IsFrom 0 65535 (number_at 16 (codes "a") rows)
  pub b : IsFrom 0 65535 (number_at 16 (codes "b") rows)
  pub tile : IsFrom 1 1073741824 (number_at 32 (codes "tile") rows)
  pub workers : IsFrom 1 64 (number_at 32 (codes "workers") rows)
  pub input : IsThere (first_of (codes "in") rows)
  pub prefix : IsThere (first_of (codes "prefix") rows)
  pub layers : AreFrom 16 0 65535 (many_of (codes "layer") rows)

-- the entries of `edit` have each number, in its range, and the name of each file
pub record AreThereForEdit (rows : List Row) : Type 0 where
  pub layer : IsFrom 0 65535 (number_at 16 (codes "layer") rows)
  pub datatype : IsFrom 0 65535 (number_at 16 (codes "datatype") rows)
  pub rule : IsFrom 1 1000000 (number_at 32 (codes "rule") rows)
  pub overlap : IsFrom 1 1000000 (number_at 32 (codes "overlap") rows)
  pub corner : IsFromIfGiven 1 1000000 (number_at 32 (codes "corner") rows)
  pub a : IsFrom 0 65535 (number_at 16 (codes "a") rows)
  pub b : IsFrom 0 65535 (number_at 16 (codes "b") rows)
  pub tile : IsFrom 1 1073741824 (number_at 32 (codes "tile") rows)
  pub input : IsThere (first_of (codes "in") rows)
  pub edits : IsThere (first_of (codes "edits") rows)
  pub output : IsThere (first_of (codes "out") rows)
  pub certificate : IsThere (first_of (codes "cert") rows)

-- what the entries of a subcommand have, by its name
pub record HasItsValues (met : Text × List Row) : Type 0 where
  pub split : bytes_eq met.0 (codes "split") ≡ true → AreThere met.1
  pub check : bytes_eq met.0 (codes "check") ≡ true → AreThereForCheck met.1
  pub demo : bytes_eq met.0 (codes "demo") ≡ true → AreThereForDemo met.1
  pub batch : bytes_eq met.0 (codes "batch") ≡ true → AreThereForBatch met.1
  pub edit : bytes_eq met.0 (codes "edit") ≡ true → AreThereForEdit met.1

-- each number of a command line of `split` lies in its range, and the corner rule isn't above the rule
pub record AreInRange (v : SplitValues) : Type 0 where
  pub layer : v.layer ≤ 65535
  pub datatype : v.datatype ≤ 65535
  pub rule : (1 ≤ v.rule) × (v.rule ≤ 1000000)
  pub overlap : (1 ≤ v.overlap) × (v.overlap ≤ 1000000)
  pub corner : (1 ≤ v.corner) × (v.corner ≤ v.rule)
  pub a : v.a ≤ 65535
  pub b : v.b ≤ 65535
  pub mark_a : IsFromIfGiven 0 65535 v.mark_a
  pub mark_b : IsFromIfGiven 0 65535 v.mark_b
  pub tile : (1 ≤ v.tile) × (v.tile ≤ 1073741824)
  pub workers : (1 ≤ v.workers) × (v.workers ≤ 64)

-- each number of a command line of `check` lies in its range, and the corner rule isn't above the rule
pub record AreInRangeForCheck (v : CheckValues) : Type 0 where
  pub layer : v.layer ≤ 65535
  pub datatype : v.datatype ≤ 65535
  pub rule : (1 ≤ v.rule) × (v.rule ≤ 1000000)
  pub overlap : (1 ≤ v.overlap) × (v.overlap ≤ 1000000)
  pub corner : (1 ≤ v.corner) × (v.corner ≤ v.rule)
  pub a : v.a ≤ 65535
  pub b : v.b ≤ 65535
  pub mark_a : IsFromIfGiven 0 65535 v.mark_a
  pub mark_b : IsFromIfGiven 0 65535 v.mark_b

-- each number of a command line of `demo` lies in its range
pub record AreInRangeForDemo (v : DemoValues) : Type 0 where
  pub seed : v.seed ≤ 18446744073709551615
  pub rows : (1 ≤ v.rows) × (v.rows ≤ 1000000)
  pub tile : (1 ≤ v.tile) × (v.tile ≤ 1073741824)
  pub workers : (1 ≤ v.workers) × (v.workers ≤ 64)

-- each number of a command line of `batch` lies in its range, the corner rule isn't above the rule, and there are 1 to 64 layers
pub record AreInRangeForBatch (v : BatchValues) : Type 0 where
  pub datatype : v.datatype ≤ 65535
  pub rule : (1 ≤ v.rule) × (v.rule ≤ 1000000)
  pub overlap : (1 ≤ v.overlap) × (v.overlap ≤ 1000000)
  pub corner : (1 ≤ v.corner) × (v.corner ≤ v.rule)
  pub a : v.a ≤ 65535
  pub b : v.b ≤ 65535
  pub tile : (1 ≤ v.tile) × (v.tile ≤ 1073741824)
  pub workers : (1 ≤ v.workers) × (v.workers ≤ 64)
  pub layers : (1 ≤ length v.layers) × (length v.layers ≤ 64)
  pub numbers : All (λ n. n ≤ 65535) v.layers

-- each number of a command line of `edit` lies in its range, and the corner rule isn't above the rule
pub record AreInRangeForEdit (v : EditValues) : Type 0 where
  pub layer : v.layer ≤ 65535
  pub datatype : v.datatype ≤ 65535
  pub rule : (1 ≤ v.rule) × (v.rule ≤ 1000000)
  pub overlap : (1 ≤ v.overlap) × (v.overlap ≤ 1000000)
  pub corner : (1 ≤ v.corner) × (v.corner ≤ v.rule)
  pub a : v.a ≤ 65535
  pub b : v.b ≤ 65535
  pub tile : (1 ≤ v.tile) × (v.tile ≤ 1073741824)

-- each number of a request lies in its range
abbrev pub IsInRange : RequestValues → Type 0
IsInRange (AsksSplit v) = AreInRange v
IsInRange (AsksCheck v) = AreInRangeForCheck v
IsInRange (AsksDemo v) = AreInRangeForDemo v
IsInRange (AsksBatch v) = AreInRangeForBatch v
IsInRange (AsksEdit v) = AreInRangeForEdit v

-- a request's masks have layers of their own, each of its files a name of its own, and each layer is named once
abbrev pub IsApart : RequestValues → Type 0
IsApart (AsksSplit v) = is_apart v.a v.b v.input v.output v.certificate ≡ true
IsApart (AsksCheck v) = is_apart v.a v.b v.input v.output v.certificate ≡ true
IsApart (AsksDemo v) = Unit {0}
IsApart (AsksBatch v) = is_batch_apart v ≡ true
IsApart (AsksEdit v) = is_edit_apart v ≡ true
