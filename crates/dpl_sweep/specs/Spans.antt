-- Bands of rows that stay the same from the first edge to the last.
use Rattle.std.specs.Prelude.{◌≡◌, ℕ, ◌+◌, ◌<◌, ◌≤◌, ◌⊎◌, ◌↔◌, ℤ, pos, ◌≤ℤ◌, ◌<ℤ◌, List, [], ◌∷◌, ◌++◌, length, slice_index_or}
use Rattle.std.specs.List.{All, Contains}
use Rattle.dpl_spec_split.specs.declared.Pt.{Pt}
use Rattle.dpl_spec_split.specs.declared.Rect.{Rect}
use Rattle.dpl_spec_split.specs.Squares.{Covers}
use Rattle.dpl_sweep.specs.declared.edge.Edge.{Edge}
use Rattle.dpl_sweep.specs.declared.edge.Rule.{Rule}
use Rattle.dpl_sweep.specs.declared.run.Run.{Run}
use Rattle.dpl_sweep.specs.declared.spans.Span.{Span}
use Rattle.dpl_sweep.specs.declared.bands.Bands.{One}
use Rattle.dpl_sweep.specs.Edges.{Told}
use Rattle.dpl_sweep.specs.Few.{EndsOutside}
use Rattle.dpl_order.specs.Pieces.{AreApart, EndBefore}
use Rattle.dpl_sweep.specs.Rows.{AreRows, IsSmall}
use Rattle.dpl_sweep.specs.Sweeping.{AreSwept}

abbrev pub span_at : List Span → ℕ → Span
span_at spans k = slice_index_or spans k (record { low = pos 0; high = pos 0 })

abbrev pub run_at_span : List Run → ℕ → Run
run_at_span runs k = slice_index_or runs k (record { from = pos 0; at = pos 0; a = pos 0; b = pos 0 })

-- the row is in none of the spans
abbrev pub IsInNone : List Span → ℤ → Type 0
IsInNone spans y = (k : ℕ) → k < length spans → (y <ℤ (span_at spans k).low) ⊎ ((span_at spans k).high ≤ℤ y)

-- spans from the lowest up
pub record AreInOrder (spans : List Span) : Type 0 where
  pub solid : (k : ℕ) → k < length spans → (span_at spans k).low <ℤ (span_at spans k).high
  pub pairs : (i j : ℕ) → i < j → j < length spans → (span_at spans i).high ≤ℤ (span_at spans j).low

-- spans from the lowest up, at whose inner rows no edge begins or ends, and beside whose other rows there is none
pub record AreSpansOf (es : List Edge) (spans : List Span) : Type 0 where
  pub order : AreInOrder spans
  pub outside : (k : ℕ) → k < length spans → All (EndsOutside (span_at spans k).low (span_at spans k).high) es
  pub others : (y : ℤ) → IsInNone spans y → (e : Edge) → Contains es e → (y <ℤ e.y0) ⊎ (e.y1 ≤ℤ y)

-- the run of the span's rows after the first edges of all, known no further than to the next
pub record IsReady (rule : Rule) (es : List Edge) (all : List Edge) (pieces : List Rect) (s : Span) (run : Run) : Type 0 where
  pub rows : (j : ℕ) (d : Edge) → length es ≤ j → j < length all → AreRows s.low s.high (slice_index_or all j d).x (One run)
  pub sums : IsSmall (length es) (One run)
  pub swept : AreSwept rule es s.low s.high pieces (One run)

-- the first k runs are those after one edge more
pub record ArePassed (rule : Rule) (es : List Edge) (e : Edge) (all : List Edge) (spans : List Span) (k : ℕ) (runs : List Run) (pieces : List Rect) : Type 0 where
  pub len : length runs ≡ length spans
  pub before : (j : ℕ) → j < k → j < length spans → IsReady rule (es ++ e ∷ []) all pieces (span_at spans j) (run_at_span runs j)
  pub after : (j : ℕ) → k ≤ j → j < length spans → IsReady rule es all pieces (span_at spans j) (run_at_span runs j)
  pub outside : (y x : ℤ) → IsInNone spans y → EndBefore pieces y x
  pub apart : AreApart pieces

-- all runs are those after the edges
pub record AreReady (rule : Rule) (es : List Edge) (all : List Edge) (spans : List Span) (runs : List Run) (pieces : List Rect) : Type 0 where
  pub len : length runs ≡ length spans
  pub ready : (j : ℕ) → j < length spans → IsReady rule es all pieces (span_at spans j) (run_at_span runs j)
  pub outside : (y x : ℤ) → IsInNone spans y → EndBefore pieces y x
  pub apart : AreApart pieces

-- the first k runs are put down
pub record AreShut (rule : Rule) (es : List Edge) (all : List Edge) (spans : List Span) (k : ℕ) (runs : List Run) (pieces : List Rect) : Type 0 where
  pub before : (j : ℕ) → j < k → j < length spans → (p : Pt) → (span_at spans j).low ≤ℤ p.y → p.y <ℤ (span_at spans j).high → Covers pieces p ↔ Told rule es p
  pub after : (j : ℕ) → k ≤ j → j < length spans → IsReady rule es all pieces (span_at spans j) (run_at_span runs j)
  pub outside : (y x : ℤ) → IsInNone spans y → EndBefore pieces y x
  pub apart : AreApart pieces

abbrev pub row_at : List ℤ → ℕ → ℤ
row_at ends k = slice_index_or ends k (pos 0)

-- both rows of the edge are among the rows
pub record HasEnds (ends : List ℤ) (e : Edge) : Type 0 where
  pub first : Contains ends e.y0
  pub last : Contains ends e.y1

-- the row is in one of the spans
abbrev pub IsInSome : List Span → ℤ → Type 0
IsInSome spans y = (k : ℕ) × (k < length spans) × ((span_at spans k).low ≤ℤ y) × (y <ℤ (span_at spans k).high)

-- the span lies between two neighbours among the rows
abbrev pub IsStep : List ℤ → Span → Type 0
IsStep ends s = (m : ℕ) × (m + 1 < length ends) × (s.low ≡ row_at ends m) × (s.high ≡ row_at ends (m + 1))

-- the span between the rows is added, if there is one
abbrev pub AddsStep : ℤ → ℤ → List Span → List Span → Type 0
AddsStep low high old new = ((high ≤ℤ low) × (new ≡ old)) ⊎ ((low <ℤ high) × (new ≡ old ++ record { low = low; high = high } ∷ []))

-- the spans between the rows up to number last
pub record AreSteps (ends : List ℤ) (last : ℕ) (spans : List Span) : Type 0 where
  pub order : AreInOrder spans
  pub steps : (j : ℕ) → j < length spans → IsStep ends (span_at spans j)
  pub below : (j : ℕ) → j < length spans → (span_at spans j).high ≤ℤ row_at ends last
  pub all : (y : ℤ) → row_at ends 0 ≤ℤ y → y <ℤ row_at ends last → IsInSome spans y
