-- The summary of a graph: an odd cycle, or each touched vertex with its root and parity.
use Rattle.std.specs.Prelude.{◌≡◌, ℕ, ◌%◌, ◌<◌, ◌↔◌, Bool, ◌==◌, List}
use Rattle.std.specs.List.{AllPairs, Contains}
use Rattle.dpl_spec_split.specs.Graphs.{Graph, IsDistance, IsRoot, IsOddCycle}

pub record Row : Type 0 where
  pub vertex : ℕ
  pub root : ℕ
  pub odd : Bool

pub data Joined : Type 0 where
  Stars : List Row → Joined
  Odd : Joined

-- root is the least vertex of the component, and odd says whether the distance to it is odd
abbrev pub IsStar : Graph → ℕ → ℕ → Bool → Type 0
IsStar joined v root odd = IsRoot joined v root × (n : ℕ) × IsDistance joined root v n × (odd ≡ (n % 2 == 1))

abbrev pub HasOddCycle : Graph → Type 0
HasOddCycle joined = (cycle : List ℕ) × IsOddCycle joined cycle

pub record AreStars (joined : Graph) (rows : List Row) : Type 0 where
  pub even : ¬ HasOddCycle joined
  pub ordered : AllPairs (λ a b. a.vertex < b.vertex) rows
  pub exactly : (r : Row) → Contains rows r ↔ (((u : ℕ) × joined r.vertex u) × IsStar joined r.vertex r.root r.odd)

abbrev pub IsSummary : Graph → Joined → Type 0
IsSummary joined (Stars rows) = AreStars joined rows
IsSummary joined Odd = HasOddCycle joined
