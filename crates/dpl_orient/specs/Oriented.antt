-- Colours of a summary, and of a graph.
use Rattle.std.specs.Prelude.{ℕ, Bool, List}
use Rattle.dpl_spec_split.specs.Graphs.{Graph, graph_of}
use Rattle.dpl_spec_split.specs.Colours.{AreRoots, AreColours}
use Rattle.dpl_stars.specs.declared.list.Star.{Star}
use Rattle.dpl_stars.specs.declared.joined.Joined.{Joined}
use Rattle.dpl_stars.specs.declared.joined.Joined.TheVariants.{Stars, Odd}
use Rattle.dpl_stars.specs.Sums.{Sums}
use Rattle.dpl_orient.specs.Rooted.{AreRooted, ArePiecesBelow}

-- the summary of a graph without an odd cycle, of pieces below n
abbrev pub IsEvenBelow : ℕ → Joined → Type 0
IsEvenBelow n (Stars rows) = ArePiecesBelow n rows
IsEvenBelow n Odd = ⊥

-- the colours of the roots and parities that the rows give
pub record AreColoursOfRows (rows : List Star) (n : ℕ) (sides : List (ℕ × ℕ)) (colours : List Bool) : Type 0 where
  pub roots : List ℕ
  pub odds : List Bool
  pub rooted : AreRooted rows n roots odds
  pub coloured : AreColours roots odds sides colours

abbrev pub AreColoursOf : Joined → ℕ → List (ℕ × ℕ) → List Bool → Type 0
AreColoursOf (Stars rows) n sides colours = AreColoursOfRows rows n sides colours
AreColoursOf Odd n sides colours = ⊥

-- the colours of a graph on the numbers below n
pub record IsColouring (joined : Graph) (n : ℕ) (sides : List (ℕ × ℕ)) (colours : List Bool) : Type 0 where
  pub roots : List ℕ
  pub odds : List Bool
  pub rooted : AreRoots joined n roots odds
  pub coloured : AreColours roots odds sides colours

-- the colours of each edge list that this sums up
abbrev pub ColoursWhatSums : Joined → ℕ → List (ℕ × ℕ) → List Bool → Type 0
ColoursWhatSums j n sides colours = (edges : List (ℕ × ℕ)) → Sums edges j → IsColouring (graph_of edges) n sides colours
