-- Colours with fewer stitches, of a summary and of a graph.
use Rattle.std.specs.Prelude.{ℕ, Bool, false, true, List, Option}
use Rattle.dpl_spec_split.specs.Graphs.{Graph, graph_of}
use Rattle.dpl_spec_split.specs.Colours.{AreRoots}
use Rattle.dpl_spec_fewer.specs.Fewer.{AreFewerColours, LeadsTo}
use Rattle.dpl_stars.specs.declared.list.Star.{Star}
use Rattle.dpl_stars.specs.declared.joined.Joined.{Joined}
use Rattle.dpl_stars.specs.declared.joined.Joined.TheVariants.{Stars, Odd}
use Rattle.dpl_stars.specs.Sums.{Sums}
use Rattle.dpl_orient.specs.Oriented.{ColoursWhatSums}
use Rattle.dpl_orient.specs.Rooted.{AreRooted}

-- what these colours lead to, by the roots that the rows give
pub record AreLedByRows (rows : List Star) (n : ℕ) (sides : List (ℕ × ℕ)) (fixed : Option ℕ) (colours last : List Bool) : Type 0 where
  pub roots : List ℕ
  pub odds : List Bool
  pub rooted : AreRooted rows n roots odds
  pub led : LeadsTo roots fixed sides colours last

abbrev pub AreLed : Joined → ℕ → List (ℕ × ℕ) → Option ℕ → List Bool → List Bool → Type 0
AreLed (Stars rows) n sides fixed colours last = AreLedByRows rows n sides fixed colours last
AreLed Odd n sides fixed colours last = ⊥

-- the colours with fewer stitches of a graph on the numbers below n
pub record IsFewerColouring (joined : Graph) (n : ℕ) (sides : List (ℕ × ℕ)) (fixed : Option ℕ) (colours : List Bool) : Type 0 where
  pub roots : List ℕ
  pub odds : List Bool
  pub rooted : AreRoots joined n roots odds
  pub coloured : AreFewerColours roots odds sides fixed colours

-- those of each edge list that this sums up
abbrev pub FewerOfWhatSums : Joined → ℕ → List (ℕ × ℕ) → Option ℕ → List Bool → Type 0
FewerOfWhatSums j n sides fixed colours = (edges : List (ℕ × ℕ)) → Sums edges j → IsFewerColouring (graph_of edges) n sides fixed colours

-- the colours of each edge list that this sums up; where fewer stitches are asked for, those with fewer
abbrev pub ColoursBy : Bool → Option ℕ → Joined → ℕ → List (ℕ × ℕ) → List Bool → Type 0
ColoursBy false fixed joined n sides colours = ColoursWhatSums joined n sides colours
ColoursBy true fixed joined n sides colours = FewerOfWhatSums joined n sides fixed colours
