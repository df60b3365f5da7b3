-- Where fewer stitches are asked for, and where they aren't.
use Rattle.std.proofs.Common.{◌≡◌, ◌∙◌, ℕ, Bool, true, false, List, length}
use Rattle.std.specs.Prelude.{Option, None}
use Rattle.dpl_spec_split.specs.declared.Spacing.{Spacing}
use Rattle.dpl_spec_split.specs.Graphs.{graph_of}
use Rattle.dpl_spec_split.specs.Colours.{AreRoots}
use Rattle.dpl_spec_split.specs.Decomposition.{Cut}
use Rattle.dpl_spec_split.specs.Marks.{Marks}
use Rattle.dpl_spec_fewer.specs.Masks.{AreColoursBy, fixed_by}
use Rattle.dpl_spec_fewer.proofs.Ends.{length-last}
use Rattle.dpl_stars.specs.declared.joined.Joined.{Joined}
use Rattle.dpl_stars.specs.Sums.{Sums}
use Rattle.dpl_orient.specs.Fewer.{ColoursBy}
use Rattle.dpl_cert.specs.declared.cert.Gain.{Gain}
use Rattle.dpl_law_verdict.specs.Own.{AreGainsBy}

-- ---- gains

pub gains-asked : (fewer : Bool) (marks : Option Marks) (spacing : Spacing) (cut : Cut) (letters : List Bool) (gains : Option (List Gain)) → fewer ≡ true
    → AreGainsBy true marks spacing cut letters gains → AreGainsBy fewer marks spacing cut letters gains
gains-asked true marks spacing cut letters gains e are = are
gains-asked false marks spacing cut letters gains e are = absurd (let no : ⊥ = cc in no)

pub gains-unasked : (fewer : Bool) (marks : Option Marks) (spacing : Spacing) (cut : Cut) (letters : List Bool) → fewer ≡ false
    → AreGainsBy fewer marks spacing cut letters None
gains-unasked false marks spacing cut letters e = tt
gains-unasked true marks spacing cut letters e = absurd (let no : ⊥ = cc in no)

-- ---- colours

-- the colours of the graph of the edges that are summed up
pub record AreColoursIn (fewer : Bool) (marks : Option Marks) (edges : List (ℕ × ℕ)) (n : ℕ) (sides : List (ℕ × ℕ)) (colours : List Bool) : Type 0 where
  pub roots : List ℕ
  pub odds : List Bool
  pub rooted : AreRoots (graph_of edges) n roots odds
  pub coloured : AreColoursBy fewer marks roots odds sides colours

pub coloured-in : (fewer : Bool) (marks : Option Marks) (n : ℕ) (edges : List (ℕ × ℕ)) (joined : Joined) (sides : List (ℕ × ℕ)) (colours : List Bool) → Sums edges joined
    → ColoursBy fewer (fixed_by marks) joined n sides colours → AreColoursIn fewer marks edges n sides colours
coloured-in false marks n edges joined sides colours sums coloured =
    let these = coloured edges sums in
    record { roots = these.roots; odds = these.odds; rooted = these.rooted; coloured = these.coloured }
coloured-in true marks n edges joined sides colours sums coloured =
    let these = coloured edges sums in
    record { roots = these.roots; odds = these.odds; rooted = these.rooted; coloured = these.coloured }

-- there are as many colours as vertices
pub as_many : (fewer : Bool) (fixed : Option ℕ) (n : ℕ) (edges : List (ℕ × ℕ)) (joined : Joined) (sides : List (ℕ × ℕ)) (colours : List Bool) → Sums edges joined
    → ColoursBy fewer fixed joined n sides colours → length colours ≡ n
as_many false fixed n edges joined sides colours sums coloured = let these = coloured edges sums in these.coloured.each ∙ these.rooted.lengths.0
as_many true fixed n edges joined sides colours sums coloured =
    let these = coloured edges sums in
    length-last these.roots fixed sides these.coloured.first colours these.coloured.coloured.each these.coloured.led ∙ these.rooted.lengths.0
