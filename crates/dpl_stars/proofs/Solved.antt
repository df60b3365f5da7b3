-- What the steps of a summary leave.
use Rattle.std.proofs.Common.{◌≡◌, ℕ, ◌<◌, List, map, length, sym, subst}
use Rattle.std.specs.List.{All}
use Rattle.dpl_spec_split.specs.Graphs.{graph_of}
use Rattle.dpl_spec_split.specs.Summary.{AreStars, HasOddCycle}
use Rattle.dpl_stars.specs.Laws.{AreOrdered}
use Rattle.dpl_stars.specs.Levels.{AreLevels}
use Rattle.dpl_stars.specs.declared.list.Star.{Star}
use Rattle.dpl_stars.specs.Stars.{IsStarList}
use Rattle.dpl_stars.specs.Sums.{row_of}
use Rattle.dpl_stars.specs.Places.{AreTouched, ArePlaced, IsLevelled, AreRows}
use Rattle.dpl_stars.proofs.Relabel.{levelled-odd, are-stars, are-listed, roots-below}

-- the pieces of edges, the edges by places, and the levels of the places
pub record Solved (edges placed : List (ℕ × ℕ)) (pieces roots levels : List ℕ) : Type 0 where
  pub pairs : AreOrdered edges
  pub touched : AreTouched edges pieces
  pub placed_by : ArePlaced pieces edges placed
  pub levelled : AreLevels placed (length pieces) roots levels

pub solved-from : (edges placed q : List (ℕ × ℕ)) (pieces roots levels : List ℕ) (n : ℕ) → AreOrdered edges → AreTouched edges pieces
    → ArePlaced pieces edges placed → n ≡ length pieces → q ≡ placed → AreLevels q n roots levels → Solved edges placed pieces roots levels
solved-from edges placed q pieces roots levels n pairs touched placed_by n_is q_is lv = record {
  pairs = pairs;
  touched = touched;
  placed_by = placed_by;
  levelled = subst (λ k. AreLevels placed k roots levels) n_is (subst (λ x. AreLevels x n roots levels) q_is lv);
}

module _ (edges placed : List (ℕ × ℕ)) (pieces roots levels : List ℕ) (s : Solved edges placed pieces roots levels) where
  pub solved-odd : (l : List ℕ) (q : List (ℕ × ℕ)) → l ≡ levels → q ≡ placed → IsLevelled l q → HasOddCycle (graph_of edges)
  solved-odd l q l_is q_is on = levelled-odd edges placed pieces s.pairs s.touched s.placed_by roots levels s.levelled
      (subst (λ x. IsLevelled levels x) q_is (subst (λ x. IsLevelled x q) l_is on))

  pub solved-roots : (r p : List ℕ) → r ≡ roots → p ≡ pieces → All (λ x. x < length p) r
  solved-roots r p r_is p_is = subst (λ y. All (λ x. x < length p) y) (sym r_is) (subst (λ y. All (λ x. x < length y) roots) (sym p_is)
      (roots-below placed (length pieces) roots levels s.levelled))

  rows-same : (p r l : List ℕ) (rows : List Star) → p ≡ pieces → r ≡ roots → l ≡ levels → AreRows p r l (length p) rows → AreRows pieces roots levels (length pieces) rows
  rows-same p r l rows p_is r_is l_is rs = subst (λ x. AreRows x roots levels (length x) rows) p_is
      (subst (λ x. AreRows p x levels (length p) rows) r_is (subst (λ x. AreRows p r x (length p) rows) l_is rs))

  pub solved-list : (p r l : List ℕ) (rows : List Star) → p ≡ pieces → r ≡ roots → l ≡ levels → AreRows p r l (length p) rows → IsStarList rows
  solved-list p r l rows p_is r_is l_is rs = are-listed edges placed pieces s.pairs s.touched s.placed_by roots levels s.levelled rows (rows-same p r l rows p_is r_is l_is rs)

  pub solved-stars : (p r l m : List ℕ) (q : List (ℕ × ℕ)) (rows made : List Star) → p ≡ pieces → r ≡ roots → l ≡ levels
      → AreRows p r l (length p) rows → made ≡ rows → m ≡ levels → q ≡ placed → ¬ IsLevelled m q → AreStars (graph_of edges) (map row_of made)
  solved-stars p r l m q rows made p_is r_is l_is rs made_is m_is q_is none =
      subst (λ x. AreStars (graph_of edges) (map row_of x)) (sym made_is)
      (are-stars edges placed pieces s.pairs s.touched s.placed_by roots levels s.levelled rows (rows-same p r l rows p_is r_is l_is rs)
      (λ on. none (subst (λ x. IsLevelled m x) (sym q_is) (subst (λ x. IsLevelled x placed) (sym m_is) on))))
