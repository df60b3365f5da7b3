-- The summary of the links of many summaries is the summary of all their edges.
use Rattle.std.proofs.Common.{◌≡◌, ℕ, ◌<◌, ◌+◌, List, [], ◌∷◌, ◌++◌, append-nil, append_assoc, length, get_or, take, inl, inr, zero, suc, refl, sym, ap, ◌∙◌, arith}
use Rattle.std.specs.List.{Contains}
use Rattle.std.proofs.Math.Seq.{take-suc}
use Rattle.std.proofs.lemmas.List.Elements.{All-nil, All-append}
use Rattle.dpl_spec_split.specs.Graphs.{graph_of}
use Rattle.dpl_stars.specs.declared.list.Star.{Star}
use Rattle.dpl_stars.specs.declared.joined.Joined.{Joined}
use Rattle.dpl_stars.specs.declared.joined.Joined.TheVariants.{Stars, Odd}
use Rattle.dpl_stars.specs.Stars.{IsStarList}
use Rattle.dpl_stars.specs.Sums.{AreEdgePairs, AreSummed, SumsAll, Sums, summary_of}
use Rattle.dpl_stars.specs.Links.{AreLinks, StandFor}
use Rattle.dpl_stars.proofs.SameSums.{Carries, same-sums, carries-append}
use Rattle.dpl_stars.proofs.LinkLaws.{links-carried, graph-carried}
use Rattle.dpl_stars.proofs.Merging.{odd-first, odd-second}

-- one summary more
pub stand-more : (js : List Joined) (es : List (ℕ × ℕ)) (rows : List Star) (more : List (ℕ × ℕ)) → StandFor js es → IsStarList rows
    → AreLinks rows rows more → StandFor (js ++ Stars rows ∷ []) (es ++ more)
stand-more [] es rows more none list links = (rows, more, [], refl, list, links, ap (λ xs. xs ++ more) none ∙ sym (append-nil more), refl)
stand-more (j ∷ js) es rows more (first, prefix, rest, is, l, linked, cut, others) list links =
    (first, prefix, rest ++ more, is, l, linked, ap (λ xs. xs ++ more) cut ∙ append_assoc prefix rest more, stand-more js rest rows more others list links)

pub stand-next : (js : List Joined) (i : ℕ) (j : Joined) (rows : List Star) (es more all : List (ℕ × ℕ)) → i < length js
    → j ≡ get_or js i j → j ≡ Stars rows → StandFor (take i js) es → IsStarList rows → AreLinks rows rows more → all ≡ es ++ more →
    StandFor (take (i + 1) js) all
stand-next js i j rows es more all l at is stand list links all_is =
    let next : i + 1 ≡ suc i = omega arith in
    rw (all_is, next, take-suc js i j l, ← at, is) (stand-more (take i js) es rows more stand list links)

-- what isn't rows is an odd one
pub odd-otherwise-is : (j : Joined) → ((rows : List Star) → j ≡ Stars rows → ⊥) → j ≡ Odd
odd-otherwise-is (Stars rows) none = absurd (none rows refl)
odd-otherwise-is Odd none = refl

-- links have the smaller number first
pub stand-pairs : (js : List Joined) (links : List (ℕ × ℕ)) → StandFor js links → AreEdgePairs links
stand-pairs [] links empty = rw empty (All-nil (λ (e : ℕ × ℕ). e.0 < e.1))
stand-pairs (j ∷ js) links (rows, mine, more, is, list, linked, cut, later) = rw cut (All-append (λ (e : ℕ × ℕ). e.0 < e.1) mine more linked.pairs (stand-pairs js more later))

-- the edges and the links carry each other
pub record Stand (edges links : List (ℕ × ℕ)) : Type 0 where
  pub pairs : AreEdgePairs edges
  pub there : Carries (graph_of edges) (graph_of links)
  pub back : Carries (graph_of links) (graph_of edges)

none-carried : Carries (graph_of []) (graph_of [])
none-carried u v (inl (k, l, is)) = absurd (omega (arith, l))
none-carried u v (inr (k, l, is)) = absurd (omega (arith, l))

stand-none : Stand [] []
stand-none = record { pairs = All-nil (λ (e : ℕ × ℕ). e.0 < e.1); there = none-carried; back = none-carried }

pub stand-all : (js : List Joined) (edges links : List (ℕ × ℕ)) → AreSummed edges js → StandFor js links → Stand edges links
stand-all [] edges links none empty = rw (none, empty) stand-none
stand-all (j ∷ js) edges links (prefix, rest, split, pairs, sums, others) (rows, mine, more, is, list, linked, cut, later) =
    let stars = rw is at sums in
    let s = stand-all js rest more others later in
    rw (split, cut) record {
      pairs = All-append (λ (e : ℕ × ℕ). e.0 < e.1) prefix rest pairs s.pairs;
      there = carries-append prefix rest mine more (graph-carried prefix pairs rows stars list mine linked) s.there;
      back = carries-append mine more prefix rest (links-carried prefix pairs rows stars list mine linked) s.back;
    }

pub merged-all : (js : List Joined) (links : List (ℕ × ℕ)) (j : Joined) → StandFor js links → Sums links j → SumsAll js j
merged-all js links j stand sums edges summed =
    let s = stand-all js edges links summed stand in
    same-sums edges links s.pairs (stand-pairs js links stand) s.there s.back (summary_of j) sums

-- an odd one among them
pub odd-one : (js : List Joined) → Contains js Odd → SumsAll js Odd
odd-one [] (k, l, is) edges summed = absurd (omega (arith, l))
odd-one (j ∷ js) (zero, l, is) edges (prefix, rest, split, pairs, sums, others) = rw split (odd-first prefix rest (rw is at sums))
odd-one (j ∷ js) (suc k, l, is) edges (prefix, rest, split, pairs, sums, others) = rw split (odd-second prefix rest (odd-one js (k, omega (arith, l), is) rest others))
