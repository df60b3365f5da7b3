-- From the odd cycles of the edges to those of the conflict graph.
use Rattle.std.proofs.Common.{◌≡◌, ◌+◌, ◌<◌, ℕ, List, [], ◌∷◌, ◌++◌, take, length, get_or, sym, refl, subst, arith}
use Rattle.std.specs.List.{All, AllZip}
use Rattle.std.proofs.lemmas.List.{take_more}
use Rattle.dpl_spec_split.specs.declared.Spacing.{Spacing}
use Rattle.dpl_spec_split.specs.Graphs.{Graph, AreEdges, IsOddCycle, graph_of}
use Rattle.dpl_spec_split.specs.Summary.{HasOddCycle}
use Rattle.dpl_spec_split.specs.Decomposition.{Cut, conflicts}
use Rattle.dpl_stars.specs.Laws.{HasOddCycleAt}
use Rattle.dpl_stars.specs.declared.joined.Joined.{Joined}
use Rattle.dpl_orient.specs.Oriented.{IsEvenBelow}
use Rattle.dpl_odd.specs.All.{AreOddCycles, IsReportedAt}
use Rattle.dpl_answer.specs.Conflicts.{SumsGraph}
use Rattle.dpl_answer.specs.declared.decomposed.Clash.{Clash}
use Rattle.dpl_answer.proofs.SameGraphs.{SameEdges, same_back, walk_same, root_same, level_same, climb_same, odd_same}
use Rattle.dpl_answer.proofs.Deciding.{same_conflicts, not_odd}
use Rattle.dpl_view.specs.Clashes.{AreClashes, IsToldOf}

cycle_same : (g h : Graph) → SameEdges g h → (c : List ℕ) → IsOddCycle g c → IsOddCycle h c
cycle_same g h same c is = record { three = is.three; odd = is.odd; different = is.different; around = λ k l. (same _ _).0 (is.around k l) }

pub odd_at_same : (g h : Graph) → SameEdges g h → (root : ℕ) → HasOddCycleAt g root → HasOddCycleAt h root
odd_at_same g h same root (c, is, reached) = (c, cycle_same g h same c is, λ k d l. let (n, w) = reached k d l in (n, walk_same g h same w))

reported_at_same : (g h : Graph) → SameEdges g h → (root : ℕ) (c : List ℕ) → IsReportedAt g root c → IsReportedAt h root c
reported_at_same g h same root c r = record {
  edge = r.edge;
  top = r.top;
  us = r.us;
  vs = r.vs;
  on = level_same g h same root r.edge r.on;
  least = λ e l. r.least e (level_same h g (same_back g h same) root e l);
  first = climb_same g h same root r.top r.first;
  second = climb_same g h same root r.top r.second;
  meet = r.meet;
  apart = r.apart;
  is = r.is;
}

cycles_same : (g h : Graph) → SameEdges g h → (cycles : List (List ℕ)) → AreOddCycles g cycles → AreOddCycles h cycles
cycles_same g h same cycles are =
    let back = same_back g h same in
    record {
      roots = are.roots;
      ordered = are.ordered;
      exactly = λ root. (
        λ m. let (top, odd) = (are.exactly root).0 m in (root_same g h same root root top, odd_at_same g h same root odd),
        λ (top, odd). (are.exactly root).1 (root_same h g back root root top, odd_at_same h g back root odd),
      );
      as_many = are.as_many;
      reported = λ k l. reported_at_same g h same (get_or are.roots k 0) (get_or cycles k []) (are.reported k l);
    }

-- a graph without an odd cycle has no component with one
no_cycles : (g : Graph) → ¬ HasOddCycle g → AreOddCycles g []
no_cycles g none = record {
  roots = [];
  ordered = λ i j d l within. absurd (omega (arith, within));
  exactly = λ root. (λ (k, l, at). absurd (omega (arith, l)), λ (top, (c, is, reached)). absurd (none (c, is)));
  as_many = refl;
  reported = λ k l. absurd (omega (arith, l));
}

pub even_none : (spacing : Spacing) (cut : Cut) (joined : Joined) → SumsGraph (conflicts spacing cut) joined → IsEvenBelow (length cut.pieces) joined
    → ¬ HasOddCycle (conflicts spacing cut)
even_none spacing cut joined (edges, are, sums) even odd =
    let same = same_conflicts spacing cut edges are in
    not_odd (length cut.pieces) edges joined even sums (odd_same (conflicts spacing cut) (graph_of edges) (same_back (graph_of edges) (conflicts spacing cut) same) odd)

pub even_clashes : (spacing : Spacing) (overlap : ℕ) (cut : Cut) → ¬ HasOddCycle (conflicts spacing cut) → (found : List Clash) → found ≡ [] → AreClashes spacing overlap cut found
even_clashes spacing overlap cut none found empty = subst (λ xs. AreClashes spacing overlap cut xs) (sym empty) (record {
  cycles = [];
  all = no_cycles (conflicts spacing cut) none;
  odd = λ k d l. absurd (omega (arith, l));
  told = tt;
})

pub odd_each : (spacing : Spacing) (cut : Cut) (edges : List (ℕ × ℕ)) (cycles : List (List ℕ)) → AreEdges (conflicts spacing cut) edges → All (IsOddCycle (graph_of edges)) cycles
    → All (IsOddCycle (conflicts spacing cut)) cycles
odd_each spacing cut edges cycles are odd k d l = cycle_same (graph_of edges) (conflicts spacing cut) (same_conflicts spacing cut edges are) (get_or cycles k d) (odd k d l)

pub odd_clashes : (spacing : Spacing) (overlap : ℕ) (cut : Cut) (edges : List (ℕ × ℕ)) (cycles : List (List ℕ)) (found : List Clash) → AreEdges (conflicts spacing cut) edges
    → AreOddCycles (graph_of edges) cycles → All (IsOddCycle (graph_of edges)) cycles → AllZip (IsToldOf spacing overlap cut) cycles found → AreClashes spacing overlap cut found
odd_clashes spacing overlap cut edges cycles found are all odd told = record {
  cycles = cycles;
  all = cycles_same (graph_of edges) (conflicts spacing cut) (same_conflicts spacing cut edges are) cycles all;
  odd = odd_each spacing cut edges cycles are odd;
  told = told;
}

zip_push : {A B : Type 0} (R : A → B → Type 0) (xs : List A) (ys : List B) (x : A) (y : B) → AllZip R xs ys → R x y → AllZip R (xs ++ x ∷ []) (ys ++ y ∷ [])
zip_push R [] [] x y h r = (r, tt)
zip_push R [] (b ∷ ys) x y h r = absurd h
zip_push R (a ∷ xs) [] x y h r = absurd h
zip_push R (a ∷ xs) (b ∷ ys) x y h r = (h.0, zip_push R xs ys x y h.1 r)

pub told_more : (spacing : Spacing) (overlap : ℕ) (cut : Cut) (cycles : List (List ℕ)) (i : ℕ) (found more : List Clash) (x : Clash) → i < length cycles
    → more ≡ found ++ x ∷ [] → IsToldOf spacing overlap cut (get_or cycles i []) x → AllZip (IsToldOf spacing overlap cut) (take i cycles) found
    → AllZip (IsToldOf spacing overlap cut) (take (i + 1) cycles) more
told_more spacing overlap cut cycles i found more x l longer is told = subst (λ ys. AllZip (IsToldOf spacing overlap cut) (take (i + 1) cycles) ys) (sym longer)
    (subst (λ xs. AllZip (IsToldOf spacing overlap cut) xs (found ++ x ∷ [])) (sym (take_more cycles i [] l))
    (zip_push (IsToldOf spacing overlap cut) (take i cycles) found (get_or cycles i []) x told is))
