-- What the table of least level edges and the cycles that they close say of the components of a graph.
use Rattle.std.proofs.Common.{◌≡◌, ℕ, suc, ◌+◌, ◌<◌, ◌≤◌, ◌⊎◌, inl, inr, Option, Some, None, List, [], ◌∷◌, ◌++◌, reverse, length, get_or, sym, refl, ap, subst, ◌∙◌, arith}
use mathlib.Core.Option.{some-injective}
use Rattle.std.specs.List.{All, AllPairs, Contains}
use Rattle.std.proofs.lemmas.Bool.{cases_eq}
use Rattle.std.proofs.lemmas.List.{get_or_default, get_or_push, get_or_append_left, length_push}
use Rattle.std.proofs.lemmas.List.Elements.{All-nil, All-contains, All-push, All-weaker, All-from_get_or}
use Rattle.std.proofs.lemmas.List.Quantifiers.{all_pairs_push}
use Rattle.dpl_spec_split.specs.Graphs.{Graph, stay, IsDistance, IsRoot, IsOddCycle, Precedes, graph_of}
use Rattle.dpl_spec_split.specs.Cycle.{IsLevelEdge, IsParent, Climb, IsOddRoot, IsReported}
use Rattle.dpl_spec_split.specs.Cycle as cycle
use Rattle.dpl_spec_split.specs.Summary.{HasOddCycle}
use Rattle.dpl_spec_split.proofs.GraphLaws.{distance-unique}
use Rattle.dpl_stars.specs.Laws.{HasLevelEdge, HasOddCycleAt}
use Rattle.dpl_stars.specs.Levels.{AreEdgesBelow, AreLevels}
use Rattle.dpl_stars.proofs.Walks.{graph_of-undirected, root-along, Reaches-sym}
use Rattle.dpl_stars.proofs.Parity.{level-at_root}
use Rattle.dpl_stars.proofs.Search.{graph_of-distances, graph_of-root}
use Rattle.dpl_stars.proofs.ArcLaws.{below-ordered, edge-below}
use Rattle.dpl_stars.proofs.Forks.{Fork, IsPath, path-one, path-more, fork-cycle}
use Rattle.dpl_stars.proofs.OddLaws.{levels-show, roots-show}
use Rattle.dpl_odd.specs.Paths.{IsLevel, IsNotAfter, edge_at, AreLowest, IsForest, IsClosed}
use Rattle.dpl_odd.specs.Tables.{IsLeastAt, IsLeastBelow, AreLeastLevels, IsClosing, AreClosed, start, skips, takes}
use Rattle.dpl_odd.specs.All.{IsReportedAt, AreOddCycles}
use Rattle.dpl_odd.proofs.ReportLaws.{own_root, same_root, listed_level, climb_of}

-- the cycles that are closed, number by number
closed-below : (levels parents : List ℕ) (least : List (Option (ℕ × ℕ))) {n : ℕ} {roots : List ℕ} {cycles : List (List ℕ)}
    → AreClosed levels parents least n roots cycles → All (λ r. r < n) roots
closed-below levels parents least (start {n = n} zero none) = All-nil (λ r. r < n)
closed-below levels parents least (skips {m = m} {n = n} {roots = roots} h none next) =
    All-weaker (λ r. r < m) (λ r. r < n) (λ r l. omega (arith, l, next)) roots (closed-below levels parents least h)
closed-below levels parents least (takes {m = m} {n = n} {roots = roots} h some is next more) = All-push (λ r. r < n) roots m
    (All-weaker (λ r. r < m) (λ r. r < n) (λ r l. omega (arith, l, next)) roots (closed-below levels parents least h)) (omega (arith, next))

closed-ordered : (levels parents : List ℕ) (least : List (Option (ℕ × ℕ))) {n : ℕ} {roots : List ℕ} {cycles : List (List ℕ)}
    → AreClosed levels parents least n roots cycles → AllPairs (λ r s. r < s) roots
closed-ordered levels parents least (start zero none) = λ i j d l within. absurd (omega (arith, within))
closed-ordered levels parents least (skips h none next) = closed-ordered levels parents least h
closed-ordered levels parents least (takes {m = m} {roots = roots} h some is next more) = all_pairs_push (λ r s. r < s) roots m
    (closed-ordered levels parents least h) (λ k d l. closed-below levels parents least h k d l)

closed-many : (levels parents : List ℕ) (least : List (Option (ℕ × ℕ))) {n : ℕ} {roots : List ℕ} {cycles : List (List ℕ)}
    → AreClosed levels parents least n roots cycles → length cycles ≡ length roots
closed-many levels parents least (start zero none) = ap (λ xs. let ys : List (List ℕ) = xs in length ys) none
closed-many levels parents least (skips h none next) = closed-many levels parents least h
closed-many levels parents least (takes {m = m} {roots = roots} {cycles = cycles} {cycle = c} h some is next more) =
    let many = closed-many levels parents least h in
    let left = length_push roots m in
    let right = length_push cycles c in
    ap (λ xs. let ys : List (List ℕ) = xs in length ys) more ∙ (right ∙ (ap (λ k. k + 1) many ∙ sym left))

abbrev pub Closes : List ℕ → List ℕ → List (Option (ℕ × ℕ)) → ℕ → List ℕ → Type 0
Closes levels parents least root c = (e : ℕ × ℕ) × (get_or least root None ≡ Some e) × IsClosed levels parents e.0 e.1 c

closed-each : (levels parents : List ℕ) (least : List (Option (ℕ × ℕ))) {n : ℕ} {roots : List ℕ} {cycles : List (List ℕ)}
    → AreClosed levels parents least n roots cycles → (k : ℕ) → k < length roots → Closes levels parents least (get_or roots k 0) (get_or cycles k [])
closed-each levels parents least (start zero none) k l = absurd (omega (arith, l))
closed-each levels parents least (skips h none next) k l = closed-each levels parents least h k l
closed-each levels parents least (takes {m = m} {roots = roots} {cycles = cycles} {more = more} {e = e} {cycle = c} h some is next longer) k l =
    let many = closed-many levels parents least h in
    let long = length_push roots m in
    elim (cases_eq k (length roots)) [
      | inl same ↦
          let root : m ≡ get_or (roots ++ m ∷ []) k 0 = sym (get_or_push roots m 0 k (sym same)) in
          let this : c ≡ get_or more k [] = sym (ap (λ xs. get_or xs k []) longer ∙ get_or_push cycles c [] k (many ∙ sym same)) in
          subst (λ x. Closes levels parents least x (get_or more k [])) root (subst (λ y. Closes levels parents least m y) this (e, some, is))
      | inr ne ↦
          let k_in : k < length roots = omega (arith, l, long, ne) in
          let root : get_or roots k 0 ≡ get_or (roots ++ m ∷ []) k 0 = sym (get_or_append_left roots (m ∷ []) 0 k k_in) in
          let this : get_or cycles k [] ≡ get_or more k [] = sym (ap (λ xs. get_or xs k []) longer ∙ get_or_append_left cycles (c ∷ []) [] k (omega (arith, k_in, many))) in
          subst (λ x. Closes levels parents least x (get_or more k [])) root
          (subst (λ y. Closes levels parents least (get_or roots k 0) y) this (closed-each levels parents least h k k_in))
    ]

closed-all : (levels parents : List ℕ) (least : List (Option (ℕ × ℕ))) {n : ℕ} {roots : List ℕ} {cycles : List (List ℕ)}
    → AreClosed levels parents least n roots cycles → (r : ℕ) (e : ℕ × ℕ) → r < n → get_or least r None ≡ Some e → Contains roots r
closed-all levels parents least (start zero none) r e l at = absurd (omega (arith, l, zero))
closed-all levels parents least (skips {m = m} h none next) r e l at = elim (cases_eq r m) [
  | inl same ↦ let no : None ≡ Some e = sym none ∙ (ap (λ k. get_or least k None) (sym same) ∙ at) in cc
  | inr ne ↦ closed-all levels parents least h r e (omega (arith, l, next, ne)) at
]
closed-all levels parents least (takes {m = m} {roots = roots} h some is next longer) r e l at =
    let long = length_push roots m in
    elim (cases_eq r m) [
      | inl same ↦ (length roots, omega (arith, long), get_or_push roots m r (length roots) refl ∙ sym same)
      | inr ne ↦
          let (k, k_in, here) = closed-all levels parents least h r e (omega (arith, l, next, ne)) at in
          (k, omega (arith, k_in, long), get_or_append_left roots (m ∷ []) r k k_in ∙ here)
    ]

-- a level edge of the list is level below the least number of its component
level_below : (edges : List (ℕ × ℕ)) (n : ℕ) (roots levels : List ℕ) → AreEdgesBelow n edges → AreLevels edges n roots levels → (root : ℕ) (e : ℕ × ℕ)
    → IsLeastAt roots levels edges (length edges) root e → IsLevelEdge (graph_of edges) root e
level_below edges n roots levels b lv root e h =
    let (k, k_in, at) = h.member in
    let there : Contains edges e = (k, k_in, get_or_default edges k e (0, 0) k_in ∙ at) in
    let joined : graph_of edges e.0 e.1 = inl there in
    let (u_in, v_in) = edge-below n edges b e.0 e.1 joined in
    let other : get_or roots e.1 0 ≡ root = same_root edges n roots levels b lv e.0 e.1 joined ∙ h.below in
    record {
      order = All-contains (λ (x : ℕ × ℕ). x.0 < x.1) edges e (below-ordered n edges b) there;
      joined_by = joined;
      level = (
        get_or levels e.0 0,
        subst (λ r. IsDistance (graph_of edges) r e.0 (get_or levels e.0 0)) h.below (lv.level e.0 u_in),
        subst (λ m. IsDistance (graph_of edges) root e.1 m) (sym h.level)
            (subst (λ r. IsDistance (graph_of edges) r e.1 (get_or levels e.1 0)) other (lv.level e.1 v_in)),
      );
    }

root_of : (edges : List (ℕ × ℕ)) (n : ℕ) (roots levels : List ℕ) → AreEdgesBelow n edges → AreLevels edges n roots levels → (root : ℕ) (e : ℕ × ℕ)
    → IsLeastAt roots levels edges (length edges) root e → IsRoot (graph_of edges) root root
root_of edges n roots levels b lv root e h =
    let on = level_below edges n roots levels b lv root e h in
    let u_in = (edge-below n edges b e.0 e.1 on.joined_by).0 in
    subst (λ r. IsRoot (graph_of edges) r r) h.below (own_root edges n roots levels b lv e.0 u_in)

pub closing-of : (edges : List (ℕ × ℕ)) (n : ℕ) (roots levels : List ℕ) → AreEdgesBelow n edges → AreLevels edges n roots levels → (least : List (Option (ℕ × ℕ)))
    → AreLeastLevels roots levels edges (length edges) least → (e : ℕ × ℕ) → Contains least (Some e) → IsClosing n roots levels e
closing-of edges n roots levels b lv least table e (root, root_in, at) =
    let is : get_or least root None ≡ Some e = get_or_default least root None (Some e) root_in ∙ at in
    let h : IsLeastAt roots levels edges (length edges) root e = subst (λ o. IsLeastBelow roots levels edges (length edges) root o) is (table.each root root_in) in
    let on = level_below edges n roots levels b lv root e h in
    let (u_in, v_in) = edge-below n edges b e.0 e.1 on.joined_by in
    let order = on.order in
    record {
      first_in = u_in;
      second_in = v_in;
      apart = λ same. omega (arith, order, same);
      root = sym (same_root edges n roots levels b lv e.0 e.1 on.joined_by);
      level = h.level;
    }

reported_at : (edges : List (ℕ × ℕ)) (n : ℕ) (roots levels parents : List ℕ) → AreEdgesBelow n edges → AreLevels edges n roots levels
    → AreLowest (graph_of edges) n levels parents → (root : ℕ) (e : ℕ × ℕ) → IsLeastAt roots levels edges (length edges) root e
    → (cycle : List ℕ) → IsClosed levels parents e.0 e.1 cycle → IsReportedAt (graph_of edges) root cycle
reported_at edges n roots levels parents b lv low root e h found c =
    let on = level_below edges n roots levels b lv root e h in
    let top = root_of edges n roots levels b lv root e h in
    let (u_in, v_in) = edge-below n edges b e.0 e.1 on.joined_by in
    let meet = c.meet in
    let height = c.height in
    let level = h.level in
    let below = h.below in
    record {
      edge = e;
      top = c.top;
      us = c.us;
      vs = c.vs;
      on = on;
      least = λ f is.
          let (there, root_f, level_f) = listed_level edges n roots levels b lv root top f is in
          let (k, k_in, at) = there in
          let after : IsNotAfter roots e f = subst (λ x. IsNotAfter roots e x) at
          (h.least k k_in (subst (λ x. IsLevel levels x) (sym at) level_f) (subst (λ (x : ℕ × ℕ). get_or roots x.0 0 ≡ root) (sym at) root_f)) in
          elim after [ inl less ↦ absurd (omega (arith, less, root_f, below)) | inr (same, p) ↦ p ];
      first = climb_of edges n roots levels parents b lv low root c.first u_in below height;
      second = climb_of edges n roots levels parents b lv low root c.second v_in (same_root edges n roots levels b lv e.0 e.1 on.joined_by ∙ below) (omega (arith, meet, height, level));
      meet = meet;
      apart = c.apart;
      is = c.is;
    }

-- the least edge of a component with an odd cycle is in the table
entry_of : (edges : List (ℕ × ℕ)) (n : ℕ) (roots levels : List ℕ) → AreEdgesBelow n edges → AreLevels edges n roots levels → (root : ℕ)
    → IsRoot (graph_of edges) root root → HasLevelEdge (graph_of edges) root → (o : Option (ℕ × ℕ))
    → IsLeastBelow roots levels edges (length edges) root o → (e : ℕ × ℕ) × (o ≡ Some e)
entry_of edges n roots levels b lv root top (f, is) None h =
    let (there, root_f, level_f) = listed_level edges n roots levels b lv root top f is in
    let (k, k_in, at) = there in
    absurd (h k k_in (subst (λ x. IsLevel levels x) (sym at) level_f) (subst (λ (x : ℕ × ℕ). get_or roots x.0 0 ≡ root) (sym at) root_f))
entry_of edges n roots levels b lv root top (f, is) (Some e) h = (e, refl)

root_in : (edges : List (ℕ × ℕ)) (n : ℕ) (root : ℕ) → AreEdgesBelow n edges → HasLevelEdge (graph_of edges) root → IsRoot (graph_of edges) root root → root < n
root_in edges n root b (e, is) top =
    let (m, first, second) = is.level in
    let un = graph_of-undirected edges (below-ordered n edges b) in
    let at : IsRoot (graph_of edges) e.0 root = root-along (graph_of edges) un root e.0 root (m, first.walk) top in
    let low = at.least e.0 (0, stay) in
    let u_in = (edge-below n edges b e.0 e.1 is.joined_by).0 in
    omega (arith, low, u_in)

pub cycles-of : (edges : List (ℕ × ℕ)) (n : ℕ) (roots levels parents : List ℕ) → AreEdgesBelow n edges → AreLevels edges n roots levels
    → AreLowest (graph_of edges) n levels parents → (least : List (Option (ℕ × ℕ))) → AreLeastLevels roots levels edges (length edges) least
    → (tops : List ℕ) (cycles : List (List ℕ)) → AreClosed levels parents least (length least) tops cycles → AreOddCycles (graph_of edges) cycles
cycles-of edges n roots levels parents b lv low least table tops cycles h =
    let as_many = table.as_many in
    let levels_many = lv.as_many_levels in
    let o = below-ordered n edges b in
    let at : (k : ℕ) → k < length tops → (e : ℕ × ℕ) × IsLeastAt roots levels edges (length edges) (get_or tops k 0) e × IsClosed levels parents e.0 e.1 (get_or cycles k []) =
    λ k l.
    let (e, is, c) = closed-each levels parents least h k l in
    let inside = closed-below levels parents least h k 0 l in
    (e, subst (λ x. IsLeastBelow roots levels edges (length edges) (get_or tops k 0) x) is (table.each (get_or tops k 0) inside), c) in
    record {
      roots = tops;
      ordered = closed-ordered levels parents least h;
      exactly = λ root. (
        λ (k, l, here).
            let (e, is, c) = at k l in
            let same : get_or tops k 0 ≡ root = get_or_default tops k 0 root l ∙ here in
            let there : IsLeastAt roots levels edges (length edges) root e = subst (λ r. IsLeastAt roots levels edges (length edges) r e) same is in
            (root_of edges n roots levels b lv root e there, (levels-show edges o root).1 (e, level_below edges n roots levels b lv root e there)),
        λ (top, odd).
            let edge = (levels-show edges o root).0 odd in
            let inside : root < length least = (let l = root_in edges n root b edge top in omega (arith, l, as_many, levels_many)) in
            let (e, is) = entry_of edges n roots levels b lv root top edge (get_or least root None) (table.each root inside) in
            closed-all levels parents least h root e inside is,
      );
      as_many = closed-many levels parents least h;
      reported = λ k l. let (e, is, c) = at k l in reported_at edges n roots levels parents b lv low (get_or tops k 0) e is (get_or cycles k []) c;
    }

-- climbing through parents is a path, and two of them from one edge are an odd cycle
climb_top : (joined : Graph) {root top v : ℕ} {us : List ℕ} → Climb joined root top v us → (t : ℕ) × IsDistance joined root top t
climb_top joined (cycle.last p) = (p.level.0, p.level.1)
climb_top joined (cycle.up p c) = climb_top joined c

climb_from : (joined : Graph) {root top v : ℕ} {us : List ℕ} → Climb joined root top v us → get_or us 0 0 ≡ v
climb_from joined (cycle.last p) = refl
climb_from joined (cycle.up p c) = refl

climb_path : (joined : Graph) {root top v : ℕ} (t : ℕ) {us : List ℕ} → IsDistance joined root top t → Climb joined root top v us → IsPath joined root top t us
climb_path joined {root = root} {top = top} {v = v} t at (cycle.last p) =
    let (n, above, below) = p.level in
    let same : n ≡ t = distance-unique joined root top n t above at in
    path-one joined root top t v p.joined_by (subst (λ k. IsDistance joined root v k) (omega (arith, same)) below)
climb_path joined {root = root} {top = top} {v = v} t at (cycle.up {u = u} {us = us} p c) =
    let (n, above, below) = p.level in
    let path = climb_path joined t at c in
    let from = climb_from joined c in
    let some = path.some in
    let same : n ≡ t + length us = distance-unique joined root u n (t + length us) above
    (subst (λ x. IsDistance joined root x (t + length us)) from (path.levels 0 (t + length us) some (omega arith))) in
    path-more joined root top t v us (subst (λ x. joined v x) (sym from) p.joined_by) (subst (λ k. IsDistance joined root v k) (omega (arith, same)) below) path

odd_at : (edges : List (ℕ × ℕ)) (n : ℕ) → AreEdgesBelow n edges → (root : ℕ) (found : List ℕ) → IsReportedAt (graph_of edges) root found → IsOddCycle (graph_of edges) found
odd_at edges n b root found r =
    let (t, at) = climb_top (graph_of edges) r.first in
    let f : Fork (graph_of edges) root r.edge.0 r.edge.1 r.top r.us r.vs = record {
      t = t;
      level = at;
      first = climb_path (graph_of edges) t at r.first;
      second = climb_path (graph_of edges) t at r.second;
      meet = r.meet;
      from_u = climb_from (graph_of edges) r.first;
      from_v = climb_from (graph_of edges) r.second;
      apart = r.apart;
    } in
    subst (λ c. IsOddCycle (graph_of edges) c) (sym r.is) (fork-cycle (graph_of edges) (graph_of-undirected edges (below-ordered n edges b)) f r.on.joined_by)

pub all-odd : (edges : List (ℕ × ℕ)) (n : ℕ) → AreEdgesBelow n edges → (cycles : List (List ℕ)) → AreOddCycles (graph_of edges) cycles → All (IsOddCycle (graph_of edges)) cycles
all-odd edges n b cycles are = All-from_get_or (IsOddCycle (graph_of edges)) cycles []
    (λ k l. let many = are.as_many in odd_at edges n b (get_or are.roots k 0) (get_or cycles k []) (are.reported k (omega (arith, l, many))))

pub none-left : (edges : List (ℕ × ℕ)) (n : ℕ) → AreEdgesBelow n edges → (cycles : List (List ℕ)) → AreOddCycles (graph_of edges) cycles → cycles ≡ [] → HasOddCycle (graph_of edges) → ⊥
none-left edges n b cycles are none odd =
    let o = below-ordered n edges b in
    let (root, top, edge) = (roots-show edges o).0 odd in
    let (k, l, at) = (are.exactly root).1 (top, (levels-show edges o root).1 edge) in
    let many = are.as_many in
    let empty : length cycles ≡ 0 = ap (λ xs. let ys : List (List ℕ) = xs in length ys) none in
    omega (arith, l, many, empty)

-- the first is that of the whole graph
pub first-reported : (edges : List (ℕ × ℕ)) (n : ℕ) → AreEdgesBelow n edges → (cycles : List (List ℕ)) → AreOddCycles (graph_of edges) cycles
    → 0 < length cycles → IsReported (graph_of edges) (get_or cycles 0 [])
first-reported edges n b cycles are some =
    let o = below-ordered n edges b in
    let un = graph_of-undirected edges o in
    let many = are.as_many in
    let some_root : 0 < length are.roots = omega (arith, some, many) in
    let root : ℕ = get_or are.roots 0 0 in
    let r = are.reported 0 some_root in
    let lowest : (s : ℕ) → Contains are.roots s → root ≤ s = λ s (k, l, at).
    let same : get_or are.roots k 0 ≡ s = get_or_default are.roots k 0 s l ∙ at in
    elim (cases_eq k 0) [
      | inl zero ↦ (let e : get_or are.roots k 0 ≡ root = ap (λ j. get_or are.roots j 0) zero in omega (arith, e, same))
      | inr ne ↦ (let less = are.ordered 0 k 0 (omega (arith, ne)) l in omega (arith, less, same))
    ] in
    record {
      root = root;
      edge = r.edge;
      top = r.top;
      us = r.us;
      vs = r.vs;
      odd = record {
        has = (r.edge, r.on);
        least = λ s f is.
            let (t, of_s) = graph_of-root edges s in
            let low = of_s.least s (0, stay) in
            let top : IsRoot (graph_of edges) t t = root-along (graph_of edges) un s t t (Reaches-sym (graph_of edges) un of_s.reached) of_s in
            let edge = level-at_root (graph_of edges) un t s (graph_of-distances edges t) of_s.reached (f, is) in
            let first = lowest t ((are.exactly t).1 (top, (levels-show edges o t).1 edge)) in
            omega (arith, low, first);
      };
      on = r.on;
      least = r.least;
      first = r.first;
      second = r.second;
      meet = r.meet;
      apart = r.apart;
      is = r.is;
    }
