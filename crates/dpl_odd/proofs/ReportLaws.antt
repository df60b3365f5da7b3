-- What the levels, the least level edge and the parents say of the reported cycle.
use Rattle.std.proofs.Common.{◌≡◌, ℕ, suc, ◌+◌, ◌-◌, ◌<◌, ◌≤◌, ◌⊎◌, inl, inr, None, List, length, get_or, sym, refl, ap, subst, ◌∙◌, arith}
use Rattle.std.proofs.lemmas.List.{get_or_default}
use Rattle.std.specs.List.{Contains}
use Rattle.std.proofs.lemmas.List.Elements.{All-contains}
use Rattle.dpl_spec_split.specs.Graphs.{stay, step, IsDistance, IsRoot, IsOddCycle, Precedes, graph_of}
use Rattle.dpl_spec_split.specs.Cycle.{IsLevelEdge, IsParent, Climb, IsOddRoot, IsReported}
use Rattle.dpl_spec_split.specs.Cycle as cycle
use Rattle.dpl_spec_split.specs.Summary.{HasOddCycle}
use Rattle.dpl_spec_split.proofs.GraphLaws.{distance-unique, root-unique}
use Rattle.dpl_stars.specs.Levels.{AreEdgesBelow, AreLevels}
use Rattle.dpl_stars.proofs.Walks.{graph_of-undirected, root-along, Reaches-sym, distance-step, distance-zero, distance-before}
use Rattle.dpl_stars.proofs.Parity.{level-at_root}
use Rattle.dpl_stars.proofs.Search.{graph_of-distances, graph_of-root}
use Rattle.dpl_stars.proofs.ArcLaws.{below-ordered, edge-below}
use Rattle.dpl_stars.proofs.OddLaws.{roots-show, reported-is_odd}
use Rattle.dpl_odd.specs.Paths.{IsLevel, IsNotAfter, edge_at, IsLeastOf, IsLeastLevel, AreLowest, IsForest, IsPathTo, last, up, IsClosed}

-- the root and the level of a number at some distance from its root
pub placed : (edges : List (ℕ × ℕ)) (n : ℕ) (roots levels : List ℕ) → AreEdgesBelow n edges → AreLevels edges n roots levels → (root v m : ℕ)
    → v < n → IsRoot (graph_of edges) root root → IsDistance (graph_of edges) root v m → (get_or roots v 0 ≡ root) × (get_or levels v 0 ≡ m)
placed edges n roots levels b lv root v m v_in top a =
    let un = graph_of-undirected edges (below-ordered n edges b) in
    let is : IsRoot (graph_of edges) v root = root-along (graph_of edges) un root v root (m, a.walk) top in
    let same : get_or roots v 0 ≡ root = root-unique (graph_of edges) v (get_or roots v 0) root (lv.root v v_in) is in
    (same, distance-unique (graph_of edges) root v (get_or levels v 0) m (subst (λ r. IsDistance (graph_of edges) r v (get_or levels v 0)) same (lv.level v v_in)) a)

pub own_root : (edges : List (ℕ × ℕ)) (n : ℕ) (roots levels : List ℕ) → AreEdgesBelow n edges → AreLevels edges n roots levels → (v : ℕ)
    → v < n → IsRoot (graph_of edges) (get_or roots v 0) (get_or roots v 0)
own_root edges n roots levels b lv v v_in =
    let un = graph_of-undirected edges (below-ordered n edges b) in
    let is = lv.root v v_in in
    root-along (graph_of edges) un v (get_or roots v 0) (get_or roots v 0) (Reaches-sym (graph_of edges) un is.reached) is

-- neighbours have one root
pub same_root : (edges : List (ℕ × ℕ)) (n : ℕ) (roots levels : List ℕ) → AreEdgesBelow n edges → AreLevels edges n roots levels → (u v : ℕ)
    → graph_of edges u v → get_or roots v 0 ≡ get_or roots u 0
same_root edges n roots levels b lv u v joined =
    let un = graph_of-undirected edges (below-ordered n edges b) in
    let (u_in, v_in) = edge-below n edges b u v joined in
    root-unique (graph_of edges) v (get_or roots v 0) (get_or roots u 0) (lv.root v v_in)
    (root-along (graph_of edges) un u v (get_or roots u 0) (1, step joined stay) (lv.root u u_in))

-- a level edge below the least number of its component stands in the list, with the levels of its ends alike
pub listed_level : (edges : List (ℕ × ℕ)) (n : ℕ) (roots levels : List ℕ) → AreEdgesBelow n edges → AreLevels edges n roots levels → (root : ℕ)
    → IsRoot (graph_of edges) root root → (e : ℕ × ℕ) → IsLevelEdge (graph_of edges) root e
    → ((k : ℕ) × (k < length edges) × (edge_at edges k ≡ e)) × (get_or roots e.0 0 ≡ root) × IsLevel levels e
listed_level edges n roots levels b lv root top e is =
    let (m, first, second) = is.level in
    let (u_in, v_in) = edge-below n edges b e.0 e.1 is.joined_by in
    let (root_u, level_u) = placed edges n roots levels b lv root e.0 m u_in top first in
    let (root_v, level_v) = placed edges n roots levels b lv root e.1 m v_in top second in
    let there : Contains edges e = elim is.joined_by [
      | inl h ↦ h
      | inr h ↦ absurd (let l : e.1 < e.0 = All-contains (λ (x : ℕ × ℕ). x.0 < x.1) edges (e.1, e.0) (below-ordered n edges b) h in let o = is.order in omega (arith, l, o))
    ] in
    let (k, k_in, at) = there in
    ((k, k_in, get_or_default edges k (0, 0) e k_in ∙ at), root_u, level_u ∙ sym level_v)

pub none-even : (edges : List (ℕ × ℕ)) (n : ℕ) (roots levels : List ℕ) → AreEdgesBelow n edges → AreLevels edges n roots levels
    → IsLeastLevel roots levels edges (length edges) None → HasOddCycle (graph_of edges) → ⊥
none-even edges n roots levels b lv none has =
    let (root, top, (e, is)) = (roots-show edges (below-ordered n edges b)).0 has in
    let (there, root_e, level) = listed_level edges n roots levels b lv root top e is in
    let (k, k_in, at) = there in
    none k k_in (subst (λ x. IsLevel levels x) (sym at) level)

-- the least level edge is level below its root
found_level : (edges : List (ℕ × ℕ)) (n : ℕ) (roots levels : List ℕ) → AreEdgesBelow n edges → AreLevels edges n roots levels → (e : ℕ × ℕ)
    → IsLeastOf roots levels edges (length edges) e → IsLevelEdge (graph_of edges) (get_or roots e.0 0) e
found_level edges n roots levels b lv e h =
    let (k, k_in, at) = h.member in
    let there : Contains edges e = (k, k_in, get_or_default edges k e (0, 0) k_in ∙ at) in
    let joined : graph_of edges e.0 e.1 = inl there in
    let (u_in, v_in) = edge-below n edges b e.0 e.1 joined in
    record {
      order = All-contains (λ (x : ℕ × ℕ). x.0 < x.1) edges e (below-ordered n edges b) there;
      joined_by = joined;
      level = (
        get_or levels e.0 0,
        lv.level e.0 u_in,
        subst (λ m. IsDistance (graph_of edges) (get_or roots e.0 0) e.1 m) (sym h.level)
            (subst (λ r. IsDistance (graph_of edges) r e.1 (get_or levels e.1 0)) (same_root edges n roots levels b lv e.0 e.1 joined)
            (lv.level e.1 v_in)),
      );
    }

-- its root is at most the root of each level edge
least_root : (edges : List (ℕ × ℕ)) (n : ℕ) (roots levels : List ℕ) → AreEdgesBelow n edges → AreLevels edges n roots levels → (e : ℕ × ℕ)
    → IsLeastOf roots levels edges (length edges) e
    → (r : ℕ) (f : ℕ × ℕ) → IsLevelEdge (graph_of edges) r f → get_or roots e.0 0 ≤ r
least_root edges n roots levels b lv e h r f is =
    let un = graph_of-undirected edges (below-ordered n edges b) in
    let (root, of_r) = graph_of-root edges r in
    let low : root ≤ r = of_r.least r (0, stay) in
    let top : IsRoot (graph_of edges) root root = root-along (graph_of edges) un r root root (Reaches-sym (graph_of edges) un of_r.reached) of_r in
    let (g, level) = level-at_root (graph_of edges) un root r (graph_of-distances edges root) of_r.reached (f, is) in
    let (there, root_g, level_g) = listed_level edges n roots levels b lv root top g level in
    let (k, k_in, at) = there in
    let after : IsNotAfter roots e g = subst (λ x. IsNotAfter roots e x) at (h.least k k_in (subst (λ x. IsLevel levels x) (sym at) level_g)) in
    elim after [ inl less ↦ omega (arith, less, root_g, low) | inr (same, p) ↦ omega (arith, same, root_g, low) ]

least_edge : (edges : List (ℕ × ℕ)) (n : ℕ) (roots levels : List ℕ) → AreEdgesBelow n edges → AreLevels edges n roots levels → (e : ℕ × ℕ)
    → IsLeastOf roots levels edges (length edges) e
    → (f : ℕ × ℕ) → IsLevelEdge (graph_of edges) (get_or roots e.0 0) f → (e ≡ f) ⊎ Precedes e f
least_edge edges n roots levels b lv e h f is =
    let (j, j_in, here) = h.member in
    let there : Contains edges e = (j, j_in, get_or_default edges j e (0, 0) j_in ∙ here) in
    let u_in : e.0 < n = (edge-below n edges b e.0 e.1 (inl there)).0 in
    let (found, root_f, level_f) = listed_level edges n roots levels b lv (get_or roots e.0 0) (own_root edges n roots levels b lv e.0 u_in) f is in
    let (k, k_in, at) = found in
    let after : IsNotAfter roots e f = subst (λ x. IsNotAfter roots e x) at (h.least k k_in (subst (λ x. IsLevel levels x) (sym at) level_f)) in
    elim after [ inl less ↦ absurd (omega (arith, less, root_f)) | inr (same, p) ↦ p ]

-- the parent of a number that is no root
parent_of : (edges : List (ℕ × ℕ)) (n : ℕ) (roots levels parents : List ℕ) → AreEdgesBelow n edges → AreLevels edges n roots levels
    → AreLowest (graph_of edges) n levels parents → (v : ℕ) → v < n → 0 < get_or levels v 0
    → graph_of edges v (get_or parents v 0) × (get_or levels (get_or parents v 0) 0 < get_or levels v 0)
parent_of edges n roots levels parents b lv low v v_in high =
    let un = graph_of-undirected edges (below-ordered n edges b) in
    let m : ℕ = get_or levels v 0 - 1 in
    let (u, joined, a) = distance-before (graph_of edges) un (get_or roots v 0) v (get_or levels v 0) m (lv.level v v_in) (omega (arith, high)) in
    let u_in : u < n = (edge-below n edges b v u joined).1 in
    let level_u : get_or levels u 0 ≡ m = (placed edges n roots levels b lv (get_or roots v 0) u m u_in (own_root edges n roots levels b lv v v_in) a).1 in
    let small = low.least v u v_in joined (omega (arith, level_u, high)) in
    elim (low.found v v_in) [
      | inl missing ↦ absurd (omega (arith, missing, small, u_in))
      | inr found ↦ found
    ]

lower_by_one : (edges : List (ℕ × ℕ)) (n : ℕ) (roots levels : List ℕ) → AreEdgesBelow n edges → AreLevels edges n roots levels → (v p : ℕ)
    → graph_of edges v p → get_or levels p 0 < get_or levels v 0 → get_or levels v 0 ≡ suc (get_or levels p 0)
lower_by_one edges n roots levels b lv v p joined less =
    let un = graph_of-undirected edges (below-ordered n edges b) in
    let (v_in, p_in) = edge-below n edges b v p joined in
    let root = same_root edges n roots levels b lv v p joined in
    let at : IsDistance (graph_of edges) (get_or roots v 0) p (get_or levels p 0) = subst (λ r. IsDistance (graph_of edges) r p (get_or levels p 0)) root (lv.level p p_in) in
    let near = distance-step (graph_of edges) (get_or roots v 0) p v (get_or levels p 0) (get_or levels v 0) at (un.both v p joined) (lv.level v v_in) in
    omega (arith, near, less)

pub forest-of : (edges : List (ℕ × ℕ)) (n : ℕ) (roots levels parents : List ℕ) → AreEdgesBelow n edges → AreLevels edges n roots levels
    → AreLowest (graph_of edges) n levels parents → IsForest n roots levels parents
forest-of edges n roots levels parents b lv low = record {
  as_many_parents = low.as_many;
  tops = λ v v_in none. distance-zero (graph_of edges) (get_or roots v 0) v (get_or levels v 0) (lv.level v v_in) none;
  inside = λ v v_in high. (edge-below n edges b v (get_or parents v 0) (parent_of edges n roots levels parents b lv low v v_in high).0).1;
  same = λ v v_in high. same_root edges n roots levels b lv v (get_or parents v 0) (parent_of edges n roots levels parents b lv low v v_in high).0;
  lower = λ v v_in high. let (joined, less) = parent_of edges n roots levels parents b lv low v v_in high in
      lower_by_one edges n roots levels b lv v (get_or parents v 0) joined less;
}

is_parent : (edges : List (ℕ × ℕ)) (n : ℕ) (roots levels parents : List ℕ) → AreEdgesBelow n edges → AreLevels edges n roots levels
    → AreLowest (graph_of edges) n levels parents → (v p : ℕ) → v < n → 0 < get_or levels v 0
    → get_or parents v 0 ≡ p → IsParent (graph_of edges) (get_or roots v 0) v p
is_parent edges n roots levels parents b lv low v p v_in high is =
    let (joined_to, less_than) = parent_of edges n roots levels parents b lv low v v_in high in
    let joined : graph_of edges v p = subst (λ x. graph_of edges v x) is joined_to in
    let less : get_or levels p 0 < get_or levels v 0 = subst (λ x. get_or levels x 0 < get_or levels v 0) is less_than in
    let one = lower_by_one edges n roots levels b lv v p joined less in
    let p_in : p < n = (edge-below n edges b v p joined).1 in
    let top = own_root edges n roots levels b lv v v_in in
    let at : IsDistance (graph_of edges) (get_or roots v 0) p (get_or levels p 0) = subst
    (λ r. IsDistance (graph_of edges) r p (get_or levels p 0)) (same_root edges n roots levels b lv v p joined) (lv.level p p_in) in
    let next : get_or levels v 0 ≡ get_or levels p 0 + 1 = omega (arith, one) in
    record {
      joined_by = joined;
      level = (get_or levels p 0, at, subst (λ m. IsDistance (graph_of edges) (get_or roots v 0) v m) next (lv.level v v_in));
      least = λ u m joined_u a here.
          let u_in : u < n = (edge-below n edges b v u joined_u).1 in
          let level_u = (placed edges n roots levels b lv (get_or roots v 0) u m u_in top a).1 in
          let level_v = (placed edges n roots levels b lv (get_or roots v 0) v (m + 1) v_in top here).1 in
          let small = low.least v u v_in joined_u (omega (arith, level_u, level_v)) in
          omega (arith, small, is);
    }

pub climb_of : (edges : List (ℕ × ℕ)) (n : ℕ) (roots levels parents : List ℕ) → AreEdgesBelow n edges → AreLevels edges n roots levels
    → AreLowest (graph_of edges) n levels parents → (root : ℕ) {top v : ℕ} {us : List ℕ} → IsPathTo parents top v us
    → v < n → get_or roots v 0 ≡ root → get_or levels top 0 + length us ≡ get_or levels v 0 → Climb (graph_of edges) root top v us
climb_of edges n roots levels parents b lv low root {top = top} {v = v} (last e) v_in is height =
    cycle.last (subst (λ r. IsParent (graph_of edges) r v top) is (is_parent edges n roots levels parents b lv low v top v_in (omega (arith, height)) e))
climb_of edges n roots levels parents b lv low root {top = top} {v = v} (up {u = u} {us = us} e path) v_in is height =
    let high : 0 < get_or levels v 0 = omega (arith, height) in
    let parent : IsParent (graph_of edges) root v u = subst (λ r. IsParent (graph_of edges) r v u) is (is_parent edges n roots levels parents b lv low v u v_in high e) in
    let f = forest-of edges n roots levels parents b lv low in
    let one : get_or levels v 0 ≡ suc (get_or levels u 0) = f.lower v v_in high ∙ ap (λ x. suc (get_or levels x 0)) e in
    cycle.up parent (climb_of edges n roots levels parents b lv low root path
    (subst (λ x. x < n) e (f.inside v v_in high)) (ap (λ x. get_or roots x 0) (sym e) ∙ (f.same v v_in high ∙ is)) (omega (arith, height, one)))

pub reported-of : (edges : List (ℕ × ℕ)) (n : ℕ) (roots levels parents : List ℕ) → AreEdgesBelow n edges → AreLevels edges n roots levels
    → AreLowest (graph_of edges) n levels parents → (e : ℕ × ℕ) → IsLeastOf roots levels edges (length edges) e
    → (cycle : List ℕ) → IsClosed levels parents e.0 e.1 cycle → IsReported (graph_of edges) cycle
reported-of edges n roots levels parents b lv low e h found c =
    let root : ℕ = get_or roots e.0 0 in
    let on = found_level edges n roots levels b lv e h in
    let (u_in, v_in) = edge-below n edges b e.0 e.1 on.joined_by in
    let meet = c.meet in
    let height = c.height in
    let level = h.level in
    record {
      root = root;
      edge = e;
      top = c.top;
      us = c.us;
      vs = c.vs;
      odd = record { has = (e, on); least = least_root edges n roots levels b lv e h };
      on = on;
      least = least_edge edges n roots levels b lv e h;
      first = climb_of edges n roots levels parents b lv low root c.first u_in refl height;
      second = climb_of edges n roots levels parents b lv low root c.second v_in (same_root edges n roots levels b lv e.0 e.1 on.joined_by) (omega (arith, meet, height, level));
      meet = meet;
      apart = c.apart;
      is = c.is;
    }

pub reported-odd : (edges : List (ℕ × ℕ)) (n : ℕ) → AreEdgesBelow n edges → (cycle : List ℕ) → IsReported (graph_of edges) cycle → IsOddCycle (graph_of edges) cycle
reported-odd edges n b cycle r = reported-is_odd edges (below-ordered n edges b) cycle r

-- both ends of the least level edge have one root
pub level-root : (edges : List (ℕ × ℕ)) (n : ℕ) (roots levels : List ℕ) → AreEdgesBelow n edges → AreLevels edges n roots levels
    → (e : ℕ × ℕ) → IsLeastOf roots levels edges (length edges) e → get_or roots e.0 0 ≡ get_or roots e.1 0
level-root edges n roots levels b lv e h = sym (same_root edges n roots levels b lv e.0 e.1 (found_level edges n roots levels b lv e h).joined_by)
