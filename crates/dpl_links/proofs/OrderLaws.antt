-- Steps of a search for an order.
use Rattle.std.proofs.Common.{◌≡◌, ◌≢◌, ℕ, ◌+◌, ◌*◌, ◌<◌, ◌≤◌, inl, inr, ⊎_elim, Bool, true, false, not, cond, List, [], ◌∷◌, ◌++◌, Some}
use Rattle.std.proofs.Common.{None, length, get_or, set, replicate, refl, sym, ap, ◌∙◌, arith, length-append, length-set, get_or-set_other}
use Rattle.std.proofs.Common.{get_or-set_same}
use Rattle.std.proofs.Math.Seq.{get_or-append_seam}
use Rattle.std.proofs.lemmas.Bool.{cases_lt}
use Rattle.std.proofs.lemmas.List.{get_or_append_left, get_or_default, length-replicate}
use Rattle.std.proofs.lemmas.Option.{slice_get_past, slice_get-get_or}
use Rattle.std.specs.Prelude.{slice_get}
use Rattle.std.proofs.lemmas.List.Sums.{sum_by-append, sum_by-cons, get_or-le-sum_by}
use Rattle.std.proofs.lemmas.List.Folds.{sum_by-replicate}
use Rattle.std.proofs.lemmas.List.Elements.{Contains-append_left, Contains-push, Contains-push_cases, Contains-get_or}
use Rattle.std.specs.List.{Contains, sum_by}
use Rattle.dpl_spec_split.proofs.Ordered.{Contains-nil}
use Rattle.dpl_links.specs.Graph.{targets_at, LeadsTo, Reaches, here, on, IsMarked}
use Rattle.dpl_links.specs.Marks.{unmarked}
use Rattle.dpl_links.specs.Order.{IsOrder, HasCycle, end_of, IsPathTo, begins, goes_on, IsLast, IsOwnPlace, IsShut, IsSearch, to_go, left}
use Rattle.dpl_links.specs.declared.order.Visit.{Visit}
use Rattle.dpl_links.proofs.MarkLaws.{marked_here, marked_there, marked_cases, one_less}
use Rattle.dpl_links.proofs.SpreadLaws.{Reaches-then, kept_closed, marked_below, none_marked}

pub snoc_same : {X : Type 0} (xs ys : List X) (x y : X) → xs ++ x ∷ [] ≡ ys ++ y ∷ [] → (xs ≡ ys) × (x ≡ y)
snoc_same [] [] x y e = (refl, let f : x ∷ [] ≡ y ∷ [] = e in cc)
snoc_same [] (b ∷ ys) x y e = absurd (omega (arith, ap length e, length-append ys (y ∷ [])))
snoc_same (a ∷ xs) [] x y e = absurd (omega (arith, ap length e, length-append xs (x ∷ [])))
snoc_same (a ∷ xs) (b ∷ ys) x y e =
    let f : a ∷ (xs ++ x ∷ []) ≡ b ∷ (ys ++ y ∷ []) = e in
    let g : xs ++ x ∷ [] ≡ ys ++ y ∷ [] = cc in
    let h : a ≡ b = cc in
    let r = snoc_same xs ys x y g in
    let s : xs ≡ ys = r.0 in
    ((cc), r.1)

no_snoc : {X : Type 0} (xs : List X) (x : X) (ys : List X) → length ys ≡ 0 → ys ≡ xs ++ x ∷ [] → ⊥
no_snoc xs x ys none e = absurd (omega (arith, none, ap length e, length-append xs (x ∷ [])))

-- ---- paths

path_found : {graph : List (List ℕ)} {found closed : List Bool} {path : List Visit} {x : ℕ} (w : ℕ) → w < length found
    → IsPathTo graph found closed path x → IsPathTo graph (set found w true) closed path x
path_found w h (begins none) = begins none
path_found {found = found} w h (goes_on rest v e p way fresh) = goes_on rest v e (path_found w h p) (record {
  was_found = marked_there found w v.vertex h way.was_found;
  unshut = way.unshut;
  edge = way.edge;
  gone = way.gone;
}) fresh

path_kept : {graph : List (List ℕ)} {found closed : List Bool} {path : List Visit} {x : ℕ} (w : ℕ) → w < length closed
    → ((u : Visit) → Contains path u → u.vertex ≢ w) → IsPathTo graph found closed path x → IsPathTo graph found (set closed w true) path x
path_kept w h apart (begins none) = begins none
path_kept {graph = graph} {closed = closed} {path = path} {x = x} w h apart (goes_on rest v e p way fresh) = goes_on rest v e
    (path_kept w h (λ u c. apart u (rw e (Contains-append_left rest (v ∷ []) u c))) p) (record {
      was_found = way.was_found;
      unshut = λ m. ⊎_elim (λ y. way.unshut y) (λ y. absurd (apart v (rw e (Contains-push rest v)) y)) (marked_cases closed w v.vertex m);
      edge = way.edge;
      gone = λ i l. ⊎_elim (λ y. inl (marked_there closed w (end_of graph v.vertex i) h y)) (λ y. inr y) (way.gone i l);
    }) fresh

path_is_found : {graph : List (List ℕ)} {found closed : List Bool} {path : List Visit} {x : ℕ} (u : Visit)
    → IsPathTo graph found closed path x → Contains path u → IsMarked found u.vertex
path_is_found u (begins none) c = absurd (omega (arith, c.1, none))
path_is_found u (goes_on rest v e p way fresh) c =
    ⊎_elim (λ y. path_is_found u p y) (λ (y : v ≡ u). rw (← y) way.was_found) (Contains-push_cases rest v u (rw e at c))

way_back : {graph : List (List ℕ)} {found closed : List Bool} {path : List Visit} {x : ℕ} (u : Visit) → IsPathTo graph found closed path x
    → Contains path u → Reaches graph u.vertex x
way_back u (begins none) c = absurd (omega (arith, c.1, none))
way_back u (goes_on rest v e p way fresh) c =
    ⊎_elim (λ y. Reaches-then (way_back u p y) way.edge) (λ (y : v ≡ u). rw (← y) (on way.edge here)) (Contains-push_cases rest v u (rw e at c))

last_after : {graph : List (List ℕ)} {found closed : List Bool} {path : List Visit} {w : ℕ} (r : List Visit) (u : Visit)
    → w < length closed → path ≡ r ++ u ∷ [] → IsPathTo graph found closed path w → IsLast graph found (set closed w true) r u
last_after r u h e (begins none) = absurd (no_snoc r u _ none e)
last_after {graph = graph} {closed = closed} {w = w} r u h e (goes_on rest v is p way fresh) =
    let same = snoc_same rest r v u (sym is ∙ e) in
    rw (← same.0, ← same.1) (record {
      path = path_kept w h (λ t c. fresh t (rw is (Contains-append_left rest (v ∷ []) t c))) p;
      was_found = way.was_found;
      unshut = λ m. ⊎_elim (λ y. way.unshut y) (λ y. absurd (fresh v (rw is (Contains-push rest v)) y)) (marked_cases closed w v.vertex m);
      gone = λ i l. ⊎_elim (λ y. marked_there closed w (end_of graph v.vertex i) h y) (λ y. rw y (marked_here closed w h)) (way.gone i l);
    })

-- ---- steps

module _ (graph : List (List ℕ)) (from : ℕ) (found closed : List Bool) (levels vertices : List ℕ) (rest : List Visit) (v : Visit)
    (s : IsSearch graph from found closed levels vertices (rest ++ v ∷ [])) where
  last : IsLast graph found closed rest v
  last = s.last rest v refl

  pub known : v.vertex < length graph
  known = let m = marked_below found v.vertex last.was_found in omega (arith, m, s.found_each)

  pub few_placed : length vertices < length graph
  few_placed = let c = s.count in omega (arith, c, length-append rest (v ∷ []))

  on_path : (k : ℕ) → IsMarked found k → ¬ IsMarked closed k → (u : Visit) × Contains (rest ++ v ∷ []) u × (u.vertex ≡ k)
  on_path k m n = ⊎_elim (λ c. absurd (n c)) (λ x. x) (s.apart k m)

  pub cycle : (to : ℕ) → LeadsTo graph v.vertex to → IsMarked found to → ¬ IsMarked closed to → HasCycle graph from
  cycle to edge m n =
      let u = on_path to m n in (
        v.vertex,
        to,
        s.reached v.vertex last.was_found,
        edge,
        ⊎_elim (λ c. rw (← u.2) (way_back u.0 last.path c))
            (λ (w : v ≡ u.0). rw (← u.2, ← w) here) (Contains-push_cases rest v u.0 u.1),
      )

  -- one more edge, which leads to a closed vertex
  pub one_more : (u : Visit) → u.vertex ≡ v.vertex → u.gone ≡ v.gone + 1 → IsMarked closed (end_of graph v.vertex v.gone)
      → IsSearch graph from found closed levels vertices (rest ++ u ∷ [])
  one_more u is gone m = record {
    found_each = s.found_each;
    closed_each = s.closed_each;
    levels_each = s.levels_each;
    begun = s.begun;
    reached = s.reached;
    apart = λ k f. ⊎_elim (λ c. inl c) (λ x. inr (moved k x)) (s.apart k f);
    last = λ r t e. let same = snoc_same rest r u t e in rw (← same.0, ← same.1) now_last;
    shut = s.shut;
    alone = s.alone;
    own = s.own;
    count = let c = s.count in omega (arith, c, length-append rest (v ∷ []), length-append rest (u ∷ []));
  }
    where
      moved : (k : ℕ) → (t : Visit) × Contains (rest ++ v ∷ []) t × (t.vertex ≡ k) → (t : Visit) × Contains (rest ++ u ∷ []) t × (t.vertex ≡ k)
      moved k x = ⊎_elim (λ c. (x.0, Contains-append_left rest (u ∷ []) x.0 c, x.2))
          (λ (w : v ≡ x.0). (u, Contains-push rest u, is ∙ (ap (λ (t : Visit). t.vertex) w ∙ x.2))) (Contains-push_cases rest v x.0 x.1)

      now_last : IsLast graph found closed rest u
      now_last = record {
        path = rw is last.path;
        was_found = rw is last.was_found;
        unshut = rw is last.unshut;
        gone = λ i l. rw is (⊎_elim (λ (h : i < v.gone). last.gone i h) (λ (h : v.gone ≤ i). let w : i ≡ v.gone = omega (arith, l, gone) in rw w m) (cases_lt i v.gone));
      }

  -- one more edge, which leads to a vertex that wasn't found
  pub one_found : (u w : Visit) (marks : List Bool) → u.vertex ≡ v.vertex → u.gone ≡ v.gone + 1 → end_of graph v.vertex v.gone ≡ w.vertex
      → w.gone ≡ 0 → LeadsTo graph v.vertex w.vertex → w.vertex < length graph → ¬ IsMarked found w.vertex → ¬ IsMarked closed w.vertex
      → marks ≡ set found w.vertex true → IsSearch graph from marks closed levels vertices ((rest ++ u ∷ []) ++ w ∷ [])
  one_found u w marks is gone leads none edge h new unshut e = rw e (record {
    found_each = length-set found w.vertex true ∙ s.found_each;
    closed_each = s.closed_each;
    levels_each = s.levels_each;
    begun = marked_there found w.vertex from inside s.begun;
    reached = λ k m. ⊎_elim (λ x. s.reached k x) (λ x. rw x (Reaches-then (s.reached v.vertex last.was_found) edge)) (marked_cases found w.vertex k m);
    apart = λ k m. ⊎_elim (λ x. ⊎_elim (λ c. inl c) (λ c. inr (moved k c)) (s.apart k x)) (λ x. inr (w, Contains-push (rest ++ u ∷ []) w, sym x)) (marked_cases found w.vertex k m);
    last = λ r t q. let same = snoc_same (rest ++ u ∷ []) r w t q in rw (← same.0, ← same.1) now_last;
    shut = s.shut;
    alone = λ k c. marked_there found w.vertex k inside (s.alone k c);
    own = s.own;
    count = let c = s.count in let o = one_less found w.vertex inside (unmarked_is (get_or found w.vertex false) refl) in
        omega (arith, c, o, length-append rest (v ∷ []), length-append rest (u ∷ []), length-append (rest ++ u ∷ []) (w ∷ []));
  })
    where
      inside : w.vertex < length found
      inside = omega (arith, h, s.found_each)

      unmarked_is : (b : Bool) → get_or found w.vertex false ≡ b → get_or found w.vertex false ≡ false
      unmarked_is false q = q
      unmarked_is true q = absurd (new q)

      moved : (k : ℕ) → (t : Visit) × Contains (rest ++ v ∷ []) t × (t.vertex ≡ k) → (t : Visit) × Contains ((rest ++ u ∷ []) ++ w ∷ []) t × (t.vertex ≡ k)
      moved k x = ⊎_elim (λ c. (x.0, Contains-append_left (rest ++ u ∷ []) (w ∷ []) x.0 (Contains-append_left rest (u ∷ []) x.0 c), x.2))
          (λ (q : v ≡ x.0). (
            u,
            Contains-append_left (rest ++ u ∷ []) (w ∷ []) u (Contains-push rest u),
            is
                ∙ (ap (λ (t : Visit). t.vertex) q ∙ x.2),
          )) (Contains-push_cases rest v x.0 x.1)

      fresh : (t : Visit) → Contains (rest ++ u ∷ []) t → t.vertex ≢ w.vertex
      fresh t c q =
          ⊎_elim (λ x. new (rw (← q) (path_is_found t last.path x))) (λ (x : u ≡ t). new (rw (← q, ← x, is) last.was_found)) (Contains-push_cases rest u t c)

      now_last : IsLast graph (set found w.vertex true) closed (rest ++ u ∷ []) w
      now_last = record {
        path = goes_on rest u refl (rw is (path_found w.vertex inside last.path)) (record {
          was_found = rw is (marked_there found w.vertex v.vertex inside last.was_found);
          unshut = rw is last.unshut;
          edge = rw is edge;
          gone = λ i l. rw is (⊎_elim (λ (x : i < v.gone). inl (last.gone i x)) (λ (x : v.gone ≤ i). let y : i ≡ v.gone = omega
              (arith, l, gone) in inr (rw y leads)) (cases_lt i v.gone));
        }) fresh;
        was_found = marked_here found w.vertex inside;
        unshut = unshut;
        gone = λ i l. absurd (omega (arith, l, none));
      }

  -- no more edges: the vertex is closed
  pub one_shut : (closed' : List Bool) (levels' vertices' : List ℕ) → length (targets_at graph v.vertex) ≤ v.gone
      → closed' ≡ set closed v.vertex true → levels' ≡ set levels v.vertex (length vertices) → vertices' ≡ vertices ++ v.vertex ∷ []
      → IsSearch graph from found closed' levels' vertices' rest
  one_shut closed' levels' vertices' none ce le ve = rw (ce, le, ve) (record {
    found_each = s.found_each;
    closed_each = length-set closed v.vertex true ∙ s.closed_each;
    levels_each = length-set levels v.vertex (length vertices) ∙ s.levels_each;
    begun = s.begun;
    reached = s.reached;
    apart = λ k m. ⊎_elim (λ c. inl (there k c))
        (λ x. ⊎_elim (λ c. inr (x.0, c, x.2)) (λ (q : v ≡ x.0). inl (rw (← x.2, ← q) (marked_here closed v.vertex inside)))
        (Contains-push_cases rest v x.0 x.1)) (s.apart k m);
    last = λ r t e. last_after r t inside e last.path;
    shut = λ k m. ⊎_elim (λ c. old k c) (λ q. rw q this) (marked_cases closed v.vertex k m);
    alone = λ k c. ⊎_elim (λ x. s.alone k x) (λ (q : v.vertex ≡ k). rw (← q) last.was_found) (Contains-push_cases vertices v.vertex k c);
    own = λ i l. ⊎_elim (λ (h : i < length vertices). own_before i h) (λ (h : length vertices ≤ i). let e : i ≡ length vertices = omega
        (arith, l, h, length-append vertices (v.vertex ∷ [])) in rw e own_last) (cases_lt i (length vertices));
    count = let c = s.count in omega (arith, c, length-append rest (v ∷ []), length-append vertices (v.vertex ∷ []));
  })
    where
      inside : v.vertex < length closed
      inside = omega (arith, known, s.closed_each)

      in_levels : v.vertex < length levels
      in_levels = omega (arith, known, s.levels_each)

      there : (k : ℕ) → IsMarked closed k → IsMarked (set closed v.vertex true) k
      there k c = marked_there closed v.vertex k inside c

      -- the level of a closed vertex stays
      stays : (k : ℕ) → IsMarked closed k → get_or (set levels v.vertex (length vertices)) k 0 ≡ get_or levels k 0
      stays k c = let ne : k ≢ v.vertex = λ q. last.unshut (rw (← q) c) in rw get_or-set_other refl

      all_closed : (j : ℕ) → LeadsTo graph v.vertex j → IsMarked closed j
      all_closed j l = let g = last.gone l.0 (omega (arith, l.1, none)) in
          let e : end_of graph v.vertex l.0 ≡ j = get_or_default (targets_at graph v.vertex) l.0 0 j l.1 ∙ l.2 in rw e at g

      here_level : get_or (set levels v.vertex (length vertices)) v.vertex 0 ≡ length vertices
      here_level = let h : v.vertex < length levels = in_levels in rw get_or-set_same refl

      own_before : (i : ℕ) → i < length vertices → IsOwnPlace (set closed v.vertex true) (set levels v.vertex (length vertices)) (vertices ++ v.vertex ∷ []) i
      own_before i h =
          let o = s.own i h in
          let e = get_or_append_left vertices (v.vertex ∷ []) 0 i h in
          record {
            shut = rw e (there (get_or vertices i 0) o.shut);
            level = rw e (stays (get_or vertices i 0) o.shut ∙ o.level);
          }

      own_last : IsOwnPlace (set closed v.vertex true) (set levels v.vertex (length vertices)) (vertices ++ v.vertex ∷ []) (length vertices)
      own_last =
          let e = get_or-append_seam vertices v.vertex [] 0 in
          record {
            shut = rw e (marked_here closed v.vertex inside);
            level = rw e here_level;
          }

      this : IsShut graph (set closed v.vertex true) (set levels v.vertex (length vertices)) (vertices ++ v.vertex ∷ []) v.vertex
      this = record {
        placed = record {
          inside = rw here_level (omega (arith, length-append vertices (v.vertex ∷ [])));
          stands = rw here_level (get_or-append_seam vertices v.vertex [] 0);
        };
        below = λ j l. there j (all_closed j l);
        falls = λ j l. let c = all_closed j l in let h = (s.shut j c).placed.inside in rw (here_level, stays j c) h;
      }

      old : (k : ℕ) → IsMarked closed k → IsShut graph (set closed v.vertex true) (set levels v.vertex (length vertices)) (vertices ++ v.vertex ∷ []) k
      old k c =
          let h = s.shut k c in
          let i = h.placed.inside in
          record {
            placed = record {
              inside = rw (stays k c) (omega (arith, i, length-append vertices (v.vertex ∷ [])));
              stands = rw (stays k c, get_or_append_left vertices (v.vertex ∷ []) 0 (get_or levels k 0) i) h.placed.stands;
            };
            below = λ j l. there j (h.below j l);
            falls = λ j l. rw (stays k c, stays j (h.below j l)) (h.falls j l);
          }

-- ---- beginning and end

all_unmarked : (n : ℕ) → unmarked (replicate n false) ≡ n
all_unmarked n = let e = sum_by-replicate (λ b. cond (not b) 1 0) n false in omega (arith, e)

pub search_start : (graph : List (List ℕ)) (from : ℕ) (fresh found closed : List Bool) (levels vertices : List ℕ) (none path : List Visit)
    (v : Visit) → from < length graph → v.vertex ≡ from → v.gone ≡ 0 → fresh ≡ replicate (length graph) false → found ≡ set fresh from true
    → closed ≡ replicate (length graph) false → levels ≡ replicate (length graph) 0 → vertices ≡ [] → none ≡ [] → path ≡ none ++ v ∷ []
    → IsSearch graph from found closed levels vertices path
search_start graph from fresh found closed levels vertices none path v h is gone fr fe ce le ve ne pe = rw (fe, fr, ce, le, ve, pe, ne) (record {
  found_each = length-set empty from true ∙ length-replicate (length graph) false;
  closed_each = length-replicate (length graph) false;
  levels_each = length-replicate (length graph) 0;
  begun = marked_here empty from inside;
  reached = λ k m. ⊎_elim (λ x. absurd (none_marked (length graph) k x)) (λ x. rw x here) (marked_cases empty from k m);
  apart = λ k m. inr (v, Contains-push [] v, ⊎_elim (λ x. absurd (none_marked (length graph) k x)) (λ x. is ∙ sym x) (marked_cases empty from k m));
  last = λ r t e. let same = snoc_same [] r v t e in rw (← same.0, ← same.1) (record {
    path = begins refl;
    was_found = rw is (marked_here empty from inside);
    unshut = λ m. none_marked (length graph) v.vertex m;
    gone = λ i l. absurd (omega (arith, l, gone));
  });
  shut = λ k m. absurd (none_marked (length graph) k m);
  alone = λ k c. absurd (Contains-nil k c);
  own = λ i l. absurd (omega (arith, l));
  count = let o = one_less empty from inside (not_marked (get_or empty from false) refl) in omega (arith, o, all_unmarked (length graph));
})
  where
    empty : List Bool
    empty = replicate (length graph) false

    inside : from < length (replicate (length graph) false)
    inside = rw (length-replicate (length graph) false) h

    not_marked : (b : Bool) → get_or (replicate (length graph) false) from false ≡ b → get_or (replicate (length graph) false) from false ≡ false
    not_marked false q = q
    not_marked true q = absurd (none_marked (length graph) from q)

pub search_all : (graph : List (List ℕ)) (from : ℕ) (found closed : List Bool) (levels vertices : List ℕ) (path : List Visit)
    → length path ≡ 0 → IsSearch graph from found closed levels vertices path → IsOrder graph from levels vertices
search_all graph from found closed levels vertices path none s = record {
  placed = λ k r. (s.shut k (shut k r)).placed;
  falls = λ k j r e. (s.shut k (shut k r)).falls j e;
  alone = λ k c. s.reached k (s.alone k c);
  once = λ i l. (s.own i l).level;
  few = let c = s.count in omega (arith, c);
  each = s.levels_each;
}
  where
    begun : IsMarked closed from
    begun = ⊎_elim (λ x. x) (λ x. absurd (omega (arith, x.1.1, none))) (s.apart from s.begun)

    shut : (k : ℕ) → Reaches graph from k → IsMarked closed k
    shut k r = kept_closed (IsMarked closed) (λ i j p e. (s.shut i p).below j e) r begun

-- ---- how much is left

fewer : (u w s r a b c : ℕ) → w + 1 ≡ u → c ≤ s → b + 1 ≡ a → w * (s + 2) + ((r + b) + (c + 1)) < u * (s + 2) + (r + a)
fewer u w s r a b c e h f = let g : u ≡ w + 1 = omega (arith, e) in rw g (omega (arith, h, f))

one_sum : (graph : List (List ℕ)) (path : List Visit) (v : Visit) → sum_by (to_go graph) (path ++ v ∷ []) ≡ sum_by (to_go graph) path + to_go graph v
one_sum graph path v = sum_by-append (to_go graph) path (v ∷ []) ∙ (let e = sum_by-cons (to_go graph) v [] in omega (arith, e))

pub left_shut : (graph : List (List ℕ)) (found : List Bool) (rest : List Visit) (v : Visit) → left graph found rest < left graph found (rest ++ v ∷ [])
left_shut graph found rest v = omega (arith, one_sum graph rest v)

pub left_more : (graph : List (List ℕ)) (found : List Bool) (rest : List Visit) (v u : Visit) → u.vertex ≡ v.vertex → u.gone ≡ v.gone + 1
    → v.gone < length (targets_at graph v.vertex) → left graph found (rest ++ u ∷ []) < left graph found (rest ++ v ∷ [])
left_more graph found rest v u is gone h = omega (arith, one_sum graph rest v, one_sum graph rest u, ap (λ k. length (targets_at graph k)) is, gone, h)

pub left_found : (graph : List (List ℕ)) (found marks : List Bool) (rest : List Visit) (v u w : Visit) → u.vertex ≡ v.vertex
    → u.gone ≡ v.gone + 1 → w.gone ≡ 0 → v.gone < length (targets_at graph v.vertex) → w.vertex < length graph
    → unmarked marks + 1 ≡ unmarked found → left graph marks ((rest ++ u ∷ []) ++ w ∷ []) < left graph found (rest ++ v ∷ [])
left_found graph found marks rest v u w is gone none h k fewer_left =
    let l = get_or-le-sum_by length graph w.vertex [] k in
    let e = one_sum graph rest v in
    let f = one_sum graph rest u in
    let g = one_sum graph (rest ++ u ∷ []) w in
    let a : to_go graph w ≡ length (targets_at graph w.vertex) + 1 = omega (arith, none) in
    let b : to_go graph u + 1 ≡ to_go graph v = omega (arith, ap (λ i. length (targets_at graph i)) is, gone, h) in
    rw (e, g, f, a) (fewer (unmarked found) (unmarked marks) (sum_by length graph) (sum_by (to_go graph) rest) (to_go graph v)
    (to_go graph u) (length (targets_at graph w.vertex)) fewer_left l b)

-- ---- what the code reads

pub none_past : {X : Type 0} (xs : List X) (i : ℕ) (d : X) → None ≡ slice_get xs i → length xs ≤ i
none_past xs i d e = ⊎_elim (λ (h : i < length xs). let f : None ≡ Some (get_or xs i d) = e ∙ slice_get-get_or xs i d h in cc) (λ (h : length xs ≤ i). h) (cases_lt i (length xs))

pub some_inside : {X : Type 0} (xs : List X) (i : ℕ) (d x : X) → Some x ≡ slice_get xs i → (i < length xs) × (get_or xs i d ≡ x)
some_inside xs i d x e =
    ⊎_elim (λ (h : i < length xs). (h, let f : Some x ≡ Some (get_or xs i d) = e ∙ slice_get-get_or xs i d h in cc))
    (λ (h : length xs ≤ i). absurd (let f : Some x ≡ None = e ∙ slice_get_past xs i h in cc)) (cases_lt i (length xs))

pub leads_to : (graph : List (List ℕ)) (k i j : ℕ) → Some j ≡ slice_get (targets_at graph k) i → LeadsTo graph k j
leads_to graph k i j e = let s = some_inside (targets_at graph k) i 0 j e in rw (← s.1) (Contains-get_or (targets_at graph k) i 0 s.0)

pub mark_read : (ms : List Bool) (k : ℕ) (r b : Bool) → k < length ms → r ≡ get_or ms k r → r ≡ b → get_or ms k false ≡ b
mark_read ms k r b h e f = get_or_default ms k false r h ∙ (sym e ∙ f)

pub unmarked_read : (ms : List Bool) (k : ℕ) → get_or ms k false ≡ false → ¬ IsMarked ms k
unmarked_read ms k e m = let f : false ≡ true = sym e ∙ m in cc
