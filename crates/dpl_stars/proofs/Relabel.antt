-- A graph by the places of its numbers: its levels give the summary.
use Rattle.std.proofs.Common.{◌≡◌, ℕ, ◌%◌, ◌<◌, ◌≤◌, inl, inr, Bool, List, map, length, get_or, sym, refl, ap, ◌∙◌, subst, arith}
use Rattle.std.specs.Prelude.{◌==◌}
use Rattle.std.proofs.lemmas.Bool.{cases_lt}
use Rattle.std.specs.List.{All, Contains}
use Rattle.std.proofs.lemmas.List.{get_or_default, get_or-map, length-map}
use Rattle.std.proofs.lemmas.List.Elements.{All-contains, All-weaker, Contains-get_or}
use Rattle.dpl_spec_split.specs.Graphs.{Graph, Walk, stay, step, IsDistance, IsRoot, graph_of}
use Rattle.dpl_spec_split.specs.Summary.{Row, IsStar, AreStars, HasOddCycle}
use Rattle.dpl_spec_split.proofs.GraphLaws.{distance-unique, root-unique}
use Rattle.dpl_spec_split.proofs.Uniqueness.{star-unique}
use Rattle.dpl_stars.specs.Laws.{AreOrdered, HasLevelEdge}
use Rattle.dpl_stars.specs.Levels.{AreLevels}
use Rattle.dpl_stars.proofs.Walks.{IsUndirected, graph_of-undirected, Walk-reverse, Reaches-sym, root-along, distance-self, Walk-nowhere}
use Rattle.dpl_stars.proofs.Forks.{level-cycle}
use Rattle.dpl_stars.proofs.OddLaws.{roots-show}
use Rattle.dpl_stars.specs.declared.list.Star.{Star}
use Rattle.dpl_stars.specs.Stars.{odd_row, own_row, IsStarList}
use Rattle.dpl_stars.specs.Sums.{row_of}
use Rattle.dpl_stars.specs.Places.{AreTouched, edge_at, ArePlaced, IsLevelled, row_at, AreRows}
use Rattle.dpl_stars.proofs.PlaceLaws.{numbers-rise, place-unique}

pub contains-map : {X Y : Type 0} (f : X → Y) (xs : List X) (x : X) → Contains xs x → Contains (map f xs) (f x)
contains-map f xs x (k, within, is) = (k, let l = length-map xs f in omega (arith, l, within), get_or-map f xs k x (f x) within ∙ ap f is)

pub contains-from_map : {X Y : Type 0} (f : X → Y) (xs : List X) (d : X) (y : Y) → Contains (map f xs) y → (x : X) × Contains xs x × (f x ≡ y)
contains-from_map f xs d y (k, within, is) =
    let inside : k < length xs = let l = length-map xs f in omega (arith, l, within) in
    (get_or xs k d, Contains-get_or xs k d inside, sym (get_or-map f xs k d y inside) ∙ is)

abbrev star : ℕ → ℕ → Bool → Star
star v r odd = record { piece = v; root = r; odd = odd }

-- an edge by the places of its ends
record Found (placed : List (ℕ × ℕ)) (numbers : List ℕ) (u v : ℕ) : Type 0 where
  i : ℕ
  j : ℕ
  i_in : i < length numbers
  j_in : j < length numbers
  first : get_or numbers i 0 ≡ u
  second : get_or numbers j 0 ≡ v
  joins : graph_of placed i j

module _ (edges placed : List (ℕ × ℕ)) (numbers : List ℕ) (pairs : AreOrdered edges) (touched : AreTouched edges numbers) (h : ArePlaced numbers edges placed) where
  abbrev G : Graph
  G = graph_of edges

  abbrev H : Graph
  H = graph_of placed

  abbrev num : ℕ → ℕ
  num i = get_or numbers i 0

  un_g : IsUndirected G
  un_g = graph_of-undirected edges pairs

  un_h : IsUndirected H
  un_h = graph_of-undirected placed (All-weaker (λ (e : ℕ × ℕ). (e.0 < e.1) × (e.1 < length numbers)) (λ (e : ℕ × ℕ). e.0 < e.1) (λ e b. b.0) placed h.below)

  edge-up : (i j : ℕ) → H i j → G (num i) (num j)
  edge-up i j (inl c) = inl (subst (λ es. Contains es (num i, num j)) (sym h.is) (contains-map (edge_at numbers) placed (i, j) c))
  edge-up i j (inr c) = inr (subst (λ es. Contains es (num j, num i)) (sym h.is) (contains-map (edge_at numbers) placed (j, i) c))

  below-placed : (i j : ℕ) → Contains placed (i, j) → (i < length numbers) × (j < length numbers)
  below-placed i j c =
      let b : (i < j) × (j < length numbers) = All-contains (λ (e : ℕ × ℕ). (e.0 < e.1) × (e.1 < length numbers)) placed (i, j) h.below c in
      (omega (arith, b.0, b.1), b.1)

  placed-down : (u v : ℕ) → Contains edges (u, v) → (e : ℕ × ℕ) × Contains placed e × (edge_at numbers e ≡ (u, v))
  placed-down u v c = contains-from_map (edge_at numbers) placed (0, 0) (u, v) (subst (λ es. Contains es (u, v)) h.is c)

  edge-down : (u v : ℕ) → G u v → Found placed numbers u v
  edge-down u v (inl c) =
      let (e, in_placed, is) = placed-down u v c in
      let b = below-placed e.0 e.1 in_placed in
      record { i = e.0; j = e.1; i_in = b.0; j_in = b.1; first = ap (λ (f : ℕ × ℕ). f.0) is; second = ap (λ (f : ℕ × ℕ). f.1) is; joins = inl in_placed }
  edge-down u v (inr c) =
      let (e, in_placed, is) = placed-down v u c in
      let b = below-placed e.0 e.1 in_placed in
      record { i = e.1; j = e.0; i_in = b.1; j_in = b.0; first = ap (λ (f : ℕ × ℕ). f.1) is; second = ap (λ (f : ℕ × ℕ). f.0) is; joins = inr in_placed }

  walk-up : {i j m : ℕ} → Walk H i j m → Walk G (num i) (num j) m
  walk-up stay = stay
  walk-up (step {u = i} {v = j} e rest) = step (edge-up i j e) (walk-up rest)

  walk-down : {u v m : ℕ} → Walk G u v m → (i : ℕ) → i < length numbers → num i ≡ u → (j : ℕ) × (j < length numbers) × (num j ≡ v) × Walk H i j m
  walk-down stay i within is = (i, within, is, stay)
  walk-down (step {u = u} {v = w} e rest) i within is =
      let d = edge-down u w e in
      let same : d.i ≡ i = place-unique numbers touched.rising d.i i d.i_in within (d.first ∙ sym is) in
      let (j, j_in, j_is, walk) = walk-down rest d.j d.j_in d.second in
      (j, j_in, j_is, step (subst (λ x. H x d.j) same d.joins) walk)

  root-up : (i r : ℕ) → i < length numbers → IsRoot H i r → IsRoot G (num i) (num r)
  root-up i r within is = record {
    reached = (is.reached.0, walk-up is.reached.1);
    least = λ u reach.
        (let (j, j_in, j_is, walk) = walk-down (Walk-reverse G un_g reach.1) i within refl in
        let low = is.least j (reach.0, Walk-reverse H un_h walk) in
        let up = numbers-rise numbers touched.rising r j low j_in in
        omega (arith, up, j_is));
  }

  distance-up : (r i d : ℕ) → r < length numbers → i < length numbers → IsDistance H r i d → IsDistance G (num r) (num i) d
  distance-up r i d r_in i_in is = record {
    walk = walk-up is.walk;
    least = λ m walk.
        (let (j, j_in, j_is, down) = walk-down walk r r_in refl in
        let same : j ≡ i = place-unique numbers touched.rising j i j_in i_in j_is in
        is.least m (subst (λ x. Walk H r x m) same down));
  }

  module _ (roots levels : List ℕ) (lv : AreLevels placed (length numbers) roots levels) where
    abbrev root : ℕ → ℕ
    root i = get_or roots i 0

    abbrev level : ℕ → ℕ
    level i = get_or levels i 0

    root-low : (i : ℕ) → i < length numbers → root i ≤ i
    root-low i within = (lv.root i within).least i (0, stay)

    root-in : (i : ℕ) → i < length numbers → root i < length numbers
    root-in i within = let low = root-low i within in omega (arith, low, within)

    star-up : (i : ℕ) → i < length numbers → IsStar G (num i) (num (root i)) (level i % 2 == 1)
    star-up i within = (root-up i (root i) within (lv.root i within), level i, distance-up (root i) i (level i) (root-in i within) within (lv.level i within), refl)

    pub levelled-odd : IsLevelled levels placed → HasOddCycle G
    levelled-odd (k, e, l, is, same) =
        let b = below-placed e.0 e.1 (k, l, is) in
        let up : (e.0 < e.1) × (e.1 < length numbers) = All-contains (λ (f : ℕ × ℕ). (f.0 < f.1) × (f.1 < length numbers)) placed e h.below (k, l, is) in
        let joins : H e.0 e.1 = inl (k, l, is) in
        let along : IsRoot H e.1 (root e.0) = root-along H un_h e.0 e.1 (root e.0) (1, step joins stay) (lv.root e.0 b.0) in
        let one : root e.1 ≡ root e.0 = root-unique H e.1 (root e.1) (root e.0) (lv.root e.1 b.1) along in
        let far : IsDistance H (root e.0) e.1 (level e.0) = subst (λ d. IsDistance H (root e.0) e.1 d) (sym same)
        (subst (λ r. IsDistance H r e.1 (level e.1)) one (lv.level e.1 b.1)) in
        let on : HasLevelEdge G (num (root e.0)) = (
          (num e.0, num e.1),
          record {
            order = touched.rising e.0 e.1 0 up.0 up.1;
            joined_by = edge-up e.0 e.1 joins;
            level = (level e.0, distance-up (root e.0) e.0 (level e.0) (root-in e.0 b.0) b.0 (lv.level e.0 b.0), distance-up (root e.0) e.1 (level e.0) (root-in e.0 b.0) b.1 far);
          },
        ) in
        let (cycle, c, reached) = level-cycle G un_g (num (root e.0)) on in
        (cycle, c)

    -- a place has the level of its number below the root
    level-is : (top i v m : ℕ) → IsRoot G top top → i < length numbers → num i ≡ v → IsDistance G top v m → level i ≡ m
    level-is top i v m is within i_is far =
        let here : IsDistance G top (num i) m = subst (λ x. IsDistance G top x m) (sym i_is) far in
        let along : IsRoot G (num i) top = root-along G un_g top (num i) top (m, here.walk) is in
        let one : num (root i) ≡ top = root-unique G (num i) (num (root i)) top (root-up i (root i) within (lv.root i within)) along in
        distance-unique G top (num i) (level i) m (subst (λ r. IsDistance G r (num i) (level i)) one
        (distance-up (root i) i (level i) (root-in i within) within (lv.level i within))) here

    pub unlevelled-even : ¬ IsLevelled levels placed → ¬ HasOddCycle G
    unlevelled-even none odd =
        let (top, is, on) = (roots-show edges pairs).0 odd in
        let (e, lvl) = on in
        let (m, first, second) = lvl.level in
        let d = edge-down e.0 e.1 lvl.joined_by in
        let same : level d.i ≡ level d.j = level-is top d.i e.0 m is d.i_in d.first first ∙ sym (level-is top d.j e.1 m is d.j_in d.second second) in
        elim d.joins [
          | inl c ↦ none (c.0, (d.i, d.j), c.1, c.2, same)
          | inr c ↦ none (c.0, (d.j, d.i), c.1, c.2, sym same)
        ]

    module _ (rows : List Star) (rs : AreRows numbers roots levels (length numbers) rows) where
      row-is : (k : ℕ) (d : Row) → k < length numbers → get_or (map row_of rows) k d ≡ row_of (row_at numbers roots levels k)
      row-is k d within = get_or-map row_of rows k (own_row 0) d (let len = rs.len in omega (arith, len, within)) ∙ ap row_of (rs.each k (own_row 0) within)

      inside : (k : ℕ) → k < length (map row_of rows) → k < length numbers
      inside k l = let len = rs.len in let m = length-map rows row_of in omega (arith, len, m, l)

      row-star : (r : Row) → Contains (map row_of rows) r → ((u : ℕ) × G r.vertex u) × IsStar G r.vertex r.root r.odd
      row-star r (k, l, e) =
          let within = inside k l in
          subst (λ (s : Row). ((u : ℕ) × G s.vertex u) × IsStar G s.vertex s.root s.odd) (sym (row-is k r within) ∙ e)
          ((touched.exactly (num k)).0 (Contains-get_or numbers k 0 within), star-up k within)

      star-row : (r : Row) (u : ℕ) → G r.vertex u → IsStar G r.vertex r.root r.odd → Contains (map row_of rows) r
      star-row r u g star =
          let d = edge-down r.vertex u g in
          let same = star-unique G r.vertex (num (root d.i)) r.root (level d.i % 2 == 1) r.odd
          (subst (λ v. IsStar G v (num (root d.i)) (level d.i % 2 == 1)) d.first (star-up d.i d.i_in)) star in
          let is : row_of (row_at numbers roots levels d.i) ≡ r = λ k. record { vertex = d.first k; root = same.root k; odd = same.odd k } in
          (d.i, (let len = rs.len in let m = length-map rows row_of in let i_in = d.i_in in omega (arith, len, m, i_in)), row-is d.i r d.i_in ∙ is)

      pub are-stars : ¬ IsLevelled levels placed → AreStars G (map row_of rows)
      are-stars none = record {
        even = unlevelled-even none;
        ordered = λ i j d l within.
            (let j_in = inside j within in
            let i_in : i < length numbers = omega (arith, l, j_in) in
            let first : (get_or (map row_of rows) i d).vertex ≡ num i = ap (λ (r : Row). r.vertex) (row-is i d i_in) in
            let second : (get_or (map row_of rows) j d).vertex ≡ num j = ap (λ (r : Row). r.vertex) (row-is j d j_in) in
            let up = touched.rising i j 0 l j_in in
            omega (arith, first, second, up));
        exactly = λ r. (row-star r, λ p. star-row r p.0.0 p.0.1 p.1);
      }

      -- the root of a root is itself, on level 0
      root-root : (k : ℕ) → k < length numbers → root (root k) ≡ root k
      root-root k within = root-unique H (root k) (root (root k)) (root k) (lv.root (root k) (root-in k within))
          (root-along H un_h k (root k) (root k) (Reaches-sym H un_h (lv.root k within).reached) (lv.root k within))

      root-level : (k : ℕ) → k < length numbers → level (root k) ≡ 0
      root-level k within = distance-unique H (root k) (root k) (level (root k)) 0 (subst (λ r. IsDistance H r (root k) (level (root k)))
          (root-root k within) (lv.level (root k) (root-in k within))) (distance-self H (root k))

      own-at : (k : ℕ) → k < length numbers → row_at numbers roots levels (root k) ≡ own_row (num (root k))
      own-at k within = ap (λ r. star (num (root k)) (num r) (level (root k) % 2 == 1)) (root-root k within)
          ∙ ap (λ l. star (num (root k)) (num (root k)) (l % 2 == 1)) (root-level k within)

      edge-far : (r j : ℕ) → H r j → IsDistance H r j 1
      edge-far r j joins = record {
        walk = step joins stay;
        least = λ m walk. elim (cases_lt 0 m) [
          | inl some ↦ some
          | inr none ↦ absurd (un_h.different r j joins (Walk-nowhere H walk (omega (arith, none))))
        ];
      }

      -- an edge leads from the root, so its other end is odd
      odd-at : (k : ℕ) → k < length numbers → (j : ℕ) × (j < length numbers) × (row_at numbers roots levels j ≡ odd_row (num j) (num (root k)))
      odd-at k within =
          let top_in = root-in k within in
          let (u, g) = (touched.exactly (num (root k))).0 (Contains-get_or numbers (root k) 0 top_in) in
          let d = edge-down (num (root k)) u g in
          let same : d.i ≡ root k = place-unique numbers touched.rising d.i (root k) d.i_in top_in d.first in
          let joins : H (root k) d.j = subst (λ x. H x d.j) same d.joins in
          let top : IsRoot H (root k) (root k) = root-along H un_h k (root k) (root k) (Reaches-sym H un_h (lv.root k within).reached) (lv.root k within) in
          let along : IsRoot H d.j (root k) = root-along H un_h (root k) d.j (root k) (1, step joins stay) top in
          let one : root d.j ≡ root k = root-unique H d.j (root d.j) (root k) (lv.root d.j d.j_in) along in
          let far : level d.j ≡ 1 = distance-unique H (root k) d.j (level d.j) 1 (subst (λ r. IsDistance H r d.j (level d.j)) one
          (lv.level d.j d.j_in)) (edge-far (root k) d.j joins) in
          (d.j, d.j_in, ap (λ r. star (num d.j) (num r) (level d.j % 2 == 1)) one ∙ ap (λ l. star (num d.j) (num (root k)) (l % 2 == 1)) far)

      pub are-listed : IsStarList rows
      are-listed = record {
        rising = λ i j d l within.
            (let len = rs.len in
            let j_in : j < length numbers = omega (arith, len, within) in
            let i_in : i < length numbers = omega (arith, l, j_in) in
            let first : (get_or rows i d).piece ≡ num i = ap (λ (r : Star). r.piece) (rs.each i d i_in) in
            let second : (get_or rows j d).piece ≡ num j = ap (λ (r : Star). r.piece) (rs.each j d j_in) in
            let up = touched.rising i j 0 l j_in in
            omega (arith, first, second, up));
        low = λ k d l.
            (let len = rs.len in
            let within : k < length numbers = omega (arith, len, l) in
            let first : (get_or rows k d).piece ≡ num k = ap (λ (r : Star). r.piece) (rs.each k d within) in
            let second : (get_or rows k d).root ≡ num (root k) = ap (λ (r : Star). r.root) (rs.each k d within) in
            let up = numbers-rise numbers touched.rising (root k) k (root-low k within) within in
            omega (arith, first, second, up));
        rooted = λ k d l.
            (let len = rs.len in
            let within : k < length numbers = omega (arith, len, l) in
            let root_in = root-in k within in
            let is : (get_or rows k d).root ≡ num (root k) = ap (λ (r : Star). r.root) (rs.each k d within) in
            subst (λ v. Contains rows (own_row v)) (sym is) (root k, omega (arith, len, root_in), rs.each (root k) (own_row (num (root k))) root_in ∙ own-at k within));
        paired = λ k d l.
            (let len = rs.len in
            let within : k < length numbers = omega (arith, len, l) in
            let is : (get_or rows k d).root ≡ num (root k) = ap (λ (r : Star). r.root) (rs.each k d within) in
            let (j, j_in, row) = odd-at k within in
            (num j, subst (λ v. Contains rows (odd_row (num j) v)) (sym is) (j, omega (arith, len, j_in), rs.each j (odd_row (num j) (num (root k))) j_in ∙ row)));
      }

pub roots-below : (placed : List (ℕ × ℕ)) (n : ℕ) (roots levels : List ℕ) → AreLevels placed n roots levels → All (λ r. r < n) roots
roots-below placed n roots levels lv k d l =
    let len = lv.as_many_roots in
    let within : k < n = omega (arith, len, l) in
    let low = (lv.root k within).least k (0, stay) in
    let is = get_or_default roots k d 0 l in
    omega (arith, within, low, is)
