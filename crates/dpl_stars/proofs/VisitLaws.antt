-- Visiting the neighbours of a number, and starting and ending a component.
use Rattle.std.proofs.Common.{◌≡◌, ◌≢◌, ℕ, suc, ◌+◌, ◌<◌, ◌≤◌, inl, inr, List, length, get_or, sym, refl, ap, subst, ◌∙◌, arith}
use Rattle.std.proofs.lemmas.Bool.{cases_eq, cases_lt}
use Rattle.dpl_spec_split.specs.Graphs.{Walk, stay, step, IsDistance, IsRoot, graph_of}
use Rattle.dpl_stars.specs.declared.reached.Reached.{Reached}
use Rattle.dpl_stars.specs.Levels.{AreEdgesBelow, AreLevels}
use Rattle.dpl_stars.specs.Arcs.{arc_at, IsLastArc, AreChains}
use Rattle.dpl_stars.specs.Growing.{root_in, level_in, place_in, reached_count, IsGrown, IsNoted, IsMet}
use Rattle.dpl_stars.proofs.Walks.{Walk-snoc, walk_to, graph_of-undirected}
use Rattle.dpl_stars.proofs.ArcLaws.{arc-joined, arc-of, arc-below, edge-below, below-ordered}
use Rattle.dpl_stars.proofs.GrowLaws.{Noting, note-grown, kept_root, kept_level, noted_root, noted_level, noted_other_root}
use Rattle.dpl_stars.proofs.GrowLaws.{noted_other_level, new_root, new_level, old_place, one_more}

-- among the arcs that leave a, those from the next on are done; a stands at head, with this level
pub record IsVisiting (edges : List (ℕ × ℕ)) (n now head a level next : ℕ) (x : Reached) : Type 0 where
  pub grown : IsGrown edges n (now + 1) now head x
  pub some : head < reached_count x
  pub here : place_in x head ≡ a
  pub root : root_in x a ≡ now
  pub at : level_in x a ≡ level
  pub within : next ≤ length edges + length edges
  pub leaves : (k : ℕ) → next ≡ suc k → (arc_at edges k).0 ≡ a
  pub done : (k : ℕ) → next ≤ k → k < length edges + length edges → (arc_at edges k).0 ≡ a → (root_in x (arc_at edges k).1 ≡ now) × (level_in x (arc_at edges k).1 ≤ suc level)

-- what meeting one neighbour does
pub record IsOneFurther (edges : List (ℕ × ℕ)) (n now head to level : ℕ) (x y : Reached) : Type 0 where
  pub grown : IsGrown edges n (now + 1) now head y
  pub more : reached_count x ≤ reached_count y
  pub places : (j : ℕ) → j < reached_count x → place_in y j ≡ place_in x j
  pub roots : (v : ℕ) → root_in x v ≢ n → root_in y v ≡ root_in x v
  pub levels : (v : ℕ) → root_in x v ≢ n → level_in y v ≡ level_in x v
  pub met : (root_in y to ≡ now) × (level_in y to ≤ suc level)

further_same : (edges : List (ℕ × ℕ)) (n now head a level next k : ℕ) (x : Reached) → AreEdgesBelow n edges
    → IsVisiting edges n now head a level next x → k < length edges + length edges → (arc_at edges k).0 ≡ a
    → root_in x (arc_at edges k).1 ≢ n → IsOneFurther edges n now head (arc_at edges k).1 level x x
further_same edges n now head a level next k x b v k_in leaves reached =
    let to : ℕ = (arc_at edges k).1 in
    let to_in : to < n = (arc-below n edges b k k_in).1 in
    let un = graph_of-undirected edges (below-ordered n edges b) in
    let joined : graph_of edges to a = un.both a to (subst (λ u. graph_of edges u to) leaves (arc-joined edges k k_in)) in
    let (j, j_in, is) = v.grown.found to to_in reached in
    let root : root_in x to ≡ now = elim (cases_lt j head) [
      | inl less ↦
          let (same, near) = v.grown.closed j less a (subst (λ u. graph_of edges u a) (sym is) joined) in
          let e : root_in x a ≡ root_in x to = same ∙ ap (λ u. root_in x u) is in
          sym e ∙ v.root
      | inr from ↦ ap (λ u. root_in x u) (sym is) ∙ v.grown.same j from j_in
    ] in
    let near = v.grown.near to to_in root head (omega arith) v.some in
    let here : level_in x (place_in x head) ≡ level = ap (λ u. level_in x u) v.here ∙ v.at in
    record {
      grown = v.grown;
      more = omega arith;
      places = λ i l. refl;
      roots = λ u l. refl;
      levels = λ u l. refl;
      met = (root, omega (arith, near, here));
    }

visit_noting : (edges : List (ℕ × ℕ)) (n now head a level next k : ℕ) (x y : Reached) → AreEdgesBelow n edges → now < n
    → IsVisiting edges n now head a level next x → k < length edges + length edges → (arc_at edges k).0 ≡ a
    → root_in x (arc_at edges k).1 ≡ n → IsNoted (arc_at edges k).1 now (level + 1) x y → Noting edges n (now + 1) now head (arc_at edges k).1 (level + 1) x y
visit_noting edges n now head a level next k x y b now_in v k_in leaves unreached noted =
    let to : ℕ = (arc_at edges k).1 in
    let to_in : to < n = (arc-below n edges b k k_in).1 in
    let joined : graph_of edges a to = subst (λ u. graph_of edges u to) leaves (arc-joined edges k k_in) in
    let listed = v.grown.listed head v.some in
    let a_in : a < n = subst (λ u. u < n) v.here listed.0 in
    let a_root = v.root in
    let a_level = v.at in
    let a_reached : root_in x a ≢ n = λ e. omega (arith, e, a_root, now_in) in
    let here : level_in x (place_in x head) ≡ level = ap (λ u. level_in x u) v.here ∙ v.at in
    let walk : Walk (graph_of edges) now a level = subst (λ r. Walk (graph_of edges) r a level) a_root
    (subst (λ m. Walk (graph_of edges) (root_in x a) a m) a_level (v.grown.sound a a_in a_reached)) in
    let (self, none) = v.grown.rooted a a_in a_reached in
    let now_self : root_in x now ≡ now = ap (λ r. root_in x r) (sym a_root) ∙ (self ∙ a_root) in
    let now_none : level_in x now ≡ 0 = ap (λ r. level_in x r) (sym a_root) ∙ none in
    let now_old : now ≢ to = λ e. (let f : root_in x now ≡ root_in x to = ap (λ r. root_in x r) e in omega (arith, f, now_self, unreached, now_in)) in
    let shallow = v.grown.shallow a a_in a_reached in
    record {
      grown = v.grown;
      unreached = unreached;
      b_in = to_in;
      now_in = now_in;
      noted = noted;
      walk = walk_to (graph_of edges) (level + 1) (Walk-snoc (graph_of edges) walk joined) (omega arith);
      low = elim (cases_lt to now) [ inl less ↦ absurd (v.grown.before to (omega (arith, less)) unreached) | inr l ↦ l ];
      shallow = omega (arith, shallow, a_level);
      rooted = (noted_other_root noted now now_old ∙ now_self, noted_other_level noted now now_old ∙ now_none);
      frontier = λ j from j_in.
          let up = v.grown.rising head j (omega arith) from j_in in
          let (o_in, o_reached) = v.grown.listed j j_in in
          let near = v.grown.near (place_in x j) o_in (v.grown.same j from j_in) head (omega arith) v.some in
          (omega (arith, near, here), omega (arith, up, here));
      back = λ u u_in is. let near = v.grown.near u u_in is head (omega arith) v.some in omega (arith, near, here);
    }

further_new : (edges : List (ℕ × ℕ)) (n now head to level : ℕ) (x y : Reached) → Noting edges n (now + 1) now head to (level + 1) x y → IsOneFurther edges n now head to level x y
further_new edges n now head to level x y h = record {
  grown = note-grown h;
  more = let more = one_more h in omega (arith, more);
  places = old_place h;
  roots = kept_root h;
  levels = kept_level h;
  met = (new_root h, let l = new_level h in omega (arith, l));
}

one_further : (edges : List (ℕ × ℕ)) (n now head a level next k : ℕ) (x y : Reached) → AreEdgesBelow n edges → now < n
    → IsVisiting edges n now head a level next x → k < length edges + length edges → (arc_at edges k).0 ≡ a
    → IsMet n (arc_at edges k).1 now (level + 1) x y → IsOneFurther edges n now head (arc_at edges k).1 level x y
one_further edges n now head a level next k x y b now_in v k_in leaves met = elim (cases_eq (root_in x (arc_at edges k).1) n) [
  | inl unreached ↦ further_new edges n now head (arc_at edges k).1 level x y
      (visit_noting edges n now head a level next k x y b now_in v k_in leaves unreached (met.new unreached))
  | inr reached ↦ subst (λ z. IsOneFurther edges n now head (arc_at edges k).1 level x z) (sym (met.reached reached))
      (further_same edges n now head a level next k x b v k_in leaves reached)
]

-- the next arc that leaves a is met
pub visit-step : (edges : List (ℕ × ℕ)) (n now head a level next to after : ℕ) (last before : List ℕ) (x y : Reached)
    → AreEdgesBelow n edges → AreChains edges n (length edges + length edges) last before → now < n
    → IsVisiting edges n now head a level next x → (k : ℕ) → next ≡ suc k → (arc_at edges k).1 ≡ to → IsMet n to now (level + 1) x y
    → after ≡ get_or before k 0 → IsVisiting edges n now head a level after y
visit-step edges n now head a level next to after last before x y b chains now_in v k is to_is met after_is =
    let within = v.within in
    let k_in : k < length edges + length edges = omega (arith, is, within) in
    let leaves = v.leaves k is in
    let f : IsOneFurther edges n now head (arc_at edges k).1 level x y = one_further edges n now head a level next k x y b now_in v k_in
    leaves (subst (λ u. IsMet n u now (level + 1) x y) (sym to_is) met) in
    let chain : IsLastArc edges a k after = subst (λ p. IsLastArc edges a k p) (sym after_is) (subst (λ u. IsLastArc edges u k (get_or before k 0)) leaves (chains.chains k k_in)) in
    let a_root = v.root in
    let a_reached : root_in x a ≢ n = λ e. omega (arith, e, a_root, now_in) in
    record {
      grown = f.grown;
      some = let s = v.some in let m = f.more in omega (arith, s, m);
      here = f.places head v.some ∙ v.here;
      root = f.roots a a_reached ∙ v.root;
      at = f.levels a a_reached ∙ v.at;
      within = let w = chain.within in omega (arith, w, k_in);
      leaves = chain.leaves;
      done = λ j from j_in j_leaves. elim (cases_lt k j) [
        | inl later ↦
            let (root, near) = v.done j (omega (arith, is, later)) j_in j_leaves in
            let reached : root_in x (arc_at edges j).1 ≢ n = λ e. omega (arith, e, root, now_in) in
            let same = f.levels (arc_at edges j).1 reached in
            (f.roots (arc_at edges j).1 reached ∙ root, omega (arith, near, same))
        | inr up ↦ elim (cases_eq j k) [
          | inl one ↦ subst (λ i. (root_in y (arc_at edges i).1 ≡ now) × (level_in y (arc_at edges i).1 ≤ suc level)) (sym one) f.met
          | inr ne ↦ absurd (chain.none j from (omega (arith, up, ne)) j_leaves)
        ]
      ];
    }

pub visit-start : (edges : List (ℕ × ℕ)) (n now head a level next : ℕ) (last before : List ℕ) (x : Reached) → AreChains edges n (length edges + length edges) last before
    → IsGrown edges n (now + 1) now head x → head < reached_count x → a ≡ place_in x head → level ≡ level_in x a → next ≡ get_or last a 0
    → IsVisiting edges n now head a level next x
visit-start edges n now head a level next last before x chains grown some a_is level_is next_is =
    let a_in : a < n = subst (λ u. u < n) (sym a_is) (grown.listed head some).0 in
    let chain : IsLastArc edges a (length edges + length edges) next = subst (λ p. IsLastArc edges a (length edges + length edges) p) (sym next_is) (chains.heads a a_in) in
    record {
      grown = grown;
      some = some;
      here = sym a_is;
      root = ap (λ u. root_in x u) a_is ∙ grown.same head (omega arith) some;
      at = sym level_is;
      within = chain.within;
      leaves = chain.leaves;
      done = λ k from k_in leaves. absurd (chain.none k from k_in leaves);
    }

-- the same order and levels, seen from elsewhere
regrown : (edges : List (ℕ × ℕ)) (n bound now head bound' now' head' : ℕ) (x : Reached) → IsGrown edges n bound now head x
    → ((v : ℕ) → v < bound' → root_in x v ≢ n)
    → head' ≤ reached_count x
    → ((j : ℕ) → j < head' → (w : ℕ) → graph_of edges (place_in x j) w → (root_in x w ≡ root_in x (place_in x j)) × (level_in x w ≤ suc (level_in x (place_in x j))))
    → ((j : ℕ) → head' ≤ j → j < reached_count x → root_in x (place_in x j) ≡ now')
    → ((i j : ℕ) → head' ≤ i → i ≤ j → j < reached_count x → level_in x (place_in x i) ≤ level_in x (place_in x j))
    → ((v : ℕ) → v < n → root_in x v ≡ now' → (j : ℕ) → head' ≤ j → j < reached_count x → level_in x v ≤ suc (level_in x (place_in x j)))
    → IsGrown edges n bound' now' head' x
regrown edges n bound now head bound' now' head' x g before within closed same rising near = record {
  as_many_roots = g.as_many_roots;
  as_many_levels = g.as_many_levels;
  count = g.count;
  listed = g.listed;
  found = g.found;
  sound = g.sound;
  low = g.low;
  shallow = g.shallow;
  rooted = g.rooted;
  before = before;
  within = within;
  closed = closed;
  same = same;
  rising = rising;
  near = near;
}

pub visit-end : (edges : List (ℕ × ℕ)) (n now head a level next : ℕ) (x : Reached) → next ≡ 0 → IsVisiting edges n now head a level next x
    → IsGrown edges n (now + 1) now (head + 1) x
visit-end edges n now head a level next x is v =
    let some = v.some in
    regrown edges n (now + 1) now head (now + 1) now (head + 1) x v.grown v.grown.before (omega (arith, some))
    (λ j l w joined. elim (cases_eq j head) [
      | inl one ↦
          let here : place_in x j ≡ a = ap (λ i. place_in x i) one ∙ v.here in
          let (k, k_in, arc) = arc-of edges a w (subst (λ u. graph_of edges u w) here joined) in
          let (root, near) = v.done k (omega (arith, is)) k_in (ap (λ (e : ℕ × ℕ). e.0) arc) in
          let to : (arc_at edges k).1 ≡ w = ap (λ (e : ℕ × ℕ). e.1) arc in
          let w_root : root_in x w ≡ now = ap (λ u. root_in x u) (sym to) ∙ root in
          let w_level : level_in x (arc_at edges k).1 ≡ level_in x w = ap (λ u. level_in x u) to in
          let a_level = v.at in
          subst (λ u. (root_in x w ≡ root_in x u) × (level_in x w ≤ suc (level_in x u))) (sym here) (w_root ∙ sym v.root, omega (arith, near, w_level, a_level))
      | inr ne ↦ v.grown.closed j (omega (arith, l, ne)) w joined
    ])
    (λ j from l. v.grown.same j (omega (arith, from)) l)
    (λ i j from up l. v.grown.rising i j (omega (arith, from)) up l)
    (λ u u_in root j from l. v.grown.near u u_in root j (omega (arith, from)) l)

-- a component starts at its least number
pub first-grown : (edges : List (ℕ × ℕ)) (n now : ℕ) (x y : Reached) → IsGrown edges n now now (reached_count x) x → root_in x now ≡ n
    → now < n → IsNoted now now 0 x y → IsGrown edges n (now + 1) now (reached_count x) y
first-grown edges n now x y grown unreached now_in noted =
    let as_many_roots = grown.as_many_roots in
    let as_many_levels = grown.as_many_levels in
    let root : root_in y now ≡ now = noted_root noted (omega (arith, as_many_roots, now_in)) in
    let h : Noting edges n now now (reached_count x) now 0 x y = record {
      grown = grown;
      unreached = unreached;
      b_in = now_in;
      now_in = now_in;
      noted = noted;
      walk = stay;
      low = omega arith;
      shallow = omega arith;
      rooted = (root, noted_level noted (omega (arith, as_many_levels, now_in)));
      frontier = λ j from l. absurd (omega (arith, from, l));
      back = λ u u_in is.
          let reached : root_in x u ≢ n = λ e. omega (arith, e, is, now_in) in
          let self = (grown.rooted u u_in reached).0 in
          let same : root_in x now ≡ root_in x u = ap (λ r. root_in x r) (sym is) ∙ self in
          absurd (omega (arith, same, is, unreached, now_in));
    } in
    let all = note-grown h in
    regrown edges n now now (reached_count x) (now + 1) now (reached_count x) y all
    (λ u l. elim (cases_eq u now) [
      | inl e ↦ λ f. (let g : root_in y u ≡ root_in y now = ap (λ r. root_in y r) e in omega (arith, f, g, root, now_in))
      | inr ne ↦ all.before u (omega (arith, l, ne))
    ])
    all.within all.closed all.same all.rising all.near

-- where the order is done, any number may be the next
pub grown-next : (edges : List (ℕ × ℕ)) (n bound now other head : ℕ) (x : Reached) → IsGrown edges n bound now head x
    → reached_count x ≤ head → IsGrown edges n bound other (reached_count x) x
grown-next edges n bound now other head x grown end =
    regrown edges n bound now head bound other (reached_count x) x grown grown.before (omega arith)
    (λ j l. grown.closed j (omega (arith, l, end)))
    (λ j from l. absurd (omega (arith, from, l)))
    (λ i j from up l. absurd (omega (arith, from, up, l)))
    (λ u u_in root j from l. absurd (omega (arith, from, l)))

pub grown-past : (edges : List (ℕ × ℕ)) (n now : ℕ) (x : Reached) → IsGrown edges n now now (reached_count x) x → root_in x now ≢ n
    → IsGrown edges n (now + 1) (now + 1) (reached_count x) x
grown-past edges n now x grown reached =
    let all = grown-next edges n now now (now + 1) (reached_count x) x grown (omega arith) in
    regrown edges n now (now + 1) (reached_count x) (now + 1) (now + 1) (reached_count x) x all
    (λ u l. elim (cases_eq u now) [
      | inl e ↦ λ f. reached (ap (λ r. root_in x r) (sym e) ∙ f)
      | inr ne ↦ all.before u (omega (arith, l, ne))
    ])
    all.within all.closed all.same all.rising all.near

-- all numbers are reached
all_closed : (edges : List (ℕ × ℕ)) (n now : ℕ) (x : Reached) → IsGrown edges n n now (reached_count x) x → (v w : ℕ) → v < n
    → graph_of edges v w → (root_in x w ≡ root_in x v) × (level_in x w ≤ suc (level_in x v))
all_closed edges n now x grown v w v_in joined =
    let (j, j_in, is) = grown.found v v_in (grown.before v v_in) in
    subst (λ u. (root_in x w ≡ root_in x u) × (level_in x w ≤ suc (level_in x u))) is (grown.closed j j_in w (subst (λ u. graph_of edges u w) (sym is) joined))

along : (edges : List (ℕ × ℕ)) (n now : ℕ) (x : Reached) → AreEdgesBelow n edges → IsGrown edges n n now (reached_count x) x → {u v m : ℕ}
    → u < n → Walk (graph_of edges) u v m → (root_in x v ≡ root_in x u) × (level_in x v ≤ level_in x u + m)
along edges n now x b grown {u = u} u_in stay = (refl, omega arith)
along edges n now x b grown {u = u} u_in (step {v = w} joined rest) =
    let (root, near) = all_closed edges n now x grown u w u_in joined in
    let (root_on, level_on) = along edges n now x b grown (edge-below n edges b u w joined).1 rest in
    (root_on ∙ root, omega (arith, near, level_on))

walk_below : (edges : List (ℕ × ℕ)) (n : ℕ) → AreEdgesBelow n edges → {u v m : ℕ} → Walk (graph_of edges) u v m → v < n → u < n
walk_below edges n b stay l = l
walk_below edges n b (step {u = u} {v = v} joined rest) l = (edge-below n edges b u v joined).0

grown_root : (edges : List (ℕ × ℕ)) (n now : ℕ) (x : Reached) → AreEdgesBelow n edges → IsGrown edges n n now (reached_count x) x → (v : ℕ)
    → v < n → IsRoot (graph_of edges) v (root_in x v)
grown_root edges n now x b grown v v_in = record {
  reached = (level_in x v, grown.sound v v_in (grown.before v v_in));
  least = λ u (m, w).
      let u_in : u < n = walk_below edges n b w v_in in
      let same = (along edges n now x b grown u_in w).0 in
      let low = grown.low u u_in (grown.before u u_in) in
      omega (arith, same, low);
}

grown_level : (edges : List (ℕ × ℕ)) (n now : ℕ) (x : Reached) → AreEdgesBelow n edges → IsGrown edges n n now (reached_count x) x
    → (v : ℕ) → v < n → IsDistance (graph_of edges) (root_in x v) v (level_in x v)
grown_level edges n now x b grown v v_in =
    let reached = grown.before v v_in in
    let low = grown.low v v_in reached in
    let none = (grown.rooted v v_in reached).1 in
    record {
      walk = grown.sound v v_in reached;
      least = λ m w. let near = (along edges n now x b grown (omega (arith, low, v_in)) w).1 in omega (arith, near, none);
    }

pub grown-levels : (edges : List (ℕ × ℕ)) (n now : ℕ) (x : Reached) → AreEdgesBelow n edges → IsGrown edges n n now (reached_count x) x
    → AreLevels edges n x.roots.items x.levels.items
grown-levels edges n now x b grown = record {
  as_many_roots = grown.as_many_roots;
  as_many_levels = grown.as_many_levels;
  root = grown_root edges n now x b grown;
  level = grown_level edges n now x b grown;
}
