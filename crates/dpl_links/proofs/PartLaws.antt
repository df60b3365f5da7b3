-- Steps of the search for levels.
use Rattle.std.proofs.Common.{◌≡◌, ◌≢◌, ℕ, ◌+◌, ◌*◌, ◌<◌, ◌≤◌, ◌⊎◌, inl, inr, ⊎_elim, Bool, true, false, List, [], ◌∷◌, ◌++◌, length}
use Rattle.std.proofs.Common.{get_or, set, take, replicate, refl, sym, ap, ◌∙◌, arith, length-append, length-set, get_or-set_other}
use Rattle.std.proofs.Common.{get_or-set_same}
use Rattle.std.proofs.lemmas.Bool.{cases_lt, cases_eq}
use Rattle.std.proofs.lemmas.List.{get_or_default, length-replicate}
use Rattle.std.proofs.lemmas.List.Sums.{sum_by-append, sum_by-cons, get_or-le-sum_by}
use Rattle.std.proofs.lemmas.List.Elements.{Contains-append_left, Contains-append_right, Contains-append_cases, Contains-push, Contains-push_cases, Contains-get_or}
use Rattle.std.specs.List.{Contains, sum_by}
use Rattle.std.specs.Prelude.{◌↔◌}
use Rattle.dpl_spec_split.proofs.Ordered.{Contains-nil}
use Rattle.dpl_links.specs.Graph.{targets_at, LeadsTo, Reaches, here, on, IsMarked}
use Rattle.dpl_links.specs.Marks.{unmarked}
use Rattle.dpl_links.specs.Order.{end_of, to_go}
use Rattle.dpl_links.specs.Parts.{IsLevelAt, AreLevels, IsRising, none_rise, one_more_rises, by_part, by_visit, IsOf, IsOpen, IsGoneDown}
use Rattle.dpl_links.specs.Parts.{IsToGo, IsPart, IsPartSearch, AreClosed, parts_left}
use Rattle.dpl_links.specs.declared.order.Visit.{Visit}
use Rattle.dpl_links.specs.declared.levels.Part.{Part}
use Rattle.dpl_links.proofs.MarkLaws.{marked_here, marked_there, marked_cases}
use Rattle.dpl_links.proofs.OrderLaws.{snoc_same}
use Rattle.dpl_links.proofs.TakeLaws.{Contains-take_more, Contains-take_keeps, Contains-take_last}
use Rattle.dpl_links.proofs.SpreadLaws.{Reaches-then, kept_closed, marked_below, none_marked}

pub Reaches-on : {graph : List (List ℕ)} {k j l : ℕ} → Reaches graph k j → Reaches graph j l → Reaches graph k l
Reaches-on here r = r
Reaches-on (on e d) r = on e (Reaches-on d r)

-- ---- lists that rise

prefix_rises : {X : Type 0} {key : X → ℕ} {xs : List X} (rest : List X) (x : X) → xs ≡ rest ++ x ∷ [] → IsRising key xs
    → IsRising key rest × ((y : X) → Contains rest y → key y < key x)
prefix_rises rest x e (none_rise none) = absurd (omega (arith, none, ap length e, length-append rest (x ∷ [])))
prefix_rises rest x e (one_more_rises prefix y is r less) =
    let same = snoc_same prefix rest y x (sym is ∙ e) in
    rw (← same.0, ← same.1) (r, less)

push_rises : {X : Type 0} {key : X → ℕ} (rest : List X) (x : X) → IsRising key rest → ((y : X) → Contains rest y → key y < key x) → IsRising key (rest ++ x ∷ [])
push_rises rest x r less = one_more_rises rest x refl r less

rises_too : {X : Type 0} {key other : X → ℕ} {xs : List X} → ((y : X) → Contains xs y → other y ≡ key y) → IsRising key xs → IsRising other xs
rises_too same (none_rise none) = none_rise none
rises_too {xs = xs} same (one_more_rises rest x e r less) =
    one_more_rises rest x e (rises_too (λ y c. same y (rw e (Contains-append_left rest (x ∷ []) y c))) r)
    (λ y c. let a = same y (rw e (Contains-append_left rest (x ∷ []) y c)) in let b = same x (rw e (Contains-push rest x)) in let l = less y c in omega (arith, a, b, l))

-- ---- the last part and the last vertex of the path

module _ (graph : List (List ℕ)) (from : ℕ) (found closed : List Bool) (numbers levels : List ℕ) (under : List Part) (q : Part)
    (rest : List Visit) (v : Visit) (count closings : ℕ) (s : IsPartSearch graph from found closed numbers levels (under ++ q ∷ [])
    (rest ++ v ∷ []) count closings) where
  parts : List Part
  parts = under ++ q ∷ []

  q_there : Contains (under ++ q ∷ []) q
  q_there = Contains-push under q

  under_there : (p : Part) → Contains under p → Contains (under ++ q ∷ []) p
  under_there p c = Contains-append_left under (q ∷ []) p c

  top : IsPart graph found closed numbers (under ++ q ∷ []) (rest ++ v ∷ []) q
  top = s.part q q_there

  under_low : (p : Part) → Contains under p → by_part numbers p < by_part numbers q
  under_low = (prefix_rises under q refl s.parts_rise).1

  all_low : (p : Part) → Contains (under ++ q ∷ []) p → by_part numbers p ≤ by_part numbers q
  all_low p c = ⊎_elim (λ x. let h = under_low p x in omega (arith, h)) (λ (e : q ≡ p). rw e (omega arith)) (Contains-push_cases under q p c)

  rest_low : (u : Visit) → Contains rest u → by_visit numbers u < by_visit numbers v
  rest_low = (prefix_rises rest v refl s.path_rise).1

  pub v_found : IsMarked found v.vertex
  v_found = s.path_found v (Contains-push rest v)

  pub q_known : (k d : ℕ) → k < length q.vertices.items → get_or q.vertices.items k d < length graph
  q_known k d h = let m = marked_below found (get_or q.vertices.items k d)
      (top.was_found (get_or q.vertices.items k d) (Contains-get_or q.vertices.items k d h)) in omega (arith, m, s.found_each)

  pub v_known : v.vertex < length graph
  v_known = let m = marked_below found v.vertex v_found in omega (arith, m, s.found_each)

  v_unshut : ¬ IsMarked closed v.vertex
  v_unshut = s.path_unshut v (Contains-push rest v)

  -- no vertex of a lower part belongs to the last one
  below_root : (p : Part) (k : ℕ) → Contains under p → IsOf p k → get_or numbers k 0 < by_part numbers q
  below_root p k c h = (s.part p (under_there p c)).to_next k q h q_there (under_low p c)

  -- a visit on the path to the last part's root is no later than v
  root_low : by_part numbers q ≤ by_visit numbers v
  root_low =
      let o = top.on_path in
      let e : by_visit numbers o.0 ≡ by_part numbers q = ap (λ k. get_or numbers k 0) o.2 in
      ⊎_elim (λ c. let h = rest_low o.0 c in omega (arith, h, e)) (λ (w : v ≡ o.0). let g = ap (by_visit numbers) w in omega (arith, g, e)) (Contains-push_cases rest v o.0 o.1)

  pub v_in_top : IsOf q v.vertex
  v_in_top = ⊎_elim (λ c. absurd (v_unshut c)) (λ o. by_part_of o.0 o.1 o.2) (s.apart v.vertex v_found)
    where
      by_part_of : (p : Part) → Contains (under ++ q ∷ []) p → IsOf p v.vertex → IsOf q v.vertex
      by_part_of p c h = ⊎_elim (λ x. let l = below_root p v.vertex x h in absurd (omega (arith, l, root_low))) (λ (e : q ≡ p). rw e h) (Contains-push_cases under q p c)

  -- ---- one more edge, which leads to a closed vertex, or to one of the last part

  pub one_on : (u : Visit) → u.vertex ≡ v.vertex → u.gone ≡ v.gone + 1 → IsGoneDown found closed numbers q (end_of graph v.vertex v.gone)
      → IsPartSearch graph from found closed numbers levels (under ++ q ∷ []) (rest ++ u ∷ []) count closings
  one_on u is gone down = record {
    found_each = s.found_each;
    closed_each = s.closed_each;
    numbers_each = s.numbers_each;
    levels_each = s.levels_each;
    begun = s.begun;
    reached = s.reached;
    numbered = s.numbered;
    apart = s.apart;
    part = λ p c. now_part p c (s.part p c);
    parts_rise = s.parts_rise;
    path_rise = push_rises rest u (prefix_rises rest v refl s.path_rise).0 (λ y c. let h = rest_low y c in let e = ap (λ k. get_or numbers k 0) is in omega (arith, h, e));
    path_found = λ t c. ⊎_elim (λ x. s.path_found t (Contains-append_left rest (v ∷ []) t x)) (λ (e : u ≡ t). rw (← e, is) v_found) (Contains-push_cases rest u t c);
    path_unshut = λ t c. ⊎_elim (λ x. s.path_unshut t (Contains-append_left rest (v ∷ []) t x)) (λ (e : u ≡ t). rw (← e, is) v_unshut) (Contains-push_cases rest u t c);
    shut_low = s.shut_low;
    shut = s.shut;
  }
    where
      moved : (k : ℕ) → (t : Visit) × Contains (rest ++ v ∷ []) t × (t.vertex ≡ k) → (t : Visit) × Contains (rest ++ u ∷ []) t × (t.vertex ≡ k)
      moved k x = ⊎_elim (λ c. (x.0, Contains-append_left rest (u ∷ []) x.0 c, x.2))
          (λ (w : v ≡ x.0). (u, Contains-push rest u, is ∙ (ap (λ (t : Visit). t.vertex) w ∙ x.2))) (Contains-push_cases rest v x.0 x.1)

      still : (p : Part) → Contains (under ++ q ∷ []) p → (k i : ℕ) → IsToGo (rest ++ v ∷ []) k i
          → IsGoneDown found closed numbers p (end_of graph k i) ⊎ IsToGo (rest ++ u ∷ []) k i
      still p c k i x =
          ⊎_elim (λ y. inr (x.0, Contains-append_left rest (u ∷ []) x.0 y, x.2, x.3))
          (λ (w : v ≡ x.0). by_gone (ap (λ (t : Visit). t.vertex) w ∙ x.2) (let g = ap (λ (t : Visit). t.gone) w in omega (arith, g, x.3)))
          (Contains-push_cases rest v x.0 x.1)
        where
          by_gone : v.vertex ≡ k → v.gone ≤ i → IsGoneDown found closed numbers p (end_of graph k i) ⊎ IsToGo (rest ++ u ∷ []) k i
          by_gone e l =
              ⊎_elim (λ (h : v.gone < i). inr (u, Contains-push rest u, is ∙ e, omega (arith, h, gone)))
              (λ (h : i ≤ v.gone). let w : i ≡ v.gone = omega (arith, h, l) in
              inl (rw (w, ← e) (⊎_elim (λ y. inl y) (λ y. let low = all_low p c in inr (y.0, omega (arith, low, y.1))) down)))
              (cases_lt v.gone i)

      now_part : (p : Part) → Contains (under ++ q ∷ []) p → IsPart graph found closed numbers (under ++ q ∷ []) (rest ++ v ∷ []) p
          → IsPart graph found closed numbers (under ++ q ∷ []) (rest ++ u ∷ []) p
      now_part p c x = record {
        rooted = x.rooted;
        on_path = moved p.root x.on_path;
        whole = x.whole;
        was_found = x.was_found;
        unshut = x.unshut;
        from_root = x.from_root;
        to_next = x.to_next;
        chain = x.chain;
        gone = λ k i h l. ⊎_elim (λ y. inl y) (λ y. still p c k i y) (x.gone k i h l);
      }

  -- ---- no more edges of a vertex that isn't the last part's root

  pub one_back : length (targets_at graph v.vertex) ≤ v.gone → q.root ≢ v.vertex → IsPartSearch graph from found closed numbers levels (under ++ q ∷ []) rest count closings
  one_back none other = record {
    found_each = s.found_each;
    closed_each = s.closed_each;
    numbers_each = s.numbers_each;
    levels_each = s.levels_each;
    begun = s.begun;
    reached = s.reached;
    numbered = s.numbered;
    apart = s.apart;
    part = λ p c. now_part p c (s.part p c);
    parts_rise = s.parts_rise;
    path_rise = (prefix_rises rest v refl s.path_rise).0;
    path_found = λ t c. s.path_found t (Contains-append_left rest (v ∷ []) t c);
    path_unshut = λ t c. s.path_unshut t (Contains-append_left rest (v ∷ []) t c);
    shut_low = s.shut_low;
    shut = s.shut;
  }
    where
      root_other : (p : Part) → Contains (under ++ q ∷ []) p → p.root ≢ v.vertex
      root_other p c e =
          ⊎_elim (λ x. let l = below_root p v.vertex x (rw (← e) (s.part p c).rooted) in let r = top.from_root v.vertex v_in_top in omega (arith, l, r))
          (λ (w : q ≡ p). other (ap (λ (t : Part). t.root) w ∙ e)) (Contains-push_cases under q p c)

      now_part : (p : Part) → Contains (under ++ q ∷ []) p → IsPart graph found closed numbers (under ++ q ∷ []) (rest ++ v ∷ []) p
          → IsPart graph found closed numbers (under ++ q ∷ []) rest p
      now_part p c x = record {
        rooted = x.rooted;
        on_path = ⊎_elim (λ y. (x.on_path.0, y, x.on_path.2))
            (λ (w : v ≡ x.on_path.0). absurd (root_other p c (sym x.on_path.2 ∙ ap (λ (t : Visit). t.vertex) (sym w))))
            (Contains-push_cases rest v x.on_path.0 x.on_path.1);
        whole = x.whole;
        was_found = x.was_found;
        unshut = x.unshut;
        from_root = x.from_root;
        to_next = x.to_next;
        chain = x.chain;
        gone = λ k i h l. ⊎_elim (λ y. inl y) (λ y. inr (still k i l y)) (x.gone k i h l);
      }
        where
          still : (k i : ℕ) → i < length (targets_at graph k) → IsToGo (rest ++ v ∷ []) k i → IsToGo rest k i
          still k i l y =
              ⊎_elim (λ z. (y.0, z, y.2, y.3))
              (λ (w : v ≡ y.0). let e : v.vertex ≡ k = ap (λ (t : Visit). t.vertex) w ∙ y.2 in let g = ap (λ (t : Visit). t.gone) w in
              absurd (omega (arith, none, ap (λ t. length (targets_at graph t)) e, g, y.3, l)))
              (Contains-push_cases rest v y.0 y.1)

  -- ---- no more edges of the last part's root: the part is closed

  pub one_part : (closed' : List Bool) (levels' : List ℕ) → length (targets_at graph v.vertex) ≤ v.gone → q.root ≡ v.vertex
      → length closed' ≡ length closed → length levels' ≡ length levels → ((k : ℕ) → IsMarked closed k → IsMarked closed' k)
      → ((k : ℕ) → IsOf q k → IsMarked closed' k) → ((k : ℕ) → IsMarked closed' k → IsMarked closed k ⊎ IsOf q k)
      → ((k : ℕ) → IsOf q k → get_or levels' k 0 ≡ closings) → ((k : ℕ) → ¬ IsOf q k → get_or levels' k 0 ≡ get_or levels k 0)
      → IsPartSearch graph from found closed' numbers levels' under rest count (closings + 1)
  one_part closed' levels' none root ce le keeps sets alone level stays = record {
    found_each = s.found_each;
    closed_each = ce ∙ s.closed_each;
    numbers_each = s.numbers_each;
    levels_each = le ∙ s.levels_each;
    begun = s.begun;
    reached = s.reached;
    numbered = s.numbered;
    apart = λ k m. ⊎_elim (λ c. inl (keeps k c)) (λ o. ⊎_elim (λ x. inr (o.0, x, o.2)) (λ (w : q ≡ o.0). inl (sets k (rw w o.2)))
        (Contains-push_cases under q o.0 o.1)) (s.apart k m);
    part = λ p c. now_part p c (s.part p (under_there p c));
    parts_rise = (prefix_rises under q refl s.parts_rise).0;
    path_rise = (prefix_rises rest v refl s.path_rise).0;
    path_found = λ t c. s.path_found t (Contains-append_left rest (v ∷ []) t c);
    path_unshut = λ t c m. ⊎_elim (λ x. s.path_unshut t (Contains-append_left rest (v ∷ []) t c) x) (λ x. rest_out t c x) (alone t.vertex m);
    shut_low = λ k m. ⊎_elim (λ c. let l = s.shut_low k c in let e = stays k (out k c) in omega (arith, l, e)) (λ c. let e = level k c in omega (arith, e)) (alone k m);
    shut = λ k j m e. ⊎_elim (λ c. old k j c e) (λ c. new k j c e) (alone k m);
  }
    where
      out : (k : ℕ) → IsMarked closed k → ¬ IsOf q k
      out k c h = top.unshut k h c

      root_is : by_part numbers q ≡ by_visit numbers v
      root_is = ap (λ k. get_or numbers k 0) root

      rest_out : (t : Visit) → Contains rest t → ¬ IsOf q t.vertex
      rest_out t c h = let l = rest_low t c in let r = top.from_root t.vertex h in omega (arith, l, r, root_is)

      under_out : (p : Part) (k : ℕ) → Contains under p → IsOf p k → ¬ IsOf q k
      under_out p k c h g = let l = below_root p k c h in let r = top.from_root k g in omega (arith, l, r)

      old : (k j : ℕ) → IsMarked closed k → LeadsTo graph k j → IsMarked closed' j × IsLevelAt graph levels' k j
      old k j c e =
          let x = s.shut k j c e in
          let a = stays k (out k c) in
          let b = stays j (out j x.0) in
          (keeps j x.0, ⊎_elim (λ l. inl (omega (arith, l, a, b))) (λ y. inr (omega (arith, y.0, a, b), y.1)) x.1)

      -- where an edge of the closed part leads
      by_open : (k j : ℕ) → IsOf q k → by_part numbers q ≤ get_or numbers j 0 → IsOpen (under ++ q ∷ []) j → IsMarked closed' j × IsLevelAt graph levels' k j
      by_open k j h l o =
          ⊎_elim (λ x. let b = below_root o.0 j x o.2 in absurd (omega (arith, l, b)))
          (λ (w : q ≡ o.0). let g : IsOf q j = rw w o.2 in (sets j g, inr (level j g ∙ sym (level k h), top.whole j k g h)))
          (Contains-push_cases under q o.0 o.1)

      by_closed : (k j : ℕ) → IsOf q k → IsMarked closed j → IsMarked closed' j × IsLevelAt graph levels' k j
      by_closed k j h c = let l = s.shut_low j c in let a = stays j (out j c) in let b = level k h in (keeps j c, inl (omega (arith, l, a, b)))

      no_visit : (k i : ℕ) → IsOf q k → i < length (targets_at graph k) → IsToGo (rest ++ v ∷ []) k i → ⊥
      no_visit k i h l y =
          ⊎_elim (λ z. rest_out y.0 z (rw y.2 h))
          (λ (w : v ≡ y.0). let e : v.vertex ≡ k = ap (λ (t : Visit). t.vertex) w ∙ y.2 in let g = ap (λ (t : Visit). t.gone) w in
          absurd (omega (arith, none, ap (λ t. length (targets_at graph t)) e, g, y.3, l)))
          (Contains-push_cases rest v y.0 y.1)

      new : (k j : ℕ) → IsOf q k → LeadsTo graph k j → IsMarked closed' j × IsLevelAt graph levels' k j
      new k j h e =
          let is : end_of graph k e.0 ≡ j = get_or_default (targets_at graph k) e.0 0 j e.1 ∙ e.2 in
          ⊎_elim
          (λ y. let d : IsGoneDown found closed numbers q j = rw (← is) y in
          ⊎_elim (λ c. by_closed k j h c) (λ z. ⊎_elim (λ c. by_closed k j h c) (λ o. by_open k j h z.1 o) (s.apart j z.0)) d)
          (λ y. absurd (no_visit k e.0 h e.1 y))
          (top.gone k e.0 h e.1)

      now_part : (p : Part) → Contains under p → IsPart graph found closed numbers (under ++ q ∷ []) (rest ++ v ∷ []) p → IsPart graph found closed' numbers under rest p
      now_part p c x = record {
        rooted = x.rooted;
        on_path = ⊎_elim (λ y. (x.on_path.0, y, x.on_path.2))
            (λ (w : v ≡ x.on_path.0). absurd (under_out p p.root c x.rooted (rw (sym x.on_path.2, ← w) v_in_top)))
            (Contains-push_cases rest v x.on_path.0 x.on_path.1);
        whole = x.whole;
        was_found = x.was_found;
        unshut = λ k h m. ⊎_elim (λ y. x.unshut k h y) (λ y. under_out p k c h y) (alone k m);
        from_root = x.from_root;
        to_next = λ k r h d l. x.to_next k r h (under_there r d) l;
        chain = λ r d l. x.chain r (under_there r d) l;
        gone = λ k i h l. ⊎_elim (λ y. inl (⊎_elim (λ z. inl (keeps (end_of graph k i) z)) (λ z. inr z) y)) (λ y. inr (still k i h y)) (x.gone k i h l);
      }
        where
          still : (k i : ℕ) → IsOf p k → IsToGo (rest ++ v ∷ []) k i → IsToGo rest k i
          still k i h y =
              ⊎_elim (λ z. (y.0, z, y.2, y.3))
              (λ (w : v ≡ y.0). let e : v.vertex ≡ k = ap (λ (t : Visit). t.vertex) w ∙ y.2 in absurd (under_out p k c h (rw (← e) v_in_top)))
              (Contains-push_cases rest v y.0 y.1)

  -- ---- one more edge, which leads to a vertex that wasn't found

  pub one_new : (u w : Visit) (n : Part) (found' : List Bool) (numbers' : List ℕ) → u.vertex ≡ v.vertex → u.gone ≡ v.gone + 1
      → end_of graph v.vertex v.gone ≡ w.vertex → w.gone ≡ 0 → n.root ≡ w.vertex → n.vertices.items ≡ w.vertex ∷ []
      → LeadsTo graph v.vertex w.vertex → w.vertex < length graph → ¬ IsMarked found w.vertex → ¬ IsMarked closed w.vertex
      → found' ≡ set found w.vertex true → numbers' ≡ set numbers w.vertex count → IsPartSearch graph from found' closed numbers' levels
      ((under ++ q ∷ []) ++ n ∷ []) ((rest ++ u ∷ []) ++ w ∷ []) (count + 1) closings
  one_new u w n found' numbers' is gone leads none root alone edge h fresh unshut fe ne = record {
    found_each = rw fe (length-set found w.vertex true ∙ s.found_each);
    closed_each = s.closed_each;
    numbers_each = rw ne (length-set numbers w.vertex count ∙ s.numbers_each);
    levels_each = s.levels_each;
    begun = kept from s.begun;
    reached = λ k m. ⊎_elim (λ x. s.reached k x) (λ x. rw x (Reaches-then (s.reached v.vertex v_found) edge)) (cases k m);
    numbered = λ k m. ⊎_elim (λ x. let a = s.numbered k x in let b = same k x in omega (arith, a, b)) (λ x. let b = last k x in omega (arith, b)) (cases k m);
    apart = λ k m. ⊎_elim (λ x. ⊎_elim (λ c. inl c) (λ o. inr (o.0, more o.0 o.1, o.2)) (s.apart k x)) (λ x. inr (n, Contains-push (under ++ q ∷ []) n, of_new k x)) (cases k m);
    part = λ p c. ⊎_elim (λ x. old_part p x (s.part p x)) (λ (e : n ≡ p). rw (← e) new_part) (Contains-push_cases (under ++ q ∷ []) n p c);
    parts_rise = push_rises (under ++ q ∷ []) n (rises_too (λ p c. root_same p c) s.parts_rise) (λ p c. let a = root_same p c in
        let b = root_count p c in omega (arith, a, b, n_number));
    path_rise = push_rises (rest ++ u ∷ []) w
        (push_rises rest u (rises_too (λ t c. visit_same t (Contains-append_left rest (v ∷ []) t c)) (prefix_rises rest v refl s.path_rise).0)
        (λ t c. let l = rest_low t c in let a = visit_same t (Contains-append_left rest (v ∷ []) t c) in omega (arith, l, a, u_number)))
        (λ t c. let l = path_count t c in omega (arith, l, w_number));
    path_found = λ t c. ⊎_elim (λ x. ⊎_elim (λ y. kept t.vertex (s.path_found t (Contains-append_left rest (v ∷ []) t y)))
        (λ (e : u ≡ t). rw (← e, is) (kept v.vertex v_found)) (Contains-push_cases rest u t x))
        (λ (e : w ≡ t). rw (← e, fe) (marked_here found w.vertex inside)) (Contains-push_cases (rest ++ u ∷ []) w t c);
    path_unshut = λ t c. ⊎_elim (λ x. ⊎_elim (λ y. s.path_unshut t (Contains-append_left rest (v ∷ []) t y))
        (λ (e : u ≡ t). rw (← e, is) v_unshut) (Contains-push_cases rest u t x)) (λ (e : w ≡ t). rw (← e) unshut)
        (Contains-push_cases (rest ++ u ∷ []) w t c);
    shut_low = s.shut_low;
    shut = s.shut;
  }
    where
      inside : w.vertex < length found
      inside = omega (arith, h, s.found_each)

      in_numbers : w.vertex < length numbers
      in_numbers = omega (arith, h, s.numbers_each)

      kept : (k : ℕ) → IsMarked found k → IsMarked found' k
      kept k m = rw fe (marked_there found w.vertex k inside m)

      cases : (k : ℕ) → IsMarked found' k → IsMarked found k ⊎ (k ≡ w.vertex)
      cases k m = marked_cases found w.vertex k (rw fe at m)

      same : (k : ℕ) → IsMarked found k → get_or numbers' k 0 ≡ get_or numbers k 0
      same k m = let other : k ≢ w.vertex = λ e. fresh (rw e at m) in rw (ne, get_or-set_other) refl

      last : (k : ℕ) → k ≡ w.vertex → get_or numbers' k 0 ≡ count
      last k e = let i : w.vertex < length numbers = in_numbers in rw (e, ne, get_or-set_same) refl

      w_number : by_visit numbers' w ≡ count
      w_number = last w.vertex refl

      n_number : by_part numbers' n ≡ count
      n_number = last n.root root

      u_number : by_visit numbers' u ≡ by_visit numbers v
      u_number = rw is (same v.vertex v_found)

      of_new : (k : ℕ) → k ≡ w.vertex → IsOf n k
      of_new k e = rw (alone, e) (Contains-push [] w.vertex)

      is_new : (k : ℕ) → IsOf n k → k ≡ w.vertex
      is_new k c = ⊎_elim (λ x. absurd (Contains-nil k x)) (λ (e : w.vertex ≡ k). sym e) (Contains-push_cases [] w.vertex k (rw alone at c))

      more : (p : Part) → Contains (under ++ q ∷ []) p → Contains ((under ++ q ∷ []) ++ n ∷ []) p
      more p c = Contains-append_left (under ++ q ∷ []) (n ∷ []) p c

      root_found : (p : Part) → Contains (under ++ q ∷ []) p → IsMarked found p.root
      root_found p c = (s.part p c).was_found p.root (s.part p c).rooted

      root_same : (p : Part) → Contains (under ++ q ∷ []) p → by_part numbers' p ≡ by_part numbers p
      root_same p c = same p.root (root_found p c)

      root_count : (p : Part) → Contains (under ++ q ∷ []) p → by_part numbers p < count
      root_count p c = s.numbered p.root (root_found p c)

      visit_same : (t : Visit) → Contains (rest ++ v ∷ []) t → by_visit numbers' t ≡ by_visit numbers t
      visit_same t c = same t.vertex (s.path_found t c)

      path_count : (t : Visit) → Contains (rest ++ u ∷ []) t → by_visit numbers' t < count
      path_count t c =
          ⊎_elim (λ x. let a = visit_same t (Contains-append_left rest (v ∷ []) t x) in
          let b = s.numbered t.vertex (s.path_found t (Contains-append_left rest (v ∷ []) t x)) in omega (arith, a, b))
          (λ (e : u ≡ t). let b = s.numbered v.vertex v_found in let a = ap (by_visit numbers') e in omega (arith, a, b, u_number)) (Contains-push_cases rest u t c)

      moved : (k : ℕ) → (t : Visit) × Contains (rest ++ v ∷ []) t × (t.vertex ≡ k) → (t : Visit) × Contains ((rest ++ u ∷ []) ++ w ∷ []) t × (t.vertex ≡ k)
      moved k x = ⊎_elim (λ c. (x.0, Contains-append_left (rest ++ u ∷ []) (w ∷ []) x.0 (Contains-append_left rest (u ∷ []) x.0 c), x.2))
          (λ (e : v ≡ x.0). (
            u,
            Contains-append_left (rest ++ u ∷ []) (w ∷ []) u (Contains-push rest u),
            is
                ∙ (ap (λ (t : Visit). t.vertex) e ∙ x.2),
          )) (Contains-push_cases rest v x.0 x.1)

      to_new : (p : Part) → Contains (under ++ q ∷ []) p → Reaches graph p.root w.vertex
      to_new p c = Reaches-then (Reaches-on ((s.part p c).chain q q_there (all_low p c)) (top.whole q.root v.vertex top.rooted v_in_top)) edge

      still : (p : Part) → Contains (under ++ q ∷ []) p → (k i : ℕ) → IsToGo (rest ++ v ∷ []) k i
          → IsGoneDown found' closed numbers' p (end_of graph k i) ⊎ IsToGo ((rest ++ u ∷ []) ++ w ∷ []) k i
      still p c k i x =
          ⊎_elim (λ y. inr (x.0, Contains-append_left (rest ++ u ∷ []) (w ∷ []) x.0 (Contains-append_left rest (u ∷ []) x.0 y), x.2, x.3))
          (λ (e : v ≡ x.0). by_gone (ap (λ (t : Visit). t.vertex) e ∙ x.2) (let g = ap (λ (t : Visit). t.gone) e in omega (arith, g, x.3)))
          (Contains-push_cases rest v x.0 x.1)
        where
          by_gone : v.vertex ≡ k → v.gone ≤ i → IsGoneDown found' closed numbers' p (end_of graph k i) ⊎ IsToGo ((rest ++ u ∷ []) ++ w ∷ []) k i
          by_gone e l =
              ⊎_elim (λ (g : v.gone < i). inr (u, Contains-append_left (rest ++ u ∷ []) (w ∷ []) u (Contains-push rest u), is ∙ e, omega (arith, g, gone)))
              (λ (g : i ≤ v.gone). let z : i ≡ v.gone = omega (arith, g, l) in
              inl (rw (z, ← e, leads) (inr (
                rw fe (marked_here found w.vertex inside),
                let a = root_same p c in let b = root_count p c in
                    omega (arith, a, b, w_number),
              ))))
              (cases_lt v.gone i)

      old_part : (p : Part) → Contains (under ++ q ∷ []) p → IsPart graph found closed numbers (under ++ q ∷ []) (rest ++ v ∷ []) p
          → IsPart graph found' closed numbers' ((under ++ q ∷ []) ++ n ∷ []) ((rest ++ u ∷ []) ++ w ∷ []) p
      old_part p c x = record {
        rooted = x.rooted;
        on_path = moved p.root x.on_path;
        whole = x.whole;
        was_found = λ k d. kept k (x.was_found k d);
        unshut = x.unshut;
        from_root = λ k d. let a = root_same p c in let b = same k (x.was_found k d) in let f = x.from_root k d in omega (arith, a, b, f);
        to_next = λ k r d i l. ⊎_elim (λ y. let a = root_same p c in let b = root_same r y in let e = same k (x.was_found k d) in
            let f = x.to_next k r d y (omega (arith, a, b, l)) in omega (arith, b, e, f)) (λ (y : n ≡ r). let e = same k (x.was_found k d) in
            let f = s.numbered k (x.was_found k d) in let g = ap (by_part numbers') y in
            omega (arith, e, f, g, n_number)) (Contains-push_cases (under ++ q ∷ []) n r i);
        chain = λ r i l. ⊎_elim (λ y. let a = root_same p c in let b = root_same r y in
            x.chain r y (omega (arith, a, b, l))) (λ (y : n ≡ r). rw (← y, root) (to_new p c)) (Contains-push_cases (under ++ q ∷ []) n r i);
        gone = λ k i d l. ⊎_elim (λ y. inl (⊎_elim (λ z. inl z) (λ z. inr (
          kept (end_of graph k i) z.0,
          let a = root_same p c in
              let b = same (end_of graph k i) z.0 in omega (arith, a, b, z.1),
        )) y)) (λ y. still p c k i y) (x.gone k i d l);
      }

      new_part : IsPart graph found' closed numbers' ((under ++ q ∷ []) ++ n ∷ []) ((rest ++ u ∷ []) ++ w ∷ []) n
      new_part = record {
        rooted = of_new n.root root;
        on_path = (w, Contains-push (rest ++ u ∷ []) w, sym root);
        whole = λ k j c d. rw (is_new k c, is_new j d) here;
        was_found = λ k c. rw (is_new k c, fe) (marked_here found w.vertex inside);
        unshut = λ k c. rw (is_new k c) unshut;
        from_root = λ k c. let e = last k (is_new k c) in omega (arith, e, n_number);
        to_next = λ k r c i l. ⊎_elim (λ y. let a = root_same r y in let b = root_count r y in
            absurd (omega (arith, a, b, l, n_number))) (λ (y : n ≡ r). let g = ap (by_part numbers') y in
            absurd (omega (arith, g, l))) (Contains-push_cases (under ++ q ∷ []) n r i);
        chain = λ r i l. ⊎_elim (λ y. let a = root_same r y in let b = root_count r y in
            absurd (omega (arith, a, b, l, n_number))) (λ (y : n ≡ r). rw (← y) here) (Contains-push_cases (under ++ q ∷ []) n r i);
        gone = λ k i c l. inr (w, Contains-push (rest ++ u ∷ []) w, sym (is_new k c), omega (arith, none));
      }

  -- ---- an edge leads before the last part: it is joined to the one before it

  module _ (lower : List Part) (p m : Part) (e : under ≡ lower ++ p ∷ []) (root : m.root ≡ p.root) (of : (k : ℕ) → IsOf m k ↔ (IsOf p k ⊎ IsOf q k)) where
    p_under : Contains under p
    p_under = rw e (Contains-push lower p)

    lower_under : (r : Part) → Contains lower r → Contains under r
    lower_under r c = rw e (Contains-append_left lower (p ∷ []) r c)

    lower_low : (r : Part) → Contains lower r → by_part numbers r < by_part numbers p
    lower_low = (prefix_rises lower p e (prefix_rises under q refl s.parts_rise).0).1

    under_last : (r : Part) → Contains under r → by_part numbers r ≤ by_part numbers p
    under_last r c = ⊎_elim (λ x. let h = lower_low r x in omega (arith, h)) (λ (w : p ≡ r). rw w (omega arith)) (Contains-push_cases lower p r (rw e at c))

    m_number : by_part numbers m ≡ by_part numbers p
    m_number = ap (λ k. get_or numbers k 0) root

    p_part : IsPart graph found closed numbers (under ++ q ∷ []) (rest ++ v ∷ []) p
    p_part = s.part p (under_there p p_under)

    pub one_joined : (to : ℕ) → LeadsTo graph v.vertex to → IsOpen (under ++ q ∷ []) to → get_or numbers to 0 < by_part numbers q
        → IsPartSearch graph from found closed numbers levels (lower ++ m ∷ []) (rest ++ v ∷ []) count closings
    one_joined to edge open_to before = record {
      found_each = s.found_each;
      closed_each = s.closed_each;
      numbers_each = s.numbers_each;
      levels_each = s.levels_each;
      begun = s.begun;
      reached = s.reached;
      numbered = s.numbered;
      apart = λ k h. ⊎_elim (λ c. inl c) (λ o. inr (joined k o)) (s.apart k h);
      part = λ r c. ⊎_elim (λ x. lower_part r x (s.part r (under_there r (lower_under r x)))) (λ (w : m ≡ r). rw (← w) m_part) (Contains-push_cases lower m r c);
      parts_rise = push_rises lower m (prefix_rises lower p e (prefix_rises under q refl s.parts_rise).0).0 (λ r c. let h = lower_low r c in omega (arith, h, m_number));
      path_rise = s.path_rise;
      path_found = s.path_found;
      path_unshut = s.path_unshut;
      shut_low = s.shut_low;
      shut = s.shut;
    }
      where
        in_p : (k : ℕ) → IsOf p k → IsOf m k
        in_p k h = (of k).1 (inl h)

        in_q : (k : ℕ) → IsOf q k → IsOf m k
        in_q k h = (of k).1 (inr h)

        joined : (k : ℕ) → IsOpen (under ++ q ∷ []) k → IsOpen (lower ++ m ∷ []) k
        joined k o =
            ⊎_elim (λ x. ⊎_elim (λ y. (o.0, Contains-append_left lower (m ∷ []) o.0 y, o.2))
            (λ (w : p ≡ o.0). (m, Contains-push lower m, in_p k (rw w o.2))) (Contains-push_cases lower p o.0 (rw e at x)))
            (λ (w : q ≡ o.0). (m, Contains-push lower m, in_q k (rw w o.2))) (Contains-push_cases under q o.0 o.1)

        -- the edge leads to a vertex that reaches the root of the part before the last
        back : Reaches graph to p.root
        back =
            ⊎_elim (λ x. let r = s.part open_to.0 open_to.1 in
            Reaches-on (r.whole to open_to.0.root open_to.2 r.rooted) (r.chain p (under_there p p_under) (under_last open_to.0 x)))
            (λ (w : q ≡ open_to.0). let r = top.from_root to (rw w open_to.2) in absurd (omega (arith, r, before))) (Contains-push_cases under q open_to.0 open_to.1)

        up : Reaches graph p.root q.root
        up = p_part.chain q q_there (let h = under_low p p_under in omega (arith, h))

        p_to_q : (k j : ℕ) → IsOf p k → IsOf q j → Reaches graph k j
        p_to_q k j a b = Reaches-on (p_part.whole k p.root a p_part.rooted) (Reaches-on up (top.whole q.root j top.rooted b))

        q_to_p : (k j : ℕ) → IsOf q k → IsOf p j → Reaches graph k j
        q_to_p k j a b = Reaches-on (Reaches-then (top.whole k v.vertex a v_in_top) edge) (Reaches-on back (p_part.whole p.root j p_part.rooted b))

        m_whole : (k j : ℕ) → IsOf m k → IsOf m j → Reaches graph k j
        m_whole k j a b =
            ⊎_elim (λ x. ⊎_elim (λ y. p_part.whole k j x y) (λ y. p_to_q k j x y) ((of j).0 b))
            (λ x. ⊎_elim (λ y. q_to_p k j x y) (λ y. top.whole k j x y) ((of j).0 b)) ((of k).0 a)

        -- of the parts that are left
        was : (r : Part) → Contains (lower ++ m ∷ []) r → (t : Part) × Contains (under ++ q ∷ []) t × (t.root ≡ r.root)
        was r c = ⊎_elim (λ x. (r, under_there r (lower_under r x), refl))
            (λ (w : m ≡ r). (p, under_there p p_under, sym root ∙ ap (λ (t : Part). t.root) w)) (Contains-push_cases lower m r c)

        low : (r : Part) → Contains (lower ++ m ∷ []) r → by_part numbers r ≤ by_part numbers p
        low r c = ⊎_elim (λ x. let h = lower_low r x in omega (arith, h)) (λ (w : m ≡ r). let g = ap (by_part numbers) w in
            omega (arith, g, m_number)) (Contains-push_cases lower m r c)

        p_before_q : by_part numbers p < by_part numbers q
        p_before_q = under_low p p_under

        m_part : IsPart graph found closed numbers (lower ++ m ∷ []) (rest ++ v ∷ []) m
        m_part = record {
          rooted = rw root (in_p p.root p_part.rooted);
          on_path = (p_part.on_path.0, p_part.on_path.1, p_part.on_path.2 ∙ sym root);
          whole = m_whole;
          was_found = λ k h. ⊎_elim (λ x. p_part.was_found k x) (λ x. top.was_found k x) ((of k).0 h);
          unshut = λ k h. ⊎_elim (λ x. p_part.unshut k x) (λ x. top.unshut k x) ((of k).0 h);
          from_root = λ k h. ⊎_elim (λ x. let f = p_part.from_root k x in omega (arith, f, m_number)) (λ x. let f = top.from_root k x in
              omega (arith, f, m_number, p_before_q)) ((of k).0 h);
          to_next = λ k r h c l. let d = low r c in absurd (omega (arith, d, l, m_number));
          chain = λ r c l. let t = was r c in let g = ap (λ k. get_or numbers k 0) t.2 in rw (root, ← t.2) (p_part.chain t.0 t.1 (omega (arith, l, g, m_number)));
          gone = λ k i h l. ⊎_elim (λ x. ⊎_elim (λ y. inl (⊎_elim (λ z. inl z) (λ z. inr (z.0, omega (arith, z.1, m_number))) y))
              (λ y. inr y) (p_part.gone k i x l))
              (λ x. ⊎_elim (λ y. inl (⊎_elim (λ z. inl z) (λ z. inr (z.0, omega (arith, z.1, m_number, p_before_q))) y)) (λ y. inr y)
              (top.gone k i x l)) ((of k).0 h);
        }

        lower_part : (r : Part) → Contains lower r → IsPart graph found closed numbers (under ++ q ∷ []) (rest ++ v ∷ []) r
            → IsPart graph found closed numbers (lower ++ m ∷ []) (rest ++ v ∷ []) r
        lower_part r c x = record {
          rooted = x.rooted;
          on_path = x.on_path;
          whole = x.whole;
          was_found = x.was_found;
          unshut = x.unshut;
          from_root = x.from_root;
          to_next = λ k t h d l. let y = was t d in let g = ap (λ n. get_or numbers n 0) y.2 in let f = x.to_next k y.0 h y.1 (omega (arith, l, g)) in omega (arith, f, g);
          chain = λ t d l. let y = was t d in let g = ap (λ n. get_or numbers n 0) y.2 in rw (← y.2) (x.chain y.0 y.1 (omega (arith, l, g)));
          gone = x.gone;
        }

-- ---- beginning and end

pub parts_all : (graph : List (List ℕ)) (from : ℕ) (found closed : List Bool) (numbers levels : List ℕ) (parts : List Part)
    (path : List Visit) (count closings : ℕ) → length path ≡ 0
    → IsPartSearch graph from found closed numbers levels parts path count closings → AreLevels graph from levels
parts_all graph from found closed numbers levels parts path count closings none s k j r e = (s.shut k j (all k r) e).1
  where
    closed_if : (k : ℕ) → IsMarked found k → IsMarked closed k
    closed_if k m = ⊎_elim (λ c. c) (λ o. let x = (s.part o.0 o.1).on_path in absurd (omega (arith, x.1.1, none))) (s.apart k m)

    all : (k : ℕ) → Reaches graph from k → IsMarked closed k
    all k r = kept_closed (IsMarked closed) (λ i j p e. (s.shut i j p e).0) r (closed_if from s.begun)

set_read : (xs : List ℕ) (i v : ℕ) → i < length xs → get_or (set xs i v) i 0 ≡ v
set_read xs i v h = rw get_or-set_same refl

pub parts_start : (graph : List (List ℕ)) (from : ℕ) (fresh found closed : List Bool) (none numbers levels : List ℕ)
    (before parts : List Part) (clear path : List Visit) (p : Part) (v : Visit) (finds count closings : ℕ) → from < length graph
    → v.vertex ≡ from → v.gone ≡ 0 → p.root ≡ from → p.vertices.items ≡ from ∷ [] → fresh ≡ replicate (length graph) false
    → found ≡ set fresh from true → closed ≡ replicate (length graph) false → none ≡ replicate (length graph) 0
    → numbers ≡ set none from finds → finds ≡ 0 → levels ≡ replicate (length graph) 0 → before ≡ [] → parts ≡ before ++ p ∷ [] → clear ≡ []
    → path ≡ clear ++ v ∷ [] → count ≡ finds + 1 → IsPartSearch graph from found closed numbers levels parts path count closings
parts_start graph from fresh found closed none numbers levels before parts clear path p v finds count closings h is gone root alone fr fe
    ce nt nu zero le be pe cl pa co = rw (fe, fr, ce, nu, nt, le, pe, be, pa, cl) (record {
      found_each = length-set empty from true ∙ length-replicate (length graph) false;
      closed_each = length-replicate (length graph) false;
      numbers_each = length-set (replicate (length graph) 0) from finds ∙ length-replicate (length graph) 0;
      levels_each = length-replicate (length graph) 0;
      begun = marked_here empty from inside;
      reached = λ k m. rw (only k m) here;
      numbered = λ k m. let e = only k m in rw e (let x = number in omega (arith, x, zero, co));
      apart = λ k m. inr (p, Contains-push [] p, let e = only k m in rw (alone, e) (Contains-push [] from));
      part = λ q c. ⊎_elim (λ x. absurd (Contains-nil q x)) (λ (e : p ≡ q). rw (← e) first) (Contains-push_cases [] p q c);
      parts_rise = one_more_rises [] p refl (none_rise refl) (λ y c. absurd (Contains-nil y c));
      path_rise = one_more_rises [] v refl (none_rise refl) (λ y c. absurd (Contains-nil y c));
      path_found = λ u c. ⊎_elim (λ x. absurd (Contains-nil u x)) (λ (e : v ≡ u). rw (← e, is) (marked_here empty from inside)) (Contains-push_cases [] v u c);
      path_unshut = λ u c m. none_marked (length graph) u.vertex m;
      shut_low = λ k m. absurd (none_marked (length graph) k m);
      shut = λ k j m e. absurd (none_marked (length graph) k m);
    })
  where
    empty : List Bool
    empty = replicate (length graph) false

    inside : from < length (replicate (length graph) false)
    inside = rw (length-replicate (length graph) false) h

    number : get_or (set (replicate (length graph) 0) from finds) from 0 ≡ finds
    number = set_read (replicate (length graph) 0) from finds (rw (length-replicate {A = ℕ} (length graph) 0) h)

    only : (k : ℕ) → IsMarked (set (replicate (length graph) false) from true) k → k ≡ from
    only k m = ⊎_elim (λ x. absurd (none_marked (length graph) k x)) (λ x. x) (marked_cases (replicate (length graph) false) from k m)

    of : (k : ℕ) → IsOf p k → k ≡ from
    of k c = ⊎_elim (λ x. absurd (Contains-nil k x)) (λ (e : from ≡ k). sym e) (Contains-push_cases [] from k (rw alone at c))

    first : IsPart graph (set (replicate (length graph) false) from true) (replicate (length graph) false)
        (set (replicate (length graph) 0) from finds) ([] ++ p ∷ []) ([] ++ v ∷ []) p
    first = record {
      rooted = rw (alone, root) (Contains-push [] from);
      on_path = (v, Contains-push [] v, is ∙ sym root);
      whole = λ k j c d. rw (of k c, of j d) here;
      was_found = λ k c. rw (of k c) (marked_here (replicate (length graph) false) from inside);
      unshut = λ k c m. none_marked (length graph) k m;
      from_root = λ k c. rw (of k c, root) (omega arith);
      to_next = λ k q c d l. ⊎_elim (λ x. absurd (Contains-nil q x))
          (λ (e : p ≡ q). let g = ap (by_part (set (replicate (length graph) 0) from finds)) e in
          absurd (omega (arith, l, g))) (Contains-push_cases [] p q d);
      chain = λ q d l. ⊎_elim (λ x. absurd (Contains-nil q x)) (λ (e : p ≡ q). rw (← e) here) (Contains-push_cases [] p q d);
      gone = λ k i c l. inr (v, Contains-push [] v, is ∙ sym (of k c), omega (arith, gone));
    }

-- while there is a path there is an open part
pub some_part : (graph : List (List ℕ)) (from : ℕ) (found closed : List Bool) (numbers levels : List ℕ) (parts : List Part)
    (rest : List Visit) (v : Visit) (count closings : ℕ) → length parts ≡ 0 → IsPartSearch graph from found closed numbers levels parts
    (rest ++ v ∷ []) count closings → ⊥
some_part graph from found closed numbers levels parts rest v count closings none s =
    ⊎_elim (λ c. s.path_unshut v (Contains-push rest v) c) (λ o. absurd (omega (arith, o.1.1, none))) (s.apart v.vertex (s.path_found v (Contains-push rest v)))

-- and two, where an edge leads before the last
pub some_lower : (graph : List (List ℕ)) (from : ℕ) (found closed : List Bool) (numbers levels : List ℕ) (under : List Part) (q : Part)
    (path : List Visit) (count closings to : ℕ) → length under ≡ 0 → IsPartSearch graph from found closed numbers levels
    (under ++ q ∷ []) path count closings → IsMarked found to → ¬ IsMarked closed to → get_or numbers to 0 < by_part numbers q → ⊥
some_lower graph from found closed numbers levels under q path count closings to none s m n before =
    ⊎_elim (λ c. n c) (λ o. ⊎_elim (λ x. absurd (omega (arith, x.1, none))) (λ (w : q ≡ o.0). let f = (s.part o.0 o.1).from_root to o.2 in
    let g = ap (by_part numbers) w in absurd (omega (arith, f, g, before))) (Contains-push_cases under q o.0 o.1)) (s.apart to m)

pub joined_low : (a b c : List ℕ) → c ≡ b ++ a → (k : ℕ) → Contains c k ↔ (Contains a k ⊎ Contains b k)
joined_low a b c e k = (
  λ h. ⊎_elim (λ x. inr x) (λ x. inl x) (Contains-append_cases b a k (rw e at h)),
  λ h. rw e (⊎_elim (λ x. Contains-append_right b a k x) (λ x. Contains-append_left b a k x) h),
)

pub joined_high : (a b c : List ℕ) → c ≡ a ++ b → (k : ℕ) → Contains c k ↔ (Contains a k ⊎ Contains b k)
joined_high a b c e k = (λ h. Contains-append_cases a b k (rw e at h), λ h. rw e (⊎_elim (λ x. Contains-append_left a b k x) (λ x. Contains-append_right a b k x) h))

-- ---- vertices that are closed one by one

pub closed_none : (level : ℕ) (closed : List Bool) (levels : List ℕ) → AreClosed [] level closed closed levels levels
closed_none level closed levels = record {
  each = refl;
  levels_each = refl;
  keeps = λ k m. m;
  sets = λ k c. absurd (Contains-nil k c);
  alone = λ k m. inl m;
  level_is = λ k c. absurd (Contains-nil k c);
  stays = λ k c. refl;
}

pub closed_more : (vs : List ℕ) (i level : ℕ) (old closed closed' : List Bool) (before levels levels' : List ℕ) → i < length vs
    → get_or vs i 0 < length closed → get_or vs i 0 < length levels → closed' ≡ set closed (get_or vs i 0) true
    → levels' ≡ set levels (get_or vs i 0) level → AreClosed (take i vs) level old closed before levels
    → AreClosed (take (i + 1) vs) level old closed' before levels'
closed_more vs i level old closed closed' before levels levels' h c l ce le a = rw (ce, le) (record {
  each = length-set closed (get_or vs i 0) true ∙ a.each;
  levels_each = length-set levels (get_or vs i 0) level ∙ a.levels_each;
  keeps = λ k m. marked_there closed (get_or vs i 0) k c (a.keeps k m);
  sets = λ k d. ⊎_elim (λ x. marked_there closed (get_or vs i 0) k c (a.sets k x))
      (λ (e : k ≡ get_or vs i 0). rw e (marked_here closed (get_or vs i 0) c)) (Contains-take_more vs i 0 k h d);
  alone = λ k m. ⊎_elim (λ x. ⊎_elim (λ y. inl y) (λ y. inr (Contains-take_keeps vs i 0 k h y)) (a.alone k x))
      (λ (e : k ≡ get_or vs i 0). inr (Contains-take_last vs i 0 k h e)) (marked_cases closed (get_or vs i 0) k m);
  level_is = λ k d. ⊎_elim (λ (e : k ≡ get_or vs i 0). here_is k e) (λ (ne : k ≢ get_or vs i 0). rw get_or-set_other
      (⊎_elim (λ x. a.level_is k x) (λ (e : k ≡ get_or vs i 0). absurd (ne e)) (Contains-take_more vs i 0 k h d)))
      (cases_eq k (get_or vs i 0));
  stays = λ k n. let ne : k ≢ get_or vs i 0 = λ e. n (Contains-take_last vs i 0 k h e) in rw get_or-set_other (a.stays k (λ x. n (Contains-take_keeps vs i 0 k h x)));
})
  where
    here_is : (k : ℕ) → k ≡ get_or vs i 0 → get_or (set levels (get_or vs i 0) level) k 0 ≡ level
    here_is k e = let j : get_or vs i 0 < length levels = l in rw (e, get_or-set_same) refl

-- ---- how much is left

more_sum : (graph : List (List ℕ)) (path : List Visit) (v : Visit) → sum_by (to_go graph) (path ++ v ∷ []) ≡ sum_by (to_go graph) path + to_go graph v
more_sum graph path v = sum_by-append (to_go graph) path (v ∷ []) ∙ (let e = sum_by-cons (to_go graph) v [] in omega (arith, e))

pub less_back : (graph : List (List ℕ)) (found : List Bool) (rest : List Visit) (v : Visit) (parts : List Part)
    → parts_left graph found rest parts < parts_left graph found (rest ++ v ∷ []) parts
less_back graph found rest v parts = omega (arith, more_sum graph rest v)

pub less_part : (graph : List (List ℕ)) (found : List Bool) (rest : List Visit) (v : Visit) (under : List Part) (q : Part)
    → parts_left graph found rest under < parts_left graph found (rest ++ v ∷ []) (under ++ q ∷ [])
less_part graph found rest v under q = omega (arith, more_sum graph rest v, length-append under (q ∷ []))

pub less_on : (graph : List (List ℕ)) (found : List Bool) (rest : List Visit) (v u : Visit) (parts : List Part) → u.vertex ≡ v.vertex
    → u.gone ≡ v.gone + 1 → v.gone < length (targets_at graph v.vertex)
    → parts_left graph found (rest ++ u ∷ []) parts < parts_left graph found (rest ++ v ∷ []) parts
less_on graph found rest v u parts is gone h = omega (arith, more_sum graph rest v, more_sum graph rest u, ap (λ k. length (targets_at graph k)) is, gone, h)

pub less_joined : (graph : List (List ℕ)) (found : List Bool) (path : List Visit) (lower : List Part) (p q m : Part) (under : List Part)
    → under ≡ lower ++ p ∷ [] → parts_left graph found path (lower ++ m ∷ []) < parts_left graph found path (under ++ q ∷ [])
less_joined graph found path lower p q m under e = omega (arith, length-append lower (m ∷ []), length-append under (q ∷ []), ap length e, length-append lower (p ∷ []))

less_by : (u w s r a b c n : ℕ) → w + 1 ≡ u → c ≤ s → b + 1 ≡ a → (w * (s + 3) + ((r + b) + (c + 1))) + (n + 1) < (u * (s + 3) + (r + a)) + n
less_by u w s r a b c n e h f = let g : u ≡ w + 1 = omega (arith, e) in rw g (omega (arith, h, f))

pub less_new : (graph : List (List ℕ)) (found marks : List Bool) (rest : List Visit) (v u w : Visit) (parts : List Part) (n : Part)
    → u.vertex ≡ v.vertex → u.gone ≡ v.gone + 1 → w.gone ≡ 0 → v.gone < length (targets_at graph v.vertex) → w.vertex < length graph
    → unmarked marks + 1 ≡ unmarked found → parts_left graph marks ((rest ++ u ∷ []) ++ w ∷ []) (parts ++ n ∷ []) < parts_left graph found
    (rest ++ v ∷ []) parts
less_new graph found marks rest v u w parts n is gone none h k fewer =
    let l = get_or-le-sum_by length graph w.vertex [] k in
    let e = more_sum graph rest v in
    let f = more_sum graph rest u in
    let g = more_sum graph (rest ++ u ∷ []) w in
    let a : to_go graph w ≡ length (targets_at graph w.vertex) + 1 = omega (arith, none) in
    let b : to_go graph u + 1 ≡ to_go graph v = omega (arith, ap (λ i. length (targets_at graph i)) is, gone, h) in
    let c : length (parts ++ n ∷ []) ≡ length parts + 1 = length-append parts (n ∷ []) in
    rw (e, g, f, a, c) (less_by (unmarked found) (unmarked marks) (sum_by length graph) (sum_by (to_go graph) rest) (to_go graph v)
    (to_go graph u) (length (targets_at graph w.vertex)) (length parts) fewer l b)
