-- What a structure reaches by references is what its vertex reaches in their graph.
use Rattle.std.proofs.Common.{◌≡◌, ℕ, ◌<◌, ◌≤◌, ⊎_elim, Bool, List, Option, Some, None, length, get_or, sym, ◌∙◌, arith}
use Rattle.std.proofs.lemmas.Bool.{cases_lt}
use Rattle.std.proofs.lemmas.Option.{slice_get_past}
use Rattle.std.specs.List.{Contains}
use Rattle.std.proofs.lemmas.List.Elements.{Contains-get_or}
use Rattle.std.specs.Prelude.{◌↔◌, slice_get}
use Rattle.dpl_spec_format.specs.Tree.{Library, Element, elements_at, elements_or_none}
use Rattle.dpl_spec_layout.specs.Structures.{target_of, Reaches, here, on}
use Rattle.dpl_spec_layout.specs.Faults.{IsOnCycle}
use Rattle.dpl_links.specs.Graph as links
use Rattle.dpl_links.specs.Graph.{LeadsTo, IsMarked}
use Rattle.dpl_links.proofs.SpreadLaws.{Reaches-then}
use Rattle.dpl_links.specs.Parts.{AreLevels}
use Rattle.dpl_links.specs.Order.{IsOrder, HasCycle}
use Rattle.dpl_links.proofs.SpreadLaws.{marked_below}
use Rattle.dpl_spec_layout.specs.Faults.{IsNowhere}
use Rattle.dpl_flatten.specs.Least.{IsLeastOf, AmongMarked}
use Rattle.dpl_spec_split.proofs.Ordered.{Contains-nil}
use Rattle.dpl_flatten.specs.Links.{IsGraphOf, IsLinked, IsLevelled, IsOrdered}

pub reaches_in_layout : {lib : Library} {graph : List (List ℕ)} {k l : ℕ} → IsGraphOf lib graph → links.Reaches graph k l → Reaches lib k l
reaches_in_layout g links.here = here
reaches_in_layout g (links.on {k} {j} e r) = on (g.leads k j e) (reaches_in_layout g r)

pub reaches_in_graph : {lib : Library} {graph : List (List ℕ)} {k l : ℕ} → IsGraphOf lib graph → Reaches lib k l → links.Reaches graph k l
reaches_in_graph g here = links.here
reaches_in_graph g (on {k} {j} e r) = links.on (g.refers k j e) (reaches_in_graph g r)

pub element_known : (lib : Library) (k : ℕ) (e : Element) → Contains (elements_at lib k) e → k < length lib.structures
element_known lib k e c = ⊎_elim (λ (h : k < length lib.structures). h) (λ (h : length lib.structures ≤ k). absurd (none h)) (cases_lt k (length lib.structures))
  where
    none : length lib.structures ≤ k → ⊥
    none h = let d : Contains (elements_or_none (slice_get lib.structures k)) e = c in Contains-nil e (rw (slice_get_past lib.structures k h) at d)

never_rises : {graph : List (List ℕ)} {k l : ℕ} (marks : List Bool) (levels : List ℕ) → ((i j : ℕ) → IsMarked marks i → LeadsTo graph i j
    → IsMarked marks j) → ((i j : ℕ) → IsMarked marks i → LeadsTo graph i j → get_or levels j 0 ≤ get_or levels i 0)
    → links.Reaches graph k l → IsMarked marks k → get_or levels l 0 ≤ get_or levels k 0
never_rises marks levels closed falls links.here m = omega arith
never_rises marks levels closed falls (links.on {k} {j} e r) m =
    let h = never_rises marks levels closed falls r (closed k j m e) in
    let s = falls k j m e in
    omega (arith, h, s)

-- an edge lies on a cycle exactly where the level stays
pub stays_on_cycle : (lib : Library) (graph : List (List ℕ)) (marks : List Bool) (levels : List ℕ) (k j : ℕ) (e : Element)
    → IsLevelled lib graph marks levels → IsMarked marks k → Contains (elements_at lib k) e → target_of lib e ≡ Some j
    → (get_or levels j 0 ≡ get_or levels k 0) ↔ IsOnCycle lib k e
stays_on_cycle lib graph marks levels k j e l m c t = (to, from)
  where
    edge : LeadsTo graph k j
    edge = l.linked.graph_of.refers k j (e, c, t)

    never : (i h : ℕ) → IsMarked marks i → LeadsTo graph i h → get_or levels h 0 ≤ get_or levels i 0
    never i h n d = ⊎_elim (λ x. omega (arith, x)) (λ x. omega (arith, x.0)) (l.levels_fall i h n d)

    some_is : {a b : ℕ} → Some a ≡ Some b → a ≡ b
    some_is e = cc

    to : get_or levels j 0 ≡ get_or levels k 0 → IsOnCycle lib k e
    to s = ⊎_elim (λ x. absurd (omega (arith, s, x))) (λ x. (j, t, reaches_in_layout l.linked.graph_of x.1)) (l.levels_fall k j m edge)

    from : IsOnCycle lib k e → get_or levels j 0 ≡ get_or levels k 0
    from o =
        let same : o.0 ≡ j = some_is (sym o.1 ∙ t) in
        let r : links.Reaches graph j k = reaches_in_graph l.linked.graph_of (rw same at o.2) in
        let back = never_rises marks levels l.linked.closed never r (l.linked.closed k j m edge) in
        let down = never k j m edge in
        omega (arith, back, down)

pub levelled_of : (lib : Library) (graph : List (List ℕ)) (top : ℕ) (marks : List Bool) (levels : List ℕ) → IsLinked lib graph marks
    → links.AreReached graph top marks → AreLevels graph top levels → IsLevelled lib graph marks levels
levelled_of lib graph top marks levels l r a = record {
  linked = l;
  levels_fall = λ k j m e. a k j (r.sound k m) e;
}

pub linked_of : (lib : Library) (graph : List (List ℕ)) (top : ℕ) (marks : List Bool) → IsGraphOf lib graph → links.AreReached graph top marks → IsLinked lib graph marks
linked_of lib graph top marks g r = record {
  graph_of = g;
  closed = λ k j m e. r.complete j (Reaches-then (r.sound k m) e);
}

pub ordered_of : (lib : Library) (graph : List (List ℕ)) (top : ℕ) (marks : List Bool) (levels vertices : List ℕ) → IsGraphOf lib graph
    → links.AreReached graph top marks → IsOrder graph top levels vertices → IsOrdered lib graph marks levels vertices
ordered_of lib graph top marks levels vertices g r o = record {
  placed = λ k m. o.placed k (r.sound k m);
  falls = λ k j m e. o.falls k j (r.sound k m) e;
  known = λ k c. let b = marked_below marks k (r.complete k (o.alone k c)) in omega (arith, b, r.each, g.each);
  own = λ i h. (r.complete (get_or vertices i 0) (o.alone (get_or vertices i 0) (Contains-get_or vertices i 0 h)), o.once i h);
  few = omega (arith, o.few, g.each);
}

-- where every reference leads back, none lies on a cycle
pub acyclic_of : (lib : Library) (graph : List (List ℕ)) (top : ℕ) (marks : List Bool) (levels vertices : List ℕ)
    → IsLinked lib graph marks → links.AreReached graph top marks → IsOrdered lib graph marks levels vertices
    → IsNowhere lib top (IsOnCycle lib)
acyclic_of lib graph top marks levels vertices l r o k e f =
    let m = r.complete k (reaches_in_graph l.graph_of f.reached) in
    let edge = l.graph_of.refers k f.holds.0 (e, f.inside, f.holds.1) in
    let falls = o.falls k f.holds.0 m edge in
    let back = never_rises marks levels l.closed (λ i j n d. let h = o.falls i j n d in omega (arith, h)) (reaches_in_graph l.graph_of f.holds.2) (l.closed k f.holds.0 m edge) in
    omega (arith, falls, back)

-- where there is a cycle, some reference lies on one
pub cycle_there : (lib : Library) (graph : List (List ℕ)) (top : ℕ) (marks : List Bool) (first : Option ℕ) → IsGraphOf lib graph
    → links.AreReached graph top marks → HasCycle graph top → first ≡ None
    → IsLeastOf (AmongMarked lib marks (length marks) (IsOnCycle lib)) first → ⊥
cycle_there lib graph top marks first g r h e l =
    let none : IsLeastOf (AmongMarked lib marks (length marks) (IsOnCycle lib)) None = rw e at l in
    let m = r.complete h.0 h.2 in
    let edge = g.leads h.0 h.1 h.3 in
    none h.0 edge.0 (marked_below marks h.0 m, m, edge.1, (h.1, edge.2, reaches_in_layout g h.4))
