-- The graph of a layout's references, as far as it was gone through.
use Rattle.std.proofs.Common.{◌≡◌, ℕ, ◌+◌, ◌<◌, ◌≤◌, ◌⊎◌, inl, inr, ⊎_elim, List, [], ◌∷◌, ◌++◌, Option, Some, None, map, length, get_or, take, sym, ap, ◌∙◌, arith, length-append}
use Rattle.std.proofs.lemmas.Bool.{cases_lt, cases_order}
use Rattle.std.proofs.lemmas.List.{take_more, take_all, length-map, get_or_past, get_or_append_left}
use Rattle.std.proofs.Math.Seq.{get_or-append_seam}
use Rattle.std.proofs.lemmas.Option.{slice_get_past}
use Rattle.std.proofs.lemmas.List.Elements.{Contains-append_left, Contains-append_right, Contains-append_cases, Contains-push, Contains-push_cases, All-contains}
use Rattle.std.specs.List.{Contains, All}
use Rattle.std.specs.Option.{option_to_list}
use Rattle.std.specs.Prelude.{◌↔◌, slice_get, nat_eq}
use Rattle.std.specs.Option.{option_and_then}
use Rattle.std.specs.Cmp.Lexicographic.{pointwise}
use Rattle.std.proofs.lemmas.List.Quantifiers.{position-Some}
use Rattle.dpl_spec_split.proofs.Ordered.{Contains-head, Contains-nil}
use Rattle.dpl_walk.proofs.ListLaws.{Contains-map, Contains-map_cases, Contains-option, Contains-the_option}
use Rattle.dpl_spec_format.specs.Tree.{Library, elements_at, elements_or_none}
use Rattle.dpl_syntax.specs.declared.element.Element.{Element}
use Rattle.dpl_syntax.specs.Elements.{element_seen, IsSized}
use Rattle.dpl_spec_format.specs.Tree.{Element as TreeElement, Structure, names_in, HasPoints}
use Rattle.dpl_spec_layout.specs.Elements.{reference_name}
use Rattle.dpl_spec_layout.specs.Structures.{target_of, structure_named, Refers, AreRoots}
use Rattle.dpl_links.specs.Sources.{AreSources}
use Rattle.dpl_links.specs.Graph.{LeadsTo, targets_at, IsGraph}
use Rattle.dpl_flatten.specs.Links.{IsGraphOf}

-- these are the structures to which some of the elements refer
pub record AreTargets (lib : Library) (es : List Element) (found : List ℕ) : Type 0 where
  pub sound : (j : ℕ) → Contains found j → (e : Element) × Contains es e × (target_of lib (element_seen e) ≡ Some j)
  pub complete : (j : ℕ) (e : Element) → Contains es e → target_of lib (element_seen e) ≡ Some j → Contains found j

-- the rows of the first n structures
pub record AreRows (lib : Library) (n : ℕ) (graph : List (List ℕ)) : Type 0 where
  pub sized : (k : ℕ) (e : TreeElement) → k < n → Contains (elements_at lib k) e → HasPoints e.body
  pub each : length graph ≡ n
  pub leads : (k j : ℕ) → LeadsTo graph k j → Refers lib k j
  pub refers : (k j : ℕ) → k < n → Refers lib k j → LeadsTo graph k j

pub AreTargets-none : (lib : Library) (found : List ℕ) → found ≡ [] → AreTargets lib [] found
AreTargets-none lib found e = record {
  sound = λ j c. absurd (Contains-nil j (rw e at c));
  complete = λ j d c h. absurd (Contains-nil d c);
}

pub AreTargets-more : (lib : Library) (es : List Element) (e : Element) (found new : List ℕ)
    → new ≡ found ++ option_to_list (target_of lib (element_seen e)) → AreTargets lib es found → AreTargets lib (es ++ e ∷ []) new
AreTargets-more lib es e found new n t = record {
  sound = λ j c. ⊎_elim (λ h. let s = t.sound j h in (s.0, Contains-append_left es (e ∷ []) s.0 s.1, s.2))
      (λ h. (e, Contains-push es e, Contains-option (target_of lib (element_seen e)) j h))
      (Contains-append_cases found (option_to_list (target_of lib (element_seen e))) j (rw n at c));
  complete = λ j d c h. rw n (⊎_elim (λ x. Contains-append_left found _ j (t.complete j d x h))
      (λ (x : e ≡ d). Contains-append_right found _ j (Contains-the_option (target_of lib (element_seen e)) j
      (ap (λ (i : Element). target_of lib (element_seen i)) x ∙ h))) (Contains-push_cases es e d c));
}

pub AreTargets-all : (lib : Library) (k : ℕ) (es : List Element) (found : List ℕ) → map element_seen es ≡ elements_at lib k
    → AreTargets lib es found → (j : ℕ) → Contains found j ↔ Refers lib k j
AreTargets-all lib k es found e t j = (
  λ c. let s = t.sound j c in (element_seen s.0, rw (← e) (Contains-map element_seen es s.0 s.1), s.2),
  λ r. let m = Contains-map_cases element_seen es r.0 (rw (← e) at r.1) in t.complete j m.0 m.1 (ap (target_of lib) m.2 ∙ r.2),
)

pub AreRows-none : (lib : Library) (graph : List (List ℕ)) → graph ≡ [] → AreRows lib 0 graph
AreRows-none lib graph e = record {
  sized = λ k d h c. absurd (omega (arith, h));
  each = ap length e;
  leads = λ k j c. absurd (Contains-nil j (rw e at c));
  refers = λ k j h r. absurd (omega (arith, h));
}

pub AreTargets-step : (lib : Library) (es : List Element) (i : ℕ) (d : Element) (found new : List ℕ) → i < length es
    → new ≡ found ++ option_to_list (target_of lib (element_seen (get_or es i d))) → AreTargets lib (take i es) found
    → AreTargets lib (take (i + 1) es) new
AreTargets-step lib es i d found new h n t = rw (take_more es i d h) (AreTargets-more lib (take i es) (get_or es i d) found new n t)

pub AreTargets-whole : (lib : Library) (k i : ℕ) (es : List Element) (found : List ℕ) → length es ≤ i
    → map element_seen es ≡ elements_at lib k → AreTargets lib (take i es) found → (j : ℕ) → Contains found j ↔ Refers lib k j
AreTargets-whole lib k i es found h e t = AreTargets-all lib k es found e (rw (take_all i es h) at t)

three : (a b : ℕ) → (a < b) ⊎ ((a ≡ b) ⊎ (b < a))
three a b = ⊎_elim (λ (e : a ≡ b). inr (inl e)) (λ h. ⊎_elim (λ (l : a < b). inl l) (λ (l : b < a). inr (inr l)) h) (cases_order a b)

row_before : (graph : List (List ℕ)) (row : List ℕ) (k : ℕ) → k < length graph → targets_at (graph ++ row ∷ []) k ≡ targets_at graph k
row_before graph row k h = get_or_append_left graph (row ∷ []) [] k h

row_last : (graph : List (List ℕ)) (row : List ℕ) → targets_at (graph ++ row ∷ []) (length graph) ≡ row
row_last graph row = get_or-append_seam graph row [] []

row_past : (graph : List (List ℕ)) (row : List ℕ) (k : ℕ) → length graph < k → targets_at (graph ++ row ∷ []) k ≡ []
row_past graph row k h = get_or_past (graph ++ row ∷ []) k [] (omega (arith, length-append graph (row ∷ [])))

pub AreRows-more : (lib : Library) (n : ℕ) (graph new : List (List ℕ)) (row : List ℕ) → new ≡ graph ++ row ∷ []
    → ((j : ℕ) → Contains row j ↔ Refers lib n j) → ((e : TreeElement) → Contains (elements_at lib n) e → HasPoints e.body)
    → AreRows lib n graph → AreRows lib (n + 1) new
AreRows-more lib n graph new row e says big a = record {
  sized = λ k d h c. ⊎_elim (λ (l : k < n). a.sized k d l c) (λ (l : n ≤ k). let w : k ≡ n = omega (arith, h) in big d (rw w at c)) (cases_lt k n);
  each = ap length e ∙ (length-append graph (row ∷ []) ∙ omega (arith, a.each));
  leads = λ k j c. lead k j (rw e at c);
  refers = λ k j h r. rw e (refer k j h r);
}
  where
    lead : (k j : ℕ) → LeadsTo (graph ++ row ∷ []) k j → Refers lib k j
    lead k j c =
        ⊎_elim (λ (h : k < length graph). a.leads k j (rw (row_before graph row k h) at c))
        (λ h. ⊎_elim (λ (s : k ≡ length graph). let m = rw (s, row_last graph row) at c in let w : k ≡ n = s ∙ a.each in
        rw w ((says j).0 m)) (λ (s : length graph < k). absurd (Contains-nil j (rw (row_past graph row k s) at c))) h)
        (three k (length graph))

    refer : (k j : ℕ) → k < n + 1 → Refers lib k j → LeadsTo (graph ++ row ∷ []) k j
    refer k j h r =
        ⊎_elim (λ (l : k < n). let g : k < length graph = omega (arith, a.each, l) in rw (row_before graph row k g) (a.refers k j l r))
        (λ (l : n ≤ k). let w : k ≡ n = omega arith in let v : k ≡ length graph = w ∙ sym a.each in rw (v, row_last graph row) ((says j).1 (rw w at r)))
        (cases_lt k n)

pub AreRows-all : (lib : Library) (n : ℕ) (graph : List (List ℕ)) → n ≡ length lib.structures → AreRows lib n graph → IsGraphOf lib graph
AreRows-all lib n graph e a = record {
  each = a.each ∙ e;
  leads = a.leads;
  refers = λ k j r. a.refers k j (rw e (known k j r)) r;
  sized = λ k d c. a.sized k d (rw e (inside k d c)) c;
}
  where
    inside : (k : ℕ) (d : TreeElement) → Contains (elements_at lib k) d → k < length lib.structures
    inside k d c = ⊎_elim (λ (h : k < length lib.structures). h) (λ (h : length lib.structures ≤ k). let x : Contains
        (elements_or_none (slice_get lib.structures k)) d = c in absurd (Contains-nil d (rw (slice_get_past lib.structures k h) at x)))
        (cases_lt k (length lib.structures))

    known : (k j : ℕ) → Refers lib k j → k < length lib.structures
    known k j r = inside k r.0 r.1

-- a name that is found is one of a structure
pub named_known : (lib : Library) (name : List ℕ) (j : ℕ) → structure_named lib name ≡ Some j → j < length lib.structures
named_known lib name j e = let p = position-Some (pointwise nat_eq name) (names_in lib) j [] e in let h = p.0 in
    let s = length-map lib.structures (λ (s : Structure). s.name) in omega (arith, h, s)

pub target_known : (lib : Library) (e : TreeElement) (j : ℕ) → target_of lib e ≡ Some j → j < length lib.structures
target_known lib e j h = by_name (reference_name e.body) h
  where
    by_name : (o : Option (List ℕ)) → option_and_then (structure_named lib) o ≡ Some j → j < length lib.structures
    by_name None h = let f : None ≡ Some j = h in cc
    by_name (Some name) h = named_known lib name j h

pub graph_known : (lib : Library) (graph : List (List ℕ)) → IsGraphOf lib graph → IsGraph graph
graph_known lib graph g k j l = let r = g.leads k j l in omega (arith, target_known lib r.0 j r.2, g.each)

-- the sources of the graph are the roots of the layout
pub roots_are : (lib : Library) (graph : List (List ℕ)) (found : List ℕ) → IsGraphOf lib graph → AreSources graph found → AreRoots lib found
roots_are lib graph found g s = record {
  ordered = s.ordered;
  exactly = λ k. (
    λ c. let i = (s.exactly k).0 c in
        record { known = omega (arith, i.known, g.each); unreferred = λ j r. i.alone j (g.refers j k r) },
    λ r. (s.exactly k).1 (record { known = omega (arith, r.known, g.each); alone = λ j l. r.unreferred j (g.leads j k l) }),
  );
}

pub roots_none : (lib : Library) (found : List ℕ) → AreRoots lib found → length found < 1 → AreRoots lib []
roots_none lib [] r h = r
roots_none lib (k ∷ ks) r h = absurd (omega arith)

pub roots_one : (lib : Library) (found : List ℕ) → AreRoots lib found → 1 ≤ length found → length found < 2 → AreRoots lib (get_or found 0 0 ∷ [])
roots_one lib [] r h l = absurd (omega arith)
roots_one lib (k ∷ []) r h l = r
roots_one lib (k ∷ j ∷ ks) r h l = absurd (omega arith)

pub root_known : (lib : Library) (k : ℕ) → AreRoots lib (k ∷ []) → k < length lib.structures
root_known lib k r = ((r.exactly k).0 (Contains-head k [])).known

-- elements of the code have their points
pub sized_all : (lib : Library) (k : ℕ) (es : List Element) → map element_seen es ≡ elements_at lib k → All IsSized es → (e : TreeElement)
    → Contains (elements_at lib k) e → HasPoints e.body
sized_all lib k es same all e c =
    let m = Contains-map_cases element_seen es e (rw (← same) at c) in
    let s = All-contains IsSized es m.0 all m.1 in
    rw (← m.2) s
