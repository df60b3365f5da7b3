-- What elements are refused for.
use Rattle.std.proofs.Common.{◌≡◌, ⊎_elim}
use Rattle.dpl_spec_elements.specs.Paths as paths
use Rattle.dpl_spec_elements.specs.declared.PathFault.{PathFault}
use Rattle.dpl_spec_elements.specs.Paths.{PathElement, IsFaultless}
use Rattle.dpl_spec_layout.specs.declared.ElementFault.{ElementFault}
use Rattle.dpl_spec_layout.specs.declared.ElementFault.TheVariants.{AbsoluteTransform, Magnified, AngleNotRight, BadArray, SlantedBoundary, Path}
use Rattle.std.proofs.Common.{ℕ, ◌+◌, ◌<◌, ◌≤◌, Bool, true, false, List, map, length, get_or, take, sym, ◌∙◌, arith}
use Rattle.std.proofs.lemmas.Bool.{cases_lt}
use Rattle.std.proofs.lemmas.List.{take_all}
use Rattle.dpl_links.specs.Graph.{IsMarked}
use Rattle.dpl_links.proofs.TakeLaws.{Contains-take_more}
use Rattle.dpl_flatten.proofs.LeastLaws.{seen_at, seen_length}
use Rattle.std.proofs.lemmas.List.Elements.{Contains-get_or}
use Rattle.std.specs.List.{Contains}
use Rattle.dpl_spec_format.specs.Tree.{Library, Element, Body, elements_at}
use Rattle.dpl_syntax.specs.declared.element.Element.{Element as Found}
use Rattle.dpl_syntax.specs.Elements.{element_seen}
use Rattle.dpl_spec_layout.specs.declared.FlattenFault.{FlattenFault}
use Rattle.dpl_walk.proofs.ListLaws.{Contains-map}
use Rattle.std.specs.Prelude.{Option, Some, None, IfSome, IsTrue, is_some, ◌↔◌}
use Rattle.dpl_spec_layout.specs.Faults.{IsRefused}
use Rattle.dpl_spec_layout.specs.declared.Layer.{Layer}
use Rattle.dpl_spec_layout.specs.Elements.{IsPathFault, IsRefusedFor}
use Rattle.dpl_reference.specs.declared.role.Role.{Role}
use Rattle.dpl_reference.specs.Roles.{IsFaultIn, IsRoleOf}
use Rattle.dpl_reference.specs.Faults.{IsFaultBy}
use Rattle.dpl_flatten.specs.Drawn.{IsRefusal, IsRefusalAmong, IsTakenAt, HasRefusalAt}

no_first : (p : PathElement) (g : PathFault) → IsFaultless p → paths.IsFirstFault p g → ⊥
no_first p g clean f = ⊎_elim (λ w. f.drawn w) (λ none. none g f.there) clean

pub no_path_fault : (p : PathElement) → IsFaultless p → (f : ElementFault) → IsPathFault p f → ⊥
no_path_fault p clean (Path f) h = no_first p f clean h
no_path_fault p clean AbsoluteTransform h = h
no_path_fault p clean Magnified h = h
no_path_fault p clean AngleNotRight h = h
no_path_fault p clean BadArray h = h
no_path_fault p clean SlantedBoundary h = h

-- what is refused as it is for the layer
pub fault_in : (layer : Layer) (b : Body) (r : Role) → IsRoleOf layer b r → (o : Option ElementFault) → IsFaultBy (IsFaultIn r) o → IsFaultBy (IsRefusedFor layer b) o
fault_in layer b r is None h = λ f u. h f (is.taken f u)
fault_in layer b r is (Some f) h = is.refused f h

pub refusal_is : (lib : Library) (chosen : Layer) (k i at : ℕ) (es : List Found) (d : Found) (f : FlattenFault)
    → map element_seen es ≡ elements_at lib k → i < length es → IsRefusal chosen (element_seen (get_or es i d)) at f
    → (e : Element) × Contains (elements_at lib k) e × IsRefusal chosen e at f
refusal_is lib chosen k i at es d f same h r = (element_seen (get_or es i d), rw (← same) (Contains-map element_seen es (get_or es i d) (Contains-get_or es i d h)), r)

pub taken_more : (chosen : Layer) (i at : ℕ) (es : List Found) (ts : List Element) (d : Found) → map element_seen es ≡ ts → i < length es
    → IsTakenAt chosen (element_seen (get_or es i d)) at → ((e : Element) → Contains (take i ts) e → IsTakenAt chosen e at) → (e : Element)
    → Contains (take (i + 1) ts) e → IsTakenAt chosen e at
taken_more chosen i at es ts d same h one before e c =
    let j : i < length ts = omega (arith, h, seen_length es ts same) in
    ⊎_elim (λ x. before e x) (λ (w : e ≡ get_or ts i (element_seen d)). rw (w, seen_at es ts i d (element_seen d) same h) one) (Contains-take_more ts i (element_seen d) e j c)

pub taken_all : (chosen : Layer) (i at : ℕ) (es : List Found) (ts : List Element) → map element_seen es ≡ ts → length es ≤ i
    → ((e : Element) → Contains (take i ts) e → IsTakenAt chosen e at) → (e : Element) → Contains ts e → IsTakenAt chosen e at
taken_all chosen i at es ts same h before e c = let l : length ts ≤ i = omega (arith, h, seen_length es ts same) in before e (rw (take_all i ts l) c)

pub nothing_at : (lib : Library) (chosen : Layer) (marks : List Bool) (n at : ℕ) → length marks ≡ n → HasRefusalAt lib chosen marks at
    → ((k : ℕ) (e : Element) → k < n → IsMarked marks k → Contains (elements_at lib k) e → IsTakenAt chosen e at) → ⊥
nothing_at lib chosen marks n at each h none = none h.0 h.1 (omega (arith, h.2, each)) h.3 h.4 h.6 h.5 h.7

pub none_more : (lib : Library) (chosen : Layer) (marks : List Bool) (n at : ℕ) (marked : Bool) → get_or marks n false ≡ marked
    → (marked ≡ true → (e : Element) → Contains (elements_at lib n) e → IsTakenAt chosen e at)
    → ((k : ℕ) (e : Element) → k < n → IsMarked marks k → Contains (elements_at lib k) e → IsTakenAt chosen e at) → (k : ℕ) (e : Element)
    → k < n + 1 → IsMarked marks k → Contains (elements_at lib k) e → IsTakenAt chosen e at
none_more lib chosen marks n at marked is one before k e h m c =
    ⊎_elim (λ (l : k < n). before k e l m c) (λ (l : n ≤ k). let w : k ≡ n = omega (arith, h) in one (sym is ∙ rw w at m) e (rw w at c)) (cases_lt k n)

-- whether an element is refused
pub refused_iff : (chosen : Layer) (e : Element) (o : Option ElementFault) (found : Bool) → found ≡ is_some o
    → IsFaultBy (IsRefusedFor chosen e.body) o → IsTrue found ↔ IsRefused chosen 0 e
refused_iff chosen e None found w h = (λ (t : found ≡ true). absurd (let f : false ≡ true = sym w ∙ t in cc), λ r. absurd (h r.0 r.1))
refused_iff chosen e (Some f) found w h = (λ t. (f, h), λ r. w)

-- the refusal of a marked structure's element
pub marked_refusal : (chosen : Layer) (es : List Element) (at : ℕ) (marked : Bool) (o : Option FlattenFault) → marked ≡ true
    → IsRefusalAmong chosen es at o
    → IfSome o (λ f. (marked ≡ true) × ((e : Element) × Contains es e × IsRefusal chosen e at f))
marked_refusal chosen es at marked None m h = tt
marked_refusal chosen es at marked (Some f) m h = (m, h)
