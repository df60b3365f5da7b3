-- The least offset of the elements that were gone through.
use Rattle.std.proofs.Common.{◌≡◌, ℕ, ◌+◌, ◌<◌, ◌≤◌, ◌⊎◌, inl, inr, ⊎_elim, min, Bool, true, false, cond, List, [], Option, Some, None, map}
use Rattle.std.proofs.Common.{length, get_or, take, refl, sym, ◌∙◌, arith}
use Rattle.std.proofs.lemmas.Bool.{cases_lt}
use Rattle.std.proofs.lemmas.List.{take_all, get_or-map, length-map}
use Rattle.std.specs.Prelude.{◌↔◌, IsTrue}
use Rattle.dpl_spec_format.specs.Tree.{Library, Element, elements_at}
use Rattle.dpl_syntax.specs.declared.element.Element.{Element as Found}
use Rattle.dpl_syntax.specs.Elements.{element_seen}
use Rattle.dpl_spec_layout.specs.Faults.{Finding}
use Rattle.dpl_links.proofs.TakeLaws.{Contains-take_more, Contains-take_keeps, Contains-take_last}
use Rattle.dpl_spec_split.proofs.Ordered.{Contains-nil}
use Rattle.dpl_flatten.specs.Least.{IsLeastOf, Among, AmongMarked}
use Rattle.dpl_walk.specs.Least.{earlier}

-- what holds of the elements of either part holds of the whole
pub least_join : (S T U : Finding) (a b : Option ℕ) → IsLeastOf S a → IsLeastOf T b → ((k : ℕ) (e : Element) → U k e → S k e ⊎ T k e)
    → ((k : ℕ) (e : Element) → S k e → U k e) → ((k : ℕ) (e : Element) → T k e → U k e) → IsLeastOf U (earlier a b)
least_join S T U None None s t split left right = λ k e u. ⊎_elim (λ x. s k e x) (λ x. t k e x) (split k e u)
least_join S T U None (Some b) s t split left right =
    ((t.0.0, t.0.1, right t.0.0 t.0.1 t.0.2, t.0.3), λ k e u. ⊎_elim (λ x. absurd (s k e x)) (λ x. t.1 k e x) (split k e u))
least_join S T U (Some a) None s t split left right =
    ((s.0.0, s.0.1, left s.0.0 s.0.1 s.0.2, s.0.3), λ k e u. ⊎_elim (λ x. s.1 k e x) (λ x. absurd (t k e x)) (split k e u))
least_join S T U (Some a) (Some b) s t split left right =
    (some, λ k e u. ⊎_elim (λ x. omega (arith, s.1 k e x)) (λ x. omega (arith, t.1 k e x)) (split k e u))
  where
    some : (k : ℕ) × (e : Element) × U k e × (e.at ≡ min a b)
    some =
        ⊎_elim (λ (l : a < b). (s.0.0, s.0.1, left s.0.0 s.0.1 s.0.2, omega (arith, s.0.3)))
        (λ (l : b ≤ a). (t.0.0, t.0.1, right t.0.0 t.0.1 t.0.2, omega (arith, t.0.3)))
        (cases_lt a b)

-- the one element e of structure k, where it has it
pub least_one : (P : Finding) (k : ℕ) (e : Element) (found : Bool) → (IsTrue found ↔ P k e) → IsLeastOf (λ i d. (i ≡ k) × (d ≡ e) × P k e) (cond found (Some e.at) None)
least_one P k e true says = ((k, e, (refl, refl, says.0 refl), refl), λ i d h. rw h.1 (omega arith))
least_one P k e false says = λ i d h. let f : false ≡ true = says.1 h.2 in cc

pub note_is : (first : Option ℕ) (found : Bool) (at : ℕ) → cond found (earlier first (Some at)) first ≡ earlier first (cond found (Some at) None)
note_is first true at = refl
note_is None false at = refl
note_is (Some a) false at = refl

pub least_none : (P : Finding) (k : ℕ) → IsLeastOf (Among k [] P) None
least_none P k i e h = Contains-nil e h.1

pub least_more : (P : Finding) (k i : ℕ) (es : List Element) (d : Element) (first new : Option ℕ) (found : Bool) → i < length es
    → (IsTrue found ↔ P k (get_or es i d)) → new ≡ cond found (earlier first (Some (get_or es i d).at)) first
    → IsLeastOf (Among k (take i es) P) first → IsLeastOf (Among k (take (i + 1) es) P) new
least_more P k i es d first new found h says is l =
    let e = get_or es i d in
    rw (is, note_is first found e.at)
    (least_join (Among k (take i es) P) (λ j x. (j ≡ k) × (x ≡ e) × P k e) (Among k (take (i + 1) es) P) first (cond found (Some e.at) None) l (least_one P k e found says)
    (λ j x u. ⊎_elim (λ c. inl (u.0, c, u.2)) (λ (w : x ≡ e). inr (u.0, w, rw w at u.2)) (Contains-take_more es i d x h u.1))
    (λ j x s. (s.0, Contains-take_keeps es i d x h s.1, s.2))
    (λ j x t. (t.0, Contains-take_last es i d x h t.1, rw t.1 t.2)))

pub least_all : (P : Finding) (k i : ℕ) (es : List Element) (first : Option ℕ) → length es ≤ i → IsLeastOf (Among k (take i es) P) first → IsLeastOf (Among k es P) first
least_all P k i es first h l = rw (take_all i es h) at l

-- an element of the code is one of the tree
pub seen_at : (es : List Found) (ts : List Element) (i : ℕ) (d : Found) (t : Element) → map element_seen es ≡ ts → i < length es → get_or ts i t ≡ element_seen (get_or es i d)
seen_at es ts i d t e h = rw (← e) (get_or-map element_seen es i d t h)

pub seen_length : (es : List Found) (ts : List Element) → map element_seen es ≡ ts → length ts ≡ length es
seen_length es ts e = rw (← e) (length-map es element_seen)

pub marked_none : (lib : Library) (marks : List Bool) (P : Finding) → IsLeastOf (AmongMarked lib marks 0 P) None
marked_none lib marks P k e h = absurd (omega (arith, h.0))

pub marked_more : (lib : Library) (marks : List Bool) (n : ℕ) (P : Finding) (marked : Bool) (first one new : Option ℕ)
    → get_or marks n false ≡ marked → new ≡ earlier first one → IsLeastOf (AmongMarked lib marks n P) first
    → IsLeastOf (λ k e. (marked ≡ true) × Among n (elements_at lib n) P k e) one → IsLeastOf (AmongMarked lib marks (n + 1) P) new
marked_more lib marks n P marked first one new m is l o =
    rw is
    (least_join (AmongMarked lib marks n P) (λ k e. (marked ≡ true) × Among n (elements_at lib n) P k e) (AmongMarked lib marks (n + 1) P) first one l o
    (λ k e u. ⊎_elim (λ (h : k < n). inl (h, u.1, u.2, u.3)) (λ (h : n ≤ k). let w : k ≡ n = omega (arith, u.0) in
    inr (sym m ∙ rw w at u.1, (w, rw w at u.2, rw w at u.3))) (cases_lt k n))
    (λ k e s. (omega (arith, s.0), s.1, s.2, s.3))
    (λ k e t. (omega (arith, t.1.0), rw t.1.0 (m ∙ t.0), rw t.1.0 t.1.1, rw t.1.0 t.1.2)))

pub least_seen : (P : Finding) (k i : ℕ) (es : List Found) (ts : List Element) (d : Found) (first new : Option ℕ) (found : Bool)
    → map element_seen es ≡ ts → i < length es → (IsTrue found ↔ P k (element_seen (get_or es i d)))
    → new ≡ cond found (earlier first (Some (get_or es i d).at)) first → IsLeastOf (Among k (take i ts) P) first
    → IsLeastOf (Among k (take (i + 1) ts) P) new
least_seen P k i es ts d first new found e h says is l =
    let s = seen_at es ts i d (element_seen d) e h in
    least_more P k i ts (element_seen d) first new found (omega (arith, seen_length es ts e)) (rw s says) (rw s is) l

pub least_seen_all : (P : Finding) (k i : ℕ) (es : List Found) (ts : List Element) (first : Option ℕ) → map element_seen es ≡ ts
    → length es ≤ i → IsLeastOf (Among k (take i ts) P) first → IsLeastOf (Among k ts P) first
least_seen_all P k i es ts first e h l = least_all P k i ts first (omega (arith, seen_length es ts e)) l

pub least_unmarked : (P : Finding) (k : ℕ) (es : List Element) (marked : Bool) (first : Option ℕ) → marked ≡ true
    → IsLeastOf (Among k es P) first → IsLeastOf (λ i e. (marked ≡ true) × Among k es P i e) first
least_unmarked P k es marked None m l = λ i e h. l i e h.1
least_unmarked P k es marked (Some a) m l = ((l.0.0, l.0.1, (m, l.0.2), l.0.3), λ i e h. l.1 i e h.1)

pub marked_all : (lib : Library) (marks : List Bool) (n : ℕ) (P : Finding) (first : Option ℕ) → length marks ≡ n
    → IsLeastOf (AmongMarked lib marks n P) first → IsLeastOf (AmongMarked lib marks (length marks) P) first
marked_all lib marks n P first e l = rw e l
