-- A set has one list of touching components.
use Rattle.std.proofs.Common.{◌≡◌, List, sym, subst}
use Rattle.std.specs.List.{Contains}
use Rattle.std.proofs.lemmas.List.Elements.{All-contains}
use Rattle.dpl_spec_split.specs.declared.Pt.{Pt}
use Rattle.dpl_spec_split.specs.declared.Rect.{Rect}
use Rattle.dpl_spec_split.specs.Squares.{Region, SameSquares, Covers, Precedes}
use Rattle.dpl_spec_split.specs.Slabs.{IsCanonical}
use Rattle.dpl_spec_split.specs.Components.{Linked, here, on, component, ComesFirst, AreComponents}
use Rattle.dpl_spec_split.proofs.Ordered.{same_members}
use Rattle.dpl_spec_split.proofs.SquareLaws.{Touch-sym, Precedes-strict, IsLeast-unique, SameSquares-refl, SameSquares-sym, SameSquares-trans}
use Rattle.dpl_spec_split.proofs.SlabLaws.{canonical-unique}

pub Linked-start : (a : Region) {p q : Pt} → Linked a p q → a p
Linked-start a (here h) = h
Linked-start a (on h t l) = h

pub Linked-end : (a : Region) {p q : Pt} → Linked a p q → a q
Linked-end a (here h) = h
Linked-end a (on h t l) = Linked-end a l

pub Linked-trans : (a : Region) {p q r : Pt} → Linked a p q → Linked a q r → Linked a p r
Linked-trans a (here h) m = m
Linked-trans a (on h t l) m = on h t (Linked-trans a l m)

pub Linked-sym : (a : Region) {p q : Pt} → Linked a p q → Linked a q p
Linked-sym a (here h) = here h
Linked-sym a (on {p = p} {q = q} h t l) = Linked-trans a (Linked-sym a l) (on (Linked-start a l) (Touch-sym p q t) (here h))

pub component-same : (a : Region) (p q : Pt) → Linked a p q → SameSquares (component a p) (component a q)
component-same a p q l r = (λ h. Linked-trans a (Linked-sym a l) h, λ h. Linked-trans a l h)

ComesFirst-strict : (s t : List Rect) → ComesFirst s t → ComesFirst t s → ⊥
ComesFirst-strict s t f g =
    let e : f.first ≡ g.second = IsLeast-unique _ _ _ _ (SameSquares-refl (Covers s)) f.first_is g.second_is in
    let d : f.second ≡ g.first = IsLeast-unique _ _ _ _ (SameSquares-refl (Covers t)) f.second_is g.first_is in
    Precedes-strict f.first f.second f.precedes (subst (λ p. Precedes p f.first) (sym d) (subst (λ q. Precedes g.first q) (sym e) g.precedes))

into : (a : Region) (parts others : List (List Rect)) → AreComponents a parts → AreComponents a others → (part : List Rect) → Contains parts part → Contains others part
into a parts others c d part member =
    let mine = All-contains (λ s. (p : Pt) × a p × SameSquares (Covers s) (component a p)) parts part c.whole member in
    let p : Pt = mine.0 in
    let held = (d.together p).1 mine.1 in
    let other : List Rect = held.1 in
    let other_in : Contains others other = (held.0, held.2, held.3) in
    let theirs = All-contains (λ s. (p : Pt) × a p × SameSquares (Covers s) (component a p)) others other d.whole other_in in
    let linked : Linked a theirs.0 p = (theirs.2 p).0 held.4 in
    let squares : SameSquares (Covers other) (Covers part) =
    SameSquares-trans _ _ _ theirs.2 (SameSquares-trans _ _ _ (component-same a theirs.0 p linked) (SameSquares-sym _ _ mine.2)) in
    let same : other ≡ part = canonical-unique other part (All-contains IsCanonical others other d.canonical other_in)
    (All-contains IsCanonical parts part c.canonical member) squares in
    subst (λ s. Contains others s) same other_in

pub components-unique : (a : Region) (parts others : List (List Rect)) → AreComponents a parts → AreComponents a others → parts ≡ others
components-unique a parts others c d =
    same_members ComesFirst ComesFirst-strict parts others c.ordered d.ordered (λ s. (into a parts others c d s, into a others parts d c s))
