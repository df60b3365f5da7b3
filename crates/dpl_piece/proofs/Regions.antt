-- Components of sets that have the same squares, and what zones leave of them.
use Rattle.std.proofs.Common.{List}
use Rattle.dpl_spec_split.specs.declared.Pt.{Pt}
use Rattle.dpl_spec_split.specs.declared.Rect.{Rect}
use Rattle.dpl_spec_split.specs.declared.Zone.{Zone}
use Rattle.dpl_spec_split.specs.Squares.{Region, SameSquares}
use Rattle.dpl_spec_split.specs.Components.{Linked, here, on, component, AreComponents}
use Rattle.dpl_spec_split.specs.Pieces.{without}
use Rattle.dpl_spec_split.proofs.SquareLaws.{SameSquares-trans}

pub linked-same : (a b : Region) → ((p : Pt) → a p → b p) → {p q : Pt} → Linked a p q → Linked b p q
linked-same a b into (here h) = here (into _ h)
linked-same a b into (on h t l) = on (into _ h) t (linked-same a b into l)

component-of : (a b : Region) (p : Pt) → SameSquares a b → SameSquares (component a p) (component b p)
component-of a b p same q = (λ l. linked-same a b (λ r. (same r).0) l, λ l. linked-same b a (λ r. (same r).1) l)

-- components of one of two sets with the same squares are those of the other
pub components-same : (a b : Region) (parts : List (List Rect)) → SameSquares a b → AreComponents a parts → AreComponents b parts
components-same a b parts same c =
    record {
      canonical = c.canonical;
      together = λ p. (λ h. (same p).0 ((c.together p).0 h), λ h. (c.together p).1 ((same p).1 h));
      whole = λ k d k_in. (let (p, in_a, squares) = c.whole k d k_in in (p, (same p).0 in_a, SameSquares-trans _ _ _ squares (component-of a b p same)));
      ordered = c.ordered;
    }

pub without-same : (a b : Region) (zones : List Zone) → SameSquares a b → SameSquares (without a zones) (without b zones)
without-same a b zones same p = (λ (h, none). ((same p).0 h, none), λ (h, none). ((same p).1 h, none))
