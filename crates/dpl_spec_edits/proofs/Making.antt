-- What edits make of sets of squares.
use Rattle.std.specs.Prelude.{◌↔◌, List, [], ◌∷◌, ◌++◌}
use Rattle.std.proofs.Common.{inl, inr}
use Rattle.dpl_spec_split.specs.declared.Pt.{Pt}
use Rattle.dpl_spec_split.specs.Squares.{Region}
use Rattle.dpl_spec_edits.specs.declared.Edit.{Edit}
use Rattle.dpl_spec_edits.specs.declared.Edit.TheVariants.{Add, Remove}
use Rattle.dpl_spec_edits.specs.Edits.{edited, with_edit}

pub one_same : (e : Edit) (a b : Region) (p : Pt) → (a p → b p) → with_edit a e p → with_edit b e p
one_same (Add r) a b p f h = elim h [ inl x ↦ inl (f x) | inr y ↦ inr y ]
one_same (Remove r) a b p f h = (f h.0, h.1)

-- whether a square is there after edits rests only on whether it was there
pub edited_at : (es : List Edit) (a b : Region) (p : Pt) → (a p ↔ b p) → (edited a es p ↔ edited b es p)
edited_at [] a b p h = h
edited_at (e ∷ es) a b p h = edited_at es (with_edit a e) (with_edit b e) p (one_same e a b p h.0, one_same e b a p h.1)

pub edited_append : (es fs : List Edit) (a : Region) (p : Pt) → (edited a (es ++ fs) p ↔ edited (edited a es) fs p)
edited_append [] fs a p = (λ h. h, λ h. h)
edited_append (e ∷ es) fs a p = edited_append es fs (with_edit a e) p
