-- Squares of rectangles of edits, and rectangles within the range of a layer.
use Rattle.std.proofs.Common.{◌⊎◌, inl, inr, List, [], ◌∷◌, ◌++◌, map, sym, subst, arith}
use Rattle.std.specs.Prelude.{◌↔◌, pos, ◌+ℤ◌}
use Rattle.std.specs.List.{All, AllByRecursion}
use Rattle.std.proofs.lemmas.Int.{ints}
use Rattle.std.proofs.lemmas.List.Elements.{recursion_from_All}
use Rattle.dpl_spec_split.specs.declared.Pt.{Pt}
use Rattle.dpl_spec_split.specs.declared.Rect.{Rect}
use Rattle.dpl_spec_split.specs.Squares.{Covers, Has}
use Rattle.dpl_spec_split.specs.Loops.{farthest, IsRectWithin, AreRectsWithin}
use Rattle.dpl_spec_split.proofs.Ordered.{Contains-head, Contains-later, Contains-cases, Contains-nil}
use Rattle.dpl_spec_split.proofs.SlabLaws.{Covers-member, member-Covers}
use Rattle.dpl_slabs.proofs.LoopLaws.{covers-appended}
use Rattle.dpl_cert.specs.Grammar.{IsRect}
use Rattle.dpl_spec_edits.specs.declared.Edit.{Edit}
use Rattle.dpl_spec_edits.specs.Edits.{rect_of}
use Rattle.dpl_spec_edits.specs.Text.{IsEdit}

pub covers-nil : (p : Pt) → Covers [] p → ⊥
covers-nil p h = let found = member-Covers [] p h in Contains-nil found.0 found.1

pub covers-cons : (r : Rect) (rs : List Rect) (p : Pt) → Covers (r ∷ rs) p ↔ (Has r p ⊎ Covers rs p)
covers-cons r rs p = (
  λ h. (let (s, s_in, has) = member-Covers (r ∷ rs) p h in
      elim (Contains-cases r s rs s_in) [
        | inl same ↦ inl (subst (λ (t : Rect). Has t p) (sym same) has)
        | inr later ↦ inr (Covers-member rs s p later has)
      ]),
  λ h. elim h [
    | inl has ↦ Covers-member (r ∷ rs) r p (Contains-head r rs) has
    | inr later ↦ (let (s, s_in, has) = member-Covers rs p later in Covers-member (r ∷ rs) s p (Contains-later r s rs s_in) has)
  ],
)

pub covers-append : (rs ss : List Rect) (p : Pt) → Covers (rs ++ ss) p ↔ (Covers rs p ⊎ Covers ss p)
covers-append rs ss p = covers-appended (Covers ss) rs ss (λ q. (λ h. h, λ h. h)) p

-- the rectangle of one square
abbrev pub one_square : Pt → Rect
one_square p = record { x0 = p.x; y0 = p.y; x1 = p.x +ℤ pos 1; y1 = p.y +ℤ pos 1 }

pub covers-one_square : (p : Pt) → Covers (one_square p ∷ []) p
covers-one_square p = Covers-member (one_square p ∷ []) (one_square p) p (Contains-head (one_square p) [])
    (record { left = omega (arith, ints); right = omega (arith, ints); low = omega (arith, ints); high = omega (arith, ints) })

rect-within : (r : Rect) → IsRect r → IsRectWithin farthest r
rect-within r f = record {
  left = omega (arith, ints, f.x0.0, f.x0.1);
  low = omega (arith, ints, f.y0.0, f.y0.1);
  right = omega (arith, ints, f.x1.0, f.x1.1);
  high = omega (arith, ints, f.y1.0, f.y1.1);
}

each-within : (es : List Edit) → AllByRecursion IsEdit es → AreRectsWithin farthest (map rect_of es)
each-within [] f r r_in = absurd (Contains-nil r r_in)
each-within (e ∷ es) f r r_in = elim (Contains-cases (rect_of e) r (map rect_of es) r_in) [
  | inl same ↦ subst (IsRectWithin farthest) same (rect-within (rect_of e) f.0)
  | inr later ↦ each-within es f.1 r later
]

-- the rectangles of edits lie within the range of a layer
pub edits-within : (es : List Edit) → All IsEdit es → AreRectsWithin farthest (map rect_of es)
edits-within es f = each-within es (recursion_from_All IsEdit es f)
