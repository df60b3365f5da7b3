-- What edits come down to.
use Rattle.std.proofs.Common.{◌≡◌, ◌⊎◌, ◌≤◌, inl, inr, List, [], ◌∷◌, ◌++◌, length, map, arith}
use Rattle.std.specs.Prelude.{◌↔◌}
use Rattle.std.specs.List.{All, AllByRecursion}
use Rattle.std.proofs.lemmas.List.Elements.{recursion_from_All, All-nil, All-cons}
use Rattle.dpl_spec_split.specs.declared.Pt.{Pt}
use Rattle.dpl_spec_split.specs.declared.Rect.{Rect}
use Rattle.dpl_spec_split.specs.Squares.{Region, Covers}
use Rattle.dpl_spec_split.specs.Slabs.{AreSlabsOf}
use Rattle.dpl_slabs.proofs.SetLaws.{slabs-of-same}
use Rattle.dpl_spec_edits.specs.declared.Edit.{Edit}
use Rattle.dpl_spec_edits.specs.declared.Edit.TheVariants.{Add, Remove}
use Rattle.dpl_spec_edits.specs.Edits.{edited, with_edit, rect_of}
use Rattle.dpl_spec_edits.proofs.Making.{one_same, edited_at, edited_append}
use Rattle.dpl_edits.specs.declared.applying.Change.{Change}
use Rattle.dpl_edits.specs.Changes.{IsAdd, IsRemove, with_change, IsChangeOf}
use Rattle.dpl_edits.proofs.SquareLaws.{covers-nil, covers-cons, one_square, covers-one_square, covers-append}

-- no squares, and all squares
abbrev none : Region
none p = ⊥

abbrev all : Region
all p = Unit {0}

edit-split : (e : Edit) (a : Region) (p : Pt) → with_edit a e p → with_edit none e p ⊎ (a p × with_edit all e p)
edit-split (Add r) a p h = elim h [ inl old ↦ inr (old, inl tt) | inr has ↦ inl (inr has) ]
edit-split (Remove r) a p h = inr (h.0, (tt, h.1))

-- a square is there after edits if they add it, or if it was there and they leave it
split : (es : List Edit) (a : Region) (p : Pt) → edited a es p ↔ (edited none es p ⊎ (a p × edited all es p))
split [] a p = (λ h. inr (h, tt), λ h. elim h [ inl never ↦ absurd never | inr old ↦ old.0 ])
split (e ∷ es) a p =
    let here = split es (with_edit a e) p in
    let of_none = split es (with_edit none e) p in
    let of_all = split es (with_edit all e) p in (
      λ h. elim (here.0 h) [
        | inl added ↦ inl (of_none.1 (inl added))
        | inr (there, left) ↦ elim (edit-split e a p there) [
          | inl new ↦ inl (of_none.1 (inr (new, left)))
          | inr (old, kept) ↦ inr (old, of_all.1 (inr (kept, left)))
        ]
      ],
      λ h. elim h [
        | inl new ↦ elim (of_none.0 new) [
          | inl added ↦ here.1 (inl added)
          | inr (there, left) ↦ here.1 (inr (one_same e none a p (λ never. absurd never) there, left))
        ]
        | inr (old, new) ↦ elim (of_all.0 new) [
          | inl added ↦ here.1 (inl added)
          | inr (there, left) ↦ here.1 (inr (one_same e all a p (λ any. old) there, left))
        ]
      ],
    )

-- a change makes of any set what its edits make of it
pub change-at : (es : List Edit) (c : Change) → IsChangeOf es c → (a : Region) (p : Pt) → with_change a c p ↔ edited a es p
change-at es c is a p =
    let adds : edited none es p ↔ edited (Covers []) es p = edited_at es none (Covers []) p (λ never. absurd never, covers-nil p) in
    let leaves : edited all es p ↔ edited (Covers (one_square p ∷ [])) es p =
    edited_at es all (Covers (one_square p ∷ [])) p (λ any. covers-one_square p, λ any. tt) in
    let of_none = is [] p in
    let of_all = is (one_square p ∷ []) p in
    let s = split es a p in (
      λ h. elim h [
        | inl (old, kept) ↦ s.1 (inr (old, leaves.1 (of_all.0 (inl (covers-one_square p, kept)))))
        | inr added ↦ s.1 (inl (adds.1 (of_none.0 (inr added))))
      ],
      λ h. elim (s.0 h) [
        | inl new ↦ elim (of_none.1 (adds.0 new)) [
          | inl (old, kept) ↦ absurd (covers-nil p old)
          | inr added ↦ inr added
        ]
        | inr (old, left) ↦ elim (of_all.1 (leaves.0 left)) [
          | inl (any, kept) ↦ inl (old, kept)
          | inr added ↦ inr added
        ]
      ],
    )

-- a change and a later one after it
pub record IsBoth (first later both : Change) : Type 0 where
  pub added : (p : Pt) → Covers both.added p ↔ ((Covers first.added p × ¬ Covers later.removed.items p) ⊎ Covers later.added p)
  pub removed : (p : Pt) → Covers both.removed.items p ↔ (Covers first.removed.items p ⊎ Covers later.removed.items p)

both-at : (first later both : Change) → IsBoth first later both → (a : Region) (p : Pt) → with_change a both p ↔ with_change (with_change a first) later p
both-at first later both is a p = (
  λ h. elim h [
    | inl (old, kept) ↦ inl (inl (old, λ gone. kept ((is.removed p).1 (inl gone))), λ gone. kept ((is.removed p).1 (inr gone)))
    | inr added ↦ elim ((is.added p).0 added) [
      | inl (here, kept) ↦ inl (inr here, kept)
      | inr new ↦ inr new
    ]
  ],
  λ h. elim h [
    | inl (there, kept) ↦ elim there [
      | inl (old, stays) ↦ inl (old, λ gone. elim ((is.removed p).0 gone) [ inl before ↦ stays before | inr after ↦ kept after ])
      | inr here ↦ inr ((is.added p).1 (inl (here, kept)))
    ]
    | inr new ↦ inr ((is.added p).1 (inr new))
  ],
)

pub both-change : (first later both : Change) → IsBoth first later both → (es fs : List Edit) → IsChangeOf es first → IsChangeOf fs later → IsChangeOf (es ++ fs) both
both-change first later both is es fs one two layer p =
    let a = Covers layer in
    let turns = both-at first later both is a p in
    let then_later = change-at fs later two (with_change a first) p in
    let from_first = edited_at fs (with_change a first) (edited a es) p (one layer p) in
    let row = edited_append es fs a p in
    (λ h. row.1 (from_first.0 (then_later.0 (turns.0 h))), λ h. turns.1 (then_later.1 (from_first.1 (row.0 h))))

pub kept-sets : (first later both : Change) (kept : List Rect) → AreSlabsOf (λ p. Covers first.added p × ¬ Covers later.removed.items p) kept
    → AreSlabsOf (λ p. Covers kept p ⊎ Covers later.added p) both.added → both.removed.items ≡ first.removed.items ++ later.removed.items
    → IsBoth first later both
kept-sets first later both kept k a r = record {
  added = λ p. (
    λ h. elim ((a.covers p).0 h) [ inl old ↦ inl ((k.covers p).0 old) | inr new ↦ inr new ],
    λ h. (a.covers p).1 (elim h [ inl old ↦ inl ((k.covers p).1 old) | inr new ↦ inr new ]),
  );
  removed = λ p. rw r (covers-append first.removed.items later.removed.items p);
}

-- ---- edits of one kind

adds-at : (es : List Edit) → AllByRecursion IsAdd es → (a : Region) (p : Pt) → (a p ⊎ Covers (map rect_of es) p) ↔ edited a es p
adds-at [] f a p = (λ h. elim h [ inl old ↦ old | inr never ↦ absurd (covers-nil p never) ], λ h. inl h)
adds-at (Add r ∷ es) f a p =
    let more = adds-at es f.1 (with_edit a (Add r)) p in
    let cons = covers-cons r (map rect_of es) p in (
      λ h. more.0 (elim h [
        | inl old ↦ inl (inl old)
        | inr new ↦ elim (cons.0 new) [ inl has ↦ inl (inr has) | inr later ↦ inr later ]
      ]),
      λ h. elim (more.1 h) [
        | inl there ↦ elim there [ inl old ↦ inl old | inr has ↦ inr (cons.1 (inl has)) ]
        | inr later ↦ inr (cons.1 (inr later))
      ],
    )
adds-at (Remove r ∷ es) f a p = absurd f.0

removes-at : (es : List Edit) → AllByRecursion IsRemove es → (a : Region) (p : Pt) → (a p × ¬ Covers (map rect_of es) p) ↔ edited a es p
removes-at [] f a p = (λ h. h.0, λ h. (h, covers-nil p))
removes-at (Add r ∷ es) f a p = absurd f.0
removes-at (Remove r ∷ es) f a p =
    let more = removes-at es f.1 (with_edit a (Remove r)) p in
    let cons = covers-cons r (map rect_of es) p in (
      λ h. more.0 ((h.0, λ has. h.1 (cons.1 (inl has))), λ later. h.1 (cons.1 (inr later))),
      λ h. (let (there, out) = more.1 h in
          (there.0, λ c. elim (cons.0 c) [ inl has ↦ there.1 has | inr later ↦ out later ])),
    )

pub adds-change : (es : List Edit) (c : Change) → All IsAdd es → AreSlabsOf (Covers (map rect_of es)) c.added → c.removed.items ≡ [] → IsChangeOf es c
adds-change es c f s e layer p =
    let turns = adds-at es (recursion_from_All IsAdd es f) (Covers layer) p in
    let none_removed : ¬ Covers c.removed.items p = rw e (covers-nil p) in (
      λ h. turns.0 (elim h [ inl old ↦ inl old.0 | inr new ↦ inr ((s.covers p).0 new) ]),
      λ h. elim (turns.1 h) [ inl old ↦ inl (old, none_removed) | inr new ↦ inr ((s.covers p).1 new) ],
    )

pub removes-change : (es : List Edit) (c : Change) → All IsRemove es → c.removed.items ≡ map rect_of es → c.added ≡ [] → IsChangeOf es c
removes-change es c f r e layer p =
    let turns = removes-at es (recursion_from_All IsRemove es f) (Covers layer) p in
    let none_added : ¬ Covers c.added p = rw e (covers-nil p) in
    let gone : Covers c.removed.items p ↔ Covers (map rect_of es) p = rw r ((λ h. h, λ h. h)) in (
      λ h. elim h [ inl old ↦ turns.0 (old.0, λ x. old.1 (gone.1 x)) | inr new ↦ absurd (none_added new) ],
      λ h. (let (old, out) = turns.1 h in inl (old, λ x. out (gone.0 x))),
    )

-- ---- the layer

pub changed-slabs : (layer kept slabs : List Rect) (c : Change) → AreSlabsOf (λ p. Covers layer p × ¬ Covers c.removed.items p) kept
    → AreSlabsOf (λ p. Covers kept p ⊎ Covers c.added p) slabs → AreSlabsOf (with_change (Covers layer) c) slabs
changed-slabs layer kept slabs c k s = slabs-of-same (λ p. Covers kept p ⊎ Covers c.added p) (with_change (Covers layer) c) slabs (λ p. (
  λ h. elim h [ inl old ↦ inl ((k.covers p).0 old) | inr new ↦ inr new ],
  λ h. elim h [ inl old ↦ inl ((k.covers p).1 old) | inr new ↦ inr new ],
)) s

pub edited-slabs : (layer slabs : List Rect) (es : List Edit) (c : Change) → IsChangeOf es c → AreSlabsOf (with_change (Covers layer) c) slabs
    → AreSlabsOf (edited (Covers layer) es) slabs
edited-slabs layer slabs es c is s = slabs-of-same (with_change (Covers layer) c) (edited (Covers layer) es) slabs (is layer) s

-- edits that are of neither kind alone are two or more
pub two_kinds : (es : List Edit) → ¬ All IsAdd es → ¬ All IsRemove es → 2 ≤ length es
two_kinds [] a r = absurd (a (All-nil IsAdd))
two_kinds (Add x ∷ []) a r = absurd (a (All-cons IsAdd (Add x) [] tt (All-nil IsAdd)))
two_kinds (Remove x ∷ []) a r = absurd (r (All-cons IsRemove (Remove x) [] tt (All-nil IsRemove)))
two_kinds (d ∷ e ∷ es) a r = omega arith
