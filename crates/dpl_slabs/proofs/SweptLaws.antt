-- Strips swept one after another.
use Rattle.std.proofs.Common.{◌≡◌, ℕ, ◌+◌, ◌-◌, ◌≤◌, ◌<◌, inl, inr, List, [], ◌++◌, length, take, drop, sym, ap, ◌∙◌, arith}
use Rattle.std.proofs.lemmas.List.{drop-drop, length-drop, take-append-drop, take_all}
use Rattle.std.proofs.lemmas.List.Elements.{Contains-append_cases}
use Rattle.dpl_spec_split.specs.declared.Pt.{Pt}
use Rattle.dpl_spec_split.specs.declared.Rect.{Rect}
use Rattle.dpl_spec_split.specs.Squares.{Covers}
use Rattle.dpl_spec_split.specs.Slabs.{AreSlabsOf}
use Rattle.dpl_slabs.specs.Strips.{LieBelow, AddsStrip, AreStripsOf}
use Rattle.dpl_slabs.proofs.StripLaws.{adds-strip, right-in, strips-all, strips-next}

-- all that lies behind a place
rest-whole : (rects : List Rect) (n : ℕ) → take (length rects - n) (drop n rects) ≡ drop n rects
rest-whole rects n = take_all (length rects - n) (drop n rects) (let len = length-drop n rects in omega (arith, len))

-- the next strip was swept
pub swept-next : (rects all slabs new : List Rect) (n m : ℕ) → AreStripsOf all slabs (drop n rects)
    → LieBelow (take m (take (length rects - n) (drop n rects))) (drop m (take (length rects - n) (drop n rects)))
    → AddsStrip (Covers (take m (take (length rects - n) (drop n rects)))) slabs new (take m (take (length rects - n) (drop n rects)))
    → AreStripsOf all new (drop (n + m) rects)
swept-next rects all slabs new n m s gap a =
    let whole = rest-whole rects n in
    let next : AreStripsOf all new (drop m (drop n rects)) = strips-next all slabs (drop n rects) m s new (rw whole at gap) (rw whole at a) in
    rw (sym (drop-drop m n rects)) next

-- strips of the rest
strips-joined : (rects slabs rest more : List Rect) (k : ℕ) → AreStripsOf rects slabs rest → AreStripsOf rest more (drop k rest)
    → AreStripsOf rects (slabs ++ more) (drop k rest)
strips-joined rects slabs rest more k s t =
    let inside : (p : Pt) → Covers more p → Covers rest p = λ p h. (t.covers p).0 (inl h) in
    let own : AreSlabsOf (Covers more) more = record { canonical = t.canonical; covers = λ p. (λ h. h, λ h. h) } in
    let a = adds-strip (Covers more) slabs more rest s.canonical s.below inside own t.within in
    record {
      canonical = a.canonical;
      covers = λ p. (
        (λ h. elim h [
          | inl c ↦ elim ((a.covers p).0 c) [ inl old ↦ (s.covers p).0 (inl old) | inr new ↦ (s.covers p).0 (inr (inside p new)) ]
          | inr c ↦ (s.covers p).0 (inr ((t.covers p).0 (inr c)))
        ]),
        λ h. elim ((s.covers p).1 h) [
          | inl old ↦ inl ((a.covers p).1 (inl old))
          | inr c ↦ elim ((t.covers p).1 c) [ inl new ↦ inl ((a.covers p).1 (inr new)) | inr left ↦ inr left ]
        ],
      );
      within = a.within s.within;
      rest_within = t.rest_within;
      rise = t.rise;
      below = λ r q r_in q_in. elim (Contains-append_cases slabs more r r_in) [
        | inl old ↦ s.below r q old (right-in (take k rest) (drop k rest) rest q (take-append-drop k rest) q_in)
        | inr new ↦ t.below r q new q_in
      ];
    }

-- the next strips were swept before
pub swept-joined : (rects all slabs more : List Rect) (n e : ℕ) → n < e → AreStripsOf all slabs (drop n rects)
    → AreStripsOf (drop n rects) more (drop e rects) → AreStripsOf all (slabs ++ more) (drop e rects)
swept-joined rects all slabs more n e l s t =
    let at : n + (e - n) ≡ e = omega (arith, l) in
    let same : drop (e - n) (drop n rects) ≡ drop e rects = drop-drop (e - n) n rects ∙ ap (λ k. drop k rects) at in
    let there : AreStripsOf (drop n rects) more (drop (e - n) (drop n rects)) = rw same t in
    rw (sym same) (strips-joined all slabs (drop n rects) more (e - n) s there)

-- all strips
pub swept-all : (rects slabs : List Rect) (n e : ℕ) → n ≡ 0 → length rects ≤ e → AreStripsOf (drop n rects) slabs (drop e rects) → AreSlabsOf (Covers rects) slabs
swept-all rects slabs n e first last s =
    let whole : AreStripsOf rects slabs (drop e rects) = rw first at s in
    let len = length-drop e rects in
    strips-all rects slabs (drop e rects) (omega (arith, len, last)) whole
