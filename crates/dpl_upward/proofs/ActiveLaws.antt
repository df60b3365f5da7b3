-- The rectangles of a list that have squares in a band.
use Rattle.std.proofs.Common.{◌≡◌, ℕ, suc, ◌+◌, ◌≤◌, ◌<◌, ◌⊎◌, inl, inr, List, [], ◌∷◌, ◌++◌, length, get_or, take, drop, sym, ap, ◌∙◌, subst, arith}
use Rattle.std.specs.Prelude.{◌↔◌, ℤ, ◌≤ℤ◌, ◌<ℤ◌}
use Rattle.std.specs.List.{Contains}
use Rattle.std.specs.List.Sorted.{IsPermutation}
use Rattle.std.proofs.lemmas.Int.{ints}
use Rattle.std.proofs.lemmas.List.{drop-drop, get_or_default, get_or-drop, length-drop, take-append-drop}
use Rattle.std.proofs.lemmas.List.Elements.{Contains-append_left, Contains-append_right, Contains-append_cases, Contains-push_cases}
use Rattle.std.proofs.lemmas.List.Sorted.{Contains-permutation, IsPermutation-sym}
use Rattle.std.proofs.Math.Seq.{take-suc}
use Rattle.dpl_spec_split.specs.declared.Pt.{Pt}
use Rattle.dpl_spec_split.specs.declared.Rect.{Rect}
use Rattle.dpl_spec_split.specs.Squares.{Has, Covers}
use Rattle.dpl_spec_split.proofs.SlabLaws.{Covers-member, member-Covers}
use Rattle.dpl_upward.specs.Active.{AddsReaching, AreActive, AreGathered, FillBand, HaveBegun, IsReaching, LeftsRise}
use Rattle.dpl_order.specs.Orders.{CornerBefore, CornersRise}
use Rattle.dpl_order.proofs.JoinLaws.{covers-same}
use Rattle.dpl_order.proofs.PieceLaws.{Puts-push}

pub nothing : {X : Type 0} (r : Rect) → Contains [] r → X
nothing r (k, k_in, is) = absurd (omega (arith, k_in))

pub covers-nothing : {X : Type 0} (p : Pt) → Covers [] p → X
covers-nothing p c = let found = member-Covers [] p c in nothing found.0 found.1

-- one rectangle more
module _ (rs : List Rect) (n : ℕ) (r : Rect) (n_in : n < length rs) (r_is : r ≡ get_or rs n r) where
  step : take (n + 1) rs ≡ take n rs ++ r ∷ []
  step = let one : n + 1 ≡ suc n = omega arith in ap (λ k. take k rs) one ∙ (take-suc rs n r n_in ∙ ap (λ s. take n rs ++ s ∷ []) (sym r_is))

  which : (q : Rect) → Contains (take (n + 1) rs) q → Contains (take n rs) q ⊎ (r ≡ q)
  which q q_in = Contains-push_cases (take n rs) r q (subst (λ xs. Contains xs q) step q_in)

  pub covers-step : (p : Pt) → Covers (take (n + 1) rs) p ↔ (Covers (take n rs) p ⊎ Has r p)
  covers-step p = rw step ((Puts-push (take n rs) r).covers p)

  pub top-more : (top new : ℤ) → top ≤ℤ new → r.y1 ≤ℤ new → ((q : Rect) → Contains (take n rs) q → q.y1 ≤ℤ top) → (q : Rect) → Contains (take (n + 1) rs) q → q.y1 ≤ℤ new
  top-more top new l m before q q_in = elim (which q q_in) [ inl h ↦ (let a = before q h in omega (arith, ints, a, l)) | inr e ↦ subst (λ t. t.y1 ≤ℤ new) e m ]

  pub end-more : (high new : ℤ) → new ≤ℤ high → new ≤ℤ r.y1 → ((q : Rect) → Contains (take n rs) q → high ≤ℤ q.y1) → (q : Rect) → Contains (take (n + 1) rs) q → new ≤ℤ q.y1
  end-more high new l m before q q_in = elim (which q q_in) [ inl h ↦ (let a = before q h in omega (arith, ints, a, l)) | inr e ↦ subst (λ t. new ≤ℤ t.y1) e m ]

  pub begun-more : (low : ℤ) → r.y0 ≤ℤ low → ((q : Rect) → Contains (take n rs) q → q.y0 ≤ℤ low) → (q : Rect) → Contains (take (n + 1) rs) q → q.y0 ≤ℤ low
  begun-more low m before q q_in = elim (which q q_in) [ inl h ↦ before q h | inr e ↦ subst (λ t. t.y0 ≤ℤ low) e m ]

  pub above-here : (low : ℤ) → CornersRise rs → low <ℤ r.y0 → (q : Rect) → Contains (drop n rs) q → low <ℤ q.y0
  above-here low rise l q (k, k_in, q_is) =
      let len = length-drop n rs in
      let at : get_or rs (n + k) q ≡ q = sym (get_or-drop n rs k q) ∙ q_is in
      let here : get_or rs n q ≡ r = get_or_default rs n q r n_in ∙ sym r_is in
      let before : CornerBefore r q = rw (at, here) at (rise n (n + k) q (omega arith) (omega (arith, len, k_in))) in
      elim before [ inl m ↦ omega (arith, ints, l, m) | inr m ↦ (let e = m.0 in omega (arith, ints, l, e)) ]

  pub adds-reach : (low : ℤ) (old new : List Rect) → IsReaching low r → AddsReaching low (take n rs) old new → AddsReaching low (take (n + 1) rs) old (new ++ r ∷ [])
  adds-reach low old new reach a =
      let put = Puts-push new r in
      record {
        covers = λ p l. (
          (λ h. elim ((put.covers p).0 h) [
            | inl c ↦ elim ((a.covers p l).0 c) [ inl o ↦ inl o | inr t ↦ inr ((covers-step p).1 (inl t)) ]
            | inr has ↦ inr ((covers-step p).1 (inr has))
          ]),
          λ h. elim h [
            | inl o ↦ (put.covers p).1 (inl ((a.covers p l).1 (inl o)))
            | inr c ↦ elim ((covers-step p).0 c) [
              | inl t ↦ (put.covers p).1 (inl ((a.covers p l).1 (inr t)))
              | inr has ↦ (put.covers p).1 (inr has)
            ]
          ],
        );
        members = λ q q_in. elim (Contains-push_cases new r q q_in) [
          | inl h ↦ elim (a.members q h) [ inl o ↦ inl o | inr t ↦ inr (rw step (Contains-append_left (take n rs) (r ∷ []) q t.0), t.1) ]
          | inr e ↦ inr (rw step (Contains-append_right (take n rs) (r ∷ []) q (0, omega arith, e)), subst (IsReaching low) e reach)
        ];
      }

  pub adds-skip : (low : ℤ) (old new : List Rect) → (IsReaching low r → ⊥) → AddsReaching low (take n rs) old new → AddsReaching low (take (n + 1) rs) old new
  adds-skip low old new none a =
      record {
        covers = λ p l. (
          (λ h. elim ((a.covers p l).0 h) [ inl o ↦ inl o | inr t ↦ inr ((covers-step p).1 (inl t)) ]),
          λ h. elim h [
            | inl o ↦ (a.covers p l).1 (inl o)
            | inr c ↦ elim ((covers-step p).0 c) [
              | inl t ↦ (a.covers p l).1 (inr t)
              | inr has ↦ absurd (let x = has.left in let y = has.right in let z = has.high in
                  none (record { wide = omega (arith, ints, x, y); tall = omega (arith, ints, z, l) }))
            ]
          ],
        );
        members = λ q q_in. elim (a.members q q_in) [ inl o ↦ inl o | inr t ↦ inr (rw step (Contains-append_left (take n rs) (r ∷ []) q t.0), t.1) ];
      }

pub adds-none : (low : ℤ) (old : List Rect) → AddsReaching low [] old old
adds-none low old = record { covers = λ p l. ((λ h. inl h), λ h. elim h [ inl o ↦ o | inr c ↦ covers-nothing p c ]); members = λ q h. inl h }

pub gathered : (low : ℤ) (active starts mid new sorted : List Rect) → AddsReaching low active [] mid → AddsReaching low starts mid new
    → IsPermutation new sorted → LeftsRise sorted → AreGathered low active starts sorted
gathered low active starts mid new sorted a b same rise =
    record {
      rise = rise;
      covers = λ p l. (
        (λ h. elim ((b.covers p l).0 ((covers-same new sorted same p).1 h)) [
          | inl m ↦ elim ((a.covers p l).0 m) [ inl c ↦ covers-nothing p c | inr c ↦ inl c ]
          | inr c ↦ inr c
        ]),
        λ h. (covers-same new sorted same p).0 (elim h [
          | inl c ↦ (b.covers p l).1 (inl ((a.covers p l).1 (inr c)))
          | inr c ↦ (b.covers p l).1 (inr c)
        ]),
      );
      members = λ q q_in. elim (b.members q (Contains-permutation sorted new q (IsPermutation-sym new sorted same) q_in)) [
        | inl m ↦ elim (a.members q m) [ inl c ↦ nothing q c | inr c ↦ (inl c.0, c.1) ]
        | inr c ↦ (inr c.0, c.1)
      ];
    }

pub rise-drop : (n : ℕ) (rs : List Rect) → CornersRise rs → CornersRise (drop n rs)
rise-drop n rs rise i j d l j_in =
    let len = length-drop n rs in
    let h = rise (n + i) (n + j) d (omega (arith, l)) (omega (arith, len, j_in)) in
    rw (get_or-drop n rs i d, get_or-drop n rs j d) h

-- the first begins no higher than any
pub first-lowest : (rs : List Rect) (first r : Rect) → 0 < length rs → first ≡ get_or rs 0 first → CornersRise rs → Contains rs r → first.y0 ≤ℤ r.y0
first-lowest rs first r some first_is rise (k, k_in, r_is) =
    let here : get_or rs 0 r ≡ first = get_or_default rs 0 r first some ∙ sym first_is in
    let before : CornerBefore first r = rw (here, r_is) at (rise 0 k r (omega arith) k_in) in
    elim before [ inl m ↦ omega (arith, ints, m) | inr m ↦ (let e = m.0 in omega (arith, ints, e)) ]

-- before the first band
pub active-none : (row : ℤ) (all : List Rect) → AreActive row all 0 []
active-none row all = record {
  within = omega arith;
  low = λ r r_in. nothing r r_in;
  covers = λ p l. (λ h. elim h [ inl c ↦ covers-nothing p c | inr c ↦ c ], λ c. inr c);
}

-- those that begin in the row, of the rest
module _ (row : ℤ) (all : List Rect) (begun : ℕ) (active : List Rect) (a : AreActive row all begun active) (n : ℕ) (found : List Rect)
    (n_in : n ≤ length (drop begun all)) (g : AreGathered row active (take n (drop begun all)) found)
    (low : (r : Rect) → Contains (take n (drop begun all)) r → r.y0 ≤ℤ row)
    (ahead : (r : Rect) → Contains (drop n (drop begun all)) r → row <ℤ r.y0) where
  abbrev rest : List Rect
  rest = drop begun all

  whole : take n rest ++ drop n rest ≡ rest
  whole = take-append-drop n rest

  later : drop (begun + n) all ≡ drop n rest
  later = sym (drop-drop n begun all)

  front-in : (p : Pt) → Covers (take n rest) p → Covers rest p
  front-in p c =
      let (r, r_in, has) = member-Covers (take n rest) p c in
      Covers-member rest r p (subst (λ xs. Contains xs r) whole (Contains-append_left (take n rest) (drop n rest) r r_in)) has

  back-in : (p : Pt) → Covers (drop n rest) p → Covers rest p
  back-in p c =
      let (r, r_in, has) = member-Covers (drop n rest) p c in
      Covers-member rest r p (subst (λ xs. Contains xs r) whole (Contains-append_right (take n rest) (drop n rest) r r_in)) has

  parts : (p : Pt) → Covers rest p → Covers (take n rest) p ⊎ Covers (drop n rest) p
  parts p c =
      let (r, r_in, has) = member-Covers rest p c in
      elim (Contains-append_cases (take n rest) (drop n rest) r (subst (λ xs. Contains xs r) (sym whole) r_in)) [
        | inl h ↦ inl (Covers-member (take n rest) r p h has)
        | inr h ↦ inr (Covers-member (drop n rest) r p h has)
      ]

  pub begins : HaveBegun row all (begun + n) found
  begins = record {
    are = record {
      within = (let len = length-drop begun all in let w = a.within in omega (arith, len, w, n_in));
      low = λ r r_in. elim (g.members r r_in).0 [ inl h ↦ a.low r h | inr h ↦ low r h ];
      covers = λ p l. (
        (λ h. elim h [
          | inl c ↦ elim ((g.covers p l).0 c) [ inl k ↦ (a.covers p l).0 (inl k) | inr k ↦ (a.covers p l).0 (inr (front-in p k)) ]
          | inr d ↦ (a.covers p l).0 (inr (back-in p (subst (λ xs. Covers xs p) later d)))
        ]),
        λ c. elim ((a.covers p l).1 c) [
          | inl k ↦ inl ((g.covers p l).1 (inl k))
          | inr k ↦ elim (parts p k) [ inl f ↦ inl ((g.covers p l).1 (inr f)) | inr d ↦ inr (subst (λ xs. Covers xs p) (sym later) d) ]
        ],
      );
    };
    rise = g.rise;
    reach = λ r r_in. (g.members r r_in).1;
    ahead = λ r r_in. ahead r (subst (λ xs. Contains xs r) later r_in);
  }

module _ (row : ℤ) (all : List Rect) (begun : ℕ) (active : List Rect) (h : HaveBegun row all begun active) where
  pub active-next : (high : ℤ) → row <ℤ high → AreActive high all begun active
  active-next high order = record {
    within = h.are.within;
    low = λ r r_in. (let l = h.are.low r r_in in omega (arith, ints, l, order));
    covers = λ p l. h.are.covers p (omega (arith, ints, l, order));
  }

  pub active-tall : (r : Rect) → Contains active r → row <ℤ r.y1
  active-tall r r_in = (h.reach r r_in).tall

  pub fills : (high : ℤ) → ((r : Rect) → Contains active r → high ≤ℤ r.y1) → ((r : Rect) → Contains (drop begun all) r → high ≤ℤ r.y0) → FillBand row high all active
  fills high ends begin = record {
    rise = h.rise;
    across = λ r r_in. record { wide = (h.reach r r_in).wide; from = h.are.low r r_in; to = ends r r_in };
    covers = λ p l m. (
      (λ c. (h.are.covers p l).0 (inl c)),
      λ c. elim ((h.are.covers p l).1 c) [
        | inl k ↦ k
        | inr d ↦ (let (r, r_in, has) = member-Covers (drop begun all) p d in let e = begin r r_in in let k = has.low in absurd (omega (arith, ints, e, k, m)))
      ],
    );
  }

-- in fewer rows
pub fills-lower : (low high lower : ℤ) (all active : List Rect) → lower ≤ℤ high → FillBand low high all active → FillBand low lower all active
fills-lower low high lower all active l f = record {
  rise = f.rise;
  across = λ r r_in. (let a = f.across r r_in in let to = a.to in record { wide = a.wide; from = a.from; to = omega (arith, ints, to, l) });
  covers = λ p m n. f.covers p m (omega (arith, ints, n, l));
}
