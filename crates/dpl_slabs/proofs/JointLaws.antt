-- Slabs of two lists, of joint strips put together.
use Rattle.std.proofs.Common.{◌≡◌, ℕ, ◌+◌, ◌≤◌, ◌<◌, inl, inr, List, [], ◌∷◌, ◌++◌, ◌⊎◌, length, get_or, take, drop, sym, ap, ◌∙◌, subst, refl, append-nil, arith}
use Rattle.std.specs.Prelude.{◌↔◌, ℤ, pos, ◌≤ℤ◌, ◌<ℤ◌, int_lt}
use Rattle.std.specs.Int.{int_min}
use Rattle.std.specs.List.{All, Contains}
use Rattle.std.proofs.lemmas.Bool.{cases_lt, cases_cond}
use Rattle.std.proofs.lemmas.Int.{ints, by_lt_z}
use Rattle.std.proofs.lemmas.List.{get_or-drop, get_or-take, get_or_default, length-drop, length-take, take-append-drop}
use Rattle.std.proofs.lemmas.List.Elements.{Contains-append_left, Contains-append_right, Contains-append_cases}
use Rattle.dpl_spec_split.specs.declared.Pt.{Pt}
use Rattle.dpl_spec_split.specs.declared.Rect.{Rect}
use Rattle.dpl_spec_split.specs.Squares.{Covers}
use Rattle.dpl_spec_split.specs.Slabs.{IsSolid, IsCanonical, AreSlabsOf}
use Rattle.dpl_spec_split.specs.Loops.{farthest, AreRectsWithin}
use Rattle.dpl_spec_split.proofs.Ordered.{Contains-nil}
use Rattle.dpl_spec_split.proofs.SlabLaws.{Covers-member, member-Covers}
use Rattle.dpl_sweep.specs.declared.edge.Rule.{Rule}
use Rattle.dpl_sweep.specs.declared.edge.Rule.TheVariants.{Minus, Both}
use Rattle.dpl_order.specs.Orders.{CornersRise}
use Rattle.dpl_sweep.proofs.EdgeLaws.{none-told}
use Rattle.dpl_slabs.specs.Cells.{cells, Chosen}
use Rattle.dpl_slabs.specs.Strips.{LieBelow, AddsStrip}
use Rattle.dpl_slabs.specs.Joints.{IsRaised, BeginAbove, IsJointStrip, AreJointsOf}
use Rattle.dpl_slabs.proofs.Firsts.{zero}
use Rattle.dpl_slabs.proofs.CellLaws.{cells-append, cells-least, cells-none, sum-covered}
use Rattle.dpl_slabs.proofs.SetLaws.{told-either, told-minus, without-none, rects-none}
use Rattle.dpl_slabs.proofs.LoopLaws.{rects-appended}
use Rattle.dpl_slabs.proofs.StripLaws.{EndBy, end-next, corner-above, adds-strip, left-in, right-in}

pub canonical-drop : (n : ℕ) (rs : List Rect) → IsCanonical rs → IsCanonical (drop n rs)
canonical-drop n rs c = record {
  solid = λ i d i_in. (let len = length-drop n rs in rw (get_or-drop n rs i d) (c.solid (n + i) d (omega (arith, len, i_in))));
  follow = λ i j d l j_in. (let len = length-drop n rs in
      rw (get_or-drop n rs i d, get_or-drop n rs j d) (c.follow (n + i) (n + j) d (omega (arith, l)) (omega (arith, len, j_in))));
}

-- no rule takes squares of neither list
pub chosen-covered : (rule : Rule) (rs ss : List Rect) (p : Pt) → Chosen rule rs ss p → Covers (rs ++ ss) p
chosen-covered rule rs ss p h = elim ((told-either rs ss p).0 (λ e f. none-told rule _ _ e f h)) [
  | inl a ↦ (let (r, r_in, has) = member-Covers rs p a in Covers-member (rs ++ ss) r p (Contains-append_left rs ss r r_in) has)
  | inr b ↦ (let (r, r_in, has) = member-Covers ss p b in Covers-member (rs ++ ss) r p (Contains-append_right rs ss r r_in) has)
]

cells-of-both : (rs ss : List Rect) (p : Pt) → cells (pos 1) (rs ++ ss) p ≡ pos 0 → (cells (pos 1) rs p ≡ pos 0) × (cells (pos 1) ss p ≡ pos 0)
cells-of-both rs ss p e =
    let sum = cells-append (pos 1) rs ss p in
    let a = cells-least rs p in
    let b = cells-least ss p in
    (omega (arith, ints, e, sum, a, b), omega (arith, ints, e, sum, a, b))

-- a square of the low ones is none of the high ones
above-none : (low high : List Rect) (p : Pt) → LieBelow low high → Covers low p → cells (pos 1) high p ≡ pos 0
above-none low high p below c = cells-none (pos 1) high p (λ s s_in has. (
    let (r, r_in, own) = member-Covers low p c in
    let gap = below r s r_in s_in in
    let a = own.high in
    let b = has.low in
    omega (arith, ints, gap, a, b)))

-- what two lists have in a joint strip and above it
module _ (rule : Rule) (a b c d : List Rect) (p : Pt) where
  low-alone : (cells (pos 1) c p ≡ pos 0) × (cells (pos 1) d p ≡ pos 0) → Chosen rule (a ++ c) (b ++ d) p ↔ (Chosen rule a b p ⊎ Chosen rule c d p)
  low-alone (e, f) =
      let x : cells (pos 1) (a ++ c) p ≡ cells (pos 1) a p = (let s = cells-append (pos 1) a c p in omega (arith, ints, s, e)) in
      let y : cells (pos 1) (b ++ d) p ≡ cells (pos 1) b p = (let s = cells-append (pos 1) b d p in omega (arith, ints, s, f)) in
      (λ h. inl (rw (x, y) at h), λ h. elim h [ inl k ↦ rw (x, y) k | inr k ↦ absurd (none-told rule _ _ e f k) ])

  high-alone : (cells (pos 1) a p ≡ pos 0) × (cells (pos 1) b p ≡ pos 0) → Chosen rule (a ++ c) (b ++ d) p ↔ (Chosen rule a b p ⊎ Chosen rule c d p)
  high-alone (e, f) =
      let x : cells (pos 1) (a ++ c) p ≡ cells (pos 1) c p = (let s = cells-append (pos 1) a c p in omega (arith, ints, s, e)) in
      let y : cells (pos 1) (b ++ d) p ≡ cells (pos 1) d p = (let s = cells-append (pos 1) b d p in omega (arith, ints, s, f)) in
      (λ h. inr (rw (x, y) at h), λ h. elim h [ inl k ↦ absurd (none-told rule _ _ e f k) | inr k ↦ rw (x, y) k ])

  chosen-parts : LieBelow (a ++ b) (c ++ d) → Chosen rule (a ++ c) (b ++ d) p ↔ (Chosen rule a b p ⊎ Chosen rule c d p)
  chosen-parts below =
      by_lt_z (pos 0) (cells (pos 1) (a ++ b) p)
      (λ l. low-alone (cells-of-both c d p (above-none (a ++ b) (c ++ d) p below (sum-covered (a ++ b) p (λ e. omega (arith, ints, l, e))))))
      (λ m. high-alone (cells-of-both a b p (let least = cells-least (a ++ b) p in omega (arith, ints, least, m))))

-- one of the first n ends at the row or above it
abbrev EndPast : List Rect → ℕ → ℤ → Type 0
EndPast rs n row = (r : Rect) × Contains (take n rs) r × (row ≤ℤ r.y1)

end-more : (rs : List Rect) (n : ℕ) (row : ℤ) → EndPast rs n row → EndPast rs (n + 1) row
end-more rs n row (r, (i, i_in, r_is), l) =
    let len = length-take n rs in
    let more = length-take (n + 1) rs in
    let i_n : i < n = omega (arith, len, i_in) in
    let i_more : i < n + 1 = omega (arith, i_n) in
    (r, (i, omega (arith, len, more, i_in), get_or-take (n + 1) rs i r i_more ∙ (sym (get_or-take n rs i r i_n) ∙ r_is)), l)

end-here : (rs : List Rect) (k n : ℕ) (row : ℤ) → k < n → k < length rs → row ≤ℤ (get_or rs k zero).y1 → EndPast rs n row
end-here rs k n row k_n k_in l =
    let r : Rect = get_or rs k zero in
    let len = length-take n rs in
    (r, (k, omega (arith, len, k_n, k_in), get_or-take n rs k r k_n ∙ sym (get_or_default rs k zero r k_in)), l)

next-in : (rs : List Rect) (k : ℕ) → k < length rs → Contains (drop k rs) (get_or rs k zero)
next-in rs k k_in =
    let r : Rect = get_or rs k zero in
    let here : k + 0 ≡ k = omega arith in
    let len = length-drop k rs in
    (0, omega (arith, len, k_in), get_or-drop k rs 0 r ∙ (ap (λ i. get_or rs i r) here ∙ sym (get_or_default rs k zero r k_in)))

-- row low or an end of the first n and m is no lower than the row
abbrev IsReached : List Rect → List Rect → ℤ → ℕ → ℕ → ℤ → Type 0
IsReached first second low n m row = (row ≤ℤ low) ⊎ (EndPast first n row ⊎ EndPast second m row)

reached-lower : (first second : List Rect) (low : ℤ) (n m : ℕ) (row top : ℤ) → row ≤ℤ top → IsReached first second low n m top → IsReached first second low n m row
reached-lower first second low n m row top l (inl h) = inl (omega (arith, ints, l, h))
reached-lower first second low n m row top l (inr (inl (r, r_in, h))) = inr (inl (r, r_in, omega (arith, ints, l, h)))
reached-lower first second low n m row top l (inr (inr (r, r_in, h))) = inr (inr (r, r_in, omega (arith, ints, l, h)))

reached-more : (first second : List Rect) (low : ℤ) (n m : ℕ) (row : ℤ) → IsReached first second low n m row → IsReached first second low (n + 1) m row
reached-more first second low n m row (inl h) = inl h
reached-more first second low n m row (inr (inl h)) = inr (inl (end-more first n row h))
reached-more first second low n m row (inr (inr h)) = inr (inr h)

reached-transposed : (first second : List Rect) (low : ℤ) (n m : ℕ) (row : ℤ) → IsReached first second low n m row → IsReached second first low m n row
reached-transposed first second low n m row (inl h) = inl h
reached-transposed first second low n m row (inr (inl h)) = inr (inr h)
reached-transposed first second low n m row (inr (inr h)) = inr (inl h)

-- wherever the first n and m are cut in two, one of the upper part begins no higher than row low or an end of the lower part
pub record AreLinked (first second : List Rect) (low : ℤ) (n m : ℕ) (top : ℤ) : Type 0 where
  pub reached : IsReached first second low n m top
  pub linked : (k l : ℕ) → k ≤ n → l ≤ m → k + l < n + m → ((k < n) × IsReached first second low k l (get_or first k zero).y0)
      ⊎ ((l < m) × IsReached first second low k l (get_or second l zero).y0)

linked-transposed : (first second : List Rect) (low : ℤ) (n m : ℕ) (top : ℤ) → AreLinked first second low n m top → AreLinked second first low m n top
linked-transposed first second low n m top a = record {
  reached = reached-transposed first second low n m top a.reached;
  linked = λ k l k_m l_n less. elim (a.linked l k l_n k_m (omega (arith, less))) [
    | inl (here, h) ↦ inr (here, reached-transposed first second low l k (get_or first l zero).y0 h)
    | inr (here, h) ↦ inl (here, reached-transposed first second low l k (get_or second k zero).y0 h)
  ];
}

linked-next : (first second : List Rect) (low : ℤ) (n m : ℕ) (top new : ℤ) → IsRaised first n top new → AreLinked first second low n m top
    → AreLinked first second low (n + 1) m new
linked-next first second low n m top new up a = record {
  reached = elim (up.known zero) [
    | inl e ↦ reached-lower first second low (n + 1) m new top (omega (arith, ints, e)) (reached-more first second low n m top a.reached)
    | inr e ↦ inr (inl (end-here first n (n + 1) new (omega arith) up.here (omega (arith, ints, e))))
  ];
  linked = λ k l k_n l_m less. elim (cases_lt k (n + 1)) [
    | inl within ↦ elim (cases_lt (k + l) (n + m)) [
      | inl before ↦ elim (a.linked k l (omega (arith, within)) l_m before) [
        | inl (here, h) ↦ inl (omega (arith, here), h)
        | inr other ↦ inr other
      ]
      | inr after ↦ (
          let all : k ≡ n = omega (arith, within, after, l_m) in
          let second_all : l ≡ m = omega (arith, within, after, l_m) in
          rw (all, second_all) (inl (omega arith, reached-lower first second low n m (get_or first n zero).y0 top (up.begins zero) a.reached)))
    ]
    | inr past ↦ (
        let all : k ≡ n + 1 = omega (arith, past, k_n) in
        rw all (elim (a.linked n l (omega arith) l_m (omega (arith, less, all))) [
          | inl (here, h) ↦ absurd (omega (arith, here))
          | inr (here, h) ↦ inr (here, reached-more first second low n l (get_or second l zero).y0 h)
        ]))
  ];
}

-- all that holds of the first n and m of two lists before more of them are taken
pub record IsOpenJoint (first second : List Rect) (n m : ℕ) (top : ℤ) : Type 0 where
  pub first_in : n ≤ length first
  pub second_in : m ≤ length second
  pub first_ends : EndBy first n top
  pub second_ends : EndBy second m top
  pub started : (0 < n + m) ⊎ ((r : Rect) × Contains (drop n first ++ drop m second) r × (r.y0 ≤ℤ top))
  pub low : ℤ
  pub first_from : 0 < length first → low ≤ℤ (get_or first 0 zero).y0
  pub second_from : 0 < length second → low ≤ℤ (get_or second 0 zero).y0
  pub links : AreLinked first second low n m top

end-raised : (rs : List Rect) (n : ℕ) (top new : ℤ) → IsRaised rs n top new → EndBy rs n top → EndBy rs (n + 1) new
end-raised rs n top new up h =
    let r : Rect = get_or rs n zero in
    end-next rs n r top new up.here (get_or_default rs n zero r up.here) up.keeps (up.reaches zero) h

end-higher : (rs : List Rect) (n : ℕ) (top new : ℤ) → top ≤ℤ new → EndBy rs n top → EndBy rs n new
end-higher rs n top new l h r r_in = let k = h r r_in in omega (arith, ints, l, k)

pub open-left : (first second : List Rect) (n m : ℕ) (top new : ℤ) → IsRaised first n top new → IsOpenJoint first second n m top → IsOpenJoint first second (n + 1) m new
open-left first second n m top new up o =
    let here = up.here in
    record {
      first_in = omega (arith, here);
      second_in = o.second_in;
      first_ends = end-raised first n top new up o.first_ends;
      second_ends = end-higher second m top new up.keeps o.second_ends;
      started = inl (omega arith);
      low = o.low;
      first_from = o.first_from;
      second_from = o.second_from;
      links = linked-next first second o.low n m top new up o.links;
    }

pub open-right : (first second : List Rect) (n m : ℕ) (top new : ℤ) → IsRaised second m top new → IsOpenJoint first second n m top → IsOpenJoint first second n (m + 1) new
open-right first second n m top new up o =
    let here = up.here in
    record {
      first_in = o.first_in;
      second_in = omega (arith, here);
      first_ends = end-higher first n top new up.keeps o.first_ends;
      second_ends = end-raised second m top new up o.second_ends;
      started = inl (omega arith);
      low = o.low;
      first_from = o.first_from;
      second_from = o.second_from;
      links = linked-transposed second first o.low (m + 1) n new (linked-next second first o.low m n top new up (linked-transposed first second o.low n m top o.links));
    }

-- where all have squares, one that begins no higher than row low or an end of the first k and l is in their strip
module _ (first second : List Rect) (n m : ℕ) (top : ℤ) (o : IsOpenJoint first second n m top) (first_solid : All IsSolid first)
    (second_solid : All IsSolid second) (k l : ℕ) (k_n : k ≤ n) (l_m : l ≤ m) (some : 0 < k + l) where
  reached-end : (row : ℤ) → IsReached first second o.low k l row → EndPast first k row ⊎ EndPast second l row
  reached-end row (inr h) = h
  reached-end row (inl h) = elim (cases_lt 0 k) [
    | inl one ↦ (
        let in_first : 0 < length first = (let n_in = o.first_in in omega (arith, one, k_n, n_in)) in
        let from = o.first_from in_first in
        let tall = (first_solid 0 zero in_first).tall in
        inl (end-here first 0 k row one in_first (omega (arith, ints, h, from, tall))))
    | inr none ↦ (
        let one : 0 < l = omega (arith, some, none) in
        let in_second : 0 < length second = (let m_in = o.second_in in omega (arith, one, l_m, m_in)) in
        let from = o.second_from in_second in
        let tall = (second_solid 0 zero in_second).tall in
        inr (end-here second 0 l row one in_second (omega (arith, ints, h, from, tall))))
  ]

  reached-no_gap : (s : Rect) → Contains (drop k first ++ drop l second) s → IsReached first second o.low k l s.y0
      → LieBelow (take k first ++ take l second) (drop k first ++ drop l second) → ⊥
  reached-no_gap s s_in h below = elim (reached-end s.y0 h) [
    | inl (r, r_in, over) ↦ (let gap = below r s (Contains-append_left (take k first) (take l second) r r_in) s_in in omega (arith, ints, gap, over))
    | inr (r, r_in, over) ↦ (let gap = below r s (Contains-append_right (take k first) (take l second) r r_in) s_in in omega (arith, ints, gap, over))
  ]

  linked-no_gap : k + l < n + m → LieBelow (take k first ++ take l second) (drop k first ++ drop l second) → ⊥
  linked-no_gap less below =
      let n_in = o.first_in in
      let m_in = o.second_in in
      elim (o.links.linked k l k_n l_m less) [
        | inl (here, h) ↦ reached-no_gap (get_or first k zero) (Contains-append_left (drop k first) (drop l second) (get_or first k zero)
            (next-in first k (omega (arith, here, n_in)))) h below
        | inr (here, h) ↦ reached-no_gap (get_or second l zero) (Contains-append_right (drop k first) (drop l second)
            (get_or second l zero) (next-in second l (omega (arith, here, m_in)))) h below
      ]

pub open-closed : (first second : List Rect) (n m : ℕ) (top : ℤ) → BeginAbove top n first → BeginAbove top m second
    → IsOpenJoint first second n m top → IsJointStrip first second n m
open-closed first second n m top left right o =
    let above : (s : Rect) → Contains (drop n first ++ drop m second) s → top <ℤ s.y0 = λ s s_in. elim (Contains-append_cases (drop n first) (drop m second) s s_in) [
      | inl a ↦ left s a
      | inr b ↦ right s b
    ] in
    record {
      some = elim o.started [
        | inl some ↦ some
        | inr (r, r_in, l) ↦ absurd (let k = above r r_in in omega (arith, ints, l, k))
      ];
      first_in = o.first_in;
      second_in = o.second_in;
      below = λ r s r_in s_in. (
          let k = above s s_in in
          elim (Contains-append_cases (take n first) (take m second) r r_in) [
            | inl a ↦ (let l = o.first_ends r a in omega (arith, ints, k, l))
            | inr b ↦ (let l = o.second_ends r b in omega (arith, ints, k, l))
          ]);
      least = linked-no_gap first second n m top o;
    }

-- none of the rectangles is in a joint strip yet
pub joints-none : (rule : Rule) (first second : List Rect) → IsCanonical first → IsCanonical second → AreRectsWithin farthest first
    → AreRectsWithin farthest second → AreJointsOf rule first second [] first second
joints-none rule first second c d v w = record {
  canonical = record { solid = λ i d k. absurd (omega (arith, k)); follow = λ i j d l k. absurd (omega (arith, k)) };
  covers = λ p. (
    (λ h. elim h [ inl k ↦ absurd (let found = member-Covers [] p k in Contains-nil found.0 found.1) | inr k ↦ k ]),
    λ h. inr h,
  );
  within = rects-none farthest;
  rest_within = rects-appended farthest first second v w;
  first_canonical = c;
  second_canonical = d;
  below = λ r s r_in s_in. absurd (Contains-nil r r_in);
}

-- a joint strip of the rest
module _ (rule : Rule) (first second slabs first_rest second_rest : List Rect) (n m : ℕ) (s : AreJointsOf rule first second slabs first_rest second_rest) where
  part-in : (r : Rect) → Contains (take n first_rest ++ take m second_rest) r → Contains (first_rest ++ second_rest) r
  part-in r r_in = elim (Contains-append_cases (take n first_rest) (take m second_rest) r r_in) [
    | inl a ↦ Contains-append_left first_rest second_rest r (left-in (take n first_rest) (drop n first_rest) first_rest r (take-append-drop n first_rest) a)
    | inr b ↦ Contains-append_right first_rest second_rest r (left-in (take m second_rest) (drop m second_rest) second_rest r (take-append-drop m second_rest) b)
  ]

  rest-in : (r : Rect) → Contains (drop n first_rest ++ drop m second_rest) r → Contains (first_rest ++ second_rest) r
  rest-in r r_in = elim (Contains-append_cases (drop n first_rest) (drop m second_rest) r r_in) [
    | inl a ↦ Contains-append_left first_rest second_rest r (right-in (take n first_rest) (drop n first_rest) first_rest r (take-append-drop n first_rest) a)
    | inr b ↦ Contains-append_right first_rest second_rest r (right-in (take m second_rest) (drop m second_rest) second_rest r (take-append-drop m second_rest) b)
  ]

  pub joint-within : AreRectsWithin farthest (take n first_rest ++ take m second_rest)
  joint-within r r_in = s.rest_within r (part-in r r_in)

  pub joint-above : LieBelow slabs (take n first_rest ++ take m second_rest)
  joint-above r t r_in t_in = s.below r t r_in (part-in t t_in)

  parts-chosen : LieBelow (take n first_rest ++ take m second_rest) (drop n first_rest ++ drop m second_rest) → (p : Pt)
      → Chosen rule first_rest second_rest p ↔ (Chosen rule (take n first_rest) (take m second_rest) p ⊎ Chosen rule (drop n first_rest)
      (drop m second_rest) p)
  parts-chosen gap p =
      rw (take-append-drop n first_rest, take-append-drop m second_rest) at (chosen-parts rule (take n first_rest) (take m second_rest)
      (drop n first_rest) (drop m second_rest) p gap)

  pub joints-next : (new : List Rect) → IsJointStrip first_rest second_rest n m
      → AddsStrip (Chosen rule (take n first_rest) (take m second_rest)) slabs new (take n first_rest ++ take m second_rest)
      → AreJointsOf rule first second new (drop n first_rest) (drop m second_rest)
  joints-next new strip a = record {
    canonical = a.canonical;
    covers = λ p. (
      (λ h. (s.covers p).0 (elim h [
        | inl c ↦ elim ((a.covers p).0 c) [
          | inl old ↦ inl old
          | inr k ↦ inr ((parts-chosen strip.below p).1 (inl k))
        ]
        | inr k ↦ inr ((parts-chosen strip.below p).1 (inr k))
      ])),
      λ h. elim ((s.covers p).1 h) [
        | inl old ↦ inl ((a.covers p).1 (inl old))
        | inr c ↦ elim ((parts-chosen strip.below p).0 c) [
          | inl k ↦ inl ((a.covers p).1 (inr k))
          | inr k ↦ inr k
        ]
      ],
    );
    within = a.within s.within;
    rest_within = λ r r_in. s.rest_within r (rest-in r r_in);
    first_canonical = canonical-drop n first_rest s.first_canonical;
    second_canonical = canonical-drop m second_rest s.second_canonical;
    below = a.below (drop n first_rest ++ drop m second_rest) (λ r t r_in t_in. s.below r t r_in (rest-in t t_in)) strip.below;
  }

pub joints-all : (rule : Rule) (first second slabs first_rest second_rest : List Rect) → length first_rest ≤ 0 → length second_rest ≤ 0
    → AreJointsOf rule first second slabs first_rest second_rest → AreSlabsOf (Chosen rule first second) slabs
joints-all rule first second slabs [] [] none second_none s = record {
  canonical = s.canonical;
  covers = λ p. (
    (λ c. (s.covers p).0 (inl c)),
    λ c. elim ((s.covers p).1 c) [ inl k ↦ k | inr k ↦ absurd (none-told rule _ _ refl refl k) ],
  );
}
joints-all rule first second slabs (r ∷ first_rest) second_rest none second_none s = absurd (omega (arith, none))
joints-all rule first second slabs [] (r ∷ second_rest) none second_none s = absurd (omega (arith, second_none))

-- where only one list has rectangles, the first's are left
pub minus-alone : (first second : List Rect) (p : Pt) → (length first ≤ 0) ⊎ (length second ≤ 0) → Covers first p ↔ Chosen Minus first second p
minus-alone [] second p (inl none) = ((λ k. absurd (let found = member-Covers [] p k in Contains-nil found.0 found.1)), λ h. absurd (h.0 refl))
minus-alone (r ∷ first) second p (inl none) = absurd (omega (arith, none))
minus-alone first second p (inr none) =
    let same = without-none first second p none in
    let told = told-minus first second p in
    (λ k. told.1 (same.0 k), λ h. same.1 (told.0 h))

-- and none are in both
both-alone : (first second : List Rect) (p : Pt) → (length first ≤ 0) ⊎ (length second ≤ 0) → Chosen Both first second p → ⊥
both-alone [] second p (inl none) h = h.0 refl
both-alone (r ∷ first) second p (inl none) h = omega (arith, none)
both-alone first [] p (inr none) h = h.1 refl
both-alone first (r ∷ second) p (inr none) h = omega (arith, none)

-- what a joint strip of one list's rectangles adds
module _ (old first second : List Rect) (c : IsCanonical old) (below : LieBelow old (first ++ second)) (alone : (length first ≤ 0) ⊎ (length second ≤ 0)) where
  pub adds-none : AddsStrip (Chosen Both first second) old old (first ++ second)
  adds-none =
      let none : AreSlabsOf (Chosen Both first second) [] = record {
        canonical = record { solid = λ i d k. absurd (omega (arith, k)); follow = λ i j d l k. absurd (omega (arith, k)) };
        covers = λ p. (λ h. absurd (let found = member-Covers [] p h in Contains-nil found.0 found.1), λ h. absurd (both-alone first second p alone h));
      } in
      rw append-nil at (adds-strip (Chosen Both first second) old [] (first ++ second) c below (chosen-covered Both first second) none (rects-none farthest))

  pub adds-first : IsCanonical first → AreRectsWithin farthest first → AddsStrip (Chosen Minus first second) old (old ++ first) (first ++ second)
  adds-first canonical within =
      let own : AreSlabsOf (Chosen Minus first second) first = record { canonical = canonical; covers = λ p. minus-alone first second p alone } in
      adds-strip (Chosen Minus first second) old first (first ++ second) c below (chosen-covered Minus first second) own within

-- some of two lists begins no higher than the lower of their first rows
pub lowest-left : (first second : List Rect) (r : Rect) (row : ℤ) → 0 < length first → r ≡ get_or first 0 r → r.y0 ≤ℤ row
    → (s : Rect) × Contains (first ++ second) s × (s.y0 ≤ℤ row)
lowest-left first second r row some r_is l = (r, Contains-append_left first second r (0, some, sym r_is), l)

pub lowest-right : (first second : List Rect) (r : Rect) (row : ℤ) → 0 < length second → r ≡ get_or second 0 r → r.y0 ≤ℤ row
    → (s : Rect) × Contains (first ++ second) s × (s.y0 ≤ℤ row)
lowest-right first second r row some r_is l = (r, Contains-append_right first second r (0, some, sym r_is), l)

-- what a minimum of two numbers is, each by another name
pub min-known : (a b c d m : ℤ) → a ≡ c → b ≡ d → m ≡ int_min a b → (m ≡ c) ⊎ (m ≡ d)
min-known a b c d m e f h = elim (cases_cond (int_lt b a) b a m h) [ inl k ↦ inr (k ∙ f) | inr k ↦ inl (k ∙ e) ]

pub above-top : (rs : List Rect) (n : ℕ) (top : ℤ) (r : Rect) → n < length rs → r ≡ get_or rs n r → CornersRise rs → top <ℤ r.y0 → BeginAbove top n rs
above-top rs n top r n_in r_is rise l s (k, k_in, s_is) =
    let len = length-drop n rs in
    let at : get_or rs (n + k) s ≡ s = sym (get_or-drop n rs k s) ∙ s_is in
    let here : get_or rs n s ≡ r = get_or_default rs n s r n_in ∙ sym r_is in
    let m = corner-above (get_or rs n s) (get_or rs (n + k) s) (rise n (n + k) s (omega arith) (omega (arith, len, k_in))) in
    let o = rw (at, here) at m in
    omega (arith, ints, l, o)

pub raised-by : (rs : List Rect) (n : ℕ) (top new : ℤ) (r : Rect) → n < length rs → r ≡ get_or rs n r → top ≤ℤ new → r.y1 ≤ℤ new
    → r.y0 ≤ℤ top → (new ≡ top) ⊎ (new ≡ r.y1) → IsRaised rs n top new
raised-by rs n top new r n_in r_is l m begins known = record {
  here = n_in;
  begins = λ d. subst (λ s. s.y0 ≤ℤ top) (r_is ∙ get_or_default rs n r d n_in) begins;
  keeps = l;
  reaches = λ d. subst (λ s. s.y1 ≤ℤ new) (r_is ∙ get_or_default rs n r d n_in) m;
  known = λ d. subst (λ s. (new ≡ top) ⊎ (new ≡ s.y1)) (r_is ∙ get_or_default rs n r d n_in) known;
}
