-- Slabs of slices put together.
use Rattle.std.proofs.Common.{◌≡◌, ℕ, ◌+◌, ◌-◌, ◌≤◌, ◌<◌, ◌⊎◌, inl, inr, List, [], ◌∷◌, ◌++◌, length, get_or, reverse, take, sym, ◌∙◌, subst, arith}
use Rattle.std.specs.Prelude.{◌↔◌, ℤ, pos, ◌-ℤ◌, ◌≤ℤ◌, ◌<ℤ◌, neg_ℤ, int_lt}
use Rattle.std.specs.Int.{int_min}
use Rattle.std.proofs.lemmas.Bool.{cases_cond}
use Rattle.std.specs.List.{All, AllPairs, Contains}
use Rattle.std.specs.List.Sorted.{IsPermutation}
use Rattle.std.proofs.lemmas.Int.{ints, by_lt_z}
use Rattle.std.proofs.lemmas.List.{append_assoc, get_or_append_left, get_or-append-add, get_or-reverse, get_or_default, length-append, length-reverse, take_all}
use Rattle.std.proofs.lemmas.List.Elements.{All-append, All-contains, Contains-append_cases, Contains-append_left, Contains-append_right}
use Rattle.std.proofs.lemmas.List.Elements.{Contains-get_or, Contains-push, Contains-push_cases}
use Rattle.std.proofs.lemmas.List.Sorted.{IsPermutation-append_comm, IsPermutation-append_left, IsPermutation-append_right}
use Rattle.std.proofs.lemmas.List.Sorted.{IsPermutation-sym, IsPermutation-trans, Contains-permutation}
use Rattle.dpl_spec_split.specs.declared.Pt.{Pt}
use Rattle.dpl_spec_split.specs.declared.Rect.{Rect}
use Rattle.dpl_spec_split.specs.Squares.{Region, Has, Covers}
use Rattle.dpl_spec_split.specs.Slabs.{IsSolid, ShareRow, StandApart, AreSlabsOf}
use Rattle.dpl_spec_split.specs.Loops.{farthest, IsRectWithin, AreRectsWithin}
use Rattle.dpl_spec_split.proofs.Ordered.{Contains-nil}
use Rattle.dpl_spec_split.proofs.SlabLaws.{Covers-member, member-Covers}
use Rattle.dpl_sweep.specs.declared.edge.Rule.TheVariants.{Minus}
use Rattle.dpl_sweep.specs.Edges.{Holds}
use Rattle.dpl_order.specs.Pieces.{AreApart}
use Rattle.dpl_order.specs.Joins.{AreJoined}
use Rattle.dpl_order.proofs.JoinLaws.{apart-permutation, covers-same, joined-apart}
use Rattle.dpl_slabs.specs.Cells.{cells}
use Rattle.dpl_slabs.specs.Rows.{AreAllLevel, AreSpaced, IsRow}
use Rattle.dpl_bars.specs.Alone.{KeepOff, AreAlone, AddsTouching}
use Rattle.dpl_slabs.specs.Slices.{InRows, Without, IsPartOf, IsBar, Widens, PushesBar, ArePartsOf, AddsPart, IsCutTo, ArePiecesBelow, ArePiecesOf}
use Rattle.dpl_slabs.proofs.LoopLaws.{covers-pushed, covers-appended}
use Rattle.dpl_slabs.proofs.SetLaws.{told-minus, rects-none, rects-more, slabs-of-same, slabs-within}
use Rattle.dpl_slabs.proofs.RowLaws.{covers-step, within-slabs}
use Rattle.dpl_slabs.proofs.StripLaws.{AllPairs-append}

-- what a minimum of two numbers is
pub min-known : (a b m : ℤ) → m ≡ int_min a b → (m ≡ a) ⊎ (m ≡ b)
min-known a b m h = elim (cases_cond (int_lt b a) b a m h) [ inl e ↦ inr e | inr e ↦ inl e ]

-- the part of a rectangle between two rows
pub is-part : (low high : ℤ) (r part : Rect) → part.x0 ≡ r.x0 → part.x1 ≡ r.x1 → r.y0 ≤ℤ part.y0 → low ≤ℤ part.y0
    → (part.y0 ≡ r.y0) ⊎ (part.y0 ≡ low) → part.y1 ≤ℤ r.y1 → part.y1 ≤ℤ high → (part.y1 ≡ r.y1) ⊎ (part.y1 ≡ high) → IsPartOf low high r part
is-part low high r part left right a b c d e f = record {
  has = λ p. (
    (λ h. (let hl = h.left in let hr = h.right in let ha = h.low in let hb = h.high in (
      record {
        left = omega (arith, ints, hl, left);
        right = omega (arith, ints, hr, right);
        low = omega
            (arith, ints, ha, a);
        high = omega (arith, ints, hb, d);
      },
      omega (arith, ints, ha, b),
      omega (arith, ints, hb, e),
    ))),
    λ (h, k, l). (let hl = h.left in let hr = h.right in let ha = h.low in let hb = h.high in
        record {
          left = omega (arith, ints, hl, left);
          right = omega (arith, ints, hr, right);
          low = elim c [ inl is ↦ omega (arith, ints, is, ha) | inr is ↦ omega (arith, ints, is, k) ];
          high = elim f [ inl is ↦ omega (arith, ints, is, hb) | inr is ↦ omega (arith, ints, is, l) ];
        }),
  );
  within = λ solid w. (let wl = w.left in let wr = w.right in let wa = w.low in let wb = w.high in let tall = solid.tall in
      record {
        left = omega (arith, ints, wl, left);
        low = omega (arith, ints, wa, wb, a, d, tall);
        right = omega
            (arith, ints, wr, right);
        high = omega (arith, ints, wa, wb, a, d, tall);
      });
}

-- a part without squares
pub adds-empty_part : (low high : ℤ) (r part : Rect) (bars others : List Rect) → IsPartOf low high r part → (IsSolid part → ⊥) → AddsPart low high r bars others bars others
adds-empty_part low high r part bars others is none = record {
  full = λ s h. inl h;
  covers = λ p. (
    (λ h. inl h),
    λ h. elim h [
      | inl k ↦ k
      | inr k ↦ (let has = (is.has p).1 k in let a = has.left in let b = has.right in let c = has.low in let d = has.high in
          absurd (none (record { wide = omega (arith, ints, a, b); tall = omega (arith, ints, c, d) })))
    ],
  );
  full_within = λ w. w;
  within = λ w. w;
}

pub pushed-bar : (bars : List Rect) (bar : Rect) → PushesBar bars (bars ++ bar ∷ []) bar
pushed-bar bars bar = record {
  full = λ low high is s s_in. elim (Contains-push_cases bars bar s s_in) [ inl h ↦ inl h | inr e ↦ inr (subst (IsBar low high) e is) ];
  covers = covers-pushed (Has bar) bars bar (λ p. (λ h. h, λ h. h));
  within = λ w v. rects-more farthest bars bar v w;
}

module _ (bars : List Rect) (last bar : Rect) (x1 : ℤ) (by : Widens last bar) (over : last.x1 ≤ℤ x1) (over_too : bar.x1 ≤ℤ x1) (known : (x1 ≡ last.x1) ⊎ (x1 ≡ bar.x1)) where
  abbrev wider : Rect
  wider = record { x0 = last.x0; y0 = last.y0; x1 = x1; y1 = last.y1 }

  wider-has : (p : Pt) → Has wider p ↔ (Has last p ⊎ Has bar p)
  wider-has p =
      let low = by.low in
      let high = by.high in
      let after = by.after in
      let touches = by.touches in (
        (λ h. (let a = h.left in let b = h.right in let c = h.low in let d = h.high in
            by_lt_z p.x last.x1
            (λ l. inl (record { left = a; right = l; low = c; high = d }))
            (λ m. inr (record {
              left = omega (arith, ints, m, touches);
              right = elim known [ inl e ↦ absurd (omega (arith, ints, e, b, m)) | inr e ↦ omega (arith, ints, e, b) ];
              low = omega (arith, ints, c, low);
              high = omega (arith, ints, d, high);
            })))),
        λ h. elim h [
          | inl k ↦ (let b = k.right in record { left = k.left; right = omega (arith, ints, b, over); low = k.low; high = k.high })
          | inr k ↦ (let a = k.left in let b = k.right in let c = k.low in let d = k.high in
              record { left = omega (arith, ints, a, after); right = omega (arith, ints, b, over_too); low = omega (arith, ints, c, low); high = omega (arith, ints, d, high) })
        ],
      )

  pub widened-bar : PushesBar (bars ++ last ∷ []) (bars ++ wider ∷ []) bar
  widened-bar = record {
    full = λ low high is s s_in. elim (Contains-push_cases bars wider s s_in) [
      | inl h ↦ inl (Contains-append_left bars (last ∷ []) s h)
      | inr e ↦ inr (subst (IsBar low high) e (
          let wide = is.solid.wide in
          let tall = is.solid.tall in
          let after = by.after in
          let a = by.low in
          let b = by.high in
          record { solid = record { wide = omega (arith, ints, wide, after, over_too); tall = omega (arith, ints, tall, a, b) }; first = a ∙ is.first; end = b ∙ is.end }))
    ];
    covers = λ p. (
      (λ h. elim ((covers-pushed (λ q. Has last q ⊎ Has bar q) bars wider wider-has p).0 h) [
        | inl c ↦ inl ((covers-pushed (Has last) bars last (λ q. (λ k. k, λ k. k)) p).1 (inl c))
        | inr k ↦ elim k [ inl l ↦ inl ((covers-pushed (Has last) bars last (λ q. (λ m. m, λ m. m)) p).1 (inr l)) | inr b ↦ inr b ]
      ]),
      λ h. (covers-pushed (λ q. Has last q ⊎ Has bar q) bars wider wider-has p).1 (elim h [
        | inl c ↦ elim ((covers-pushed (Has last) bars last (λ q. (λ k. k, λ k. k)) p).0 c) [ inl k ↦ inl k | inr l ↦ inr (inl l) ]
        | inr b ↦ inr (inr b)
      ]),
    );
    within = λ w v.
        let of_last = v last (Contains-push bars last) in
        let right = of_last.right in
        let right_too = w.right in
        rects-more farthest bars wider (λ r r_in. v r (Contains-append_left bars (last ∷ []) r r_in))
        (record {
          left = of_last.left;
          low = of_last.low;
          right = elim known [
            | inl e ↦ omega (arith, ints, e, right)
            | inr e ↦ omega (arith, ints, e, right_too)
          ];
          high = of_last.high;
        });
  }

pub adds-bar : (low high : ℤ) (r part : Rect) (bars others new : List Rect) → IsPartOf low high r part → IsRectWithin farthest r
    → IsBar low high part → PushesBar bars new part → AddsPart low high r bars others new others
adds-bar low high r part bars others new is w bar a = record {
  full = a.full low high bar;
  covers = λ p. (
    (λ h. elim h [
      | inl c ↦ elim ((a.covers p).0 c) [ inl k ↦ inl (inl k) | inr k ↦ inr ((is.has p).0 k) ]
      | inr c ↦ inl (inr c)
    ]),
    λ h. elim h [
      | inl k ↦ elim k [ inl c ↦ inl ((a.covers p).1 (inl c)) | inr c ↦ inr c ]
      | inr k ↦ inl ((a.covers p).1 (inr ((is.has p).1 k)))
    ],
  );
  full_within = a.within (is.within bar.solid w);
  within = λ v. v;
}

pub adds-other : (low high : ℤ) (r part : Rect) (bars others : List Rect) → IsPartOf low high r part → IsRectWithin farthest r
    → IsSolid part → AddsPart low high r bars others bars (others ++ part ∷ [])
adds-other low high r part bars others is w solid = record {
  full = λ s h. inl h;
  covers = λ p. (
    (λ h. elim h [
      | inl c ↦ inl (inl c)
      | inr c ↦ elim ((covers-pushed (InRows low high (Has r)) others part is.has p).0 c) [ inl k ↦ inl (inr k) | inr k ↦ inr k ]
    ]),
    λ h. elim h [
      | inl k ↦ elim k [ inl c ↦ inl c | inr c ↦ inr ((covers-pushed (InRows low high (Has r)) others part is.has p).1 (inl c)) ]
      | inr k ↦ inr ((covers-pushed (InRows low high (Has r)) others part is.has p).1 (inr k))
    ],
  );
  full_within = λ v. v;
  within = λ v. rects-more farthest others part v (is.within solid w);
}

pub parts-none : (low high : ℤ) → ArePartsOf low high [] [] []
parts-none low high = record {
  full = λ r r_in. absurd (Contains-nil r r_in);
  covers = λ p. (
    (λ h. elim h [ inl c ↦ absurd (nothing p c) | inr c ↦ absurd (nothing p c) ]),
    λ h. absurd (nothing p h.0),
  );
  full_within = rects-none farthest;
  within = rects-none farthest;
}
  where
    nothing : (p : Pt) → Covers [] p → ⊥
    nothing p c = let found = member-Covers [] p c in Contains-nil found.0 found.1

pub parts-next : (low high : ℤ) (rects bars others new new_others : List Rect) (n : ℕ) (r : Rect) → n < length rects → r ≡ get_or rects n r
    → ArePartsOf low high (take n rects) bars others → AddsPart low high r bars others new new_others
    → ArePartsOf low high (take (n + 1) rects) new new_others
parts-next low high rects bars others new new_others n r n_in r_is s a = record {
  full = λ t t_in. elim (a.full t t_in) [ inl old ↦ s.full t old | inr is ↦ is ];
  covers = λ p. (
    (λ h. elim ((a.covers p).0 h) [
      | inl k ↦ (let c = (s.covers p).0 k in ((covers-step rects n r p n_in r_is).1 (inl c.0), c.1, c.2))
      | inr k ↦ ((covers-step rects n r p n_in r_is).1 (inr k.0), k.1, k.2)
    ]),
    λ (h, l, m). elim ((covers-step rects n r p n_in r_is).0 h) [
      | inl c ↦ (a.covers p).1 (inl ((s.covers p).1 (c, l, m)))
      | inr has ↦ (a.covers p).1 (inr (has, l, m))
    ],
  );
  full_within = a.full_within s.full_within;
  within = a.within s.within;
}

-- bars of the same rows are a row
pub bars-row : (low high : ℤ) (bars : List Rect) → ((r : Rect) → Contains bars r → IsBar low high r) → IsRow bars
bars-row low high bars h = record {
  solid = λ r r_in. (h r r_in).solid;
  level = λ r s r_in s_in. (let a = h r r_in in let b = h s s_in in
      let al = a.first in let ah = a.end in let bl = b.first in let bh = b.end in
      record { low = omega (arith, ints, al, bl); high = omega (arith, ints, ah, bh) });
}

-- in any order
pub row-sorted : (bars sorted : List Rect) → IsPermutation bars sorted → IsRow bars → IsRow sorted
row-sorted bars sorted same row = record {
  solid = λ r r_in. row.solid r (from r r_in);
  level = λ r s r_in s_in. row.level r s (from r r_in) (from s s_in);
}
  where
    from : (r : Rect) → Contains sorted r → Contains bars r
    from r r_in = Contains-permutation sorted bars r (IsPermutation-sym bars sorted same) r_in

-- all parts of all rectangles, the bars put together
pub cut-whole : (low high : ℤ) (rects bars row others : List Rect) (n : ℕ) → length rects ≤ n
    → ArePartsOf low high (take n rects) bars others → AreSlabsOf (Covers bars) row → AreSpaced row → AreAllLevel row bars
    → IsCutTo low high rects row others
cut-whole low high rects bars row others n all s by spaced level =
    let whole : take n rects ≡ rects = take_all n rects all in
    let covers = rw whole at s.covers in
    record {
      full = λ r r_in.
          let solid = spaced.row.solid r r_in in
          let wide = solid.wide in
          let tall = solid.tall in
          let first : Pt = record { x = r.x0; y = r.y0 } in
          let (bar, bar_in, _) = member-Covers bars first
          ((by.covers first).0
          (Covers-member row r first r_in (record { left = omega (arith, ints); right = wide; low = omega (arith, ints); high = tall })))
          in
          record { solid = solid; first = (level r bar r_in bar_in).low ∙ (s.full bar bar_in).first; end = (level r bar r_in bar_in).high ∙ (s.full bar bar_in).end };
      left = spaced.left;
      covers = λ p. (
        (λ h. elim h [ inl c ↦ (covers p).0 (inl ((by.covers p).0 c)) | inr c ↦ (covers p).0 (inr c) ]),
        λ h. elim ((covers p).1 h) [ inl c ↦ inl ((by.covers p).1 c) | inr c ↦ inr c ],
      );
      bars_within = within-slabs farthest bars row s.full_within by;
      within = s.within;
    }

pub cut-spaced : (low high : ℤ) (rects bars others : List Rect) → IsCutTo low high rects bars others → AreSpaced bars
cut-spaced low high rects bars others s = record { row = bars-row low high bars s.full; left = s.left }

pub cut-level : (low high : ℤ) (rects holes bars gaps others more : List Rect) → IsCutTo low high rects bars others → IsCutTo low high holes gaps more → AreAllLevel bars gaps
cut-level low high rects holes bars gaps others more s t r g r_in g_in = record {
  low = (s.full r r_in).first ∙ sym (t.full g g_in).first;
  high = (s.full r r_in).end ∙ sym (t.full g g_in).end;
}

-- slabs of what holes leave of rectangles within the range lie within it
pub without-within : (rects holes slabs : List Rect) → AreRectsWithin farthest rects → AreRectsWithin farthest holes
    → AreSlabsOf (Without rects holes) slabs → AreRectsWithin farthest slabs
without-within rects holes slabs v w s =
    slabs-within Minus farthest rects holes slabs v w
    (slabs-of-same (Without rects holes) (λ p. Holds Minus (cells (pos 1) rects p) (cells (pos 1) holes p)) slabs
    (λ p. ((told-minus rects holes p).1, (told-minus rects holes p).0)) s)

-- rectangles with a column between them share no square
none-shared : (r s : Rect) (p : Pt) → StandApart r s → Has r p → Has s p → ⊥
none-shared r s p off has has_too =
    let b = has.left in
    let d = has.right in
    let e = has_too.left in
    let f = has_too.right in
    elim off [ inl l ↦ omega (arith, ints, l, d, e) | inr l ↦ omega (arith, ints, l, b, f) ]

no-square : (others rs : List Rect) → KeepOff rs others → (p : Pt) → Covers rs p → Covers others p → ⊥
no-square others rs off p c k =
    let (r, r_in, has) = member-Covers rs p c in
    let (g, g_in, has_too) = member-Covers others p k in
    none-shared r g p (off r g r_in g_in) has has_too

-- holes and some gaps lie within the range
pub near-within : (parts holes near gaps : List Rect) → AddsTouching gaps parts holes near → AreRectsWithin farthest holes
    → AreRectsWithin farthest gaps → AreRectsWithin farthest near
near-within parts holes near gaps a v w r r_in = elim (a.others r r_in) [ inl h ↦ v r h | inr h ↦ w r h ]

-- bars that stand alone, and the slabs of all else
module _ (low high : ℤ) (rects holes whole bars old new gaps rest near alone : List Rect) (s : IsCutTo low high rects whole old)
    (t : IsCutTo low high holes gaps rest) (b : AreSlabsOf (Without whole gaps) bars) (g : AddsTouching gaps old rest near)
    (a : AreAlone bars near old new alone) where
  pub rest-within : AreRectsWithin farthest new
  rest-within r r_in = elim (a.others r r_in) [ inl h ↦ s.within r h | inr h ↦ without-within whole gaps bars s.bars_within t.bars_within b r h ]

  alone-solid : (r : Rect) → Contains alone r → IsSolid r
  alone-solid r r_in = All-contains IsSolid bars r b.canonical.solid (a.members r r_in)

  -- a hole that doesn't reach through the rows is swept
  rest-near : (p : Pt) → Covers rest p → Covers near p
  rest-near p k = let (r, r_in, has) = member-Covers rest p k in Covers-member near r p (g.kept r r_in) has

  -- what is swept of the holes is theirs
  near-holed : (p : Pt) → Covers near p → InRows low high (Covers holes) p
  near-holed p k =
      let (r, r_in, has) = member-Covers near p k in
      (t.covers p).0 (elim (g.others r r_in) [ inl h ↦ inr (Covers-member rest r p h has) | inr h ↦ inl (Covers-member gaps r p h has) ])

  -- a gap with a square of another part is swept; bars have no square of a gap
  gap-near : (p : Pt) → Covers new p → Covers gaps p → Covers near p
  gap-near p c k =
      let (o, o_in, o_has) = member-Covers new p c in
      let (r, r_in, has) = member-Covers gaps p k in
      elim (a.others o o_in) [
        | inl h ↦ elim (g.apart r r_in) [ inl there ↦ Covers-member near r p there has | inr off ↦ absurd (none-shared r o p (off o h) has o_has) ]
        | inr h ↦ absurd (((b.covers p).0 (Covers-member bars o p h o_has)).1 k)
      ]

  -- squares of holes in the rows that are squares of what is swept
  holed : (p : Pt) → Covers new p → InRows low high (Covers holes) p → Covers near p
  holed p c h = elim ((t.covers p).1 h) [ inl k ↦ gap-near p c k | inr k ↦ rest-near p k ]

  -- no hole has a square of a bar that stands alone
  no-hole : (p : Pt) → Covers alone p → InRows low high (Covers holes) p → ⊥
  no-hole p c h = elim ((t.covers p).1 h) [
    | inl k ↦ (let (r, r_in, has) = member-Covers alone p c in ((b.covers p).0 (Covers-member bars r p (a.members r r_in) has)).1 k)
    | inr k ↦ no-square near alone a.off_beside p c (rest-near p k)
  ]

  alone-covers : (p : Pt) → Covers alone p → InRows low high (Without rects holes) p
  alone-covers p c =
      let (r, r_in, has) = member-Covers alone p c in
      let (h, l, m) = (s.covers p).0 (inl ((b.covers p).0 (Covers-member bars r p (a.members r r_in) has)).0) in
      ((h, λ k. no-hole p c (k, l, m)), l, m)

  module _ (slabs : List Rect) (by : AreSlabsOf (Without new near) slabs) where
    -- no square of a slab lies in a column of such a bar or beside it
    off-slab : (r q : Rect) (p : Pt) → Contains alone r → Contains slabs q → Has q p → p.x ≤ℤ r.x1 → (r.x0 -ℤ pos 1) ≤ℤ p.x → ⊥
    off-slab r q p r_in q_in has l m =
        let c = (by.covers p).0 (Covers-member slabs q p q_in has) in
        let (o, o_in, o_has) = member-Covers new p c.0 in
        let b = o_has.left in
        let d = o_has.right in
        elim (a.off r o r_in o_in) [ inl k ↦ omega (arith, ints, k, b, l) | inr k ↦ omega (arith, ints, k, d, m) ]

    slab-apart : (r q : Rect) → Contains alone r → Contains slabs q → StandApart r q
    slab-apart r q r_in q_in =
        let solid : IsSolid q = All-contains IsSolid slabs q by.canonical.solid q_in in
        let wide = solid.wide in
        let tall = solid.tall in
        let bar : IsSolid r = alone-solid r r_in in
        let some = bar.wide in
        by_lt_z r.x1 q.x0 inl
        (λ l. by_lt_z q.x1 r.x0 inr
        (λ m. absurd (by_lt_z q.x0 r.x0
        (λ k. off-slab r q (record { x = r.x0 -ℤ pos 1; y = q.y0 }) r_in q_in
        (record { left = omega (arith, ints, k); right = omega (arith, ints, m); low = omega (arith, ints); high = tall })
        (omega (arith, ints, some)) (omega (arith, ints)))
        (λ k. off-slab r q (record { x = q.x0; y = q.y0 }) r_in q_in
        (record { left = omega (arith, ints); right = wide; low = omega (arith, ints); high = tall }) l (omega (arith, ints, k))))))

    slabs-covers : (p : Pt) → Covers slabs p → InRows low high (Without rects holes) p
    slabs-covers p c =
        let (h, none) = (by.covers p).0 c in
        let (k, l, m) = (s.covers p).0 (elim ((a.covers p).0 (inr h)) [ inl g ↦ inl ((b.covers p).0 g).0 | inr g ↦ inr g ]) in
        ((k, λ hole. none (holed p h (hole, l, m))), l, m)

    -- a square of a rectangle that no hole has is one of a bar or a part
    is-left : (p : Pt) → InRows low high (Without rects holes) p → Covers bars p ⊎ Covers old p
    is-left p ((c, none), l, m) = elim ((s.covers p).1 (c, l, m)) [ inl k ↦ inl ((b.covers p).1 (k, λ g. none ((t.covers p).0 (inl g)).0)) | inr k ↦ inr k ]

    pub slice-pieces : ArePiecesOf (InRows low high (Without rects holes)) (alone ++ slabs)
    slice-pieces = record {
      apart = record {
        solid = All-append IsSolid alone slabs (λ i d k. alone-solid (get_or alone i d) (Contains-get_or alone i d k)) by.canonical.solid;
        apart = AllPairs-append (λ r q. ShareRow r q → StandApart r q) alone slabs (λ i j d l k share. a.apart i j d l k) (λ i j d l k. (by.canonical.follow i j d l k).apart)
            (λ r q r_in q_in share. slab-apart r q r_in q_in);
      };
      covers = λ p. (
        (λ h. elim ((covers-appended (Without new near) alone slabs by.covers p).0 h) [ inl c ↦ alone-covers p c | inr c ↦ slabs-covers p ((by.covers p).1 c) ]),
        λ h. elim ((a.covers p).1 (is-left p h)) [
          | inl k ↦ (covers-appended (Without new near) alone slabs by.covers p).1 (inl k)
          | inr k ↦ (covers-appended (Without new near) alone slabs by.covers p).1 (inr (k, λ n. h.0.1 (near-holed p n).0))
        ],
      );
    }

-- rectangles with no square below a row begin there or above it
begin-over : (row : ℤ) (rs : List Rect) → All IsSolid rs → ((p : Pt) → Covers rs p → row ≤ℤ p.y) → (r : Rect) → Contains rs r → row ≤ℤ r.y0
begin-over row rs solid over r r_in =
    let s : IsSolid r = All-contains IsSolid rs r solid r_in in
    let wide = s.wide in
    let tall = s.tall in
    over (record { x = r.x0; y = r.y0 }) (Covers-member rs r (record { x = r.x0; y = r.y0 }) r_in
    (record { left = omega (arith, ints); right = wide; low = omega (arith, ints); high = tall }))

-- and those with all squares below it end there or below it
end-below : (row : ℤ) (rs : List Rect) → All IsSolid rs → ((p : Pt) → Covers rs p → p.y <ℤ row) → (r : Rect) → Contains rs r → r.y1 ≤ℤ row
end-below row rs solid below r r_in =
    let s : IsSolid r = All-contains IsSolid rs r solid r_in in
    let wide = s.wide in
    let tall = s.tall in
    let last : Pt = record { x = r.x0; y = r.y1 -ℤ pos 1 } in
    let l = below last (Covers-member rs r last r_in (record { left = omega (arith, ints); right = wide; low = omega (arith, ints, tall); high = omega (arith, ints) })) in
    omega (arith, ints, l)

pub pieces-next : (low high : ℤ) (a : Region) (pieces more : List Rect) → low <ℤ high → ArePiecesBelow low a pieces
    → ArePiecesOf (InRows low high a) more → ArePiecesBelow high a (pieces ++ more)
pieces-next low high a pieces more order b s = record {
  apart = record {
    solid = All-append IsSolid pieces more b.apart.solid s.apart.solid;
    apart = AllPairs-append (λ r t. ShareRow r t → StandApart r t) pieces more b.apart.apart s.apart.apart
        (λ r t r_in t_in share. (let u = b.under r r_in in
        let v = begin-over low more s.apart.solid (λ p c. ((s.covers p).0 c).1) t t_in in let w = share.1 in
        absurd (omega (arith, ints, u, v, w))));
  };
  under = λ r r_in. elim (Contains-append_cases pieces more r r_in) [
    | inl h ↦ (let u = b.under r h in omega (arith, ints, u, order))
    | inr h ↦ end-below high more s.apart.solid (λ p c. ((s.covers p).0 c).2) r h
  ];
  covers = λ p. (
    (λ h. elim ((both p).0 h) [
      | inl c ↦ (let k = (b.covers p).0 c in let l = k.1 in (k.0, omega (arith, ints, l, order)))
      | inr c ↦ (c.0, c.2)
    ]),
    λ (h, l). by_lt_z p.y low (λ m. (both p).1 (inl ((b.covers p).1 (h, m)))) (λ m. (both p).1 (inr (h, m, l))),
  );
}
  where
    both : (p : Pt) → Covers (pieces ++ more) p ↔ (Covers pieces p ⊎ InRows low high a p)
    both = covers-appended (InRows low high a) pieces more s.covers

-- pieces in another order
pub pieces-permuted : (a : Region) (xs ys : List Rect) → IsPermutation xs ys → ArePiecesOf a xs → ArePiecesOf a ys
pieces-permuted a xs ys same s = record {
  apart = apart-permutation xs ys same s.apart;
  covers = λ p. ((λ c. (s.covers p).0 ((covers-same xs ys same p).1 c)), λ c. (covers-same xs ys same p).0 ((s.covers p).1 c));
}

pub below-permuted : (row : ℤ) (a : Region) (xs ys : List Rect) → IsPermutation xs ys → ArePiecesBelow row a xs → ArePiecesBelow row a ys
below-permuted row a xs ys same s = record {
  apart = apart-permutation xs ys same s.apart;
  under = λ r r_in. s.under r (Contains-permutation ys xs r (IsPermutation-sym xs ys same) r_in);
  covers = λ p. ((λ c. (s.covers p).0 ((covers-same xs ys same p).1 c)), λ c. (covers-same xs ys same p).0 ((s.covers p).1 c));
}

pub pieces-none : (low : ℤ) (rects holes : List Rect) → low ≡ neg_ℤ (pos farthest) → AreRectsWithin farthest rects → ArePiecesBelow low (Without rects holes) []
pieces-none low rects holes low_is w = record {
  apart = record { solid = λ i d k. absurd (omega (arith, k)); apart = λ i j d l k. absurd (omega (arith, k)) };
  under = λ r r_in. absurd (Contains-nil r r_in);
  covers = λ p. (
    (λ c. absurd (let found = member-Covers [] p c in Contains-nil found.0 found.1)),
    λ (c, l). (let (r, r_in, has) = member-Covers rects p c.0 in let a = (w r r_in).low in let h = has.low in absurd (omega (arith, ints, low_is, l, a, h))),
  );
}

-- above all rectangles
pub pieces-all : (row : ℤ) (rects holes pieces : List Rect) → pos farthest <ℤ row → AreRectsWithin farthest rects
    → ArePiecesBelow row (Without rects holes) pieces → ArePiecesOf (Without rects holes) pieces
pieces-all row rects holes pieces over w b = record {
  apart = b.apart;
  covers = λ p. (
    (λ c. ((b.covers p).0 c).0),
    λ c. (b.covers p).1 (c, (let (r, r_in, has) = member-Covers rects p c.0 in let a = (w r r_in).high in let h = has.high in omega (arith, ints, over, a, h))),
  );
}

-- a relation of all pairs holds of each of the former and each of the latter
pairs-across : {X : Type 0} (R : X → X → Type 0) (xs ys : List X) (x y : X) → AllPairs R (xs ++ ys) → Contains xs x → Contains ys y → R x y
pairs-across R xs ys x y all (i, i_in, x_is) (k, k_in, y_is) =
    let left : get_or (xs ++ ys) i x ≡ x = get_or_append_left xs ys x i i_in ∙ x_is in
    let right : get_or (xs ++ ys) (length xs + k) x ≡ y = get_or-append-add xs ys k x ∙ (get_or_default ys k x y k_in ∙ y_is) in
    let whole = length-append xs ys in
    rw (left, right) at (all i (length xs + k) x (omega (arith, i_in)) (omega (arith, whole, k_in)))

apart-before : (xs ys : List Rect) → AreApart (xs ++ ys) → AreApart xs
apart-before xs ys a = record {
  solid = λ i d k. All-contains IsSolid (xs ++ ys) (get_or xs i d) a.solid (Contains-append_left xs ys (get_or xs i d) (Contains-get_or xs i d k));
  apart = λ i j d l k.
      let whole = length-append xs ys in
      rw (get_or_append_left xs ys d i (omega (arith, l, k)), get_or_append_left xs ys d j k) at (a.apart i j d l (omega (arith, whole, k)));
}

pub apart-after : (xs ys : List Rect) → AreApart (xs ++ ys) → AreApart ys
apart-after xs ys a = record {
  solid = λ i d k. All-contains IsSolid (xs ++ ys) (get_or ys i d) a.solid (Contains-append_right xs ys (get_or ys i d) (Contains-get_or ys i d k));
  apart = λ i j d l k.
      let whole = length-append xs ys in
      rw (get_or-append-add xs ys i d, get_or-append-add xs ys j d) at (a.apart (length xs + i) (length xs + j) d (omega (arith, l)) (omega (arith, whole, k)));
}

-- pieces with the squares of the latter stand beside the former as these do
module _ (xs ys zs : List Rect) (b : AreApart (xs ++ ys)) (s : ArePiecesOf (Covers ys) zs) where
  module _ (d j : Rect) (d_in : Contains xs d) (j_in : Contains zs j) where
    near-none : (p : Pt) → Has j p → d.y0 ≤ℤ p.y → p.y <ℤ d.y1 → (d.x0 -ℤ pos 1) ≤ℤ p.x → p.x ≤ℤ d.x1 → ⊥
    near-none p has low high left right =
        let (o, o_in, o_has) = member-Covers ys p ((s.covers p).0 (Covers-member zs j p j_in has)) in
        let e = o_has.left in
        let f = o_has.right in
        let g = o_has.low in
        let h = o_has.high in
        elim (pairs-across (λ u v. ShareRow u v → StandApart u v) xs ys d o b.apart d_in o_in (omega (arith, ints, low, h), omega (arith, ints, high, g))) [
          | inl k ↦ omega (arith, ints, k, e, right)
          | inr k ↦ omega (arith, ints, k, f, left)
        ]

    beside-at : (y : ℤ) → j.y0 ≤ℤ y → y <ℤ j.y1 → d.y0 ≤ℤ y → y <ℤ d.y1 → StandApart d j
    beside-at y from to low high =
        let wide = (All-contains IsSolid zs j s.apart.solid j_in).wide in
        let wide_too = (All-contains IsSolid (xs ++ ys) d b.solid (Contains-append_left xs ys d d_in)).wide in
        by_lt_z d.x1 j.x0 inl
        (λ l. by_lt_z j.x1 d.x0 inr
        (λ m. absurd (by_lt_z j.x0 d.x0
        (λ k. near-none (record { x = d.x0 -ℤ pos 1; y = y })
        (record { left = omega (arith, ints, k); right = omega (arith, ints, m); low = from; high = to }) low high (omega (arith, ints))
        (omega (arith, ints, wide_too)))
        (λ k. near-none (record { x = j.x0; y = y }) (record { left = omega (arith, ints); right = wide; low = from; high = to }) low high (omega (arith, ints, k)) l))))

    beside : ShareRow d j → StandApart d j
    beside (l, m) =
        let tall = (All-contains IsSolid zs j s.apart.solid j_in).tall in
        let tall_too = (All-contains IsSolid (xs ++ ys) d b.solid (Contains-append_left xs ys d d_in)).tall in
        by_lt_z d.y0 j.y0
        (λ k. beside-at j.y0 (omega (arith, ints)) tall (omega (arith, ints, k)) m)
        (λ k. beside-at d.y0 k l (omega (arith, ints)) tall_too)

  pub beside-apart : AreApart (xs ++ zs)
  beside-apart =
      let former = apart-before xs ys b in
      record {
        solid = All-append IsSolid xs zs former.solid s.apart.solid;
        apart = AllPairs-append (λ u v. ShareRow u v → StandApart u v) xs zs former.apart s.apart.apart beside;
      }

module _ (row : ℤ) (a : Region) (xs ys zs : List Rect) (b : ArePiecesBelow row a (xs ++ ys)) (s : ArePiecesOf (Covers ys) zs) where
  ends : (p : Pt) → Covers zs p → p.y <ℤ row
  ends p c = let (r, r_in, has) = member-Covers ys p ((s.covers p).0 c) in ((b.covers p).0 (Covers-member (xs ++ ys) r p (Contains-append_right xs ys r r_in) has)).1

  pub below-beside : ArePiecesBelow row a (xs ++ zs)
  below-beside =
      record {
        apart = beside-apart xs ys zs b.apart s;
        under = λ r r_in. elim (Contains-append_cases xs zs r r_in) [
          | inl h ↦ b.under r (Contains-append_left xs ys r h)
          | inr h ↦ end-below row zs s.apart.solid ends r h
        ];
        covers = λ p. (
          (λ c. (b.covers p).0 ((covers-appended (Covers ys) xs ys (λ q. (λ k. k, λ k. k)) p).1 ((covers-appended (Covers ys) xs zs s.covers p).0 c))),
          λ h. (covers-appended (Covers ys) xs zs s.covers p).1 ((covers-appended (Covers ys) xs ys (λ q. (λ k. k, λ k. k)) p).0 ((b.covers p).1 h)),
        );
      }

-- where nothing grows
pub pieces-own : (growing more : List Rect) → length growing ≤ 0 → AreApart (growing ++ more) → ArePiecesOf (Covers (growing ++ more)) more
pieces-own [] more none a = record { apart = a; covers = λ p. (λ c. c, λ c. c) }
pieces-own (r ∷ growing) more none a = absurd (omega (arith, none))

-- some that grow, and pieces of which some may stand on them
module _ (growing more others starts : List Rect) (moved : IsPermutation more (others ++ starts)) (a : AreApart (growing ++ more)) where
  turned : IsPermutation (growing ++ more) (others ++ (growing ++ starts))
  turned =
      let behind = rw append_assoc at (IsPermutation-append_comm growing (others ++ starts)) in
      IsPermutation-trans (growing ++ more) (growing ++ (others ++ starts)) (others ++ (growing ++ starts)) (IsPermutation-append_right growing more (others ++ starts) moved)
      (IsPermutation-trans (growing ++ (others ++ starts)) (others ++ (starts ++ growing)) (others ++ (growing ++ starts)) behind
      (IsPermutation-append_right others (starts ++ growing) (growing ++ starts) (IsPermutation-append_comm starts growing)))

  module _ (both : List Rect) (same : IsPermutation (growing ++ starts) both) where
    whole : IsPermutation (growing ++ more) (others ++ both)
    whole = IsPermutation-trans (growing ++ more) (others ++ (growing ++ starts)) (others ++ both) turned (IsPermutation-append_right others (growing ++ starts) both same)

    all-apart : AreApart (others ++ both)
    all-apart = apart-permutation (growing ++ more) (others ++ both) whole a

    pub both-apart : AreApart both
    both-apart = apart-after others both all-apart

    pub pieces-joined : (slabs new : List Rect) → AreJoined both slabs → IsPermutation (others ++ slabs) new → ArePiecesOf (Covers (growing ++ more)) new
    pieces-joined slabs new j put =
        let beside = beside-apart others both slabs all-apart (record { apart = joined-apart both slabs j; covers = j.covers }) in
        let after = λ (p : Pt). covers-appended (Covers both) others slabs j.covers p in
        let before = λ (p : Pt). covers-appended (Covers both) others both (λ q. (λ h. h, λ h. h)) p in
        record {
          apart = apart-permutation (others ++ slabs) new put beside;
          covers = λ p. (
            (λ h. (covers-same (growing ++ more) (others ++ both) whole p).1 ((before p).1 ((after p).0 ((covers-same (others ++ slabs) new put p).1 h)))),
            λ h. (covers-same (others ++ slabs) new put p).0 ((after p).1 ((before p).0 ((covers-same (growing ++ more) (others ++ both) whole p).0 h))),
          );
        }

-- one more of some is behind others, or behind those that are before these
module _ {X : Type 0} (all done growing : List X) (x : X) (same : IsPermutation all (done ++ growing)) where
  pub settled-growing : IsPermutation (all ++ x ∷ []) (done ++ (growing ++ x ∷ []))
  settled-growing = rw (sym (append_assoc done growing (x ∷ []))) (IsPermutation-append_left (x ∷ []) all (done ++ growing) same)

  pub settled-done : IsPermutation (all ++ x ∷ []) ((done ++ x ∷ []) ++ growing)
  settled-done =
      let behind = rw (sym (append_assoc done (x ∷ []) growing)) at (IsPermutation-append_right done (growing ++ x ∷ []) (x ∷ growing)
      (IsPermutation-append_comm growing (x ∷ []))) in
      IsPermutation-trans (all ++ x ∷ []) (done ++ (growing ++ x ∷ [])) ((done ++ x ∷ []) ++ growing) settled-growing behind

pub without-sorted : (rects holes rs hs : List Rect) → IsPermutation rects rs → IsPermutation holes hs → (p : Pt) → Without rs hs p ↔ Without rects holes p
without-sorted rects holes rs hs a b p = (
  λ (c, not). ((covers-same rects rs a p).1 c, λ h. not ((covers-same holes hs b p).0 h)),
  λ (c, not). ((covers-same rects rs a p).0 c, λ h. not ((covers-same holes hs b p).1 h)),
)

-- elements in the reverse order
pub All-reverse : {X : Type 0} (P : X → Type 0) (xs : List X) → All P xs → All P (reverse xs)
All-reverse P xs h k d k_in =
    let l : k < length xs = omega (arith, k_in, length-reverse xs) in
    rw (get_or-reverse xs k d l) (h (length xs - 1 - k) d (omega (arith, l)))

-- some of the elements
pub All-some : {X : Type 0} (P : X → Type 0) (all some : List X) → ((x : X) → Contains some x → Contains all x) → All P all → All P some
All-some P all some among h k d k_in = All-contains P all (get_or some k d) h (among (get_or some k d) (Contains-get_or some k d k_in))
