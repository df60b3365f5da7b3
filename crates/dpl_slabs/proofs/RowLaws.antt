-- Slabs of bars side by side in one row.
use Rattle.std.proofs.Common.{◌≡◌, ℕ, suc, ◌+◌, ◌≤◌, ◌<◌, ◌⊎◌, inl, inr, List, [], ◌∷◌, ◌++◌, length, get_or, take, refl, sym, ap, ◌∙◌, subst, arith}
use Rattle.std.specs.Prelude.{◌↔◌, pos, ◌≤ℤ◌, ◌<ℤ◌}
use Rattle.std.proofs.lemmas.Bool.{cases_order}
use Rattle.std.specs.List.{Contains}
use Rattle.std.proofs.lemmas.Int.{ints, by_lt_z}
use Rattle.std.proofs.lemmas.List.{get_or_default, take_all}
use Rattle.std.proofs.lemmas.List.Elements.{All-contains, All-push, Contains-get_or, Contains-push_cases}
use Rattle.std.proofs.lemmas.List.Quantifiers.{all_pairs_push}
use Rattle.std.proofs.Math.Seq.{take-suc}
use Rattle.dpl_spec_split.specs.declared.Pt.{Pt}
use Rattle.dpl_spec_split.specs.declared.Rect.{Rect}
use Rattle.dpl_spec_split.specs.Squares.{Has, Covers}
use Rattle.dpl_spec_split.specs.Slabs.{IsSolid, Follows, IsCanonical, AreSlabsOf}
use Rattle.dpl_spec_split.specs.Loops.{AreRectsWithin}
use Rattle.dpl_spec_split.proofs.Ordered.{Contains-nil}
use Rattle.dpl_spec_split.proofs.SlabLaws.{member-Covers}
use Rattle.dpl_sweep.specs.declared.edge.Rule.TheVariants.{Either}
use Rattle.dpl_sweep.specs.Edges.{Holds}
use Rattle.dpl_order.specs.Orders.{CornerBefore, CornersRise}
use Rattle.dpl_slabs.specs.Cells.{cells}
use Rattle.dpl_slabs.specs.Slices.{Without}
use Rattle.dpl_slabs.specs.Rows.{AreLevel, AreAllLevel, AreSpaced, IsRow, IsLeftOf, IsWider, IsBarJoined, AreBarsSoFar, RisesTo}
use Rattle.dpl_slabs.proofs.LoopLaws.{covers-pushed}
use Rattle.dpl_slabs.proofs.SetLaws.{told-first, slabs-of-same, slabs-within, rects-none}

follows-left : (a b : Rect) → IsSolid a → IsLeftOf a b → Follows a b
follows-left a b solid left =
    let wide = solid.wide in
    let tall = solid.tall in
    let apart = left.apart in
    let low = left.level.low in
    record {
      before = inr (low, omega (arith, ints, wide, apart));
      apart = λ rows. inl apart;
      separate = λ on. (let row = on.row in omega (arith, ints, row, low, tall));
    }

corner-beside : (a b : Rect) → AreLevel a b → CornerBefore a b → a.x0 ≤ℤ b.x0
corner-beside a b level (inl l) = let low = level.low in absurd (omega (arith, ints, l, low))
corner-beside a b level (inr (e, l)) = l

pub covers-step : (row : List Rect) (n : ℕ) (bar : Rect) (p : Pt) → n < length row → bar ≡ get_or row n bar → Covers (take (n + 1) row) p ↔ (Covers (take n row) p ⊎ Has bar p)
covers-step row n bar p n_in bar_is =
    let one : n + 1 ≡ suc n = omega arith in
    let step : take (n + 1) row ≡ take n row ++ bar ∷ [] = ap (λ k. take k row) one ∙ (take-suc row n bar n_in ∙ ap (λ s. take n row ++ s ∷ []) (sym bar_is)) in
    rw step (covers-pushed (Has bar) (take n row) bar (λ q. (λ h. h, λ h. h)) p)

-- the squares of the wider bar
has-wider : (last bar next : Rect) (p : Pt) → AreLevel last bar → last.x0 ≤ℤ bar.x0 → bar.x0 ≤ℤ last.x1 → IsWider last bar next → Has next p ↔ (Has last p ⊎ Has bar p)
has-wider last bar next p level l m w =
    let left = w.left in
    let low = w.level.low in
    let high = w.level.high in
    let over = w.over in
    let past = w.past in
    let bar_low = level.low in
    let bar_high = level.high in (
      λ h. (let a = h.left in let b = h.right in let c = h.low in let d = h.high in
          by_lt_z p.x last.x1
          (λ k. inl (record { left = omega (arith, ints, a, left); right = k; low = omega (arith, ints, c, low); high = omega (arith, ints, d, high) }))
          (λ k. inr (record {
            left = omega (arith, ints, k, m);
            right = elim w.known [ inl e ↦ absurd (omega (arith, ints, e, b, k)) | inr e ↦ omega (arith, ints, e, b) ];
            low = omega (arith, ints, c, low, bar_low);
            high = omega (arith, ints, d, high, bar_high);
          }))),
      λ h. elim h [
        | inl has ↦ (let a = has.left in let b = has.right in let c = has.low in let d = has.high in
            record { left = omega (arith, ints, a, left); right = omega (arith, ints, b, over); low = omega (arith, ints, c, low); high = omega (arith, ints, d, high) })
        | inr has ↦ (let a = has.left in let b = has.right in let c = has.low in let d = has.high in
            record {
              left = omega (arith, ints, a, left, l);
              right = omega (arith, ints, b, past);
              low = omega
                  (arith, ints, c, low, bar_low);
              high = omega (arith, ints, d, high, bar_high);
            })
      ],
    )

pub level-flip : (a b : Rect) → AreLevel a b → AreLevel b a
level-flip a b l = record { low = sym l.low; high = sym l.high }

pub level-on : (a b c : Rect) → AreLevel a b → AreLevel b c → AreLevel a c
level-on a b c l m = record { low = l.low ∙ m.low; high = l.high ∙ m.high }

module _ (row : List Rect) (is : IsRow row) (rise : CornersRise row) where
  bar-left : (n k : ℕ) (bar d : Rect) → n < k → k < length row → bar ≡ get_or row n bar → bar.x0 ≤ℤ (get_or row k d).x0
  bar-left n k bar d l k_in bar_is =
      let n_in : n < length row = omega (arith, l, k_in) in
      let here : get_or row n d ≡ bar = get_or_default row n d bar n_in ∙ sym bar_is in
      let in_n : Contains row bar = (n, n_in, sym bar_is) in
      let in_k = Contains-get_or row k d k_in in
      corner-beside bar (get_or row k d) (is.level bar (get_or row k d) in_n in_k) (rw here at (rise n k d (omega (arith, l)) k_in))

  pub bars-first : (first : Rect) → 0 < length row → first ≡ get_or row 0 first → AreBarsSoFar row 1 [] first
  bars-first first some first_is =
      let first_in : Contains row first = (0, some, sym first_is) in
      record {
        solid = λ i d k. absurd (omega (arith, k));
        last_solid = is.solid first first_in;
        level = λ q q_in. is.level first q first_in q_in;
        apart = λ i j d l k. absurd (omega (arith, k));
        before = λ a a_in. absurd (Contains-nil a a_in);
        left = λ k d l k_in. bar-left 0 k first d (omega (arith, l)) k_in first_is;
        covers = λ p. (
          (λ h. elim h [
            | inl c ↦ absurd (let found = member-Covers [] p c in Contains-nil found.0 found.1)
            | inr has ↦ (covers-step row 0 first p some first_is).1 (inr has)
          ]),
          λ c. elim ((covers-step row 0 first p some first_is).0 c) [
            | inl k ↦ absurd (let found = member-Covers [] p k in Contains-nil found.0 found.1)
            | inr has ↦ inr has
          ],
        );
      }

  pub bars-next : (n : ℕ) (done new : List Rect) (last next bar : Rect) → n < length row → bar ≡ get_or row n bar
      → AreBarsSoFar row n done last → IsBarJoined done last bar new next → AreBarsSoFar row (n + 1) new next
  bars-next n done new last next bar n_in bar_is s (inl (l, new_is, next_is)) =
      let bar_in : Contains row bar = (n, n_in, sym bar_is) in
      let wide = s.last_solid.wide in
      let level = s.level bar bar_in in
      rw (new_is, next_is) (record {
        solid = All-push IsSolid done last s.solid s.last_solid;
        last_solid = is.solid bar bar_in;
        level = λ q q_in. is.level bar q bar_in q_in;
        apart = all_pairs_push IsLeftOf done last s.apart (λ k d k_in. s.before (get_or done k d) (Contains-get_or done k d k_in));
        before = λ a a_in. elim (Contains-push_cases done last a a_in) [
          | inl old ↦ (let b = s.before a old in let apart = b.apart in record { apart = omega (arith, ints, apart, wide, l); level = level-on a last bar b.level level })
          | inr e ↦ subst (λ t. IsLeftOf t bar) e (record { apart = l; level = level })
        ];
        left = λ k d m k_in. bar-left n k bar d (omega (arith, m)) k_in bar_is;
        covers = λ p. (
          (λ h. elim h [
            | inl c ↦ (covers-step row n bar p n_in bar_is).1 (inl ((s.covers p).0 ((covers-pushed (Has last) done last (λ q. (λ g. g, λ g. g)) p).0 c)))
            | inr has ↦ (covers-step row n bar p n_in bar_is).1 (inr has)
          ]),
          λ c. elim ((covers-step row n bar p n_in bar_is).0 c) [
            | inl k ↦ inl ((covers-pushed (Has last) done last (λ q. (λ g. g, λ g. g)) p).1 ((s.covers p).1 k))
            | inr has ↦ inr has
          ],
        );
      })
  bars-next n done new last next bar n_in bar_is s (inr (m, new_is, w)) =
      let bar_in : Contains row bar = (n, n_in, sym bar_is) in
      let level = s.level bar bar_in in
      let here : get_or row n bar ≡ bar = sym bar_is in
      let first : last.x0 ≤ℤ bar.x0 = rw here at (s.left n bar (omega arith) n_in) in
      let left = w.left in
      let low = w.level.low in
      let high = w.level.high in
      let over = w.over in
      let wide = s.last_solid.wide in
      let tall = s.last_solid.tall in
      rw new_is (record {
        solid = s.solid;
        last_solid = record { wide = omega (arith, ints, left, wide, over); tall = omega (arith, ints, tall, low, high) };
        level = λ q q_in. level-on next last q (level-flip last next w.level) (s.level q q_in);
        apart = s.apart;
        before = λ a a_in. (let b = s.before a a_in in let apart = b.apart in record { apart = omega (arith, ints, apart, left); level = level-on a last next b.level w.level });
        left = λ k d l k_in. (let h = s.left k d (omega (arith, l)) k_in in omega (arith, ints, h, left));
        covers = λ p. (
          (λ h. elim h [
            | inl c ↦ (covers-step row n bar p n_in bar_is).1 (inl ((s.covers p).0 (inl c)))
            | inr has ↦ elim ((has-wider last bar next p level first m w).0 has) [
              | inl a ↦ (covers-step row n bar p n_in bar_is).1 (inl ((s.covers p).0 (inr a)))
              | inr b ↦ (covers-step row n bar p n_in bar_is).1 (inr b)
            ]
          ]),
          λ c. elim ((covers-step row n bar p n_in bar_is).0 c) [
            | inl k ↦ elim ((s.covers p).1 k) [
              | inl a ↦ inl a
              | inr has ↦ inr ((has-wider last bar next p level first m w).1 (inl has))
            ]
            | inr has ↦ inr ((has-wider last bar next p level first m w).1 (inr has))
          ],
        );
      })

-- what goes for one more slab
pushed-cases : (P : Rect → Type 0) (done : List Rect) (last : Rect) → ((r : Rect) → Contains done r → P r) → P last → (r : Rect) → Contains (done ++ last ∷ []) r → P r
pushed-cases P done last h here r r_in = elim (Contains-push_cases done last r r_in) [ inl old ↦ h r old | inr e ↦ subst P e here ]

-- one more bar right of all others
pub spaced-pushed : (done : List Rect) (last : Rect) → AreSpaced done → IsSolid last → ((a : Rect) → Contains done a → IsLeftOf a last) → AreSpaced (done ++ last ∷ [])
spaced-pushed done last s solid before = record {
  row = record {
    solid = pushed-cases IsSolid done last s.row.solid solid;
    level = λ r q r_in q_in. level-on r last q (beside r r_in) (level-flip q last (beside q q_in));
  };
  left = all_pairs_push IsLeftOf done last s.left (λ k d k_in. before (get_or done k d) (Contains-get_or done k d k_in));
}
  where
    beside : (r : Rect) → Contains (done ++ last ∷ []) r → AreLevel r last
    beside = pushed-cases (λ r. AreLevel r last) done last (λ r r_in. (before r r_in).level) (record { low = refl; high = refl })

pub spaced-none : AreSpaced []
spaced-none = record {
  row = record { solid = λ r r_in. absurd (Contains-nil r r_in); level = λ r s r_in s_in. absurd (Contains-nil r r_in) };
  left = λ i j d l k. absurd (omega (arith, k));
}

-- spaced bars are the slabs of their squares
pub spaced-canonical : (bars : List Rect) → AreSpaced bars → IsCanonical bars
spaced-canonical bars s = record {
  solid = λ i d k. s.row.solid (get_or bars i d) (Contains-get_or bars i d k);
  follow = λ i j d l k. follows-left (get_or bars i d) (get_or bars j d) (s.row.solid (get_or bars i d) (Contains-get_or bars i d (omega (arith, l, k)))) (s.left i j d l k);
}

-- nothing is left of no rectangles
pub slabs-none : (rects holes : List Rect) → length rects ≤ 0 → AreSlabsOf (Without rects holes) []
slabs-none [] holes none = record {
  canonical = spaced-canonical [] spaced-none;
  covers = λ p. ((λ c. absurd (nothing p c)), λ h. absurd (nothing p h.0));
}
  where
    nothing : (p : Pt) → Covers [] p → ⊥
    nothing p c = let found = member-Covers [] p c in Contains-nil found.0 found.1
slabs-none (r ∷ rects) holes none = absurd (omega (arith, none))

pub bars-spaced : (row : List Rect) (n : ℕ) (done : List Rect) (last : Rect) → AreBarsSoFar row n done last → AreSpaced (done ++ last ∷ [])
bars-spaced row n done last s =
    spaced-pushed done last
    (record {
      row = record {
        solid = λ r r_in. All-contains IsSolid done r s.solid r_in;
        level = λ r q r_in q_in. level-on r last q (s.before r r_in).level (level-flip q last (s.before q q_in).level);
      };
      left = s.apart;
    })
    s.last_solid s.before

pub bars-level : (row : List Rect) (n : ℕ) (done : List Rect) (last : Rect) → AreBarsSoFar row n done last → AreAllLevel (done ++ last ∷ []) row
bars-level row n done last s r q r_in q_in =
    pushed-cases (λ t. AreLevel t q) done last (λ t t_in. level-on t last q (s.before t t_in).level (s.level q q_in)) (s.level q q_in) r r_in

pub bars-all : (row : List Rect) (n : ℕ) (done : List Rect) (last : Rect) → length row ≤ n → AreBarsSoFar row n done last → AreSlabsOf (Covers row) (done ++ last ∷ [])
bars-all row n done last all s =
    let whole : take n row ≡ row = take_all n row all in
    record {
      canonical = spaced-canonical (done ++ last ∷ []) (bars-spaced row n done last s);
      covers = λ p. (
        (λ c. (let h = (s.covers p).0 ((covers-pushed (Has last) done last (λ q. (λ g. g, λ g. g)) p).0 c) in rw whole at h)),
        λ c. (covers-pushed (Has last) done last (λ q. (λ g. g, λ g. g)) p).1 ((s.covers p).1 (rw whole c)),
      );
    }

-- slabs of rectangles within the bound lie within it
pub within-slabs : (bound : ℕ) (rs slabs : List Rect) → AreRectsWithin bound rs → AreSlabsOf (Covers rs) slabs → AreRectsWithin bound slabs
within-slabs bound rs slabs w s =
    slabs-within Either bound rs [] slabs w (rects-none bound)
    (slabs-of-same (Covers rs) (λ p. Holds Either (cells (pos 1) rs p) (cells (pos 1) [] p)) slabs (λ p. ((told-first rs p).1, (told-first rs p).0)) s)

-- each of the rectangles beside the first
pub row-from : (rs : List Rect) (first : Rect) → ((k : ℕ) → k < length rs → (d : Rect) → IsSolid (get_or rs k d) × AreLevel first (get_or rs k d)) → IsRow rs
row-from rs first h =
    record {
      solid = λ r (k, k_in, r_is). subst IsSolid r_is (h k k_in r).0;
      level = λ r s (k, k_in, r_is) (j, j_in, s_is).
          level-on r first s (level-flip first r (subst (AreLevel first) r_is (h k k_in r).1)) (subst (AreLevel first) s_is (h j j_in s).1);
    }

pub row-beside : (rs : List Rect) (i : ℕ) (a b : Rect) → 0 < length rs → i < length rs → IsRow rs → IsSolid (get_or rs i b) × AreLevel (get_or rs 0 a) (get_or rs i b)
row-beside rs i a b some i_in row = (
  row.solid (get_or rs i b) (Contains-get_or rs i b i_in),
  row.level (get_or rs 0 a) (get_or rs i b)
      (Contains-get_or rs 0 a some) (Contains-get_or rs i b i_in),
)

-- one more bar begins right of the one before it, and so of all others
pub rises-next : (row : List Rect) (m n : ℕ) (prev bar : Rect) → IsRow row → n ≡ m + 1 → n < length row → prev ≡ get_or row m prev
    → bar ≡ get_or row n bar → prev.x1 <ℤ bar.x0 → RisesTo row n → RisesTo row (n + 1)
rises-next row m n prev bar is n_is n_in prev_is bar_is right h j k d l k_less k_in = elim (cases_order k n) [
  | inl e ↦ (
      let m_in : m < length row = omega (arith, n_is, n_in) in
      let here : get_or row k d ≡ bar = ap (λ i. get_or row i d) e ∙ (get_or_default row n d bar n_in ∙ sym bar_is) in
      let there : get_or row m d ≡ prev = get_or_default row m d prev m_in ∙ sym prev_is in
      let solid = is.solid prev (m, m_in, sym prev_is) in
      let wide = solid.wide in
      elim (cases_order j m) [
        | inl same ↦ (let before : get_or row j d ≡ prev = ap (λ i. get_or row i d) same ∙ there in rw (here, before) right)
        | inr o ↦ elim o [
          | inl less ↦ (let a = rw there at (h j m d less (omega (arith, n_is)) m_in) in rw here (omega (arith, ints, a, wide, right)))
          | inr more ↦ absurd (omega (arith, more, l, e, n_is))
        ]
      ])
  | inr o ↦ elim o [
    | inl less ↦ h j k d l less k_in
    | inr more ↦ absurd (omega (arith, more, k_less))
  ]
]

-- bars that go by column are spaced
pub rises-spaced : (row : List Rect) (n : ℕ) → IsRow row → length row ≤ n → RisesTo row n → AreSpaced row
rises-spaced row n is all h = record {
  row = is;
  left = λ j k d l k_in. record {
    apart = h j k d l (omega (arith, all, k_in)) k_in;
    level = is.level (get_or row j d) (get_or row k d) (Contains-get_or row j d (omega (arith, l, k_in))) (Contains-get_or row k d k_in);
  };
}

-- and the slabs of their own squares
pub spaced-slabs : (bars : List Rect) → AreSpaced bars → AreSlabsOf (Covers bars) bars
spaced-slabs bars s = record { canonical = spaced-canonical bars s; covers = λ p. (λ c. c, λ c. c) }
