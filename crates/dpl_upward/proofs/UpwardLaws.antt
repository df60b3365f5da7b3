-- Rectangles less holes, swept from the lowest row up.
use Rattle.std.proofs.Common.{◌≡◌, ℕ, ◌+◌, ◌≤◌, ◌<◌, ◌⊎◌, inl, inr, List, [], length, get_or, set, take, refl, sym, ap, ◌∙◌, subst, arith}
use Rattle.std.specs.Prelude.{◌↔◌, ℤ, ◌≤ℤ◌, ◌<ℤ◌}
use Rattle.std.specs.Int.{int_max}
use Rattle.std.specs.List.{Contains}
use Rattle.std.proofs.lemmas.Bool.{cases_eq, cases_order}
use Rattle.std.proofs.lemmas.Int.{ints, by_lt_z}
use Rattle.std.proofs.lemmas.List.{get_or_default, get_or-set_same, get_or-set_other, length-set, take_all}
use Rattle.dpl_spec_split.specs.declared.Pt.{Pt}
use Rattle.dpl_spec_split.specs.declared.Rect.{Rect}
use Rattle.dpl_spec_split.specs.Squares.{Has, Covers}
use Rattle.dpl_spec_split.specs.Slabs.{AreSlabsOf, IsSolid}
use Rattle.dpl_spec_split.proofs.SlabLaws.{Covers-member, member-Covers}
use Rattle.dpl_upward.specs.Active.{FillBand, IsAcross, LeftsRise}
use Rattle.dpl_order.specs.Joins.{taller}
use Rattle.dpl_order.specs.Orders.{CornersRise}
use Rattle.dpl_order.specs.Pieces.{Continues}
use Rattle.dpl_upward.specs.Fronts.{piece_at, Adds, AreUpTo, IsPutAt}
use Rattle.dpl_upward.specs.Upward.{bar_in, columns_of, AddsBand, AddsWithout, ArePassed, ArePutUpTo, AreSweptTo, IsCutUpTo, IsWidened, Left}
use Rattle.dpl_upward.proofs.ActiveLaws.{covers-nothing, covers-step, first-lowest}
use Rattle.dpl_upward.proofs.FrontLaws.{zero}
use Rattle.dpl_order.proofs.PieceLaws.{Puts-push}

-- a piece anywhere in the list, made taller
module _ (old : List Rect) (n : ℕ) (slab piece : Rect) (n_in : n < length old) (slab_is : slab ≡ get_or old n slab) (c : Continues slab piece) where
  abbrev top : Rect
  top = taller slab piece.y1

  abbrev grown : List Rect
  grown = set old n (taller slab piece.y1)

  slab_at : (d : Rect) → get_or old n d ≡ slab
  slab_at d = get_or_default old n d slab n_in ∙ sym slab_is

  len : length grown ≡ length old
  len = length-set old n top

  at : (k : ℕ) (d : Rect) → ((k ≡ n) × (get_or grown k d ≡ top)) ⊎ ((k ≡ n → ⊥) × (get_or grown k d ≡ get_or old k d))
  at k d = elim (cases_eq k n) [
    | inl e ↦ inl (e, ap (λ i. get_or grown i d) e ∙ get_or-set_same old n top d n_in)
    | inr ne ↦ inr (ne, get_or-set_other old n k top d ne)
  ]

  has-top : (p : Pt) → Has top p ↔ (Has slab p ⊎ Has piece p)
  has-top p =
      let row = c.on.row in
      let left = c.on.left in
      let right = c.on.right in
      let low = c.low in
      let high = c.high in (
        λ has. (let a = has.left in let b = has.right in by_lt_z p.y slab.y1
            (λ l. inl (record { left = a; right = b; low = has.low; high = l }))
            (λ m. inr (record { left = omega (arith, ints, a, left); right = omega (arith, ints, b, right); low = omega (arith, ints, m, row); high = has.high }))),
        λ h. elim h [
          | inl has ↦ (let k = has.high in record { left = has.left; right = has.right; low = has.low; high = omega (arith, ints, k, row, high) })
          | inr has ↦ (let a = has.left in let b = has.right in let k = has.low in
              record { left = omega (arith, ints, a, left); right = omega (arith, ints, b, right); low = omega (arith, ints, k, row, low); high = has.high })
        ],
      )

  top_in : Contains grown top
  top_in = (n, omega (arith, len, n_in), get_or-set_same old n top top n_in)

  pub adds-grown : Adds piece old (set old n (taller slab piece.y1))
  adds-grown =
      record {
        covers = λ p. (
          (λ h. let (r, (k, k_in, r_is), has) = member-Covers grown p h in
              elim (at k r) [
                | inl e ↦ elim ((has-top p).0 (subst (λ t. Has t p) (sym r_is ∙ e.1) has)) [
                  | inl s ↦ inl (Covers-member old slab p (n, n_in, sym slab_is) s)
                  | inr s ↦ inr s
                ]
                | inr e ↦ inl (Covers-member old r p (k, omega (arith, len, k_in), sym e.1 ∙ r_is) has)
              ]),
          λ h. elim h [
            | inl o ↦ (let (r, (k, k_in, r_is), has) = member-Covers old p o in
                elim (at k r) [
                  | inl e ↦ Covers-member grown top p top_in ((has-top p).1 (inl (subst (λ t. Has t p) (sym r_is ∙ (ap (λ i. get_or old i r) e.0 ∙ slab_at r)) has)))
                  | inr e ↦ Covers-member grown r p (k, omega (arith, len, k_in), e.1 ∙ r_is) has
                ])
            | inr has ↦ Covers-member grown top p top_in ((has-top p).1 (inr has))
          ],
        );
      }

pub adds-put : (bar : Rect) (sought n : ℕ) (old new : List Rect) → IsPutAt bar sought n old new → Adds bar old new
adds-put bar sought n old new put = elim put [
  | inl (n_is, g) ↦ subst (λ xs. Adds bar old xs) (sym g.grown) (adds-grown old n (piece_at old n) bar g.within (get_or_default old n zero (piece_at old n) g.within) g.on)
  | inr a ↦ subst (λ xs. Adds bar old xs) (sym a.added) (record { covers = (Puts-push old bar).covers })
]

-- no gap lies between those passed and those ahead
free : (gaps : List Rect) (n : ℕ) (x to : ℤ) → ((k : ℕ) (d : Rect) → k < n → (get_or gaps k d).x1 ≤ℤ x)
    → ((k : ℕ) (d : Rect) → n ≤ k → k < length gaps → to ≤ℤ (get_or gaps k d).x0) → (p : Pt) → x ≤ℤ p.x → p.x <ℤ to → Covers gaps p → ⊥
free gaps n x to passed ahead p l m c =
    let (gap, (k, k_in, gap_is), has) = member-Covers gaps p c in
    let left = has.left in
    let right = has.right in
    let further : n ≤ k → ⊥ = λ h. (let a = subst (λ t. to ≤ℤ t.x0) gap_is (ahead k gap h k_in) in omega (arith, ints, a, left, m)) in
    elim (cases_order k n) [
      | inl e ↦ further (omega (arith, e))
      | inr o ↦ elim o [
        | inl less ↦ (let a = subst (λ t. t.x1 ≤ℤ x) gap_is (passed k gap less) in omega (arith, ints, a, right, l))
        | inr more ↦ further (omega (arith, more))
      ]
    ]

-- further right, in the same rows
pub passed-on : (bar next : Rect) (gaps : List Rect) (x y : ℤ) (count : ℕ) (reach : ℤ) → next.y0 ≡ bar.y0 → next.y1 ≡ bar.y1 → x ≤ℤ y
    → ArePassed bar gaps x count reach → ArePassed next gaps y count reach
passed-on bar next gaps x y count reach low high l a = record {
  within = a.within;
  ends = a.ends;
  taken = λ p m n o. a.taken p (omega (arith, ints, m, low)) (omega (arith, ints, n, high)) (omega (arith, ints, o, l));
}

pub passed-none : (bar : Rect) (gaps : List Rect) → ArePassed bar gaps bar.x0 0 bar.x0
passed-none bar gaps = record { within = omega arith; ends = λ k d k_in. absurd (omega (arith, k_in)); taken = λ p l m n o. absurd (omega (arith, ints, n, o)) }

-- without gaps
pub adds-whole : (bar : Rect) (gaps old new : List Rect) → length gaps ≤ 0 → Adds bar old new → AddsWithout bar gaps old new
adds-whole bar gaps old new none put = record {
  covers = λ p. (
    (λ h. elim ((put.covers p).0 h) [
      | inl o ↦ inl o
      | inr has ↦ inr (has, λ c. (let (r, (k, k_in, r_is), owns) = member-Covers gaps p c in absurd (omega (arith, k_in, none))))
    ]),
    λ h. elim h [ inl o ↦ (put.covers p).1 (inl o) | inr (has, not) ↦ (put.covers p).1 (inr has) ],
  );
}

module _ (bar : Rect) (gaps : List Rect) (solid : IsSolid bar) where
  pub cut-first : (count : ℕ) (reach x : ℤ) (old : List Rect) → ArePassed bar gaps bar.x0 count reach → bar.x0 ≤ℤ x → reach ≤ℤ x → (x ≡ bar.x0) ⊎ (x ≡ reach)
      → IsCutUpTo bar gaps count x old old
  cut-first count reach x old passed from past known = record {
    covers = λ p. (
      λ h. inl h,
      λ h. elim h [
        | inl o ↦ o
        | inr (has, l, none) ↦ absurd (let left = has.left in elim known [
          | inl e ↦ omega (arith, ints, e, left, l)
          | inr e ↦ none (passed.taken p has.low has.high left (omega (arith, ints, e, l)))
        ])
      ],
    );
    from = from;
    passed = record {
      within = passed.within;
      ends = λ k d k_in. (let e = passed.ends k d k_in in omega (arith, ints, e, past));
      taken = λ p l m n o. (let wide = solid.wide in elim known [
        | inl e ↦ absurd (omega (arith, ints, e, n, o, wide))
        | inr e ↦ passed.taken p l m (omega (arith, ints, n, wide)) (omega (arith, ints, o, e))
      ]);
    };
  }

  module _ (n : ℕ) (x : ℤ) (old mid : List Rect) (s : IsCutUpTo bar gaps n x old mid) where
    module _ (rise : LeftsRise gaps) (across : (r : Rect) → Contains gaps r → IsAcross bar.y0 bar.y1 r) (gap : Rect)
        (n_in : n < length gaps) (gap_is : gap ≡ get_or gaps n gap) (left : gap.x0 <ℤ bar.x1) where
      own : IsAcross bar.y0 bar.y1 gap
      own = across gap (n, n_in, sym gap_is)

      here : (d : Rect) → get_or gaps n d ≡ gap
      here d = get_or_default gaps n d gap n_in ∙ sym gap_is

      has-gap : (p : Pt) → bar.y0 ≤ℤ p.y → p.y <ℤ bar.y1 → gap.x0 ≤ℤ p.x → p.x <ℤ gap.x1 → Covers gaps p
      has-gap p l m a b = let from = own.from in let to = own.to in
          Covers-member gaps gap p (n, n_in, sym gap_is) (record { left = a; right = b; low = omega (arith, ints, from, l); high = omega (arith, ints, to, m) })

      none : (p : Pt) → x ≤ℤ p.x → p.x <ℤ gap.x0 → Covers gaps p → ⊥
      none = free gaps n x gap.x0 s.passed.ends (λ k d l k_in. subst (λ t. t.x0 ≤ℤ (get_or gaps k d).x0) (here d) (rise n k d l k_in))

      pub cut-next : (next : ℤ) (new : List Rect) → Adds (columns_of bar x gap.x0) mid new → x ≤ℤ next → gap.x1 ≤ℤ next → (next ≡ x) ⊎ (next ≡ gap.x1)
          → IsCutUpTo bar gaps (n + 1) next old new
      cut-next next new put over past known =
          let wide = own.wide in
          let from = s.from in
          record {
            covers = λ p. (
              (λ h. elim ((put.covers p).0 h) [
                | inl c ↦ elim ((s.covers p).0 c) [ inl o ↦ inl o | inr (has, l, not) ↦ inr (has, omega (arith, ints, l, over), not) ]
                | inr has ↦ (let a = has.left in let b = has.right in inr (
                  record { left = omega (arith, ints, a, from); right = omega (arith, ints, b, left); low = has.low; high = has.high },
                  omega (arith, ints, b, wide, past),
                  none p a b,
                ))
              ]),
              λ h. elim h [
                | inl o ↦ (put.covers p).1 (inl ((s.covers p).1 (inl o)))
                | inr (has, l, not) ↦ by_lt_z p.x x
                    (λ k. (put.covers p).1 (inl ((s.covers p).1 (inr (has, k, not)))))
                    (λ k. by_lt_z p.x gap.x0
                    (λ m. (put.covers p).1 (inr (record { left = k; right = m; low = has.low; high = has.high })))
                    (λ m. absurd (elim known [
                      | inl e ↦ omega (arith, ints, e, k, l)
                      | inr e ↦ not (has-gap p has.low has.high m (omega (arith, ints, e, l)))
                    ])))
              ],
            );
            from = omega (arith, ints, from, over);
            passed = record {
              within = omega (arith, n_in);
              ends = λ k d k_in. elim (cases_eq k n) [
                | inl e ↦ subst (λ t. t.x1 ≤ℤ next) (sym (ap (λ i. get_or gaps i d) e ∙ here d)) past
                | inr ne ↦ (let e = s.passed.ends k d (omega (arith, k_in, ne)) in omega (arith, ints, e, over))
              ];
              taken = λ p l m a b. by_lt_z p.x x (λ k. s.passed.taken p l m a k) (λ k. elim known [
                | inl e ↦ absurd (omega (arith, ints, e, k, b))
                | inr e ↦ has-gap p l m (omega (arith, ints, left, a)) (omega (arith, ints, e, b))
              ]);
            };
          }

    pub cut-last : (new : List Rect) → ((k : ℕ) (d : Rect) → n ≤ k → k < length gaps → bar.x1 ≤ℤ (get_or gaps k d).x0) → Adds (columns_of bar x bar.x1) mid new → AddsWithout bar gaps old new
    cut-last new ahead put =
        let from = s.from in
        record {
          covers = λ p. (
            (λ h. elim ((put.covers p).0 h) [
              | inl c ↦ elim ((s.covers p).0 c) [ inl o ↦ inl o | inr (has, l, not) ↦ inr (has, not) ]
              | inr has ↦ (let a = has.left in inr (
                record { left = omega (arith, ints, a, from); right = has.right; low = has.low; high = has.high },
                free gaps n x bar.x1 s.passed.ends ahead p a has.right,
              ))
            ]),
            λ h. elim h [
              | inl o ↦ (put.covers p).1 (inl ((s.covers p).1 (inl o)))
              | inr (has, not) ↦ by_lt_z p.x x
                  (λ k. (put.covers p).1 (inl ((s.covers p).1 (inr (has, k, not)))))
                  (λ k. (put.covers p).1 (inr (record { left = k; right = has.right; low = has.low; high = has.high })))
            ],
          );
        }

module _ (low high : ℤ) (active gaps : List Rect) (order : low <ℤ high) where
  pub put-none : (old : List Rect) → active ≡ [] → AddsBand low high active gaps old old
  put-none old none =
      record {
        covers = λ p. (λ h. inl h, λ h. elim h [ inl o ↦ o | inr (l, m, (t, not)) ↦ covers-nothing p (subst (λ xs. Covers xs p) none t) ]);
      }

  module _ (rise : LeftsRise active) (across : (r : Rect) → Contains active r → IsAcross low high r) where
    has-bar : (r : Rect) (p : Pt) → IsAcross low high r → Has (bar_in low high r) p ↔ ((low ≤ℤ p.y) × (p.y <ℤ high) × Has r p)
    has-bar r p a =
        let from = a.from in
        let to = a.to in (
          λ has. (let l = has.low in let h = has.high in (
            l,
            h,
            record {
              left = has.left;
              right = has.right;
              low = omega (arith, ints, l, from);
              high = omega (arith, ints, h, to);
            },
          )),
          λ (l, h, has). record { left = has.left; right = has.right; low = l; high = h },
        )

    right-of : (n : ℕ) (r : Rect) → n < length active → r ≡ get_or active n r → (k : ℕ) (d : Rect) → n ≤ k → k < length active → r.x0 ≤ℤ (get_or active k d).x0
    right-of n r n_in r_is k d l k_in = rw (get_or_default active n d r n_in ∙ sym r_is) at (rise n k d l k_in)

    pub put-first : (old : List Rect) (r : Rect) → 0 < length active → r ≡ get_or active 0 r → ArePutUpTo low high active gaps 1 old old (bar_in low high r)
    put-first old r some r_is =
        let a = across r (0, some, sym r_is) in
        record {
          wide = a.wide;
          first = refl;
          last = refl;
          covers = λ p. (
            (λ h. elim h [
              | inl o ↦ inl o
              | inr (has, not) ↦ (let (l, m, own-bar) = (has-bar r p a).0 has in inr (l, m, ((covers-step active 0 r some r_is p).1 (inr own-bar), not)))
            ]),
            λ h. elim h [
              | inl o ↦ inl o
              | inr (l, m, (t, not)) ↦ inr ((has-bar r p a).1 (l, m, elim ((covers-step active 0 r some r_is p).0 t) [ inl none ↦ covers-nothing p none | inr own-bar ↦ own-bar ]), not)
            ],
          );
          left = λ k d l k_in. right-of 0 r some r_is k d (omega (arith, l)) k_in;
        }

    module _ (n : ℕ) (old mid : List Rect) (bar : Rect) (s : ArePutUpTo low high active gaps n old mid bar) where
      pub bar_solid : IsSolid bar
      bar_solid = let f = s.first in let g = s.last in record { wide = s.wide; tall = omega (arith, ints, f, g, order) }

      pub bar-across : ((r : Rect) → Contains gaps r → IsAcross low high r) → (r : Rect) → Contains gaps r → IsAcross bar.y0 bar.y1 r
      bar-across f r r_in = let a = f r r_in in let from = a.from in let to = a.to in let first = s.first in let last = s.last in
          record { wide = a.wide; from = omega (arith, ints, from, first); to = omega (arith, ints, to, last) }

      pub put-all : (new : List Rect) → length active ≤ n → AddsWithout bar gaps mid new → AddsBand low high active gaps old new
      put-all new all put =
          let whole : take n active ≡ active = take_all n active all in
          record {
            covers = λ p. (
              (λ h. subst (λ xs. Covers old p ⊎ ((low ≤ℤ p.y) × (p.y <ℤ high) × Left xs gaps p)) whole ((s.covers p).0 ((put.covers p).0 h))),
              λ h. (put.covers p).1 ((s.covers p).1 (subst (λ xs. Covers old p ⊎ ((low ≤ℤ p.y) × (p.y <ℤ high) × Left xs gaps p)) (sym whole) h)),
            );
          }

      module _ (r : Rect) (n_in : n < length active) (r_is : r ≡ get_or active n r) where
        own-bar : IsAcross low high r
        own-bar = across r (n, n_in, sym r_is)

        covers-more : (new : List Rect) (next : Rect)
            → ((p : Pt) → (Covers new p ⊎ (Has next p × ¬ Covers gaps p)) ↔ ((Covers mid p ⊎ (Has bar p × ¬ Covers gaps p)) ⊎ ((low ≤ℤ p.y) × (p.y <ℤ high) × Has r p × ¬ Covers gaps p)))
            → (p : Pt) → (Covers new p ⊎ (Has next p × ¬ Covers gaps p)) ↔ (Covers old p ⊎ ((low ≤ℤ p.y) × (p.y <ℤ high) × Left (take (n + 1) active) gaps p))
        covers-more new next f p = (
          λ h. elim ((f p).0 h) [
            | inl a ↦ elim ((s.covers p).0 a) [ inl o ↦ inl o | inr (l, m, (t, not)) ↦ inr (l, m, ((covers-step active n r n_in r_is p).1 (inl t), not)) ]
            | inr (l, m, has, not) ↦ inr (l, m, ((covers-step active n r n_in r_is p).1 (inr has), not))
          ],
          λ h. elim h [
            | inl o ↦ (f p).1 (inl ((s.covers p).1 (inl o)))
            | inr (l, m, (t, not)) ↦ elim ((covers-step active n r n_in r_is p).0 t) [
              | inl b ↦ (f p).1 (inl ((s.covers p).1 (inr (l, m, (b, not)))))
              | inr has ↦ (f p).1 (inr (l, m, has, not))
            ]
          ],
        )

        pub put-next : (new : List Rect) → AddsWithout bar gaps mid new → ArePutUpTo low high active gaps (n + 1) old new (bar_in low high r)
        put-next new put =
            record {
              wide = own-bar.wide;
              first = refl;
              last = refl;
              covers = covers-more new (bar_in low high r) (λ p. (
                (λ h. elim h [ inl c ↦ inl ((put.covers p).0 c) | inr (has, not) ↦ (let (l, m, k) = (has-bar r p own-bar).0 has in inr (l, m, k, not)) ]),
                λ h. elim h [ inl c ↦ inl ((put.covers p).1 c) | inr (l, m, has, not) ↦ inr ((has-bar r p own-bar).1 (l, m, has), not) ],
              ));
              left = λ k d l k_in. right-of n r n_in r_is k d (omega (arith, l)) k_in;
            }

        pub put-wider : (next : Rect) → IsWidened bar r next → r.x0 ≤ℤ bar.x1 → ArePutUpTo low high active gaps (n + 1) old mid next
        put-wider next w meets =
            let left = w.left in
            let over = w.over in
            let past = w.past in
            let wide = s.wide in
            let y0 = w.low in
            let y1 = w.high in
            let first = s.first in
            let last = s.last in
            let from = own-bar.from in
            let to = own-bar.to in
            let start = rw (get_or_default active n r r n_in ∙ sym r_is) at (s.left n r (omega arith) n_in) in
            record {
              wide = omega (arith, ints, left, over, wide);
              first = y0 ∙ first;
              last = y1 ∙ last;
              covers = covers-more mid next (λ p. (
                (λ h. elim h [
                  | inl c ↦ inl (inl c)
                  | inr (has, not) ↦ (let a = has.left in let b = has.right in let e = has.low in let g = has.high in
                      by_lt_z p.x bar.x1
                      (λ k. inl (inr (record { left = omega (arith, ints, a, left); right = k; low = omega (arith, ints, e, y0); high = omega (arith, ints, g, y1) }, not)))
                      (λ k. inr (
                        omega (arith, ints, e, y0, first),
                        omega (arith, ints, g, y1, last),
                        record {
                          left = omega (arith, ints, k, meets);
                          right = elim w.known [ inl z ↦ absurd (omega (arith, ints, z, b, k)) | inr z ↦ omega (arith, ints, z, b) ];
                          low = omega (arith, ints, e, y0, first, from);
                          high = omega (arith, ints, g, y1, last, to);
                        },
                        not,
                      )))
                ]),
                λ h. elim h [
                  | inl c ↦ elim c [
                    | inl o ↦ inl o
                    | inr (has, not) ↦ (let a = has.left in let b = has.right in let e = has.low in let g = has.high in
                        inr (record { left = omega (arith, ints, a, left); right = omega (arith, ints, b, over); low = omega (arith, ints, e, y0); high = omega (arith, ints, g, y1) }, not))
                  ]
                  | inr (l, m, has, not) ↦ (let a = has.left in let b = has.right in
                      inr (
                        record {
                          left = omega (arith, ints, a, left, start);
                          right = omega (arith, ints, b, past);
                          low = omega (arith, ints, l, y0, first);
                          high = omega (arith, ints, m, y1, last);
                        },
                        not,
                      ))
                ],
              ));
              left = λ k d l k_in. (let a = s.left k d (omega (arith, l)) k_in in omega (arith, ints, a, left));
            }

-- pieces up to the row have no squares above it
no-row : (row : ℤ) (pieces : List Rect) (here : List ℕ) (p : Pt) → AreUpTo row pieces here → row ≤ℤ p.y → Covers pieces p → ⊥
no-row row pieces here p u l c =
    let (r, (k, k_in, r_is), has) = member-Covers pieces p c in
    let e = subst (λ t. let a : Rect = t in a.y1 ≤ℤ row) (get_or_default pieces k zero r k_in ∙ r_is) (u.ends k k_in) in
    let h = has.high in
    omega (arith, ints, h, e, l)

pub swept-first : (rects holes : List Rect) (first : Rect) → 0 < length rects → first ≡ get_or rects 0 first → CornersRise rects → AreSweptTo first.y0 rects holes []
swept-first rects holes first some first_is rise p l = (
  λ c. covers-nothing p c,
  λ (c, not). (let (r, r_in, has) = member-Covers rects p c in
      let a = first-lowest rects first r some first_is rise r_in in let b = has.low in absurd (omega (arith, ints, a, b, l))),
)

module _ (row : ℤ) (rects holes pieces : List Rect) (here : List ℕ) (s : AreSweptTo row rects holes pieces) (u : AreUpTo row pieces here) where
  pub swept-all : (top : ℤ) → top ≤ℤ row → ((r : Rect) → Contains rects r → r.y1 ≤ℤ top) → AreSlabsOf (Left rects holes) pieces
  swept-all top l ends = record {
    canonical = u.canonical;
    covers = λ p. by_lt_z p.y row (λ below. s p below) (λ m. (
      λ c. absurd (no-row row pieces here p u m c),
      λ (c, not). (let (r, r_in, has) = member-Covers rects p c in let e = ends r r_in in let h = has.high in absurd (omega (arith, ints, e, h, m, l))),
    ));
  }

  pub swept-next : (high : ℤ) (active gaps new : List Rect) → FillBand row high rects active → FillBand row high holes gaps
      → AddsBand row high active gaps pieces new → AreSweptTo high rects holes new
  swept-next high active gaps new bars f b p below = (
    (λ h. elim ((b.covers p).0 h) [
      | inl c ↦ by_lt_z p.y row (λ l. (s p l).0 c) (λ l. absurd (no-row row pieces here p u l c))
      | inr (l, m, (c, not)) ↦ ((bars.covers p l m).0 c, λ g. not ((f.covers p l m).1 g))
    ]),
    λ (c, not). by_lt_z p.y row
        (λ l. (b.covers p).1 (inl ((s p l).1 (c, not))))
        (λ l. (b.covers p).1 (inr (l, below, ((bars.covers p l below).1 c, λ g. not ((f.covers p l below).0 g))))),
  )

-- where there are no holes
pub slabs-whole : (rects slabs : List Rect) → AreSlabsOf (Left rects []) slabs → AreSlabsOf (Covers rects) slabs
slabs-whole rects slabs s = record {
  canonical = s.canonical;
  covers = λ p. (λ h. ((s.covers p).0 h).0, λ c. (s.covers p).1 (c, λ h. covers-nothing p h));
}

-- the greater of two is one of them
pub max-known : (a b m : ℤ) → m ≡ int_max a b → (m ≡ a) ⊎ (m ≡ b)
max-known a b m e = grind (arith, ints, e)
