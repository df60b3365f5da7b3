-- The pieces of a sweep from the lowest row up: canonical slabs, at any time.
use Rattle.std.proofs.Common.{◌≡◌, ℕ, ◌+◌, ◌≤◌, ◌<◌, ◌⊎◌, inl, inr, List, [], ◌∷◌, ◌++◌, length, get_or, set, sym, ap, ◌∙◌, subst, arith, length-append}
use Rattle.std.specs.Prelude.{ℤ, pos, ◌≤ℤ◌, ◌<ℤ◌}
use Rattle.std.specs.List.{Contains}
use Rattle.std.proofs.lemmas.Bool.{cases_eq, cases_order}
use Rattle.std.proofs.lemmas.Int.{ints, by_lt_z}
use Rattle.std.proofs.lemmas.List.{get_or_append_left, get_or_default, get_or-set_same, get_or-set_other, length-set}
use Rattle.std.proofs.lemmas.List.Elements.{Contains-append_left, Contains-push, All-push}
use Rattle.std.proofs.lemmas.List.Quantifiers.{all_pairs_push}
use Rattle.std.proofs.Math.Seq.{get_or-append_seam}
use Rattle.dpl_spec_split.specs.declared.Rect.{Rect}
use Rattle.dpl_spec_split.specs.Slabs.{Follows, IsCanonical, IsSolid}
use Rattle.dpl_upward.specs.Fronts.{piece_at, AreListed, AreUpTo, ArePassedBy, IsFrontOf, IsSought, IsAdded, IsPutAt}
use Rattle.dpl_order.specs.Joins.{taller}
use Rattle.dpl_order.specs.Pieces.{Continues}

abbrev pub zero : Rect
zero = record { x0 = pos 0; y0 = pos 0; x1 = pos 0; y1 = pos 0 }

-- a bar was put: piece number n ends with it now, and the other pieces are as before
record IsStep (bar : Rect) (n : ℕ) (old new : List Rect) : Type 0 where
  pub more : length old ≤ length new
  pub within : n < length new
  pub left : (piece_at new n).x0 ≡ bar.x0
  pub right : (piece_at new n).x1 ≡ bar.x1
  pub top : (piece_at new n).y1 ≡ bar.y1
  pub foot : (piece_at new n).y0 ≤ℤ bar.y0
  pub columns : (k : ℕ) → k < length old → (piece_at new k).x0 ≡ (piece_at old k).x0
  pub others : (k : ℕ) → k < length new → (k ≡ n → ⊥) → (k < length old) × (piece_at new k ≡ piece_at old k)
  pub canonical : IsCanonical new

-- one number more
number-at : (xs : List ℕ) (n i : ℕ) → i < length (xs ++ n ∷ [])
    → ((i < length xs) × (get_or (xs ++ n ∷ []) i 0 ≡ get_or xs i 0)) ⊎ ((i ≡ length xs) × (get_or (xs ++ n ∷ []) i 0 ≡ n))
number-at xs n i i_in =
    let len = length-append xs (n ∷ []) in
    elim (cases_eq i (length xs)) [
      | inl e ↦ inr (e, ap (λ k. get_or (xs ++ n ∷ []) k 0) e ∙ get_or-append_seam xs n [] 0)
      | inr ne ↦ (let l : i < length xs = omega (arith, i_in, len, ne) in inl (l, get_or_append_left xs (n ∷ []) 0 i l))
    ]

module _ (bar : Rect) (old : List Rect) (below : List ℕ) (from : ℕ) (here : List ℕ) (s : IsFrontOf bar.y0 bar.y1 bar.x0 old below from here) (solid : IsSolid bar) where
  solid-at : (k : ℕ) → k < length old → IsSolid (piece_at old k)
  solid-at k k_in = s.here.canonical.solid k zero k_in

  -- a piece that has the band's first row lies left of the bar
  left-of : (k : ℕ) → k < length old → bar.y0 <ℤ (piece_at old k).y1 → (piece_at old k).x0 <ℤ bar.x0
  left-of k k_in l = let a = s.left k k_in l in let w = (solid-at k k_in).wide in omega (arith, ints, a, w)

  module _ (n : ℕ) (new : List Rect) (t : IsStep bar n old new) where
    inside : (k : ℕ) → k < length old → k < length new
    inside k k_in = let m = t.more in omega (arith, k_in, m)

    -- what holds of piece n, and of each other piece as it was
    each : (P : Rect → Type 0) → P (piece_at new n) → (k : ℕ) → k < length new → (k < length old → P (piece_at old k)) → P (piece_at new k)
    each P own k k_in other = elim (cases_eq k n) [
      | inl e ↦ subst (λ i. P (piece_at new i)) (sym e) own
      | inr ne ↦ (let o = t.others k k_in ne in subst P (sym o.1) (other o.0))
    ]

    reach-next : (row : ℤ) → row ≤ℤ bar.y1 → (k : ℕ) → k < length old → row ≤ℤ (piece_at old k).y1 → row ≤ℤ (piece_at new k).y1
    reach-next row l k k_in m = each (λ r. row ≤ℤ r.y1) (let e = t.top in omega (arith, ints, e, l)) k (inside k k_in) (λ o. m)

    below-next : AreListed bar.y0 new below
    below-next = record {
      within = λ i i_in. inside (get_or below i 0) (s.below.within i i_in);
      reach = λ i i_in. reach-next bar.y0 (let w = solid.tall in omega (arith, ints, w)) (get_or below i 0) (s.below.within i i_in) (s.below.reach i i_in);
      rise = λ i j l j_in.
          (let a = t.columns (get_or below i 0) (s.below.within i (omega (arith, l, j_in))) in
          let b = t.columns (get_or below j 0) (s.below.within j j_in) in
          let r = s.below.rise i j l j_in in
          omega (arith, ints, a, b, r));
      all = λ k k_in ends. elim (cases_eq k n) [
        | inl e ↦ absurd (let top = t.top in let own = subst (λ i. (piece_at new i).y1 ≡ bar.y0) e ends in let w = solid.tall in omega (arith, ints, top, own, w))
        | inr ne ↦ (let o = t.others k k_in ne in s.below.all k o.0 (subst (λ r. let u : Rect = r in u.y1 ≡ bar.y0) o.1 ends))
      ];
    }

    here-next : AreListed bar.y1 new (here ++ n ∷ [])
    here-next =
        let was = s.here.listed in
        record {
          within = λ i i_in. elim (number-at here n i i_in) [
            | inl w ↦ subst (λ k. k < length new) (sym w.1) (inside (get_or here i 0) (was.within i w.0))
            | inr w ↦ subst (λ k. k < length new) (sym w.1) t.within
          ];
          reach = λ i i_in. elim (number-at here n i i_in) [
            | inl w ↦ subst (λ k. bar.y1 ≤ℤ (piece_at new k).y1) (sym w.1)
                (reach-next bar.y1 (omega (arith, ints)) (get_or here i 0) (was.within i w.0) (was.reach i w.0))
            | inr w ↦ subst (λ k. bar.y1 ≤ℤ (piece_at new k).y1) (sym w.1) (let e = t.top in omega (arith, ints, e))
          ];
          rise = λ i j l j_in. elim (number-at here n j j_in) [
            | inl w ↦ (let i_in : i < length here = (let h = w.0 in omega (arith, l, h)) in
                let i_is = get_or_append_left here (n ∷ []) 0 i i_in in
                let a = t.columns (get_or here i 0) (was.within i i_in) in
                let b = t.columns (get_or here j 0) (was.within j w.0) in
                let r = was.rise i j l w.0 in
                rw (i_is, w.1) (omega (arith, ints, a, b, r)))
            | inr w ↦ (let i_in : i < length here = (let h = w.0 in omega (arith, l, h)) in
                let i_is = get_or_append_left here (n ∷ []) 0 i i_in in
                let a = t.columns (get_or here i 0) (was.within i i_in) in
                let b = t.left in
                let e = was.reach i i_in in
                let tall = solid.tall in
                let r = left-of (get_or here i 0) (was.within i i_in) (omega (arith, ints, e, tall)) in
                rw (i_is, w.1) (omega (arith, ints, a, b, r)))
          ];
          all = λ k k_in ends. elim (cases_eq k n) [
            | inl e ↦ subst (λ i. Contains (here ++ n ∷ []) i) (sym e) (Contains-push here n)
            | inr ne ↦ (let o = t.others k k_in ne in
                Contains-append_left here (n ∷ []) k (was.all k o.0 (subst (λ r. let u : Rect = r in u.y1 ≡ bar.y1) o.1 ends)))
          ];
        }

    front-next : (x : ℤ) → bar.x1 <ℤ x → (to : ℕ) → ArePassedBy bar.x0 old below to → IsFrontOf bar.y0 bar.y1 x new below to (here ++ n ∷ [])
    front-next x past to passed =
        let wide = solid.wide in
        let right = t.right in
        record {
          here = record {
            canonical = t.canonical;
            ends = λ k k_in. each (λ r. r.y1 ≤ℤ bar.y1) (let e = t.top in omega (arith, ints, e)) k k_in (λ o. s.here.ends k o);
            listed = here-next;
          };
          below = below-next;
          first = λ k k_in. each (λ r. r.y0 ≤ℤ bar.y0) t.foot k k_in (λ o. s.first k o);
          left = λ k k_in. each (λ r. bar.y0 <ℤ r.y1 → r.x1 <ℤ x) (λ l. omega (arith, ints, right, past)) k k_in
              (λ o l. (let a = s.left k o l in omega (arith, ints, a, wide, past)));
          passed = λ i l i_in. (let a = t.columns (get_or below i 0) (s.below.within i i_in) in let b = passed i l i_in in omega (arith, ints, a, b, wide, past));
        }

  -- the bar as a new piece
  follows-bar : (sought : ℕ) → IsSought bar.x0 old below sought → (sought < length old → Continues (piece_at old sought) bar → ⊥)
      → (k : ℕ) → k < length old → Follows (piece_at old k) bar
  follows-bar sought found off k k_in =
      let first = s.first k k_in in
      let own = solid-at k k_in in
      let tall = own.tall in
      record {
        before = by_lt_z (piece_at old k).y0 bar.y0 (λ l. inl l)
            (λ l. (let a = left-of k k_in (omega (arith, ints, l, tall)) in inr (omega (arith, ints, l, first), a)));
        apart = λ share. inl (s.left k k_in share.1);
        separate = λ on. (let (i, i_in, is) = s.below.all k k_in (sym on.row) in
            let i_is : get_or below i 0 ≡ k = get_or_default below i 0 k i_in ∙ is in
            let at = subst (λ j. (piece_at old j).x0 ≡ bar.x0) (sym i_is) (sym on.left) in
            let same : k ≡ sought = sym i_is ∙ found i i_in at in
            let c : Continues (piece_at old k) bar = record { on = on; low = tall; high = solid.tall } in
            off (subst (λ j. j < length old) same k_in) (subst (λ j. Continues (piece_at old j) bar) same c));
      }

  step-added : (sought n : ℕ) (new : List Rect) → IsSought bar.x0 old below sought → IsAdded bar sought n old new → IsStep bar n old new
  step-added sought n new found a =
      let len = length-append old (bar ∷ []) in
      let canonical = s.here.canonical in
      let last : piece_at (old ++ bar ∷ []) n ≡ bar = ap (piece_at (old ++ bar ∷ [])) a.last ∙ get_or-append_seam old bar [] zero in
      let n_is = a.last in
      let follow = all_pairs_push Follows old bar canonical.follow (λ k d k_in. rw (get_or_default old k d zero k_in) (follows-bar sought found a.off k k_in)) in
      subst (λ xs. IsStep bar n old xs) (sym a.added) (record {
        more = omega (arith, len);
        within = omega (arith, len, n_is);
        left = ap (λ r. let u : Rect = r in u.x0) last;
        right = ap (λ r. let u : Rect = r in u.x1) last;
        top = ap (λ r. let u : Rect = r in u.y1) last;
        foot = subst (λ r. let u : Rect = r in u.y0 ≤ℤ bar.y0) (sym last) (omega (arith, ints));
        columns = λ k k_in. ap (λ r. let u : Rect = r in u.x0) (get_or_append_left old (bar ∷ []) zero k k_in);
        others = λ k k_in ne. (let l : k < length old = omega (arith, k_in, len, n_is, ne) in (l, get_or_append_left old (bar ∷ []) zero k l));
        canonical = record { solid = All-push IsSolid old bar canonical.solid solid; follow = follow };
      })

  -- the piece of number n, grown over the bar
  module _ (n : ℕ) (n_in : n < length old) (c : Continues (piece_at old n) bar) where
    abbrev slab : Rect
    slab = piece_at old n

    abbrev top : Rect
    top = taller slab bar.y1

    -- the piece goes by the same corner, and what shares a row with it now and not before has a row of the band
    follows-top : (k : ℕ) → k < length old → Follows slab (piece_at old k) → Follows top (piece_at old k)
    follows-top k k_in f =
        let own = solid-at k k_in in
        let first = s.first k k_in in
        let tall = solid.tall in
        let left = c.on.left in
        record {
          before = f.before;
          apart = λ share. by_lt_z bar.y0 (piece_at old k).y1
              (λ l. (let a = s.left k k_in l in inr (omega (arith, ints, a, left))))
              (λ l. f.apart (share.0, (let t = own.tall in let row = c.on.row in omega (arith, ints, l, t, row))));
          separate = λ on. (let row = on.row in omega (arith, ints, row, first, tall));
        }

    top-follows : (k : ℕ) → k < length old → Follows (piece_at old k) slab → Follows (piece_at old k) top
    top-follows k k_in f =
        let left = c.on.left in
        record {
          before = f.before;
          apart = λ share. by_lt_z bar.y0 (piece_at old k).y1
              (λ l. (let a = s.left k k_in l in inl (omega (arith, ints, a, left))))
              (λ l. f.apart ((let t = (solid-at k k_in).tall in let row = c.on.row in omega (arith, ints, l, t, row)), share.1));
          separate = λ on. f.separate (record { row = on.row; left = on.left; right = on.right });
        }

    at-top : piece_at (set old n top) n ≡ top
    at-top = get_or-set_same old n top zero n_in

    at-other : (k : ℕ) → (k ≡ n → ⊥) → piece_at (set old n top) k ≡ piece_at old k
    at-other k ne = get_or-set_other old n k top zero ne

    len : length (set old n top) ≡ length old
    len = length-set old n top

    follow-pair : (i j : ℕ) → i < j → j < length old → Follows (piece_at (set old n top) i) (piece_at (set old n top) j)
    follow-pair i j l j_in =
        let i_in : i < length old = omega (arith, l, j_in) in
        let f = s.here.canonical.follow i j zero l j_in in
        elim (cases_eq i n) [
          | inl e ↦ (let ne : j ≡ n → ⊥ = λ g. omega (arith, e, g, l) in
              let own = subst (λ k. Follows (piece_at old k) (piece_at old j)) e f in
              rw (ap (piece_at (set old n top)) e ∙ at-top, at-other j ne) (follows-top j j_in own))
          | inr ne ↦ elim (cases_eq j n) [
            | inl e ↦ (let own = subst (λ k. Follows (piece_at old i) (piece_at old k)) e f in
                rw (at-other i ne, ap (piece_at (set old n top)) e ∙ at-top) (top-follows i i_in own))
            | inr nf ↦ rw (at-other i ne, at-other j nf) f
          ]
        ]

    step-top : IsStep bar n old (set old n top)
    step-top =
        let left = c.on.left in
        let right = c.on.right in
        let row = c.on.row in
        let low = c.low in
        let tall = solid.tall in
        let own = solid-at n n_in in
        let in-old : (k : ℕ) → k < length (set old n top) → k < length old = λ k k_in. omega (arith, k_in, len) in
        record {
          more = omega (arith, len);
          within = omega (arith, len, n_in);
          left = ap (λ r. let u : Rect = r in u.x0) at-top ∙ sym left;
          right = ap (λ r. let u : Rect = r in u.x1) at-top ∙ sym right;
          top = ap (λ r. let u : Rect = r in u.y1) at-top;
          foot = subst (λ r. let u : Rect = r in u.y0 ≤ℤ bar.y0) (sym at-top) (omega (arith, ints, low, row));
          columns = λ k k_in. elim (cases_eq k n) [
            | inl e ↦ subst (λ i. (piece_at (set old n top) i).x0 ≡ (piece_at old i).x0) (sym e) (ap (λ r. let u : Rect = r in u.x0) at-top)
            | inr ne ↦ ap (λ r. let u : Rect = r in u.x0) (at-other k ne)
          ];
          others = λ k k_in ne. (in-old k k_in, at-other k ne);
          canonical = record {
            solid = λ k d k_in. rw (get_or_default (set old n top) k d zero k_in) (elim (cases_eq k n) [
              | inl e ↦ subst (λ i. IsSolid (piece_at (set old n top) i)) (sym e)
                  (subst IsSolid (sym at-top) (record { wide = own.wide; tall = omega (arith, ints, low, row, tall) }))
              | inr ne ↦ subst IsSolid (sym (at-other k ne)) (solid-at k (in-old k k_in))
            ]);
            follow = λ i j d l j_in.
                (let i_in : i < length (set old n top) = omega (arith, l, j_in) in
                rw (get_or_default (set old n top) i d zero i_in, get_or_default (set old n top) j d zero j_in) (follow-pair i j l (in-old j j_in)));
          };
        }

  -- the bar is put
  pub front-put : (sought n : ℕ) (new : List Rect) → IsSought bar.x0 old below sought → IsPutAt bar sought n old new → (to : ℕ) → ArePassedBy bar.x0 old below to
      → (x : ℤ) → bar.x1 <ℤ x → IsFrontOf bar.y0 bar.y1 x new below to (here ++ n ∷ [])
  front-put sought n new found put to passed x past = elim put [
    | inl (n_is, g) ↦ front-next n new (subst (λ xs. IsStep bar n old xs) (sym g.grown) (step-top n g.within g.on)) x past to passed
    | inr a ↦ front-next n new (step-added sought n new found a) x past to passed
  ]

module _ (low high : ℤ) (pieces : List Rect) where
  pub front-wider : (x z : ℤ) (below : List ℕ) (passed : ℕ) (here : List ℕ) → x ≤ℤ z → IsFrontOf low high x pieces below passed here → IsFrontOf low high z pieces below passed here
  front-wider x z below passed here l s = record {
    here = s.here;
    below = s.below;
    first = s.first;
    left = λ n n_in m. (let a = s.left n n_in m in omega (arith, ints, a, l));
    passed = λ i m i_in. (let a = s.passed i m i_in in omega (arith, ints, a, l));
  }

  -- nothing of the band is put yet
  pub front-first : (here : List ℕ) → low <ℤ high → AreUpTo low pieces here → (x : ℤ) → IsFrontOf low high x pieces here 0 []
  front-first here order u x = record {
    here = record {
      canonical = u.canonical;
      ends = λ n n_in. (let e = u.ends n n_in in omega (arith, ints, e, order));
      listed = record {
        within = λ i i_in. absurd (omega (arith, i_in));
        reach = λ i i_in. absurd (omega (arith, i_in));
        rise = λ i j l j_in. absurd (omega (arith, j_in));
        all = λ n n_in e. absurd (let f = u.ends n n_in in omega (arith, ints, e, f, order));
      };
    };
    below = u.listed;
    first = λ n n_in. (let e = u.ends n n_in in let own : IsSolid (piece_at pieces n) = u.canonical.solid n zero n_in in let t = own.tall in omega (arith, ints, e, t));
    left = λ n n_in l. absurd (let e = u.ends n n_in in omega (arith, ints, e, l));
    passed = λ i l i_in. absurd (omega (arith, l));
  }

pub up-to-none : (row : ℤ) → AreUpTo row [] []
up-to-none row = record {
  canonical = record { solid = λ k d k_in. absurd (omega (arith, k_in)); follow = λ i j d l j_in. absurd (omega (arith, j_in)) };
  ends = λ n n_in. absurd (omega (arith, n_in));
  listed = record {
    within = λ i i_in. absurd (omega (arith, i_in));
    reach = λ i i_in. absurd (omega (arith, i_in));
    rise = λ i j l j_in. absurd (omega (arith, j_in));
    all = λ n n_in e. absurd (omega (arith, n_in));
  };
}

-- where the pieces before one are passed by, it is the one that is sought
pub sought-found : (x : ℤ) (pieces : List Rect) (row : ℤ) (below : List ℕ) (k : ℕ) → AreListed row pieces below → k < length below → ArePassedBy x pieces below k
    → x ≤ℤ (piece_at pieces (get_or below k 0)).x0 → IsSought x pieces below (get_or below k 0)
sought-found x pieces row below k a k_in passed from i i_in e = elim (cases_order i k) [
  | inl same ↦ ap (λ j. get_or below j 0) same
  | inr o ↦ elim o [
    | inl less ↦ absurd (let p = passed i less i_in in omega (arith, ints, p, e))
    | inr more ↦ absurd (let r = a.rise k i more i_in in omega (arith, ints, r, e, from))
  ]
]

-- where all are passed by, none is
pub sought-none : (x : ℤ) (pieces : List Rect) (below : List ℕ) (k n : ℕ) → length below ≤ k → ArePassedBy x pieces below k → IsSought x pieces below n
sought-none x pieces below k n all passed i i_in e = absurd (let p = passed i (omega (arith, i_in, all)) i_in in omega (arith, ints, p, e))

-- one number more is passed
pub passed-more : (x : ℤ) (pieces : List Rect) (below : List ℕ) (k : ℕ) → ArePassedBy x pieces below k → (piece_at pieces (get_or below k 0)).x0 <ℤ x → ArePassedBy x pieces below (k + 1)
passed-more x pieces below k passed here i l i_in = elim (cases_eq i k) [
  | inl same ↦ subst (λ j. (piece_at pieces (get_or below j 0)).x0 <ℤ x) (sym same) here
  | inr ne ↦ passed i (omega (arith, l, ne)) i_in
]
