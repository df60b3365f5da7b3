-- What items shade of one another, and what is noted of it.
use Rattle.std.proofs.Common.{◌≡◌, ◌≢◌, ℕ, ◌+◌, ◌-◌, ◌<◌, ◌≤◌, ◌⊎◌, inl, inr, Bool, true, false, List, [], ◌∷◌, ◌++◌, length, get_or, take, drop, sym, refl, ap, ◌∙◌, subst, arith}
use Rattle.std.specs.Prelude.{ℤ, pos, ◌+ℤ◌, ◌<ℤ◌, ◌↔◌}
use Rattle.std.specs.List.{Contains}
use Rattle.std.specs.List.Sorted.{IsPermutation}
use Rattle.std.proofs.Math.ListN.{set}
use Rattle.std.proofs.lemmas.Bool.{cases_eq, cases_lt, cases_order}
use Rattle.std.proofs.lemmas.Int.{ints, by_lt_z}
use Rattle.std.proofs.lemmas.List.{
  get_or_append_left,
  get_or_default,
  get_or_past,
  get_or_push,
  get_or-drop,
  get_or-set_same,
  get_or-set_other,
  get_or-take,
  length_push,
  length-drop,
  length-set,
  length-take,
}
use Rattle.std.proofs.lemmas.List.Elements.{Contains-get_or, Contains-push, Contains-push_cases}
use Rattle.std.proofs.lemmas.List.Sorted.{Contains-permutation, IsPermutation-sym}
use Rattle.dpl_spec_split.specs.declared.Spacing.{Spacing}
use Rattle.dpl_spec_split.specs.declared.Pt.{Pt}
use Rattle.dpl_spec_split.specs.Zones.{at}
use Rattle.dpl_join.specs.declared.items.Item.{Item}
use Rattle.dpl_join.specs.Joins.{IsPairOf, Joined}
use Rattle.dpl_join.specs.Listing.{Lists}
use Rattle.dpl_join.specs.Pairs.{AreClose, IsPair, item_at, no_item}
use Rattle.dpl_join.proofs.NearLaws.{near-close}
use Rattle.dpl_join.proofs.PairLaws.{close-flip}
use Rattle.dpl_shade.specs.declared.rows.Span.{Span}
use Rattle.dpl_shade.specs.Rows.{AreTall, InRows, IsShadow, IsShaded, SomeRow}
use Rattle.dpl_shade.specs.declared.shades.Shade.{Shade}
use Rattle.dpl_shade.specs.declared.shades.Shades.{Shades}
use Rattle.dpl_shade.specs.Shading.{AreShades, AreSound, Handles, HandlesBoth, HasShade, IsBarren, IsDarkRow, IsDead, IsMore, IsRowOf, IsShadeOf, IsSound, IsStart, NumbersRise}

abbrev pub no_shade : Shade
no_shade = record { number = 0; span = record { from = pos 0; to = pos 0 } }

-- a shadow that leaves too few rows below it and above it leaves no room for a zone
pub barren-by : (spacing : Spacing) (overlap : ℕ) (items : List Item) (n m : ℕ) (s : Span) → m < length items → (item_at items m).owner ≢ (item_at items n).owner
    → IsShadow spacing (item_at items n).rect (item_at items m).rect s → s.from <ℤ ((item_at items n).rect.y0 +ℤ pos (overlap + 2)) → (item_at items n).rect.y1 <ℤ (s.to +ℤ pos (overlap + 2))
    → IsBarren spacing overlap items n
barren-by spacing overlap items n m s m_in apart shadow low high g lit =
    let dark : (y : ℤ) → InRows s y → IsDarkRow spacing items n y = λ y h. (m, record { known = m_in; apart = apart; shaded = (shadow.rows y).0 h }) in
    let from = lit.from in
    let to = lit.to in
    let some = lit.some in
    let tall = shadow.some in
    by_lt_z g.from s.from
    (λ l. by_lt_z s.from g.to
    (λ k. absurd (lit.free s.from (record { from = omega (arith, ints, l); below = k }) (dark s.from (record { from = omega (arith, ints); below = tall }))))
    (λ k. omega (arith, ints, k, low, from)))
    (λ l. by_lt_z g.from s.to
    (λ k. absurd (lit.free g.from (record { from = omega (arith, ints); below = some }) (dark g.from (record { from = l; below = k }))))
    (λ k. omega (arith, ints, k, high, to)))

-- too few rows leave no room for a zone
pub barren-short : (spacing : Spacing) (overlap : ℕ) (items : List Item) (n : ℕ) → (item_at items n).rect.y1 <ℤ ((item_at items n).rect.y0 +ℤ pos (overlap + 2)) → IsBarren spacing overlap items n
barren-short spacing overlap items n short g lit = let from = lit.from in let to = lit.to in omega (arith, ints, short, from, to)

-- an item is dead once its flag is set
module _ (dead : List Bool) (n : ℕ) where
  pub flag-here : n < length dead → get_or (set dead n true) n false ≡ true
  flag-here n_in = get_or-set_same dead n true false n_in

  pub flag-stays : (k : ℕ) → get_or dead k false ≡ true → get_or (set dead n true) k false ≡ true
  flag-stays k is = elim (cases_eq k n) [
    | inl e ↦ elim (cases_lt n (length dead)) [
      | inl l ↦ subst (λ j. get_or (set dead n true) j false ≡ true) (sym e) (flag-here l)
      | inr m ↦ absurd (past k (omega (arith, e, m)) is)
    ]
    | inr ne ↦ get_or-set_other dead n k true false ne ∙ is
  ]
    where
      past : (j : ℕ) → length dead ≤ j → get_or dead j false ≡ true → ⊥
      past j l h = let e = get_or_past dead j false l in cc

  pub flag-from : (k : ℕ) → get_or (set dead n true) k false ≡ true → (k ≡ n) ⊎ (get_or dead k false ≡ true)
  flag-from k is = elim (cases_eq k n) [
    | inl e ↦ inl e
    | inr ne ↦ inr (sym (get_or-set_other dead n k true false ne) ∙ is)
  ]

-- a shadow with no row of the item shades none
pub handles-none : (items : List Item) (t : Shades) (n m : ℕ) (s : Span) → IsShadow t.spacing (item_at items n).rect (item_at items m).rect s
    → ((s.from <ℤ (item_at items n).rect.y1) × ((item_at items n).rect.y0 <ℤ s.to) → ⊥) → Handles items t n m
handles-none items t n m s shadow apart = inr (λ y row shaded.
    let h = (shadow.rows y).1 shaded in
    let from = h.from in
    let below = h.below in
    let low = row.0 in
    let high = row.1 in
    absurd (apart (omega (arith, ints, from, high), omega (arith, ints, low, below))))

pub handles-nothing : (items : List Item) (t : Shades) (n m : ℕ) → ((y : ℤ) → IsShaded t.spacing (item_at items n).rect (item_at items m).rect y → ⊥) → Handles items t n m
handles-nothing items t n m never = inr (λ y row shaded. absurd (never y shaded))

-- an item dies
pub sound-dead : (items : List Item) (spacing : Spacing) (overlap : ℕ) (found : List Shade) (old new : List Bool) (n : ℕ) → new ≡ set old n true
    → IsBarren spacing overlap items n → AreSound items spacing overlap found old → AreSound items spacing overlap found new
sound-dead items spacing overlap found old new n is barren h = rw is (record {
  sized = length-set old n true ∙ h.sized;
  shades = h.shades;
  dead = λ k k_in flag. elim (flag-from old n k flag) [
    | inl e ↦ subst (λ j. IsBarren spacing overlap items j) (sym e) barren
    | inr was ↦ h.dead k k_in was
  ];
})

-- a shade is added
pub sound-push : (items : List Item) (spacing : Spacing) (overlap : ℕ) (old new : List Shade) (dead : List Bool) (n m : ℕ) (s : Span) → new ≡ old ++ record { number = n; span = s } ∷ []
    → m < length items → (item_at items m).owner ≢ (item_at items n).owner → IsShadow spacing (item_at items n).rect (item_at items m).rect s
    → AreSound items spacing overlap old dead → AreSound items spacing overlap new dead
sound-push items spacing overlap old new dead n m s is m_in apart shadow h = rw is (record {
  sized = h.sized;
  shades = λ t c. elim (Contains-push_cases old (record { number = n; span = s }) t c) [
    | inl a ↦ h.shades t a
    | inr e ↦ subst (λ (u : Shade). IsShadeOf spacing items u) e (record {
      tall = shadow.some;
      rows = λ y r. (m, record { known = m_in; apart = apart; shaded = (shadow.rows y).0 r });
    })
  ];
  dead = h.dead;
})

pub handles-push : (items : List Item) (t : Shades) (old : List Shade) (n m : ℕ) (s : Span) → t.found.items ≡ old ++ record { number = n; span = s } ∷ []
    → IsShadow t.spacing (item_at items n).rect (item_at items m).rect s → Handles items t n m
handles-push items t old n m s is shadow = inr (λ y row shaded.
    let made : Shade = record { number = n; span = s } in
    (made, subst (λ (xs : List Shade). Contains xs made) (sym is) (Contains-push old made), refl, (shadow.rows y).1 shaded))

-- ---- pairs, one after the other

pub handles-more : (items : List Item) (old new : Shades) (n m : ℕ) → IsMore old new → Handles items old n m → Handles items new n m
handles-more items old new n m more (inl dead) = inl (more.dead n dead)
handles-more items old new n m more (inr rows) = inr (λ y row shaded.
    let (s, c, number, r) = rows y row (subst (λ (t : Spacing). IsShaded t (item_at items n).rect (item_at items m).rect y) more.spacing shaded) in
    (s, more.found s c, number, r))

pub both-more : (items : List Item) (old new : Shades) (p : ℕ × ℕ) → IsMore old new → HandlesBoth items old p → HandlesBoth items new p
both-more items old new p more h = (handles-more items old new p.0 p.1 more h.0, handles-more items old new p.1 p.0 more h.1)

pub more-same : (t : Shades) → IsMore t t
more-same t = record { spacing = refl; overlap = refl; found = λ s c. c; dead = λ n d. d }

pub more-more : (a b c : Shades) → IsMore a b → IsMore b c → IsMore a c
more-more a b c x y = record {
  spacing = y.spacing ∙ x.spacing;
  overlap = y.overlap ∙ x.overlap;
  found = λ s h. y.found s (x.found s h);
  dead = λ n d. y.dead n (x.dead n d);
}

pub pair-at : (items : List Item) (pairs : List (ℕ × ℕ)) (k : ℕ) (d : ℕ × ℕ) (base t : Shades) → IsMore base t → ((p : ℕ × ℕ) → Contains pairs p → IsPair base.spacing.rule items p) → k < length pairs
    → IsPair t.spacing.rule items (get_or pairs k d)
pair-at items pairs k d base t more pair k_in = subst (λ (s : Spacing). IsPair s.rule items (get_or pairs k d)) (sym more.spacing) (pair (get_or pairs k d) (Contains-get_or pairs k d k_in))

-- the first n pairs are handled
pub record HandlesFirst (items : List Item) (pairs : List (ℕ × ℕ)) (n : ℕ) (base t : Shades) : Type 0 where
  pub sound : IsSound items t
  pub more : IsMore base t
  pub handles : (k : ℕ) (d : ℕ × ℕ) → k < n → k < length pairs → HandlesBoth items t (get_or pairs k d)

pub pairs-none : (items : List Item) (pairs : List (ℕ × ℕ)) (t : Shades) → IsSound items t → HandlesFirst items pairs 0 t t
pairs-none items pairs t sound = record { sound = sound; more = more-same t; handles = λ k d l k_in. absurd (omega (arith, l)) }

pub pairs-more : (items : List Item) (pairs : List (ℕ × ℕ)) (n : ℕ) (p : ℕ × ℕ) (base old new : Shades) → n < length pairs → HandlesFirst items pairs n base old
    → IsSound items new → IsMore old new → HandlesBoth items new (get_or pairs n p) → HandlesFirst items pairs (n + 1) base new
pairs-more items pairs n p base old new n_in h sound more both = record {
  sound = sound;
  more = more-more base old new h.more more;
  handles = λ k d l k_in. elim (cases_eq k n) [
    | inl e ↦ subst (HandlesBoth items new) (get_or_default pairs n p d n_in ∙ ap (λ (j : ℕ). get_or pairs j d) (sym e)) both
    | inr ne ↦ both-more items old new (get_or pairs k d) more (h.handles k d (omega (arith, l, ne)) k_in)
  ];
}

pub pairs-all : (items : List Item) (pairs : List (ℕ × ℕ)) (n : ℕ) (base t : Shades) → length pairs ≤ n → HandlesFirst items pairs n base t → (p : ℕ × ℕ) → Contains pairs p → HandlesBoth items t p
pairs-all items pairs n base t all h p (k, k_in, is) = subst (HandlesBoth items t) is (h.handles k p (omega (arith, all, k_in)) k_in)

-- ---- items of too few rows

pub record AreShort (overlap : ℕ) (items : List Item) (n : ℕ) (dead : List Bool) : Type 0 where
  pub sized : length dead ≡ n
  pub short : (k : ℕ) → k < n → get_or dead k false ≡ true → (item_at items k).rect.y1 <ℤ ((item_at items k).rect.y0 +ℤ pos (overlap + 2))

pub short-start : (overlap : ℕ) (items : List Item) (dead : List Bool) → dead ≡ [] → AreShort overlap items 0 dead
short-start overlap items dead is = rw is (record { sized = refl; short = λ k l. absurd (omega (arith, l)) })

pub short-more : (overlap : ℕ) (items : List Item) (n : ℕ) (d : Item) (old new : List Bool) (b : Bool) → new ≡ old ++ b ∷ [] → n < length items
    → (b ≡ true → (get_or items n d).rect.y1 <ℤ ((get_or items n d).rect.y0 +ℤ pos (overlap + 2))) → AreShort overlap items n old → AreShort overlap items (n + 1) new
short-more overlap items n d old new b new_is n_in short h = rw new_is (record {
  sized = (let a = h.sized in omega (arith, a, length_push old b));
  short = λ k l flag. elim (cases_eq k n) [
    | inl e ↦
        let at : length old ≡ k = h.sized ∙ sym e in
        subst (λ (j : ℕ). (item_at items j).rect.y1 <ℤ ((item_at items j).rect.y0 +ℤ pos (overlap + 2))) (sym e)
        (subst (λ (i : Item). i.rect.y1 <ℤ (i.rect.y0 +ℤ pos (overlap + 2))) (get_or_default items n d no_item n_in) (short (sym (get_or_push old b false k at) ∙ flag)))
    | inr ne ↦ (let size = h.sized in
        h.short k (omega (arith, l, ne)) (sym (get_or_append_left old (b ∷ []) false k (omega (arith, l, ne, size))) ∙ flag))
  ];
})

pub short-all : (spacing : Spacing) (overlap : ℕ) (items : List Item) (n : ℕ) (found : List Shade) (dead : List Bool) → length items ≤ n → n ≤ length items → found ≡ []
    → AreShort overlap items n dead → AreSound items spacing overlap found dead
short-all spacing overlap items n found dead all few none h = rw none (record {
  sized = (let a = h.sized in omega (arith, a, all, few));
  shades = λ s (k, k_in, is). absurd (omega (arith, k_in));
  dead = λ k k_in flag. barren-short spacing overlap items k (h.short k (omega (arith, all, k_in)) flag);
})

pub strip-pairs : (join : Joined) (n rule : ℕ) (pairs : List (ℕ × ℕ)) → Lists (IsPairOf join n) pairs → join.rule ≡ rule → (p : ℕ × ℕ) → Contains pairs p → IsPair rule join.items p
strip-pairs join n rule pairs lists is p c = subst (λ (k : ℕ). IsPair k join.items p) is ((lists.all p).0 c).pair

-- ---- all pairs

module _ (items : List Item) (t : Shades) (less : t.spacing.corner ≤ t.spacing.rule) (handles : (p : ℕ × ℕ) → IsPair t.spacing.rule items p → HandlesBoth items t p) (sound : IsSound items t) where
  near-of : (n m : ℕ) (y : ℤ) → IsRowOf (item_at items n).rect y → IsShaded t.spacing (item_at items n).rect (item_at items m).rect y
      → AreClose t.spacing.rule (item_at items n).rect (item_at items m).rect
  near-of n m y row s =
      let q : Pt = s.q in
      near-close t.spacing (item_at items n).rect (item_at items m).rect less (at s.x y, q, record { left = s.left; right = s.right; low = row.0; high = row.1 }, s.has, s.near)

  handled : (n m : ℕ) → n < length items → m < length items → (item_at items m).owner ≢ (item_at items n).owner → AreClose t.spacing.rule (item_at items n).rect (item_at items m).rect
      → Handles items t n m
  handled n m n_in m_in apart close = elim (cases_order n m) [
    | inl e ↦ absurd (apart (ap (λ (k : ℕ). (item_at items k).owner) (sym e)))
    | inr o ↦ elim o [
      | inl l ↦ (handles (n, m) (record { order = l; known = m_in; apart = λ e. apart (sym e); close = close })).0
      | inr l ↦ (handles (m, n) (record { order = l; known = n_in; apart = apart; close = close-flip t.spacing.rule (item_at items n).rect (item_at items m).rect close })).1
    ]
  ]

  dark-rows : (n : ℕ) (y : ℤ) → n < length items → (IsDead t n → ⊥) → IsRowOf (item_at items n).rect y → IsDarkRow t.spacing items n y ↔ HasShade t.found.items n y
  dark-rows n y n_in alive row = (
    λ (m, by). elim (handled n m n_in by.known by.apart (near-of n m y row by.shaded)) [ inl dead ↦ absurd (alive dead) | inr rows ↦ rows y row by.shaded ],
    λ (s, c, number, r). subst (λ (k : ℕ). IsDarkRow t.spacing items k y) number ((sound.shades s c).rows y r),
  )

-- ---- the same shades in another order

module _ (items : List Item) (old new : Shades) (spacing : new.spacing ≡ old.spacing) (overlap : new.overlap ≡ old.overlap)
    (dead : new.dead.items ≡ old.dead.items) (same : IsPermutation old.found.items new.found.items) where
  both-found : (s : Shade) → Contains old.found.items s ↔ Contains new.found.items s
  both-found s = (Contains-permutation old.found.items new.found.items s same, Contains-permutation new.found.items old.found.items s (IsPermutation-sym old.found.items new.found.items same))

  pub sound-sorted : IsSound items old → IsSound items new
  sound-sorted sound = rw (spacing, overlap, dead) (record { sized = sound.sized; shades = λ s c. sound.shades s ((both-found s).1 c); dead = sound.dead })

  handles-sorted : (n m : ℕ) → Handles items old n m → Handles items new n m
  handles-sorted n m h =
      elim h [
        | inl gone ↦ inl (rw dead gone)
        | inr lit ↦ inr (rw spacing (λ y row shaded. let (s, c, number, r) = lit y row shaded in (s, (both-found s).0 c, number, r)))
      ]

  pub both-sorted : (p : ℕ × ℕ) → HandlesBoth items old p → HandlesBoth items new p
  both-sorted p h = (handles-sorted p.0 p.1 h.0, handles-sorted p.1 p.0 h.1)

  pub shades-sorted : NumbersRise new.found.items → old.spacing.corner ≤ old.spacing.rule → IsSound items old
      → ((p : ℕ × ℕ) → IsPair old.spacing.rule items p → HandlesBoth items old p) → AreShades items new
  shades-sorted rise less sound handles =
      record {
        sound = sound-sorted sound;
        rise = rise;
        rows = λ n y n_in alive row.
            let h = dark-rows items old less handles sound n y n_in (λ d. alive (rw dead d)) row in
            rw spacing ((λ dark. let (s, c, number, r) = h.0 dark in (s, (both-found s).0 c, number, r)), (λ (s, c, number, r). h.1 (s, (both-found s).1 c, number, r)));
      }

-- ---- the shades of one item

-- the shades before a place have numbers up to n
abbrev pub AreUpTo : List Shade → ℕ → ℕ → Type 0
AreUpTo found n at = (k : ℕ) (d : Shade) → k < at → k < length found → (get_or found k d).number < n + 1

pub start-first : (found : List Shade) → IsStart found 0 0
start-first found = record { within = omega arith; under = λ k d l. absurd (omega (arith, l)); over = λ k d l k_in. omega arith }

pub portion-none : (found : List Shade) (n at : ℕ) → IsStart found n at → AreUpTo found n at
portion-none found n at start k d l k_in = let h = start.under k d l k_in in omega (arith, h)

pub portion-more : (found : List Shade) (n at : ℕ) → AreUpTo found n at → ((d : Shade) → (get_or found at d).number ≡ n) → AreUpTo found n (at + 1)
portion-more found n at before is k d l k_in = elim (cases_eq k at) [
  | inl same ↦ (let h = ap (λ (m : ℕ). (get_or found m d).number) same ∙ is d in omega (arith, h))
  | inr ne ↦ before k d (omega (arith, l, ne)) k_in
]

pub portion-to : (found : List Shade) (n start at : ℕ) → NumbersRise found → IsStart found n start → start ≤ at → at < length found → AreUpTo found n at
    → ((d : Shade) → (get_or found at d).number ≢ n) → IsStart found (n + 1) at
portion-to found n start at rise first behind at_in before ne = record {
  within = omega (arith, at_in);
  under = before;
  over = λ k d l k_in.
      (let low = first.over at d behind at_in in
      let more = rise at k d l k_in in
      let other = ne d in
      omega (arith, low, more, other));
}

pub portion-over : (found : List Shade) (n at : ℕ) → at ≡ length found → AreUpTo found n at → IsStart found (n + 1) at
portion-over found n at is before = record { within = omega (arith, is); under = before; over = λ k d l k_in. absurd (omega (arith, is, l, k_in)) }

starts-rise : (found : List Shade) (n a b : ℕ) → IsStart found n a → IsStart found (n + 1) b → a ≤ b
starts-rise found n a b first second = elim (cases_lt b a) [
  | inl l ↦ (let within = first.within in
      let b_in : b < length found = omega (arith, l, within) in
      let low = second.over b no_shade (omega arith) b_in in
      let high = first.under b no_shade l b_in in
      absurd (omega (arith, low, high)))
  | inr m ↦ m
]

module _ (found : List Shade) (n a b : ℕ) (first : IsStart found n a) (second : IsStart found (n + 1) b) where
  pub portion-rises : a ≤ b
  portion-rises = starts-rise found n a b first second

  size : length (take (b - a) (drop a found)) ≡ b - a
  size = let within = second.within in let t = length-take (b - a) (drop a found) in let d = length-drop a found in omega (arith, t, d, within)

  element : (k : ℕ) (d : Shade) → k < b - a → get_or (take (b - a) (drop a found)) k d ≡ get_or found (a + k) d
  element k d l = get_or-take (b - a) (drop a found) k d l ∙ get_or-drop a found k d

  pub shades-at : (s : Shade) → Contains (take (b - a) (drop a found)) s ↔ (Contains found s × (s.number ≡ n))
  shades-at s = (
    λ (k, k_in, e).
        (let within = second.within in
        let l : k < b - a = subst (λ (m : ℕ). k < m) size k_in in
        let is : get_or found (a + k) s ≡ s = sym (element k s l) ∙ e in
        let inside : a + k < length found = omega (arith, l, within) in
        let low = rw is at (first.over (a + k) s (omega arith) inside) in
        let high = rw is at (second.under (a + k) s (omega (arith, l)) inside) in
        ((a + k, inside, is), omega (arith, low, high))),
    λ ((k, k_in, e), number).
        (let low : a ≤ k = elim (cases_lt k a) [ inl l ↦ (let f = rw e at (first.under k s l k_in) in absurd (omega (arith, f, number))) | inr m ↦ m ] in
        let high : k < b = elim (cases_lt k b) [ inl l ↦ l | inr m ↦ (let f = rw e at (second.over k s m k_in) in absurd (omega (arith, f, number))) ] in
        let l : k - a < b - a = omega (arith, low, high) in
        let back : a + (k - a) ≡ k = omega (arith, low) in
        (k - a, subst (λ (m : ℕ). k - a < m) (sym size) l, element (k - a) s l ∙ (ap (λ (m : ℕ). get_or found m s) back ∙ e))),
  )

-- the spans of the first i shades
pub record AreSpansOf (shades : List Shade) (i : ℕ) (spans : List Span) : Type 0 where
  pub sized : length spans ≡ i
  pub each : (k : ℕ) (d : Shade) (e : Span) → k < i → k < length shades → get_or spans k e ≡ (get_or shades k d).span

pub spans-none : (shades : List Shade) (spans : List Span) → spans ≡ [] → AreSpansOf shades 0 spans
spans-none shades spans is = rw is (record { sized = refl; each = λ k d e l. absurd (omega (arith, l)) })

pub spans-more : (shades : List Shade) (i : ℕ) (s : Shade) (old new : List Span) → new ≡ old ++ (get_or shades i s).span ∷ [] → i < length shades → AreSpansOf shades i old
    → AreSpansOf shades (i + 1) new
spans-more shades i s old new new_is i_in h = rw new_is (record {
  sized = (let a = h.sized in omega (arith, a, length_push old (get_or shades i s).span));
  each = λ k d e l k_in. elim (cases_eq k i) [
    | inl same ↦ get_or_push old (get_or shades i s).span e k (h.sized ∙ sym same)
        ∙ (ap (λ (t : Shade). t.span) (get_or_default shades i s d i_in) ∙ ap (λ (j : ℕ). (get_or shades j d).span) (sym same))
    | inr ne ↦ (let size = h.sized in get_or_append_left old ((get_or shades i s).span ∷ []) e k (omega (arith, l, ne, size)) ∙ h.each k d e (omega (arith, l, ne)) k_in)
  ];
})

module _ (found shades : List Shade) (n i : ℕ) (spans : List Span) (all : length shades ≤ i) (few : i ≤ length shades)
    (members : (s : Shade) → Contains shades s ↔ (Contains found s × (s.number ≡ n))) (h : AreSpansOf shades i spans) where
  span_at : (k : ℕ) (e : Span) → k < length spans → get_or spans k e ≡ (get_or shades k no_shade).span
  span_at k e l = let size = h.sized in h.each k no_shade e (omega (arith, l, size)) (omega (arith, l, size, few))

  shade_in : (k : ℕ) → k < length spans → Contains shades (get_or shades k no_shade)
  shade_in k l = let size = h.sized in Contains-get_or shades k no_shade (omega (arith, l, size, few))

  pub tall-spans : ((s : Shade) → Contains found s → s.span.from <ℤ s.span.to) → AreTall spans
  tall-spans tall k e l = rw (span_at k e l) (tall (get_or shades k no_shade) ((members (get_or shades k no_shade)).0 (shade_in k l)).0)

  pub rows-spans : (y : ℤ) → SomeRow spans y ↔ HasShade found n y
  rows-spans y = (
    λ (k, s, k_in, k_is, r).
        (let t = get_or shades k no_shade in
        let (c, number) = (members t).0 (shade_in k k_in) in
        (t, c, number, subst (λ (u : Span). InRows u y) (sym k_is ∙ span_at k s k_in) r)),
    λ (s, c, number, r).
        (let (k, k_in, is) = (members s).1 (c, number) in
        let size = h.sized in
        let l : k < length spans = omega (arith, k_in, all, size) in
        (k, s.span, l, h.each k s s.span (omega (arith, k_in, all)) k_in ∙ ap (λ (u : Shade). u.span) is, r)),
  )
