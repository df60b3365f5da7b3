-- Rectangles with owners, and the least pair of near squares of two owners.
use Rattle.std.proofs.Common.{◌≡◌, ℕ, zero, suc, ◌+◌, ◌<◌, ◌≤◌, ◌⊎◌, inl, inr, List, [], ◌∷◌, length, get_or, Option, Some, None, sym, refl, ap, ◌∙◌, subst, arith}
use Rattle.std.specs.Prelude.{◌↔◌, unsigned_abs, pos, ◌+ℤ◌, ◌<ℤ◌}
use Rattle.std.specs.List.{All, Contains}
use Rattle.std.proofs.lemmas.Int.{ints}
use Rattle.std.proofs.lemmas.Bool.{cases_eq}
use Rattle.std.proofs.lemmas.List.{get_or_default}
use Rattle.dpl_spec_split.specs.declared.Spacing.{Spacing}
use Rattle.dpl_spec_split.specs.declared.Pt.{Pt}
use Rattle.dpl_spec_split.specs.declared.Rect.{Rect}
use Rattle.dpl_spec_split.specs.Squares.{Region, Has, Precedes, IsLeast, Near}
use Rattle.dpl_spec_split.specs.Loops.{farthest, AreRectsWithin}
use Rattle.dpl_spec_split.specs.Slabs.{IsSolid}
use Rattle.dpl_spec_split.proofs.SquareLaws.{Near-sym}
use Rattle.dpl_spec_split.proofs.Ordered.{Contains-nil}
use Rattle.dpl_tree.specs.declared.items.Item.{Item}
use Rattle.dpl_tree.specs.declared.owners.Owners.TheVariants.{All as Everyone, But, Only}
use Rattle.dpl_tree.specs.Trees.{HasItem}
use Rattle.dpl_nearest.specs.Search.{AreSolidItems, ItemCovers, near_part, unit_of, IsImproved}
use Rattle.dpl_nearest.proofs.NearLaws.{Precedes-trans}
use Rattle.dpl_spec_verdict.specs.Order.{IsLeastPair}
use Rattle.dpl_check.specs.Findings.{IsLeastOf, IsLeastPairOf}
use Rattle.dpl_check.specs.Owned.{IsAt, IsOwnedBelow, AreOwnedItems, foreign, AreForeign, IsOwnedOnce, IsSingle}
use Rattle.dpl_check.proofs.Windows.{unit-only, unit-self}

only-one : (x r : Rect) → Contains (x ∷ []) r → x ≡ r
only-one x r (zero, l, is) = is
only-one x r (suc k, l, is) = absurd (omega (arith, l))

no-items : (r : Rect) (k : ℕ) → HasItem [] r k → ⊥
no-items r k (item, c, e, f) = Contains-nil item c

abbrev pub OwnsBelow : List Rect → List ℕ → ℕ → List Item → Type 0
OwnsBelow rects owners n items = (r : Rect) (k : ℕ) → HasItem items r k ↔ IsOwnedBelow n rects owners r k

pub owns-none : (rects : List Rect) (owners : List ℕ) (items : List Item) → items ≡ [] → OwnsBelow rects owners 0 items
owns-none rects owners items none r k = (λ h. absurd (no-items r k (subst (λ t. HasItem t r k) none h)), λ (i, l, i_in, is, own). absurd (omega (arith, l)))

pub owns-more : (rects : List Rect) (owners : List ℕ) (n : ℕ) (x : Rect) (o : ℕ) (old new : List Item) → n < length rects → x ≡ get_or rects n x → o ≡ get_or owners n 0
    → OwnsBelow rects owners n old → ((r : Rect) (k : ℕ) → HasItem new r k ↔ (HasItem old r k ⊎ ((k ≡ o) × Contains (x ∷ []) r))) → OwnsBelow rects owners (n + 1) new
owns-more rects owners n x o old new n_in x_is o_is before step r k = (
  λ h. elim ((step r k).0 h) [
    | inl a ↦ (let (i, l, i_in, is, own) = (before r k).0 a in (i, omega (arith, l), i_in, is, own))
    | inr (e, c) ↦ (n, omega arith, n_in, get_or_default rects n r x n_in ∙ (sym x_is ∙ only-one x r c), sym o_is ∙ sym e)
  ],
  λ (i, l, i_in, is, own). (step r k).1 (elim (cases_eq i n) [
    | inl e ↦ inr (
      sym own ∙ (ap (λ m. get_or owners m 0) e ∙ sym o_is),
      (0, omega arith, x_is ∙ (get_or_default rects n x r n_in ∙ (ap (λ m. get_or rects m r) (sym e) ∙ is))),
    )
    | inr ne ↦ inl ((before r k).1 (i, omega (arith, l, ne), i_in, is, own))
  ]),
)

pub owns-all : (rects : List Rect) (owners : List ℕ) (n : ℕ) (items tree : List Item) → length rects ≤ n → OwnsBelow rects owners n items
    → ((r : Rect) (k : ℕ) → HasItem tree r k ↔ HasItem items r k) → AreOwnedItems rects owners tree
owns-all rects owners n items tree all before same r k = (
  λ h. (let (i, l, i_in, is, own) = (before r k).0 ((same r k).0 h) in (i, i_in, i_in, is, own)),
  λ (i, l, i_in, is, own). (same r k).1 ((before r k).1 (i, omega (arith, all, i_in), i_in, is, own)),
)

pub single-are : (p : Pt) (u : Rect) (owner : ℕ) (old new tree : List Item) → u ≡ unit_of p → old ≡ []
    → ((r : Rect) (k : ℕ) → HasItem new r k ↔ (HasItem old r k ⊎ ((k ≡ owner) × Contains (u ∷ []) r)))
    → ((r : Rect) (k : ℕ) → HasItem tree r k ↔ HasItem new r k) → IsSingle p owner tree
single-are p u owner old new tree u_is none step same r k = (
  λ h. elim ((step r k).0 ((same r k).0 h)) [
    | inl a ↦ absurd (no-items r k (subst (λ t. HasItem t r k) none a))
    | inr (e, c) ↦ (e, sym u_is ∙ only-one u r c)
  ],
  λ (e, is). (same r k).1 ((step r k).1 (inr (e, (0, omega arith, u_is ∙ is)))),
)

abbrev IsUpTo : Pt → Pt → Type 0
IsUpTo p q = (p ≡ q) ⊎ Precedes p q

up-to-trans : (p q r : Pt) → IsUpTo p q → IsUpTo q r → IsUpTo p r
up-to-trans p q r (inl e) k = subst (λ u. IsUpTo u r) (sym e) k
up-to-trans p q r (inr h) (inl f) = subst (λ u. IsUpTo p u) f (inr h)
up-to-trans p q r (inr h) (inr k) = inr (Precedes-trans p q r h k)

-- a set is another one and the squares of x that are near b
improved-least : (spacing : Spacing) (x b a c : Region) (old new : Option Pt)
    → ((p : Pt) → c p → a p ⊎ near_part spacing x b p) → ((p : Pt) → a p → c p) → ((p : Pt) → near_part spacing x b p → c p)
    → IsLeastOf a old → IsImproved spacing x b old new → IsLeastOf c new
improved-least spacing x b a c None None split wide near far none = λ (p, p_in). elim (split p p_in) [ inl h ↦ far (p, h) | inr (h, (q, q_in, close)) ↦ none (p, q, h, q_in, close) ]
improved-least spacing x b a c None (Some m) split wide near far least = record {
  inside = near m least.inside;
  first = λ q q_in. elim (split q q_in) [ inl h ↦ absurd (far (q, h)) | inr h ↦ least.first q h ];
}
improved-least spacing x b a c (Some p) None split wide near least bad = absurd bad
improved-least spacing x b a c (Some p) (Some m) split wide near least low = record {
  inside = elim low.is [ inl e ↦ subst (λ u. c u) (sym e) (wide p least.inside) | inr h ↦ near m h ];
  first = λ q q_in. elim (split q q_in) [ inl h ↦ up-to-trans m p q low.before (least.first q h) | inr h ↦ low.first q h ];
}

module _ (spacing : Spacing) (rects : List Rect) (owners : List ℕ) (items : List Item) where
  pub foreign-none : IsLeastOf (foreign spacing rects owners items 0) None
  foreign-none = λ (p, (i, l, at, near)). omega (arith, l)

  pub foreign-more : (n : ℕ) (x : Rect) (o : ℕ) (old new : Option Pt) → n < length rects → x ≡ get_or rects n x → o ≡ get_or owners n 0
      → IsLeastOf (foreign spacing rects owners items n) old
      → IsImproved spacing (Has x) (ItemCovers (But o) items) old new → IsLeastOf (foreign spacing rects owners items (n + 1)) new
  foreign-more n x o old new n_in x_is o_is =
      improved-least spacing (Has x) (ItemCovers (But o) items) (foreign spacing rects owners items n) (foreign spacing rects owners items (n + 1)) old new
      (λ p (i, l, (r, i_in, is, has), near). elim (cases_eq i n) [
        | inl e ↦ inr (
          subst (λ (u : Rect). Has u p) (sym is ∙ (ap (λ m. get_or rects m r) e ∙ (get_or_default rects n r x n_in ∙ sym x_is))) has,
          subst (λ k. (q : Pt) × ItemCovers (But k) items q × (Near spacing p q)) (ap (λ m. get_or owners m 0) e ∙ sym o_is) near,
        )
        | inr ne ↦ inl (i, omega (arith, l, ne), (r, i_in, is, has), near)
      ])
      (λ p (i, l, at, near). (i, omega (arith, l), at, near))
      (λ p (has, near). (n, omega arith, (x, n_in, sym x_is, has), subst (λ k. (q : Pt) × ItemCovers (But k) items q × (Near spacing p q)) o_is near))

  pub foreign-all : (n : ℕ) (o : Option Pt) → n ≡ length rects → IsLeastOf (foreign spacing rects owners items n) o → IsLeastOf (foreign spacing rects owners items (length rects)) o
  foreign-all n o all h = subst (λ m. IsLeastOf (foreign spacing rects owners items m) o) all h

-- a square of rectangles within range
pub at-within : (rects : List Rect) (i : ℕ) (p : Pt) → AreRectsWithin farthest rects → IsAt rects i p → (unsigned_abs p.x ≤ farthest) × (unsigned_abs p.y ≤ farthest)
at-within rects i p within (r, i_in, is, has) =
    let w = within r (i, i_in, is) in
    let a = has.left in
    let b = has.right in
    let c = has.low in
    let d = has.high in
    (omega (arith, ints, w.left, w.right, a, b), omega (arith, ints, w.low, w.high, c, d))

pub foreign-within : (spacing : Spacing) (rects : List Rect) (owners : List ℕ) (items : List Item) (n : ℕ) (p : Pt) → AreRectsWithin farthest rects → foreign spacing rects owners items n p
    → (unsigned_abs p.x ≤ farthest) × (unsigned_abs p.y ≤ farthest)
foreign-within spacing rects owners items n p within (i, l, at, near) = at-within rects i p within at

-- the items are solid rectangles
pub owned-solid : (rects : List Rect) (owners : List ℕ) (items : List Item) → AreOwnedItems rects owners items → All IsSolid rects → AreSolidItems items
owned-solid rects owners items are solid r k item =
    let (i, l, i_in, is, own) = (are r k).0 item in
    subst (λ u. IsSolid u) is (solid i r i_in)

pub single-solid : (p : Pt) (owner : ℕ) (items : List Item) → IsSingle p owner items → AreSolidItems items
single-solid p owner items single r k item =
    let (e, is) = (single r k).0 item in
    subst (λ (u : Rect). IsSolid u) is (record {
      wide = let t : p.x <ℤ (p.x +ℤ pos 1) = omega (arith, ints) in t;
      tall = let t : p.y <ℤ (p.y +ℤ pos 1) = omega (arith, ints) in t;
    })

module _ (spacing : Spacing) (rects : List Rect) (owners : List ℕ) (items : List Item) (are : AreOwnedItems rects owners items) where
  owned-rect : (j : ℕ) (q : Pt) → IsAt rects j q → (s : Rect) × HasItem items s (get_or owners j 0) × Has s q
  owned-rect j q (s, j_in, is, has) = (s, (are s (get_or owners j 0)).1 (j, j_in, j_in, is, refl), has)

  pub foreign-first : (p q : Pt) → AreForeign spacing rects owners p q → foreign spacing rects owners items (length rects) p
  foreign-first p q (i, j, (r, i_in, is, has), at_q, apart, close) =
      let (s, item, has_q) = owned-rect j q at_q in
      (i, i_in, (r, i_in, is, has), (q, (s, get_or owners j 0, item, λ e. apart (sym e), has_q), close))

  pub none-foreign : IsLeastOf (foreign spacing rects owners items (length rects)) None → IsLeastPairOf (AreForeign spacing rects owners) None
  none-foreign none = λ p q h. none (p, foreign-first p q h)

  pub foreign-covered : (n : ℕ) (p : Pt) → foreign spacing rects owners items n p → ItemCovers Everyone items p
  foreign-covered n p (i, l, at, near) = let (s, item, has) = owned-rect i p at in (s, get_or owners i 0, item, tt, has)

  module _ (once : IsOwnedOnce rects owners) (first : Pt) (owner : ℕ) (own : ItemCovers (Only owner) items first) (single : List Item) (one : IsSingle first owner single) where
    -- a rectangle of the owner that has the first square
    owned-at : (i : ℕ) × IsAt rects i first × (get_or owners i 0 ≡ owner)
    owned-at = let (r, k, item, is_k, has) = own in
        let (i, l, i_in, is, own_i) = (are r k).0 item in
        (i, (r, i_in, is, has), own_i ∙ is_k)

    owner-of : (i : ℕ) → IsAt rects i first → get_or owners i 0 ≡ owner
    owner-of i at = let (j, at_j, is) = owned-at in once i j first at at_j ∙ is

    second-single : (q : Pt) → AreForeign spacing rects owners first q → foreign spacing rects owners single (length rects) q
    second-single q (i, j, at, (s, j_in, is, has), apart, close) = (
      j,
      j_in,
      (s, j_in, is, has),
      (
        first,
        (unit_of first, owner, (one (unit_of first) owner).1 (refl, refl), (λ e. apart (owner-of i at ∙ e)), unit-self first),
        Near-sym spacing first q close,
      ),
    )

    single-second : (n : ℕ) (q : Pt) → foreign spacing rects owners single n q → AreForeign spacing rects owners first q
    single-second n q (j, l, at_q, (t, (r, k, item, apart, has), close)) =
        let (e, is) = (one r k).0 item in
        let same : t ≡ first = unit-only first t (subst (λ (u : Rect). Has u t) (sym is) has) in
        let (i, at, own_i) = owned-at in
        (i, j, at, at_q, (λ f. apart (e ∙ (sym own_i ∙ f))), Near-sym spacing q first (subst (λ (u : Pt). Near spacing q u) same close))

    -- some second square is there
    pub some-second : foreign spacing rects owners items (length rects) first → IsLeastOf (foreign spacing rects owners single (length rects)) None → ⊥
    some-second (i, l, at, (q, (s, k, item, apart, has), close)) none =
        let (j, m, j_in, is, own_j) = (are s k).0 item in
        none (q, second-single q (i, j, at, (s, j_in, is, has), (λ e. apart (sym own_j ∙ sym e)), close))

    pub least-foreign : (second : Pt) → IsLeast (foreign spacing rects owners items (length rects)) first → IsLeast (foreign spacing rects owners single (length rects)) second
        → IsLeastPair (AreForeign spacing rects owners) first second
    least-foreign second a b = record {
      are = single-second (length rects) second b.inside;
      least = λ r s h. elim (a.first r (foreign-first r s h)) [
        | inr before ↦ inl before
        | inl same ↦ inr (same, b.first s (second-single s (subst (λ u. AreForeign spacing rects owners u s) (sym same) h)))
      ];
    }
