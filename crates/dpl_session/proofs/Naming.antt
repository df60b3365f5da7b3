-- Slabs named for the piece that each lies in, and labelled with the first slab of the same owner.
use Rattle.std.proofs.Common.{◌≡◌, ◌≢◌, ◌∙◌, ◌+◌, ◌<◌, ◌≤◌, ℕ, inl, inr, List, [], ◌∷◌, ◌++◌, length, get_or, set, subst, sym, refl, ap, arith}
use Rattle.std.specs.List.{All}
use Rattle.std.proofs.lemmas.Int.{ints}
use Rattle.std.proofs.lemmas.Bool.{cases_eq, cases_lt}
use Rattle.std.proofs.lemmas.List.{get_or_append_left, get_or_default, length-append, get_or_push, get_or-set_other, get_or-set_same}
use Rattle.dpl_spec_split.specs.declared.Pt.{Pt}
use Rattle.dpl_spec_split.specs.declared.Rect.{Rect}
use Rattle.dpl_spec_split.specs.Squares.{Covers, Has}
use Rattle.dpl_spec_split.specs.Slabs.{IsSolid}
use Rattle.dpl_spec_split.specs.Components.{Linked}
use Rattle.dpl_spec_split.specs.Zones.{part_at}
use Rattle.dpl_spec_split.specs.Pieces.{without}
use Rattle.dpl_spec_split.proofs.ComponentLaws.{Linked-trans}
use Rattle.dpl_feature.proofs.Links.{linked-within}
use Rattle.dpl_slabs.specs.Parts.{union_of}
use Rattle.dpl_session.specs.Tiles.{IsOccupied}
use Rattle.dpl_session.specs.Windows.{AreNames, AreWhole, HaveFirsts, IsFirstWith, slab_at}

pub below_push : (P : ℕ → ℕ → Type 0) (xs : List ℕ) (n y : ℕ) → length xs ≡ n → ((i : ℕ) → i < n → P i (get_or xs i 0)) → P n y
    → (i : ℕ) → i < n + 1 → P i (get_or (xs ++ y ∷ []) i 0)
below_push P xs n y long below here i l = elim (cases_eq i n) [
  | inl e ↦ subst (λ m. P m (get_or (xs ++ y ∷ []) m 0)) (sym e) (subst (λ z. P n z) (sym (get_or_push xs y 0 n long)) here)
  | inr ne ↦ (let less : i < n = omega (arith, l, ne) in
      let short : i < length xs = omega (arith, less, long) in
      subst (λ z. P i z) (sym (get_or_append_left xs (y ∷ []) 0 i short)) (below i less))
]

-- a rectangle of squares of pieces lies in a piece that has one of them
pub lies_in : (pieces : List (List Rect)) (r : Rect) (k : ℕ) (p q : Pt) → AreWhole pieces → ((s : Pt) → Has r s → union_of pieces s) → k < length pieces
    → part_at pieces k p → Has r p → Has r q → part_at pieces k q
lies_in pieces r k p q (layer, zones, are) inside k_in in_k p_in q_in =
    let a = without (Covers layer) zones in
    let whole = are.whole k [] k_in in
    let linked : Linked a p q = linked-within a r (λ s h. (are.together s).0 (inside s h)) p q p_in q_in in
    (whole.2 q).1 (Linked-trans a ((whole.2 p).0 in_k) linked)

pub again : (owner : ℕ → ℕ) (table : List ℕ) (i : ℕ) → HaveFirsts owner table i → get_or table (owner i) 0 < i → owner (get_or table (owner i) 0) ≡ owner i
    → IsFirstWith owner i (get_or table (owner i) 0)
again owner table i firsts less same =
    let k = get_or table (owner i) 0 in
    let before : IsFirstWith owner k (get_or table (owner k) 0) = firsts k less in
    let itself : get_or table (owner k) 0 ≡ k = ap (λ o. get_or table o 0) same in
    record { upto = omega (arith, less); same = same; first = λ j e. subst (λ m. m ≤ j) itself (before.first j (e ∙ sym same)) }

pub again_firsts : (owner : ℕ → ℕ) (table : List ℕ) (i : ℕ) → HaveFirsts owner table i → IsFirstWith owner i (get_or table (owner i) 0) → HaveFirsts owner table (i + 1)
again_firsts owner table i firsts here j l = elim (cases_eq j i) [
  | inl e ↦ subst (λ m. IsFirstWith owner m (get_or table (owner m) 0)) (sym e) here
  | inr ne ↦ firsts j (omega (arith, l, ne))
]

none_before : (owner : ℕ → ℕ) (table : List ℕ) (i : ℕ) → HaveFirsts owner table i → ((get_or table (owner i) 0 < i) × (owner (get_or table (owner i) 0) ≡ owner i) → ⊥)
    → (j : ℕ) → j < i → owner j ≡ owner i → ⊥
none_before owner table i firsts none j l e =
    let before : IsFirstWith owner j (get_or table (owner j) 0) = firsts j l in
    let there : IsFirstWith owner j (get_or table (owner i) 0) = subst (λ o. IsFirstWith owner j (get_or table o 0)) e before in
    let upto = there.upto in
    none (omega (arith, upto, l), there.same ∙ e)

pub itself : (owner : ℕ → ℕ) (table : List ℕ) (i : ℕ) → HaveFirsts owner table i → ((get_or table (owner i) 0 < i) × (owner (get_or table (owner i) 0) ≡ owner i)
    → ⊥) → IsFirstWith owner i i
itself owner table i firsts none = record {
  upto = omega arith;
  same = refl;
  first = λ j e. elim (cases_lt j i) [ inl l ↦ absurd (none_before owner table i firsts none j l e) | inr m ↦ m ];
}

pub itself_firsts : (owner : ℕ → ℕ) (table : List ℕ) (i : ℕ) → HaveFirsts owner table i → owner i < length table
    → ((get_or table (owner i) 0 < i) × (owner (get_or table (owner i) 0) ≡ owner i) → ⊥) → HaveFirsts owner (set table (owner i) i) (i + 1)
itself_firsts owner table i firsts room none j l = elim (cases_eq j i) [
  | inl e ↦ subst (λ m. IsFirstWith owner m (get_or (set table (owner i) i) (owner m) 0)) (sym e)
      (subst (λ k. IsFirstWith owner i k) (sym (get_or-set_same table (owner i) i 0 room)) (itself owner table i firsts none))
  | inr ne ↦ (let less : j < i = omega (arith, l, ne) in
      let other : owner j ≢ owner i = none_before owner table i firsts none j less in
      subst (λ k. IsFirstWith owner j k) (sym (get_or-set_other table (owner i) (owner j) i 0 other)) (firsts j less))
]

-- the first n slabs are named
pub record AreNamedTo (pieces : List (List Rect)) (slabs : List Rect) (names : List ℕ) (n : ℕ) : Type 0 where
  pub upto : n ≤ length slabs
  pub each : length names ≡ n
  pub known : (i : ℕ) → i < n → get_or names i 0 < length pieces
  pub lies : (i : ℕ) → i < n → (p : Pt) → slab_at slabs i p → part_at pieces (get_or names i 0) p

pub named_first : (pieces : List (List Rect)) (slabs : List Rect) → AreNamedTo pieces slabs [] 0
named_first pieces slabs = record { upto = omega arith; each = refl; known = λ i l. absurd (omega (arith, l)); lies = λ i l. absurd (omega (arith, l)) }

slab_is : (slabs : List Rect) (n : ℕ) (r : Rect) (p : Pt) → r ≡ get_or slabs n r → slab_at slabs n p → Has r p
slab_is slabs n r p is (s, n_in, same, has) = subst (λ t. Has t p) (sym same ∙ (get_or_default slabs n s r n_in ∙ sym is)) has

covers_slab : (slabs : List Rect) (n : ℕ) (r : Rect) (p : Pt) → n < length slabs → r ≡ get_or slabs n r → Has r p → Covers slabs p
covers_slab slabs n r p n_in is has = (n, r, n_in, sym is, has)

pub named_more : (pieces : List (List Rect)) (slabs : List Rect) (names : List ℕ) (n : ℕ) (r : Rect) (k : ℕ) → AreWhole pieces
    → ((p : Pt) → Covers slabs p → union_of pieces p) → n < length slabs
    → r ≡ get_or slabs n r → k < length pieces → IsOccupied (part_at pieces k) r → AreNamedTo pieces slabs names n → AreNamedTo pieces slabs (names ++ k ∷ []) (n + 1)
named_more pieces slabs names n r k whole inside n_in is k_in (p, in_k, p_in) before =
    let long : length (names ++ k ∷ []) ≡ length names + 1 = length-append names (k ∷ []) in
    let each = before.each in
    record {
      upto = omega (arith, n_in);
      each = omega (arith, long, each);
      known = below_push (λ i m. m < length pieces) names n k each before.known k_in;
      lies = below_push (λ i m. (q : Pt) → slab_at slabs i q → part_at pieces m q) names n k each before.lies
          (λ q at. lies_in pieces r k p q whole (λ s h. inside s (covers_slab slabs n r s n_in is h)) k_in in_k p_in (slab_is slabs n r q is at));
    }

pub named_all : (pieces : List (List Rect)) (slabs : List Rect) (names : List ℕ) (n : ℕ) → length slabs ≤ n → AreNamedTo pieces slabs names n → AreNames pieces slabs names
named_all pieces slabs names n over before =
    let upto = before.upto in
    let each = before.each in
    record { each = omega (arith, over, upto, each); known = λ i l. before.known i (omega (arith, over, l)); lies = λ i p at. before.lies i (omega (arith, over, at.1)) p at }

-- a slab has a square of a piece
pub slab_some : (pieces : List (List Rect)) (slabs : List Rect) (n : ℕ) (r : Rect) → All IsSolid slabs → ((p : Pt) → Covers slabs p → union_of pieces p)
    → n < length slabs → r ≡ get_or slabs n r
    → IsSolid r × IsOccupied (union_of pieces) r
slab_some pieces slabs n r solid inside n_in is =
    let mine : IsSolid r = subst IsSolid (sym is) (solid n r n_in) in
    let wide = mine.wide in
    let tall = mine.tall in
    let p : Pt = record { x = r.x0; y = r.y0 } in
    let has : Has r p = record { left = omega (arith, ints); right = wide; low = omega (arith, ints); high = tall } in
    (mine, (p, inside p (covers_slab slabs n r p n_in is has), has))

pub named_next : (pieces : List (List Rect)) (slabs : List Rect) (names : List ℕ) (n : ℕ) (d : Rect) (k : ℕ) → AreWhole pieces
    → ((p : Pt) → Covers slabs p → union_of pieces p) → n < length slabs
    → k < length pieces → IsOccupied (part_at pieces k) (get_or slabs n d) → AreNamedTo pieces slabs names n → AreNamedTo pieces slabs (names ++ k ∷ []) (n + 1)
named_next pieces slabs names n d k whole inside n_in k_in here before =
    named_more pieces slabs names n (get_or slabs n d) k whole inside n_in (get_or_default slabs n d (get_or slabs n d) n_in) k_in here before

pub some_at : (pieces : List (List Rect)) (slabs : List Rect) (n : ℕ) (d : Rect) → All IsSolid slabs → ((p : Pt) → Covers slabs p → union_of pieces p)
    → n < length slabs → IsOccupied (union_of pieces) (get_or slabs n d)
some_at pieces slabs n d solid inside n_in = (slab_some pieces slabs n (get_or slabs n d) solid inside n_in (get_or_default slabs n d (get_or slabs n d) n_in)).1

pub names_known : (pieces : List (List Rect)) (slabs : List Rect) (names owners : List ℕ) → length owners ≡ length pieces → AreNames pieces slabs names
    → All (λ k. k < length owners) names
names_known pieces slabs names owners long are k d k_in =
    let each = are.each in
    let known = are.known k (omega (arith, k_in, each)) in
    subst (λ m. m < length owners) (get_or_default names k 0 d k_in) (omega (arith, known, long))
