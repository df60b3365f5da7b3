-- Lists of ways, and copies that are shortened one after the other.
use Rattle.std.proofs.Common.{◌≡◌, ◌≢◌, ℕ, zero, suc, ◌+◌, ◌^◌, ◌<◌, ◌≤◌, ◌⊎◌, inl, inr, ⊎_elim, List, [], ◌∷◌, ◌++◌, Some, None, length}
use Rattle.std.proofs.Common.{get_or, take, unwrap_or, refl, sym, ap, ◌∙◌, arith}
use Rattle.std.specs.List.{All, Contains}
use Rattle.std.specs.Prelude.{slice_get}
use Rattle.std.proofs.Math.ListN.{set, length-set}
use Rattle.std.proofs.lemmas.Bool.{cases_lt}
use Rattle.std.proofs.lemmas.Option.{slice_get-get_or, slice_get_past, slice_get_within}
use Rattle.std.proofs.lemmas.List.{take_all, length-take, length-append, get_or-set_same, get_or-set_other}
use Rattle.std.proofs.lemmas.List.Elements.{Contains-append_left, Contains-push, Contains-push_cases, Contains-get_or}
use Rattle.dpl_spec_split.specs.declared.Pt.{Pt}
use Rattle.dpl_spec_split.proofs.Ordered.{Contains-nil, Contains-head, Contains-later, Contains-cases}
use Rattle.dpl_spec_elements.specs.Motions.{image, IsMotionWithin}
use Rattle.dpl_links.proofs.TakeLaws.{Contains-take_more, Contains-take_keeps, Contains-take_last}
use Rattle.dpl_walk.specs.declared.cells.Copies.{Copies}
use Rattle.dpl_walk.specs.declared.cells.Cell.{Cell}
use Rattle.dpl_walk.specs.declared.ways.Way.{Way}
use Rattle.dpl_walk.specs.Cells.{IsReady}
use Rattle.dpl_walk.specs.Walk.{outlines_at, copies_at, outlines_or_none, copies_or_none, AreDeep, AreKnown}
use Rattle.dpl_walk.specs.Ways.{IsWay, AreWays, HasWays, IsShort, IsShortBy, AreShort, IsCellShort, AreCellsShort, IsWhole, AreWhole, AreAllWhole, AreBehind, IsOrderOf}
use Rattle.dpl_walk.proofs.StackLaws.{outlines_are}
use Rattle.dpl_walk.proofs.WayLaws.{own_is_way, way_within}

-- ---- lists

some_is : {X : Type 0} (x y : X) → Some x ≡ Some y → x ≡ y
some_is x y e = ap (λ o. unwrap_or o x) e

none_is : {X : Type 0} (x : X) → None ≡ Some x → ⊥
none_is x e = cc

slice_get_push : {X : Type 0} (xs : List X) (x : X) (j : ℕ) (v : X) → slice_get (xs ++ x ∷ []) j ≡ Some v → (slice_get xs j ≡ Some v) ⊎ ((j ≡ length xs) × (v ≡ x))
slice_get_push [] x zero v e = inr (refl, sym (some_is x v e))
slice_get_push [] x (suc j) v e = absurd (none_is v e)
slice_get_push (y ∷ ys) x zero v e = inl e
slice_get_push (y ∷ ys) x (suc j) v e = ⊎_elim (λ a. inl a) (λ (a : (j ≡ length ys) × (v ≡ x)). inr (let f = a.0 in omega (arith, f), a.1)) (slice_get_push ys x j v e)

set_here : {X : Type 0} (xs : List X) (i : ℕ) (x : X) → i < length xs → slice_get (set xs i x) i ≡ Some x
set_here xs i x h = slice_get-get_or (set xs i x) i x (omega (arith, h, length-set xs i x)) ∙ ap Some (get_or-set_same xs i x x h)

set_elsewhere : {X : Type 0} (xs : List X) (i j : ℕ) (x : X) → j ≢ i → slice_get (set xs i x) j ≡ slice_get xs j
set_elsewhere xs i j x n =
    ⊎_elim
    (λ (h : j < length xs). slice_get-get_or (set xs i x) j x (omega (arith, h, length-set xs i x)) ∙ (ap Some (get_or-set_other xs i j x x n) ∙ sym (slice_get-get_or xs j x h)))
    (λ (h : length xs ≤ j). slice_get_past (set xs i x) j (omega (arith, h, length-set xs i x)) ∙ sym (slice_get_past xs j h))
    (cases_lt j (length xs))

same_or_not : (i j : ℕ) → (i ≡ j) ⊎ (i ≢ j)
same_or_not i j = ⊎_elim (λ (h : i < j). inr (λ e. omega (arith, h, e)))
    (λ (h : j ≤ i). ⊎_elim (λ (l : j < i). inr (λ e. omega (arith, l, e))) (λ (l : i ≤ j). inl (omega (arith, h, l))) (cases_lt j i))
    (cases_lt i j)

-- ---- ways

-- the ways of structures to themselves
abbrev pub AreOwn : List Way → Type 0
AreOwn ways = (k : ℕ) (w : Way) → slice_get ways k ≡ Some w → (w.target ≡ k) × ((p : Pt) → image w.place p ≡ p) × IsMotionWithin 0 w.place

pub own_none : (ways : List Way) → ways ≡ [] → AreOwn ways
own_none ways e k w s = absurd (none_is w (rw e at s))

pub own_more : (ways new : List Way) (w : Way) (k : ℕ) → new ≡ ways ++ w ∷ [] → length ways ≡ k → w.target ≡ k
    → ((p : Pt) → image w.place p ≡ p) → IsMotionWithin 0 w.place → AreOwn ways → AreOwn new
own_more ways new w k e l target stays still own j v s =
    ⊎_elim (λ a. own j v a)
    (λ (a : (j ≡ length ways) × (v ≡ w)). let there : v.target ≡ j = ap (λ (x : Way). x.target) a.1 ∙ (target ∙ (sym l ∙ sym a.0)) in (there, rw a.1 stays, rw a.1 still))
    (slice_get_push ways w j v (rw e at s))

pub own_targets : (ways : List Way) → AreOwn ways → (k : ℕ) (w : Way) → slice_get ways k ≡ Some w → w.target ≡ k
own_targets ways own k w s = (own k w s).0

pub own_all : (cells : List Cell) (ways : List Way) → AreDeep cells → length ways ≡ length cells → AreOwn ways → HasWays cells ways
own_all cells ways d e own = (
  d,
  record {
    each = e;
    way = λ k w s. let o = own k w s in let h = slice_get_within ways k w s in own_is_way cells d.level k w (omega (arith, h, e)) o.0 o.1 o.2;
  },
)

pub ways_set : (cells : List Cell) (ways new : List Way) (k : ℕ) (w : Way) → k < length cells → new ≡ set ways k w
    → ((d : AreDeep cells) → AreWays cells d.level ways → IsWay cells d.level k w) → HasWays cells ways → HasWays cells new
ways_set cells ways new k w h e is a = (
  a.0,
  rw e (record {
    each = length-set ways k w ∙ a.1.each;
    way = λ j v s. ⊎_elim (λ (q : j ≡ k). here j v q s) (λ n. a.1.way j v (sym (set_elsewhere ways k j w n) ∙ s)) (same_or_not j k);
  }),
)
  where
    here : (j : ℕ) (v : Way) → j ≡ k → slice_get (set ways k w) j ≡ Some v → IsWay cells a.0.level j v
    here j v q s =
        let l = a.1.each in
        let t : w ≡ v = some_is w v (sym (set_here ways k w (omega (arith, h, l))) ∙ rw q at s) in
        rw (q, ← t) (is a.0 a.1)

pub whole_set : (cells : List Cell) (order : List ℕ) (i d : ℕ) (ways new : List Way) (w : Way) → i < length order
    → get_or order i d < length ways → new ≡ set ways (get_or order i d) w
    → (((c : Copies) (v : Way) → Contains (copies_at cells (get_or order i d)) c → slice_get ways c.target ≡ Some v → IsWhole cells v)
    → IsWhole cells w) → (AreBehind cells order → AreWhole cells ways (take i order)) → AreBehind cells order
    → AreWhole cells new (take (i + 1) order)
whole_set cells order i d ways new w h l e is a behind k v m s =
    ⊎_elim here (λ n. ⊎_elim (λ x. a behind k v x (sym (set_elsewhere ways (get_or order i d) k w n) ∙ rw e at s)) (λ q. absurd (n q))
    (Contains-take_more order i d k h m)) (same_or_not k (get_or order i d))
  where
    here : k ≡ get_or order i d → IsWhole cells v
    here q =
        let t : w ≡ v = some_is w v (sym (set_here ways (get_or order i d) w l) ∙ rw (e, q) at s) in
        rw (← t) (is (λ c u inside there. a behind c.target u (behind i (get_or order i d) c (slice_get-get_or order i d h) inside) there))

contains_or_not : (ks : List ℕ) (k : ℕ) → Contains ks k ⊎ ¬ Contains ks k
contains_or_not [] k = inr (λ h. Contains-nil k h)
contains_or_not (j ∷ js) k =
    ⊎_elim (λ (e : j ≡ k). inl (rw e (Contains-head k js)))
    (λ n. ⊎_elim (λ h. inl (Contains-later j k js h)) (λ m. inr (λ h. ⊎_elim (λ e. n e) (λ x. m x) (Contains-cases j k js h))) (contains_or_not js k))
    (same_or_not j k)

-- the ways of structures that aren't among these lead to the structures themselves
abbrev pub AreOwnBeside : List Way → List ℕ → Type 0
AreOwnBeside ways ks = (k : ℕ) (w : Way) → slice_get ways k ≡ Some w → ¬ Contains ks k → w.target ≡ k

pub own_set : (order : List ℕ) (i d : ℕ) (ways new : List Way) (w : Way) → i < length order → new ≡ set ways (get_or order i d) w
    → AreOwnBeside ways (take i order) → AreOwnBeside new (take (i + 1) order)
own_set order i d ways new w h e own k v s n =
    ⊎_elim (λ (q : k ≡ get_or order i d). absurd (n (Contains-take_last order i d k h q)))
    (λ m. own k v (sym (set_elsewhere ways (get_or order i d) k w m) ∙ rw e at s) (λ x. n (Contains-take_keeps order i d k h x)))
    (same_or_not k (get_or order i d))

-- once the order is through, each way is as long as can be
pub whole_all : (cells : List Cell) (order : List ℕ) (ways : List Way) → IsOrderOf cells order → AreWhole cells ways order → AreOwnBeside ways order → AreAllWhole cells ways
whole_all cells order ways o whole own k w s =
    ⊎_elim (λ h. whole k w h s) (λ n p. let e = own k w s n in n (o.whole k (rw e at p))) (contains_or_not order k)

pub all_within : (cells : List Cell) (ways : List Way) → length cells ≤ 2 ^ 26 → HasWays cells ways → All (λ (w : Way). IsMotionWithin (2 ^ 60) w.place) ways
all_within cells ways few a k d h = way_within cells a.0 k (get_or ways k d) few (a.1.way k (get_or ways k d) (slice_get-get_or ways k d h))

-- ---- copies

pub short_none : (ways : List Way) (new : List Copies) → new ≡ [] → AreShort ways [] new
short_none ways new e = record {
  each = ap length e;
  kept = λ c h. absurd (Contains-nil c h);
  alone = λ s h. absurd (Contains-nil s (rw e at h));
}

pub short_more : (ways : List Way) (cs : List Copies) (i : ℕ) (d s : Copies) (old new : List Copies) → i < length cs → new ≡ old ++ s ∷ []
    → IsShortBy ways (get_or cs i d) s → AreShort ways (take i cs) old → AreShort ways (take (i + 1) cs) new
short_more ways cs i d s old new h e is a = record {
  each = omega (arith, ap length e, length-append old (s ∷ []), length-take i cs, length-take (i + 1) cs, a.each, h);
  kept = λ c k. ⊎_elim (λ x. let b = a.kept c x in (b.0, rw e (Contains-append_left old (s ∷ []) b.0 b.1), b.2))
      (λ (q : c ≡ get_or cs i d). (s, rw e (Contains-push old s), rw q is)) (Contains-take_more cs i d c h k);
  alone = λ t k. ⊎_elim (λ x. let b = a.alone t x in (b.0, Contains-take_keeps cs i d b.0 h b.1, b.2))
      (λ (q : s ≡ t). (get_or cs i d, Contains-take_last cs i d (get_or cs i d) h refl, rw (← q) is))
      (Contains-push_cases old s t (rw e at k));
}

pub short_read : (ways : List Way) (cs : List Copies) (i : ℕ) (d : Copies) (w : Way) (s : Copies) (old new : List Copies) → i < length cs
    → new ≡ old ++ s ∷ [] → (get_or cs i d).target < length ways → w ≡ get_or ways (get_or cs i d).target w → IsShort (get_or cs i d) w s
    → AreShort ways (take i cs) old → AreShort ways (take (i + 1) cs) new
short_read ways cs i d w s old new h e l is short a = short_more ways cs i d s old new h e (w, slice_get-get_or ways (get_or cs i d).target w l ∙ ap Some (sym is), short) a

pub short_all : (ways : List Way) (cs : List Copies) (i : ℕ) (new : List Copies) → length cs ≤ i → AreShort ways (take i cs) new → AreShort ways cs new
short_all ways cs i new h a = rw (take_all i cs h) at a

-- ---- cells

-- the copies of the first n structures were shortened
pub record AreShortBelow (ways : List Way) (n : ℕ) (old new : List Cell) : Type 0 where
  pub each : length new ≡ length old
  pub draws : (k : ℕ) → outlines_at new k ≡ outlines_at old k
  pub made : (k : ℕ) → k < n → AreShort ways (copies_at old k) (copies_at new k)
  pub left : (k : ℕ) → n ≤ k → copies_at new k ≡ copies_at old k

pub below_start : (ways : List Way) (cells : List Cell) → AreShortBelow ways 0 cells cells
below_start ways cells = record { each = refl; draws = λ k. refl; made = λ k h. absurd (omega (arith, h)); left = λ k h. refl }

pub below_next : (ways : List Way) (n : ℕ) (old mid new : List Cell) → AreShortBelow ways n old mid → IsCellShort ways n mid new → AreShortBelow ways (n + 1) old new
below_next ways n old mid new b s = record {
  each = s.each ∙ b.each;
  draws = λ k. s.draws k ∙ b.draws k;
  made = λ k h. ⊎_elim (λ (q : k ≡ n). rw q (rw (b.left n (omega arith)) at s.copies)) (λ ne. rw (s.others k ne) (b.made k (omega (arith, h, ne)))) (same_or_not k n);
  left = λ k h. s.others k (λ q. omega (arith, h, q)) ∙ b.left k (omega (arith, h));
}

pub below_end : (ways : List Way) (n : ℕ) (old new : List Cell) → length old ≤ n → AreShortBelow ways n old new → AreCellsShort ways old new
below_end ways n old new h b = record {
  each = b.each;
  draws = b.draws;
  copies = λ k. ⊎_elim (λ (l : k < n). b.made k l) (λ (l : n ≤ k). none_there k l) (cases_lt k n);
}
  where
    none_there : (k : ℕ) → n ≤ k → AreShort ways (copies_at old k) (copies_at new k)
    none_there k l = rw (b.left k l, ap copies_or_none (slice_get_past old k (omega (arith, h, l)))) (short_none ways [] refl)

module _ (ways : List Way) (n : ℕ) (old mid : List Cell) (known : AreKnown (2 ^ 31) old) (has : HasWays old ways) (b : AreShortBelow ways n old mid) where
  same_here : copies_at mid n ≡ copies_at old n
  same_here = b.left n (omega arith)

  pub all_ready : All (IsReady (2 ^ 31)) (copies_at mid n)
  all_ready = rw same_here (λ k d h. known.ready n (get_or (copies_at old n) k d) (Contains-get_or (copies_at old n) k d h))

  pub all_known : All (λ (c : Copies). c.target < length ways) (copies_at mid n)
  all_known = rw same_here (λ k d h. let t = known.targets n (get_or (copies_at old n) k d) (Contains-get_or (copies_at old n) k d h) in let e = has.1.each in omega (arith, t, e))

-- a structure was replaced by one with shortened copies
pub cell_short : (ways : List Way) (cells : List Cell) (k : ℕ) (x y : Cell) → k < length cells → x ≡ get_or cells k x
    → y.outlines ≡ x.outlines → AreShort ways (copies_at cells k) y.copies → IsCellShort ways k cells (set cells k y)
cell_short ways cells k x y h e o s = record {
  each = length-set cells k y;
  draws = λ i. ⊎_elim (λ (q : i ≡ k). rw q here) (λ n. ap outlines_or_none (set_elsewhere cells k i y n)) (same_or_not i k);
  copies = let a : copies_at (set cells k y) k ≡ y.copies = ap copies_or_none (set_here cells k y h) in rw a s;
  others = λ i n. ap copies_or_none (set_elsewhere cells k i y n);
}
  where
    here : outlines_at (set cells k y) k ≡ outlines_at cells k
    here = ap outlines_or_none (set_here cells k y h) ∙ (o ∙ outlines_are cells k x h e)
