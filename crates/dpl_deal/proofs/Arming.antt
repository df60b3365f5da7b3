-- Steps of dealing, of giving grips, and of the end.
use Rattle.std.proofs.Common.{Bool, ◌≡◌, ◌≢◌, ◌∙◌, ◌+◌, ◌%◌, ◌<◌, ◌≤◌, ◌==◌, ℕ, zero, suc, true, false, List, [], ◌∷◌, ◌++◌, length, map}
use Rattle.std.proofs.Common.{set, get_or, take, replicate, refl, sym, ap, subst, arith, ⊎_elim, slice_get, Some}
use Rattle.std.specs.Prelude.{All, Contains, if◌then◌else◌}
use Rattle.std.specs.List.{AllByRecursion as Each}
use Rattle.std.specs.declared.alloc.Global.{Global}
use Rattle.std.proofs.lemmas.List.{get_or-set_same, get_or-set_other, length-set, length-map, map-set, get_or-map, append-nil, take_more}
use Rattle.std.proofs.lemmas.List.Elements.{All-from_recursion, recursion_from_All}
use Rattle.std.proofs.lemmas.Bool.{cases_lt}
use Rattle.std.proofs.lemmas.Bool.Decides.{nat_tests}
use mathlib.Core.Logic.{dite}
use native.Mathlib.Decide.{ℕ_discrete}
use Rattle.atomic_blocks.specs.Lent.{RowsId}
use Rattle.dpl_deal.specs.declared.view.PassView.{PassView}
use Rattle.dpl_deal.specs.declared.grip.Grip.{Grip}
use Rattle.dpl_deal.specs.declared.hand.Hand.{Hand}
use Rattle.dpl_deal.specs.declared.deal.Deal.{Deal}
use Rattle.dpl_deal.specs.Rule.{after_deal, after_grip, after_seal, cut_off, dealer}
use Rattle.dpl_deal.specs.Grips.{AllEnded, grip_deque, grip_view, joined, took_by}
use Rattle.dpl_deal.specs.Hands.{AreHandsOf, EachAt, HasEachOnce, IsArmed, IsDealing, IsDone, IsOut, all_taken, deal_deques}
use Rattle.dpl_deal.specs.Hands.{dealt_times, dealt_to, deques_of, joined_all, marks_of, own_deque, own_view, row_of, rows_of, taken}
use Rattle.dpl_deal.specs.Hands.{took_times, views_of}
use Rattle.dpl_deal.proofs.Dealings.{dealt_all, joined_all_more, view_here, ended_all, parts_all, put_owner, took_nothing, took_total, within_cut}
use Rattle.dpl_deal.proofs.Rounds.{dealt_once}

pub each_put : {A : Type 0} (P Q : ℕ → A → Type 0) (xs : List A) (i : ℕ) (new : A) → i < length xs → EachAt P xs
    → ((j : ℕ) (x : A) → j ≢ i → P j x → Q j x) → Q i new → EachAt Q (set xs i new)
each_put P Q xs i new lt h f q k d klt = dite (ℕ_discrete k i)
    (λ (e : k ≡ i). subst (Q k) (sym (ap (λ (n : ℕ). get_or (set xs i new) n d) e ∙ get_or-set_same xs i new d lt)) (subst (λ (j : ℕ). Q j new) (sym e) q))
    (λ (ne : k ≢ i). subst (Q k) (sym (get_or-set_other xs i k new d ne)) (f k _ ne (h k d (omega (arith, klt, length-set xs i new)))))

-- dealing

next_of : (n : ℕ) → n + 1 ≡ suc n
next_of n = omega arith

deals_on : (n w i : ℕ) (v : PassView) → i ≡ n % w → IsDealing n w i v → IsDealing (n + 1) w i (after_deal v n)
deals_on n w i v is h =
    let e : (n % w == i) ≡ true = grind (arith, nat_tests) in record {
      parts = h.parts;
      due = h.due;
      ended = h.ended;
      limit = omega arith;
      took = h.took;
      dealt = ap (λ (l : List ℕ). l ++ n ∷ []) h.dealt ∙ ap (λ b. dealt_to n w i ++ (if b then n ∷ [] else [])) (sym e) ∙ ap (λ (k : ℕ). dealt_to k w i) (sym (next_of n));
    }

waits : (n w i : ℕ) (v : PassView) → i ≢ n % w → IsDealing n w i v → IsDealing (n + 1) w i v
waits n w i v ne h =
    let e : (n % w == i) ≡ false = differ (n % w) i (λ s. ne (sym s)) in record {
      parts = h.parts;
      due = h.due;
      ended = h.ended;
      limit = omega (arith, h.limit);
      took = h.took;
      dealt = h.dealt ∙ sym (append-nil (dealt_to n w i)) ∙ ap (λ b. dealt_to n w i ++ (if b then n ∷ [] else [])) (sym e) ∙ ap (λ (k : ℕ). dealt_to k w i) (sym (next_of n));
    }
  where
    differ : (a b : ℕ) → a ≢ b → (a == b) ≡ false
    differ a b ne = grind (arith, nat_tests)

here_replicate : (n i : ℕ) (d : PassView) → i < n → get_or (replicate n dealer) i d ≡ dealer
here_replicate zero i d lt = absurd (omega arith)
here_replicate (suc n) zero d lt = refl
here_replicate (suc n) (suc i) d lt = here_replicate n i d (omega arith)

length_replicate : (n : ℕ) → length (replicate n dealer) ≡ n
length_replicate zero = refl
length_replicate (suc n) = ap suc (length_replicate n)

pub spread_start : (vs : List PassView) (n w : ℕ) → vs ≡ replicate n dealer → EachAt (IsDealing 0 w) vs
spread_start vs n w e i d lt = subst (IsDealing 0 w i) (sym (ap (λ l. get_or l i d) e ∙ here_replicate n i d (omega (arith, lt, ap length e, length_replicate n))))
    (record { parts = refl; due = refl; ended = refl; limit = omega arith; took = refl; dealt = refl })

pub spread_step : (n w : ℕ) (os : List Hand) (i : ℕ) (o new : Hand) → i < length os → i ≡ n % w → o ≡ get_or os i o → EachAt (IsDealing n w) (views_of os)
    → own_view new ≡ after_deal (own_view o) n → EachAt (IsDealing (n + 1) w) (views_of (set os i new))
spread_step n w os i o new lt at is all e =
    let len : i < length (views_of os) = omega (arith, lt, length-map os own_view) in
    let p = put_owner os i o new (λ v. after_deal v n) lt is e in
    subst (EachAt (IsDealing (n + 1) w)) (sym p) (each_put (IsDealing n w) (IsDealing (n + 1) w) (views_of os) i _ len all
    (λ j v ne h. waits n w j v (λ s. ne (s ∙ sym at)) h) (deals_on n w i _ at (all i (own_view o) len)))

-- giving grips

one_more_out : (k n w i : ℕ) (v : PassView) → k < 64 → IsOut k n w i v → IsOut (k + 1) n w i (after_grip v)
one_more_out k n w i v few h = record { parts = (let p = h.parts in omega arith); limit = h.limit; took = h.took; dealt = h.dealt }

pub none_out : (n w : ℕ) (vs : List PassView) → EachAt (IsDealing n w) vs → EachAt (IsOut 0 n w) vs
none_out n w vs h i d lt = let q = h i d lt in record { parts = (let p = q.parts in omega arith); limit = q.limit; took = q.took; dealt = q.dealt }

pub out_more : (k n w : ℕ) (vs ws : List PassView) → k < 64 → ws ≡ map after_grip vs → EachAt (IsOut k n w) vs → EachAt (IsOut (k + 1) n w) ws
out_more k n w vs ws few e h i d lt =
    let lt' : i < length vs = omega (arith, lt, ap length e, length-map vs after_grip) in
    subst (IsOut (k + 1) n w i) (sym (ap (λ l. get_or l i d) e ∙ get_or-map after_grip vs i (get_or vs i d) d lt'))
    (one_more_out k n w i _ few (h i (get_or vs i d) lt'))

-- no more are out where a hand's own mark is laid
pub out_sealed : (k n w : ℕ) (os : List Hand) (i : ℕ) (o new : Hand) → i < length os → o ≡ get_or os i o → EachAt (IsOut k n w) (views_of os)
    → own_view new ≡ after_seal (own_view o) → EachAt (IsOut k n w) (views_of (set os i new))
out_sealed k n w os i o new lt is all e =
    let len : i < length (views_of os) = omega (arith, lt, length-map os own_view) in
    let p = put_owner os i o new after_seal lt is e in
    let old = all i (own_view o) len in
    subst (EachAt (IsOut k n w)) (sym p) (each_put (IsOut k n w) (IsOut k n w) (views_of os) i _ len all (λ j v ne h. h)
    (record { parts = old.parts; limit = old.limit; took = old.took; dealt = old.dealt }))

pub parts_left : (k n w : ℕ) (vs : List PassView) → k < 64 → EachAt (IsOut k n w) vs → All (λ v. 1 < v.parts) vs
parts_left k n w vs few h i d lt = let p = (h i d lt).parts in omega arith

-- the first hands are armed
pub armed_more : (deques : List (RowsId × Global)) (tiles : ℕ) (os : List Hand) (i : ℕ) (new : Hand) (rows : List (List Grip)) → i < length os → rows_of os ≡ rows
    → ((j : ℕ) (d : List Grip) → j < i → IsArmed deques tiles (get_or rows j d)) → IsArmed deques tiles (row_of new)
    → (j : ℕ) (d : List Grip) → j < i + 1 → IsArmed deques tiles (get_or (rows_of (set os i new)) j d)
armed_more deques tiles os i new rows lt same h a j d jlt =
    let len : i < length (rows_of os) = omega (arith, lt, length-map os row_of) in
    subst (λ (l : List (List Grip)). IsArmed deques tiles (get_or l j d)) (sym (map-set row_of os i new))
    (dite (ℕ_discrete j i)
    (λ (e : j ≡ i). subst (IsArmed deques tiles) (sym (ap (λ (k : ℕ). get_or (set (rows_of os) i (row_of new)) k d) e ∙ get_or-set_same (rows_of os) i (row_of new) d len)) a)
    (λ (ne : j ≢ i). subst (IsArmed deques tiles)
    (sym (get_or-set_other (rows_of os) i j (row_of new) d ne ∙ ap (λ (l : List (List Grip)). get_or l j d) same))
    (h j d (below j i jlt ne))))
  where
    below : (j i : ℕ) → j < i + 1 → j ≢ i → j < i
    below j i lt ne = ⊎_elim (λ (a : j < i). a) (λ (b : i ≤ j). absurd (ne (omega arith))) (cases_lt j i)

pub marked_more : (os : List Hand) (i : ℕ) (new : Hand) (ms : List Bool) → i < length os → marks_of os ≡ ms
    → ((j : ℕ) (d : Bool) → j < i → get_or ms j d ≡ true) → new.marked ≡ true
    → (j : ℕ) (d : Bool) → j < i + 1 → get_or (marks_of (set os i new)) j d ≡ true
marked_more os i new ms lt same h a j d jlt =
    let len : i < length (marks_of os) = omega (arith, lt, length-map os (λ (h : Hand). h.marked)) in
    ap (λ (l : List Bool). get_or l j d) (map-set (λ (h : Hand). h.marked) os i new)
    ∙ dite (ℕ_discrete j i)
    (λ (e : j ≡ i). ap (λ (k : ℕ). get_or (set (marks_of os) i new.marked) k d) e ∙ get_or-set_same (marks_of os) i new.marked d len ∙ a)
    (λ (ne : j ≢ i). get_or-set_other (marks_of os) i j new.marked d ne ∙ ap (λ (l : List Bool). get_or l j d) same ∙ h j d (below j i jlt ne))
  where
    below : (j i : ℕ) → j < i + 1 → j ≢ i → j < i
    below j i lt ne = ⊎_elim (λ (a : j < i). a) (λ (b : i ≤ j). absurd (ne (omega arith))) (cases_lt j i)

pub marked_all : (os : List Hand) (i : ℕ) → length os ≤ i → ((j : ℕ) (d : Bool) → j < i → get_or (marks_of os) j d ≡ true) → All (λ m. m ≡ true) (marks_of os)
marked_all os i le h j d lt = h j d (omega (arith, le, lt, length-map os (λ (h : Hand). h.marked)))

pub armed_row : (deques : List (RowsId × Global)) (k n w : ℕ) (gs : List Grip) (vs : List PassView) → map grip_deque gs ≡ deques
    → map grip_view gs ≡ map cut_off vs → EachAt (IsOut k n w) vs → IsArmed deques n gs
armed_row deques k n w gs vs ds e out = record { grips = ds; within = within_cut n gs vs e (λ i d lt. (out i d lt).limit); took = took_nothing gs vs e }

-- what is opened

get_of_map : {A B : Type 0} (f : A → B) (xs : List A) (i : ℕ) (d : A) → i < length xs → slice_get (map f xs) i ≡ Some (f (get_or xs i d))
get_of_map f [] i d lt = absurd (omega arith)
get_of_map f (x ∷ xs) zero d lt = refl
get_of_map f (x ∷ xs) (suc i) d lt = get_of_map f xs i d (omega arith)

pub opened : (deal : Deal) (hs : List Hand) → deal_deques deal ≡ deques_of hs → EachAt (IsOut (length hs) deal.tiles (length hs))
    (views_of hs) → All (IsArmed (deques_of hs) deal.tiles) (rows_of hs) → All (λ m. m ≡ true) (marks_of hs) → AreHandsOf deal hs
opened deal hs ds out armed marked = (
  sym len,
  λ i d lt.
      let v : get_or (views_of hs) i (own_view d) ≡ own_view (get_or hs i d) = get_or-map own_view hs i d (own_view d) lt in
      let o = subst (IsOut (length hs) deal.tiles (length hs) i) v (out i (own_view d) (omega (arith, lt, length-map hs own_view))) in
      let r : get_or (rows_of hs) i (row_of d) ≡ row_of (get_or hs i d) = get_or-map row_of hs i d (row_of d) lt in
      let m : (get_or hs i d).marked ≡ true = sym (get_or-map (λ (h : Hand). h.marked) hs i d d.marked lt)
      ∙ marked i d.marked (omega (arith, lt, length-map hs (λ (h : Hand). h.marked))) in
      let a = subst (IsArmed (deques_of hs) deal.tiles) r (armed i (row_of d) (omega (arith, lt, length-map hs row_of))) in record {
        deque = ap (λ l. slice_get l i) ds ∙ get_of_map own_deque hs i d lt;
        dealt = o.dealt ∙ ap (λ (k : ℕ). dealt_to deal.tiles k i) (sym len);
        parts = (let p = o.parts in omega (arith, p, len));
        limit = o.limit;
        grips = a.grips ∙ sym ds;
        within = a.within;
        notes = λ f. absurd (let w : false ≡ true = sym f ∙ m in cc);
      },
)
  where
    len : length (deal_deques deal) ≡ length hs
    len = ap length ds ∙ length-map hs own_deque

pub none_taken : (k n w m : ℕ) (deques : List (RowsId × Global)) (hs : List Hand) → EachAt (IsOut k n w) (views_of hs)
    → All (IsArmed deques m) (rows_of hs) → All (λ h. taken h ≡ []) hs
none_taken k n w m deques hs out armed i d lt =
    let v : get_or (views_of hs) i (own_view d) ≡ own_view (get_or hs i d) = get_or-map own_view hs i d (own_view d) lt in
    let o = subst (IsOut k n w i) v (out i (own_view d) (omega (arith, lt, length-map hs own_view))) in
    let r : get_or (rows_of hs) i (row_of d) ≡ row_of (get_or hs i d) = get_or-map row_of hs i d (row_of d) lt in
    let a = subst (IsArmed deques m) r (armed i (row_of d) (omega (arith, lt, length-map hs row_of))) in
    ap (λ (l : List ℕ). l ++ took_by (row_of (get_or hs i d))) o.took ∙ a.took

-- what is closed

same_by_get : {A B : Type 0} (f : B → A) (xs : List A) (ys : List B) → length ys ≡ length xs
    → ((i : ℕ) (d : B) → i < length ys → slice_get xs i ≡ Some (f (get_or ys i d))) → xs ≡ map f ys
same_by_get f [] [] len h = refl
same_by_get f [] (y ∷ ys) len h = absurd (omega arith)
same_by_get f (x ∷ xs) [] len h = absurd (omega arith)
same_by_get f (x ∷ xs) (y ∷ ys) len h =
    let e : Some x ≡ Some (f y) = h 0 y (omega arith) in
    cons_same x (f y) xs (map f ys) e (same_by_get f xs ys (omega arith) (λ i d lt. h (suc i) d (omega arith)))
  where
    cons_same : {A : Type 0} (x y : A) (xs ys : List A) → Some x ≡ Some y → xs ≡ ys → x ∷ xs ≡ y ∷ ys
    cons_same x y xs ys e r = ap (λ z. z ∷ xs) (cc) ∙ ap (λ l. y ∷ l) r

pub hands_deques : (deal : Deal) (hs : List Hand) → AreHandsOf deal hs → deal_deques deal ≡ deques_of hs
hands_deques deal hs h = same_by_get own_deque (deal_deques deal) hs h.0 (λ i d lt. (h.1 i d lt).deque)

pub hands_rows : (deal : Deal) (hs : List Hand) → AreHandsOf deal hs → All (λ h. map grip_deque (row_of h) ≡ deques_of hs) hs
hands_rows deal hs h i d lt = (h.1 i d lt).grips ∙ hands_deques deal hs h

lens : (deal : Deal) (hs : List Hand) → AreHandsOf deal hs → Each (λ h. length (row_of h) ≡ length (views_of hs)) hs
lens deal hs h = recursion_from_All (λ k. length (row_of k) ≡ length (views_of hs)) hs (λ i d lt.
    let e = ap length ((h.1 i d lt).grips) in omega (arith, e, length-map (row_of (get_or hs i d)) grip_deque, length-map hs own_view, h.0))

pub ready : (deal : Deal) (hs : List Hand) → AreHandsOf deal hs → (h : Hand) → Contains hs h → IsDone h
    → All (λ v. (v.parts ≡ 1024) × (v.ended ≡ true)) (joined_all (views_of hs) hs)
ready deal hs all h has done =
    let ls = lens deal hs all in
    let p = All-from_recursion (λ v. v.parts + 0 ≡ 1024) (joined_all (views_of hs) hs)
    (parts_all (views_of hs) hs ls (recursion_from_All (λ v. v.parts + length hs ≡ 1024) (views_of hs) (λ i d lt.
    let lt' : i < length hs = omega (arith, lt, length-map hs own_view) in
    let q = (all.1 i h lt').parts in
    let v : get_or (views_of hs) i d ≡ own_view (get_or hs i h) = get_or-map own_view hs i h d lt' in
    omega (arith, q, all.0, ap (λ (u : PassView). u.parts) v)))) in
    let e = All-from_recursion (λ v. v.ended ≡ true) (joined_all (views_of hs) hs)
    (ended_all (views_of hs) hs has.0 h ls has.1 (recursion_from_All (λ g. (grip_view g).ended ≡ true) (row_of (get_or hs has.0 h))
    (subst (λ (y : Hand). AllEnded (row_of y)) (sym has.2) done))) in
    λ k d lt. (omega (arith, p k d lt), e k d lt)

pub closed : (deal : Deal) (hs : List Hand) → AreHandsOf deal hs → (h : Hand) → Contains hs h
    → ((x : ℕ) → dealt_times x (joined_all (views_of hs) hs) ≡ took_times x (joined_all (views_of hs) hs)) → HasEachOnce deal.tiles (all_taken hs)
closed deal hs all h has learnt x =
    let t = took_total x hs (lens deal hs all) in
    let n = length-map hs own_view in
    let d = dealt_once deal.tiles x (views_of hs) (omega (arith, has.1, n)) (λ i d lt.
    let lt' : i < length hs = omega (arith, lt, n) in
    ap (λ (u : PassView). u.dealt) (get_or-map own_view hs i h d lt') ∙ (all.1 i h lt').dealt ∙ ap (λ (k : ℕ). dealt_to deal.tiles k i) (sym all.0 ∙ sym n)) in
    omega (arith, t, d, dealt_all x (views_of hs) hs, learnt x)

pub here_dealing : (n w : ℕ) (os : List Hand) (i : ℕ) (o : Hand) → i < length os → o ≡ get_or os i o → EachAt (IsDealing n w) (views_of os) → IsDealing n w i (own_view o)
here_dealing n w os i o lt is h = subst (IsDealing n w i) (sym (view_here os i o (own_view o) lt is)) (h i (own_view o) (omega (arith, lt, length-map os own_view)))

-- joining

first_of : {A : Type 0} (xs : List A) (i : ℕ) → i < length xs → A
first_of [] i lt = absurd (omega arith)
first_of (x ∷ xs) i lt = x

row_same : (a b : List Hand) (j : ℕ) (d : Hand) → rows_of a ≡ rows_of b → j < length a → row_of (get_or a j d) ≡ row_of (get_or b j d)
row_same a b j d e lt =
    let n : length a ≡ length b = omega (arith, ap length e, length-map a row_of, length-map b row_of) in
    sym (get_or-map row_of a j d (row_of d) lt) ∙ ap (λ l. get_or l j (row_of d)) e ∙ get_or-map row_of b j d (row_of d) (omega (arith, lt, n))

-- one hand's row is joined, which it gave away
pub join_next : (init now mid new : List Hand) (row : List Grip) (at : ℕ) → at < length init
    → views_of now ≡ joined_all (views_of init) (take at init) → deques_of now ≡ deques_of init
    → ((j : ℕ) (d : Hand) → at ≤ j → j < length init → row_of (get_or now j d) ≡ row_of (get_or init j d)) → ((d : Hand) → row ≡ row_of (get_or now at d))
    → views_of mid ≡ views_of now → deques_of mid ≡ deques_of now → ((j : ℕ) (d : Hand) → at < j → get_or mid j d ≡ get_or now j d)
    → deques_of new ≡ deques_of mid → views_of new ≡ joined (views_of mid) row → rows_of new ≡ rows_of mid
    → (views_of new ≡ joined_all (views_of init) (take (at + 1) init)) × ((j : ℕ) (d : Hand) → at + 1 ≤ j → j < length init → row_of (get_or new j d) ≡ row_of (get_or init j d))
join_next init now mid new row at lt vs ds rest is vs1 ds1 rest1 ds2 vs2 rows2 =
    let d = first_of init at lt in
    let h = get_or init at d in
    let len : length new ≡ length init = omega (arith, ap length (ds2 ∙ ds1 ∙ ds), length-map new own_deque, length-map init own_deque) in (
      vs2 ∙ ap (λ l. joined l row) (vs1 ∙ vs) ∙ ap (joined (joined_all (views_of init) (take at init))) (is d ∙ rest at d (omega arith) lt)
          ∙ sym (joined_all_more (views_of init) (take at init) h) ∙ ap (joined_all (views_of init)) (sym (take_more init at d lt)),
      λ j e le jlt. row_same new mid j e rows2 (omega (arith, jlt, len)) ∙ ap row_of (rest1 j e (omega arith)) ∙ rest j e (omega arith) jlt,
    )

pub row_fits : (init now : List Hand) (at : ℕ) (row : List Grip) → at < length init → ((j : ℕ) (d : Hand) → at ≤ j → j < length init
    → row_of (get_or now j d) ≡ row_of (get_or init j d)) → ((d : Hand) → row ≡ row_of (get_or now at d))
    → All (λ h. map grip_deque (row_of h) ≡ deques_of init) init → map grip_deque row ≡ deques_of init
row_fits init now at row lt rest is h =
    let d = first_of init at lt in ap (map grip_deque) (is d ∙ rest at d (omega arith) lt) ∙ h at d lt
