-- What a worker's steps leave.
use Rattle.std.proofs.Common.{◌≡◌, ◌∙◌, ◌+◌, ◌<◌, ◌≤◌, ◌==◌, ℕ, suc, Bool, true, false, List, [], ◌∷◌, ◌++◌, length, get_or, set, map, Option, Some}
use Rattle.std.proofs.Common.{None, refl, sym, ap, subst, arith, ⊎_elim, length-append}
use Rattle.std.specs.Prelude.{Result, Ok, Err}
use Rattle.std.specs.List.{All, Contains}
use Rattle.std.proofs.lemmas.Bool.{cases_lt}
use Rattle.std.proofs.lemmas.Bool.Decides.{nat_tests}
use Rattle.std.proofs.lemmas.List.{get_or_append_left, length-map}
use Rattle.std.proofs.lemmas.List.Elements.{All-append, All-cons, All-nil}
use Rattle.atomic_table.specs.Seated.{TableId}
use Rattle.dpl_board.specs.declared.entry.Entry.{Entry}
use Rattle.dpl_board.specs.declared.fault.PostFault.{PostFault}
use Rattle.dpl_board.specs.declared.fault.PostFault.TheVariants.{NoMemory, Twice}
use Rattle.dpl_board.specs.Sheets.{IsPosted, Sheet, entry, poster_in}
use Rattle.dpl_board.proofs.Posters.{poster-new}
use Rattle.dpl_deal.specs.declared.deal.Deal.{Deal}
use Rattle.dpl_deal.specs.declared.hand.Hand.{Hand}
use Rattle.dpl_deal.specs.Rule.{once_below, times}
use Rattle.dpl_deal.specs.Hands.{EachAt, HasEachOnce, IsDone, IsHandOf, all_taken, taken}
use Rattle.dpl_deal.proofs.Moves.{times-append}
use Rattle.dpl_deal.proofs.Takings.{map_put}
use Rattle.dpl_turn.specs.declared.seat.Seat.{Seat}
use Rattle.dpl_turn.specs.declared.view.SeatView.{SeatView}
use Rattle.dpl_turn.specs.Rule.{Answers, Posted, named_list}
use Rattle.dpl_turn.specs.Seats.{knows}
use Rattle.dpl_pool.specs.declared.member.Member.{Member}
use Rattle.dpl_pool.specs.Numbering.{IsPlace, tile_count, tiles_before}
use Rattle.dpl_pool.specs.Seating.{AreSeats, Grow, histories_of, sheet_of, table_of, workers_of}
use Rattle.dpl_pool.specs.Members.{Covers, IsMember, IsTwice, Keeps}
use Rattle.dpl_pool.proofs.Numbering.{before_next, before_within, place_below, place_unique, place_within}
use Rattle.dpl_pool.proofs.Seating.{all_through, at_mid, grow_put, history_put, posted_later, posted_more}

posted_keeps : (v : SeatView) (posted : Option Entry) (found : List Entry) (w : SeatView) → Posted v posted found w → Keeps v w
posted_keeps v posted found w p = record {
  sheet = p.sheet;
  workers = p.workers;
  seen = λ x h. subst (IsPosted x) (sym p.known) (posted_more x found (named_list posted) (posted_later x found v.known p.begins h));
}

pub answers_keep : (v : SeatView) (worker tile : ℕ) (r : Result (Unit {0}) PostFault) (w : SeatView) → Answers v worker tile r w → Keeps v w
answers_keep v worker tile (Ok u) w h = posted_keeps v (Some (entry worker tile)) h.0 w h.2
answers_keep v worker tile (Err (Twice by)) w h = posted_keeps v None h.0 w h.2
answers_keep v worker tile (Err NoMemory) w h = posted_keeps v None h.0 w h.2

pub answers_ok : (v : SeatView) (worker tile : ℕ) (r : Result (Unit {0}) PostFault) (u : Unit {0}) (w : SeatView) → r ≡ Ok u → Answers v worker tile r w → IsPosted tile w.known
answers_ok v worker tile (Ok u) k w e h = (worker, ap (poster_in tile) h.2.known ∙ poster-new h.0 (entry worker tile) h.1)
answers_ok v worker tile (Err f) k w e h = absurd (cc)

pub answers_twice : (v : SeatView) (worker tile : ℕ) (r : Result (Unit {0}) PostFault) (f : PostFault) (w : SeatView) → r ≡ Err f → IsTwice f
    → Answers v worker tile r w → IsPosted tile w.known
answers_twice v worker tile (Ok u) f w e is h = absurd (cc)
answers_twice v worker tile (Err (Twice by)) f w e is h = subst (IsPosted tile) (sym h.2.known) (posted_more tile h.0 [] (by, h.1))
answers_twice v worker tile (Err NoMemory) f w e is h = absurd (let k : NoMemory ≡ Twice is.0 = ap (λ r. err_of r f) e ∙ is.1 in cc)
  where
    err_of : Result (Unit {0}) PostFault → PostFault → PostFault
    err_of (Ok u) d = d
    err_of (Err g) d = g

-- a tile more, taken and posted
covers_next : (sheets : List Sheet) (old new : List ℕ) (hs later : List (List Entry)) (number i k : ℕ) → Covers sheets old hs → Grow hs later
    → ((x : ℕ) → times x new ≡ times x old + times x (number ∷ [])) → IsPlace sheets number i k → IsPosted k (get_or later i []) → Covers sheets new later
covers_next sheets old new hs later number i k covers grow more place posted x j l lt at = ⊎_elim
    (λ (a : 0 < times x old). grow j l (covers x j l a at))
    (λ (a : times x old ≤ 0).
    let is : number ≡ x = is_it number x (let e = more x in omega arith) in
    let u = place_unique sheets x i k j l (subst (λ (n : ℕ). IsPlace sheets n i k) is place) at in
    subst (λ (n : ℕ). IsPosted l (get_or later n [])) u.0 (subst (λ (t : ℕ). IsPosted t (get_or later i [])) u.1 posted))
    (cases_lt 0 (times x old))
  where
    is_it : (t x : ℕ) → 0 < times x (t ∷ []) → t ≡ x
    is_it t x lt = by_test t x (t == x) refl lt
      where
        by_test : (t x : ℕ) (b : Bool) → (t == x) ≡ b → 0 < times x (t ∷ []) → t ≡ x
        by_test t x true e lt = grind (arith, nat_tests)
        by_test t x false e lt = absurd (let z : times x (t ∷ []) ≡ 0 = rw e refl in omega arith)

pub goes_on : (tables : List TableId) (sheets : List Sheet) (deal : Deal) (me : ℕ) (old new : Member) (number i k : ℕ) (s t : Seat) → IsMember tables sheets deal me old
    → new.number ≡ old.number → new.out_of_memory ≡ old.out_of_memory → i < length old.seats.items → s ≡ get_or old.seats.items i s
    → new.seats.items ≡ set old.seats.items i t → t.place.table_id ≡ s.place.table_id → Keeps (knows s) (knows t)
    → (IsHandOf deal me old.hand → IsHandOf deal me new.hand)
    → ((x : ℕ) → times x (taken new.hand) ≡ times x (taken old.hand) + times x (number ∷ [])) → IsPlace sheets number i k → IsPosted k (knows t).known
    → IsMember tables sheets deal me new
goes_on tables sheets deal me old new number i k s t m same same_memory lt is put table keeps hand more place posted = record {
  seats = record {
    at = ap (map table_of) put ∙ map_put table_of old.seats.items i s t lt is table ∙ m.seats.at;
    of = ap (map sheet_of) put ∙ map_put sheet_of old.seats.items i s t lt is keeps.sheet ∙ m.seats.of;
  };
  number = same ∙ m.number;
  below = all_through (λ (n : ℕ). new.number < n) workers_of workers_of old.seats.items new.seats.items
      (sym (ap (map workers_of) put ∙ map_put workers_of old.seats.items i s t lt is keeps.workers))
      (subst (λ (n : ℕ). All (λ (x : Seat). n < workers_of x) old.seats.items) (sym same) m.below);
  hand = hand m.hand;
  well = same_memory ∙ m.well;
  covers = subst (λ (l : List Seat). Covers sheets (taken new.hand) (histories_of l)) (sym put)
      (covers_next sheets (taken old.hand) (taken new.hand) (histories_of old.seats.items) (histories_of (set old.seats.items i t)) number i k m.covers
      (grow_put old.seats.items i s t lt is keeps.seen) more place (subst (IsPosted k) (sym (history_put old.seats.items i t lt)) posted));
}

-- lists

pub all_tail : {A : Type 0} (P : A → Type 0) (x : A) (xs : List A) → All P (x ∷ xs) → All P xs
all_tail P x xs h k d lt = h (suc k) d (omega arith)

pub all_mid : {A : Type 0} (P : A → Type 0) (xs : List A) (x : A) (ys : List A) → All P (xs ++ x ∷ ys) → P x
all_mid P [] x ys h = h 0 x (omega arith)
all_mid P (y ∷ xs) x ys h = all_mid P xs x ys (all_tail P y (xs ++ x ∷ ys) h)

pub all_snoc : {A : Type 0} (P : A → Type 0) (xs : List A) (x : A) → All P xs → P x → All P (xs ++ x ∷ [])
all_snoc P xs x h p = All-append P xs (x ∷ []) h (All-cons P x [] p (All-nil P))

pub each_mid : {A : Type 0} (P : ℕ → A → Type 0) (xs : List A) (x : A) (ys : List A) → EachAt P (xs ++ x ∷ ys) → P (length xs) x
each_mid P xs x ys h = subst (P (length xs)) (at_mid xs x ys x) (h (length xs) x (omega (arith, length-append xs (x ∷ ys))))

pub each_snoc : {A : Type 0} (P : ℕ → A → Type 0) (xs : List A) (x : A) → EachAt P xs → P (length xs) x → EachAt P (xs ++ x ∷ [])
each_snoc P xs x h p k d lt = ⊎_elim
    (λ (a : k < length xs). subst (P k) (sym (get_or_append_left xs (x ∷ []) d k a)) (h k d a))
    (λ (a : length xs ≤ k).
    let e : k ≡ length xs = omega (arith, lt, a, length-append xs (x ∷ [])) in
    subst (λ (j : ℕ). P j (get_or (xs ++ x ∷ []) j d)) (sym e) (subst (P (length xs)) (sym (at_mid xs x [] d)) p))
    (cases_lt k (length xs))

-- a new worker
pub joins_in : (tables : List TableId) (sheets : List Sheet) (deal : Deal) (i : ℕ) (m : Member) → AreSeats tables sheets m.seats.items
    → m.number ≡ i → All (λ (s : Seat). m.number < workers_of s) m.seats.items
    → IsHandOf deal i m.hand → taken m.hand ≡ [] → m.out_of_memory ≡ false → IsMember tables sheets deal i m
joins_in tables sheets deal i m seats n below h none well = record {
  seats = seats;
  number = n;
  below = below;
  hand = h;
  well = well;
  covers = λ x j k lt at. absurd (let z : times x (taken m.hand) ≡ 0 = ap (times x) none in omega arith);
}

-- seats that are rejoined
taken_more : (x : ℕ) (hs : List Hand) (h : Hand) → times x (all_taken (hs ++ h ∷ [])) ≡ times x (all_taken hs) + times x (taken h)
taken_more x [] h = omega (arith, times-append x (taken h) [])
taken_more x (k ∷ hs) h = let r = taken_more x hs h in omega (arith, times-append x (taken k) (all_taken (hs ++ h ∷ [])), times-append x (taken k) (all_taken hs))

pub covers_more : (sheets : List Sheet) (hs : List Hand) (h : Hand) (later a b : List (List Entry)) → Grow a later → Grow b later
    → Covers sheets (all_taken hs) a → Covers sheets (taken h) b → Covers sheets (all_taken (hs ++ h ∷ [])) later
covers_more sheets hs h later a b p q f g x j k lt at =
    let m = taken_more x hs h in
    ⊎_elim (λ (z : 0 < times x (all_taken hs)). p j k (f x j k z at))
    (λ (z : times x (all_taken hs) ≤ 0). q j k (g x j k (omega arith) at))
    (cases_lt 0 (times x (all_taken hs)))

pub some_done : (hs : List Hand) → 0 < length hs → All (λ h. IsDone h) hs → (h : Hand) × Contains hs h × IsDone h
some_done [] lt all = absurd (omega arith)
some_done (h ∷ hs) lt all = (h, (0, lt, refl), all 0 h lt)

-- each tile is posted
pub all_posted : (sheets : List Sheet) (n : ℕ) (numbers : List ℕ) (hs : List (List Entry)) → n ≡ tile_count sheets → HasEachOnce n numbers
    → Covers sheets numbers hs → (j k : ℕ) → k < length (get_or sheets j []) → IsPosted k (get_or hs j [])
all_posted sheets n numbers hs is all covers j k lt =
    let place : IsPlace sheets (tiles_before j sheets + k) j k = record { below = lt; sum = refl } in
    let b = place_below sheets (tiles_before j sheets + k) j k place in
    let o : once_below n (tiles_before j sheets + k) ≡ 1 = below_one n (tiles_before j sheets + k) (omega (arith, b, is)) in
    let a = all (tiles_before j sheets + k) in covers (tiles_before j sheets + k) j k (omega (arith, a, o)) place
  where
    below_one : (n t : ℕ) → t < n → once_below n t ≡ 1
    below_one n t lt = grind (arith, nat_tests)

-- a place has its seat, its board and its sheet
pub record At (tables : List TableId) (sheets : List Sheet) (seats : List Seat) (i : ℕ) : Type 0 where
  pub seat : i < length seats
  pub table : i < length tables
  pub sheet : i < length sheets

pub at_place : (tables : List TableId) (sheets : List Sheet) (seats : List Seat) (number i k : ℕ) → AreSeats tables sheets seats → IsPlace sheets number i k
    → At tables sheets seats i
at_place tables sheets seats number i k s p =
    let lt = place_within sheets number i k p in
    let a = ap length s.of in
    let b = ap length s.at in record {
      seat = omega (arith, lt, a, length-map seats sheet_of);
      table = omega (arith, lt, a, b, length-map seats sheet_of, length-map seats table_of);
      sheet = lt;
    }

-- one job more
pub numbers_next : (sheets : List Sheet) (firsts : List ℕ) (i tiles n : ℕ) → length firsts ≡ i → i < length sheets
    → EachAt (λ (j first : ℕ). first ≡ tiles_before j sheets) firsts → tiles ≡ tiles_before i sheets → n ≡ length (get_or sheets i [])
    → EachAt (λ (j first : ℕ). first ≡ tiles_before j sheets) (firsts ++ tiles ∷ []) × (tiles + n ≡ tiles_before (i + 1) sheets) × (tiles + n ≤ tile_count sheets)
numbers_next sheets firsts i tiles n len lt all is count =
    let next = before_next sheets i lt in
    let le = before_within sheets (i + 1) in (
      each_snoc (λ (j first : ℕ). first ≡ tiles_before j sheets) firsts tiles all (subst (λ (j : ℕ). tiles ≡ tiles_before j sheets) (sym len) is),
      omega (arith, next, is, count),
      omega (arith, next, is, count, le),
    )

-- one worker more
pub members_next : (tables : List TableId) (sheets : List Sheet) (deal : Deal) (ms : List Member) (m : Member) (i : ℕ) → length ms ≡ i
    → EachAt (IsMember tables sheets deal) ms → AreSeats tables sheets m.seats.items → m.number ≡ i
    → All (λ (s : Seat). m.number < workers_of s) m.seats.items → IsHandOf deal i m.hand → taken m.hand ≡ [] → m.out_of_memory ≡ false
    → EachAt (IsMember tables sheets deal) (ms ++ m ∷ [])
members_next tables sheets deal ms m i len all seats n below h none well = each_snoc (IsMember tables sheets deal) ms m all
    (subst (λ (k : ℕ). IsMember tables sheets deal k m) (sym len) (joins_in tables sheets deal i m seats n below h none well))

-- one hand more
pub hands_next : (deal : Deal) (hs : List Hand) (h : Hand) (i : ℕ) → length hs ≡ i → EachAt (IsHandOf deal) hs → IsHandOf deal i h → EachAt (IsHandOf deal) (hs ++ h ∷ [])
hands_next deal hs h i len all p = each_snoc (IsHandOf deal) hs h all (subst (λ (k : ℕ). IsHandOf deal k h) (sym len) p)

-- a worker that took nothing more
pub keeps_on : (tables : List TableId) (sheets : List Sheet) (deal : Deal) (me : ℕ) (m : Member) (h : Hand) → IsMember tables sheets deal me m → IsHandOf deal me h
    → taken h ≡ taken m.hand → IsMember tables sheets deal me (record { number = m.number; seats = m.seats; hand = h; out_of_memory = m.out_of_memory })
keeps_on tables sheets deal me m h is hand same = record {
  seats = is.seats;
  number = is.number;
  below = is.below;
  hand = hand;
  well = is.well;
  covers = subst (λ (l : List ℕ). Covers sheets l (histories_of m.seats.items)) (sym same) is.covers;
}
