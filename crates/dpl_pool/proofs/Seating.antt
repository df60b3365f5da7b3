-- Lists of seats, one at each board, when one of them is changed.
use Rattle.std.proofs.Common.{◌≡◌, ◌∙◌, ◌+◌, ◌<◌, ◌≤◌, ℕ, zero, suc, Some, None, List, [], ◌∷◌, ◌++◌, length, get_or, set, map, refl, sym, ap, subst, arith, ⊎_elim, length-append, append-nil}
use Rattle.std.proofs.lemmas.Bool.{cases_lt}
use Rattle.std.specs.Prelude.{All}
use Rattle.std.specs.List.{AllZip}
use Rattle.std.proofs.lemmas.List.{get_or-map, length-map, map-append}
use Rattle.std.proofs.lemmas.Slice.Zip.{all_zipped_more}
use Rattle.dpl_board.specs.declared.entry.Entry.{Entry}
use Rattle.dpl_board.specs.Boards.{Board}
use Rattle.dpl_board.specs.Sheets.{IsPosted, Sheet}
use Rattle.dpl_board.proofs.Posters.{poster-first}
use Rattle.dpl_turn.specs.declared.seat.Seat.{Seat}
use Rattle.dpl_turn.specs.declared.view.SeatView.{SeatView}
use Rattle.dpl_turn.specs.Rule.{IsProper, StartsWith}
use Rattle.dpl_turn.specs.Seats.{knows}
use Rattle.dpl_turn.proofs.Replays.{replayed}
use Rattle.dpl_pool.specs.Seating.{Grow, IsClosed, IsWorkedOut, as_newcomer, histories_of, sheet_of, workers_of}

-- two lists that give one list are equally long, and give the same at each place
pub same_len : {A B C : Type 0} (f : A → C) (g : B → C) (xs : List A) (ys : List B) → map f xs ≡ map g ys → length xs ≡ length ys
same_len f g xs ys e = omega (arith, length-map xs f, length-map ys g, ap length e)

pub same_at : {A B C : Type 0} (f : A → C) (g : B → C) (xs : List A) (ys : List B) (i : ℕ) (x : A) (y : B) → map f xs ≡ map g ys
    → i < length xs → x ≡ get_or xs i x → y ≡ get_or ys i y → f x ≡ g y
same_at f g xs ys i x y e lt is at =
    let n = same_len f g xs ys e in
    ap f is ∙ sym (get_or-map f xs i x (f x) lt) ∙ ap (λ l. get_or l i (f x)) e ∙ get_or-map g ys i y (f x) (omega (arith, n, lt)) ∙ ap g (sym at)

pub at_mid : {A : Type 0} (xs : List A) (x : A) (ys : List A) (d : A) → get_or (xs ++ x ∷ ys) (length xs) d ≡ x
at_mid [] x ys d = refl
at_mid (y ∷ xs) x ys d = at_mid xs x ys d

-- the next of a list, behind those that were yielded
pub next_place : {A : Type 0} (xs ys : List A) (x : A) (rest : List A) (n : ℕ) → ys ++ x ∷ rest ≡ xs → n ≡ length ys → n < length xs
next_place xs ys x rest n e is = let a : length (ys ++ x ∷ rest) ≡ length xs = ap length e in omega (arith, length-append ys (x ∷ rest))

pub next_here : {A : Type 0} (xs ys : List A) (x : A) (rest : List A) (n : ℕ) → ys ++ x ∷ rest ≡ xs → n ≡ length ys → x ≡ get_or xs n x
next_here xs ys x rest n e is = sym (at_mid ys x rest x) ∙ ap (λ (k : ℕ). get_or (ys ++ x ∷ rest) k x) (sym is) ∙ ap (λ l. get_or l n x) e

-- what a list gives, where another list is all that it gives
pub here : {A C : Type 0} (f : A → C) (xs : List A) (cs : List C) (i : ℕ) (x : A) (d : C) → map f xs ≡ cs → i < length xs → x ≡ get_or xs i x → f x ≡ get_or cs i d
here f xs cs i x d e lt is = ap f is ∙ sym (get_or-map f xs i x d lt) ∙ ap (λ l. get_or l i d) e

pub map_map : {A C D : Type 0} (h : C → D) (f : A → C) (xs : List A) → map h (map f xs) ≡ map (λ (x : A). h (f x)) xs
map_map h f [] = refl
map_map h f (x ∷ xs) = ap (λ l. h (f x) ∷ l) (map_map h f xs)

-- what follows of what both give
pub through : {A B C D : Type 0} (h : C → D) (f : A → C) (g : B → C) (xs : List A) (ys : List B) → map f xs ≡ map g ys
    → map (λ (x : A). h (f x)) xs ≡ map (λ (y : B). h (g y)) ys
through h f g xs ys e = sym (map_map h f xs) ∙ ap (map h) e ∙ map_map h g ys

-- new seats have the sheets and the numbers of workers of the old ones
pub newcomers : (others seats first : List Seat) → map knows others ≡ map as_newcomer (map knows seats) → map knows seats ≡ map knows first
    → (map sheet_of others ≡ map sheet_of first) × (map workers_of others ≡ map workers_of first)
newcomers others seats first new same =
    let f : Seat → SeatView = λ (s : Seat). as_newcomer (knows s) in
    let e : map knows others ≡ map f first = new ∙ ap (map as_newcomer) same ∙ map_map as_newcomer knows first in (
      through (λ (v : SeatView). v.sheet) knows f others first e,
      through (λ (v : SeatView). v.workers) knows f others first e,
    )

abbrev rest_of : {A : Type 0} → List A → List A
rest_of [] = []
rest_of (x ∷ xs) = xs

pub all_through : {A B C : Type 0} (P : C → Type 0) (f : A → C) (g : B → C) (xs : List A) (ys : List B) → map f xs ≡ map g ys
    → All (λ (x : A). P (f x)) xs → All (λ (y : B). P (g y)) ys
all_through P f g xs [] e all i d lt = absurd (omega arith)
all_through P f g [] (y ∷ ys) e all i d lt = absurd (let z : 0 ≡ length (map g (y ∷ ys)) = ap length e in omega (arith, z))
all_through P f g (x ∷ xs) (y ∷ ys) e all zero d lt = subst P (ap (λ l. get_or l 0 (f x)) e) (all 0 x (omega arith))
all_through P f g (x ∷ xs) (y ∷ ys) e all (suc i) d lt = all_through P f g xs ys (ap rest_of e) (λ k c l. all (suc k) c (omega arith)) i d (omega arith)

-- histories

pub posted_more : (x : ℕ) (a b : List Entry) → IsPosted x a → IsPosted x (a ++ b)
posted_more x a b p = (p.0, poster-first x p.0 a b p.1)

pub posted_later : (x : ℕ) (history prefix : List Entry) → StartsWith history prefix → IsPosted x prefix → IsPosted x history
posted_later x history prefix s p = subst (IsPosted x) (sym s.1) (posted_more x prefix s.0 p)

pub grow_on : (a b c : List (List Entry)) → Grow a b → Grow b c → Grow a c
grow_on a b c f g j k p = g j k (f j k p)

pub grow_put : (seats : List Seat) (i : ℕ) (old new : Seat) → i < length seats → old ≡ get_or seats i old
    → ((x : ℕ) → IsPosted x (knows old).known → IsPosted x (knows new).known) → Grow (histories_of seats) (histories_of (set seats i new))
grow_put [] i old new lt is f j k p = absurd (omega arith)
grow_put (s ∷ ss) zero old new lt is f zero k p = f k (subst (λ (t : Seat). IsPosted k (knows t).known) (sym is) p)
grow_put (s ∷ ss) zero old new lt is f (suc j) k p = p
grow_put (s ∷ ss) (suc i) old new lt is f zero k p = p
grow_put (s ∷ ss) (suc i) old new lt is f (suc j) k p = grow_put ss i old new (omega arith) is f j k p

pub history_put : (seats : List Seat) (i : ℕ) (new : Seat) → i < length seats → get_or (histories_of (set seats i new)) i [] ≡ (knows new).known
history_put [] i new lt = absurd (omega arith)
history_put (s ∷ ss) zero new lt = refl
history_put (s ∷ ss) (suc i) new lt = history_put ss i new (omega arith)

-- what was posted in one of the first n of these histories is posted in that one of the later ones
abbrev pub GrowBelow : ℕ → List (List Entry) → List (List Entry) → Type 0
GrowBelow n old new = (j k : ℕ) → j < n → IsPosted k (get_or old j []) → IsPosted k (get_or new j [])

nothing_past : (hs : List (List Entry)) (j : ℕ) → length hs ≤ j → get_or hs j [] ≡ []
nothing_past [] zero le = refl
nothing_past [] (suc j) le = refl
nothing_past (h ∷ hs) zero le = absurd (omega arith)
nothing_past (h ∷ hs) (suc j) le = nothing_past hs j (omega arith)

pub grow_all : (n : ℕ) (old new : List (List Entry)) → length old ≤ n → GrowBelow n old new → Grow old new
grow_all n old new le f j k p = ⊎_elim (λ (lt : j < n). f j k lt p)
    (λ (a : n ≤ j). absurd (
    let q : IsPosted k [] = subst (IsPosted k) (nothing_past old j (omega arith)) p in
    let e : None ≡ Some q.0 = q.1 in cc))
    (cases_lt j n)

history_mid : (zs : List Seat) (s : Seat) (rest : List Seat) → get_or (histories_of (zs ++ s ∷ rest)) (length zs) [] ≡ (knows s).known
history_mid [] s rest = refl
history_mid (z ∷ zs) s rest = history_mid zs s rest

-- one seat takes in what another knows
pub rejoined : (before : List (List Entry)) (seats others ys rest : List Seat) (i : ℕ) (old other new : Seat) → i < length seats → old ≡ get_or seats i old
    → ys ++ other ∷ rest ≡ others → i ≡ length ys → StartsWith (knows new).known (knows old).known → StartsWith (knows new).known (knows other).known
    → Grow before (histories_of seats) → GrowBelow i (histories_of others) (histories_of seats)
    → Grow before (histories_of (set seats i new)) × GrowBelow (i + 1) (histories_of others) (histories_of (set seats i new))
rejoined before seats others ys rest i old other new lt is all n mine theirs grow below =
    let g = grow_put seats i old new lt is (λ x. posted_later x (knows new).known (knows old).known mine) in
    let at : get_or (histories_of others) i [] ≡ (knows other).known =
    ap (λ (l : List Seat). get_or (histories_of l) i []) (sym all) ∙ ap (λ (j : ℕ). get_or (histories_of (ys ++ other ∷ rest)) j []) n
    ∙ history_mid ys other rest in (
      grow_on before (histories_of seats) (histories_of (set seats i new)) grow g,
      λ j k jlt p. ⊎_elim (λ (a : j < i). g j k (below j k a p))
          (λ (a : i ≤ j).
          let e : i ≡ j = omega (arith, a, jlt) in
          subst (λ (m : ℕ). IsPosted k (get_or (histories_of (set seats i new)) m [])) e
          (subst (IsPosted k) (sym (history_put seats i new lt))
          (posted_later k (knows new).known (knows other).known theirs
          (subst (IsPosted k) at (subst (λ (m : ℕ). IsPosted k (get_or (histories_of others) m [])) (sym e) p)))))
          (cases_lt j i),
    )

-- one board more is closed
pub closed_next : (done : List Seat) (s : Seat) (states : List Board) (b : Board) → AllZip IsClosed (map knows done) states → IsClosed (knows s) b
    → AllZip IsClosed (map knows (done ++ s ∷ [])) (states ++ b ∷ [])
closed_next done s states b all one = subst (λ (vs : List SeatView). AllZip IsClosed vs (states ++ b ∷ [])) (sym (map-append knows done (s ∷ [])))
    (all_zipped_more IsClosed (map knows done) states (knows s) b all one)

-- of one job there is one board
pub one_board : (workers : ℕ) (sheet : Sheet) (states : List Board) → AllZip (IsWorkedOut workers) (sheet ∷ []) states
    → (b : Board) × (states ≡ b ∷ []) × IsWorkedOut workers sheet b
one_board workers sheet [] h = absurd h
one_board workers sheet (b ∷ []) h = (b, refl, h.0)
one_board workers sheet (b ∷ d ∷ bs) h = absurd h.1

last_one : {A : Type 0} (b s : A) (front : List A) → b ∷ [] ≡ front ++ s ∷ [] → b ≡ s
last_one b s [] e = cc
last_one b s (x ∷ xs) e = absurd (let n : length (b ∷ []) ≡ length (x ∷ (xs ++ s ∷ [])) = ap length e in omega (arith, n, length-append xs (s ∷ [])))

-- which is the last
pub only_one : (workers : ℕ) (sheet : Sheet) (states front : List Board) (s : Board) → AllZip (IsWorkedOut workers) (sheet ∷ []) states
    → states ≡ front ++ s ∷ [] → IsWorkedOut workers sheet s
only_one workers sheet states front s h e =
    let o = one_board workers sheet states h in
    subst (IsWorkedOut workers sheet) (last_one o.0 s front (sym o.1 ∙ e)) o.2

-- the ends of boards whose tiles are all posted
pub worked_out : (workers : ℕ) (seats : List Seat) (states : List Board) → AllZip IsClosed (map knows seats) states
    → All (λ (s : Seat). workers_of s ≡ workers) seats
    → ((j k : ℕ) → k < length (get_or (map sheet_of seats) j []) → IsPosted k (get_or (histories_of seats) j []))
    → AllZip (IsWorkedOut workers) (map sheet_of seats) states
worked_out workers [] [] closed signed posted = tt
worked_out workers [] (b ∷ bs) closed signed posted = closed
worked_out workers (s ∷ ss) [] closed signed posted = closed
worked_out workers (s ∷ ss) (b ∷ bs) closed signed posted =
    let c = closed.0 in
    let proper : IsProper (sheet_of s) workers b.history = subst (λ (n : ℕ). IsProper (sheet_of s) n b.history) (signed 0 s (omega arith)) c.proper in (
      record {
        stands = c.stands;
        posted = λ t lt. posted_later t b.history (knows s).known c.seen (posted 0 t (let e = c.stands.tiles in omega (arith, lt, e)));
        proper = proper;
        core = replayed (sheet_of s) workers b c.stands proper;
      },
      worked_out workers ss bs closed.1 (λ i d lt. signed (suc i) d (omega arith)) (λ j k lt. posted (suc j) k lt),
    )

-- what follows the first of two lists that give one list
pub rest_gives : {A B C : Type 0} (f : A → C) (g : B → C) (x : A) (xs : List A) (y : B) (ys : List B) → map f (x ∷ xs) ≡ map g (y ∷ ys) → map f xs ≡ map g ys
rest_gives f g x xs y ys e = ap rest_of e

pub both_end : {A B C : Type 0} (f : A → C) (g : B → C) (xs : List A) (ys : List B) → map f xs ≡ map g ys → length ys ≡ 0 → xs ≡ []
both_end f g [] ys e n = refl
both_end f g (x ∷ xs) ys e n = absurd (let m = same_len f g (x ∷ xs) ys e in omega (arith, m, n))

pub append_none : {A : Type 0} (xs ys zs : List A) → xs ++ ys ≡ zs → ys ≡ [] → xs ≡ zs
append_none xs ys zs e n = sym (append-nil xs) ∙ ap (λ l. xs ++ l) (sym n) ∙ e

-- what stands where it was put
pub put_at : {A : Type 0} (xs : List A) (i : ℕ) (new y : A) → i < length xs → get_or (set xs i new) i y ≡ new
put_at [] i new y lt = absurd (omega arith)
put_at (x ∷ xs) zero new y lt = refl
put_at (x ∷ xs) (suc i) new y lt = put_at xs i new y (omega arith)
