-- A history whose tiles differ is what its own events lead to.
use Rattle.std.proofs.Common.{◌≡◌, ◌≢◌, ◌∙◌, ◌<◌, ◌≤◌, ◌==◌, ℕ, zero, suc, true, false, List, [], ◌∷◌, ◌++◌, length, get_or, refl, sym, ap, arith, ⊎_elim, length-append, None}
use Rattle.std.specs.Prelude.{nat_lt, not, filter}
use Rattle.std.specs.List.{All, AllPairs}
use Rattle.std.proofs.lemmas.Bool.{cases_lt, ne_eqb}
use Rattle.std.proofs.lemmas.Bool.Decides.{nat_tests}
use Rattle.std.proofs.lemmas.List.{get_or_append_left}
use Rattle.std.proofs.lemmas.List.Elements.{All-head, All-tail}
use Rattle.dpl_board.specs.declared.entry.Entry.{Entry}
use Rattle.dpl_board.specs.Sheets.{Sheet, poster_in}
use Rattle.dpl_board.specs.Boards.{Board, Stands}
use Rattle.dpl_board.specs.Cores.{IsCore, firsts, posts_of, takes_of, within}
use Rattle.dpl_turn.specs.Rule.{IsProper}
use Rattle.dpl_turn.specs.Replay.{events_of, workers_to}

takes : (es : List Entry) → takes_of (events_of es) ≡ es
takes [] = refl
takes (e ∷ es) = ap (λ (l : List Entry). e ∷ l) (takes es)

posts : (es : List Entry) → posts_of (events_of es) ≡ es
posts [] = refl
posts (e ∷ es) = ap (λ (l : List Entry). e ∷ l) (posts es)

all_within : (n : ℕ) (es : List Entry) → All (λ (e : Entry). e.tile < n) es → within n es ≡ es
all_within n [] all = refl
all_within n (e ∷ es) all =
    let lt : e.tile < n = All-head (λ (e : Entry). e.tile < n) e es all in
    let t : nat_lt e.tile n ≡ true = grind (arith, nat_tests) in
    let r = all_within n es (All-tail (λ (e : Entry). e.tile < n) e es all) in rw t (ap (λ (l : List Entry). e ∷ l) r)

none_lost : (t : ℕ) (es : List Entry) → All (λ (d : Entry). t ≢ d.tile) es → filter (λ (d : Entry). not (d.tile == t)) es ≡ es
none_lost t [] all = refl
none_lost t (e ∷ es) all =
    let ne : t ≢ e.tile = All-head (λ (d : Entry). t ≢ d.tile) e es all in
    let f : (e.tile == t) ≡ false = ne_eqb e.tile t (λ s. ne (sym s)) in
    let r = none_lost t es (All-tail (λ (d : Entry). t ≢ d.tile) e es all) in rw f (ap (λ (l : List Entry). e ∷ l) r)

first_apart : (e : Entry) (es : List Entry) → AllPairs (λ (d e : Entry). d.tile ≢ e.tile) (e ∷ es) → All (λ (d : Entry). e.tile ≢ d.tile) es
first_apart e es h k d lt = h 0 (suc k) d (omega arith) (omega arith)

all_firsts : (es : List Entry) → AllPairs (λ (d e : Entry). d.tile ≢ e.tile) es → firsts es ≡ es
all_firsts [] h = refl
all_firsts (e ∷ es) h =
    let r = all_firsts es (λ i j d lt ltj. h (suc i) (suc j) d (omega arith) (omega arith)) in
    ap (λ (l : List Entry). e ∷ filter (λ (d : Entry). not (d.tile == e.tile)) l) r ∙ ap (λ (l : List Entry). e ∷ l) (none_lost e.tile es (first_apart e es h))

workers_length : (n : ℕ) (es : List Entry) → length (workers_to n es) ≡ n
workers_length zero es = refl
workers_length (suc n) es = let r = workers_length n es in omega (arith, r, length-append (workers_to n es) (poster_in n es ∷ []))

at_last : {A : Type 0} (xs : List A) (x d : A) → get_or (xs ++ x ∷ []) (length xs) d ≡ x
at_last [] x d = refl
at_last (y ∷ xs) x d = at_last xs x d

workers_each : (n : ℕ) (es : List Entry) (t : ℕ) → t < n → get_or (workers_to n es) t None ≡ poster_in t es
workers_each zero es t lt = absurd (omega arith)
workers_each (suc n) es t lt = ⊎_elim
    (λ (a : t < n). get_or_append_left (workers_to n es) (poster_in n es ∷ []) None t (omega (arith, a, workers_length n es)) ∙ workers_each n es t a)
    (λ (a : n ≤ t).
    let e : t ≡ n = omega (arith, a, lt) in
    let l : t ≡ length (workers_to n es) = omega (arith, e, workers_length n es) in
    ap (λ (k : ℕ). get_or (workers_to n es ++ poster_in n es ∷ []) k None) l ∙ at_last (workers_to n es) (poster_in n es) None ∙ ap (λ (k : ℕ). poster_in k es) (sym e))
    (cases_lt t n)

pub replayed : (sheet : Sheet) (workers : ℕ) (b : Board) → Stands sheet b → IsProper sheet workers b.history
    → IsCore sheet (events_of b.history) (workers_to (length sheet) b.history) b
replayed sheet workers b stands h = record {
  takers = record {
    len = workers_length (length sheet) b.history;
    each = λ t lt. workers_each (length sheet) b.history t lt ∙ ap (poster_in t) (sym (takes b.history));
  };
  posts = record {
    history = sym (ap (λ (l : List Entry). firsts (within (length sheet) l)) (posts b.history)
        ∙ ap firsts (all_within (length sheet) b.history h.below) ∙ all_firsts b.history h.apart);
    stands = stands;
  };
}
