-- A history goes on, and what was seen of it stays.
use Rattle.std.proofs.Common.{◌≡◌, ◌≢◌, ◌∙◌, ◌+◌, ◌<◌, ◌≤◌, ◌==◌, ℕ, zero, suc, false, List, [], ◌∷◌, ◌++◌, length, set, Option}
use Rattle.std.proofs.Common.{Some, None, refl, sym, ap, subst, arith, append_assoc, add_assoc, zero-add, length-append}
use Rattle.std.proofs.lemmas.List.{append-nil}
use Rattle.std.proofs.lemmas.Bool.{ne_eqb}
use Rattle.std.proofs.lemmas.Bool.Decides.{nat_tests}
use Rattle.std.specs.Prelude.{if◌then◌else◌, slice_get}
use mathlib.Core.Logic.{dite}
use native.Mathlib.Decide.{ℕ_discrete}
use mathlib.Core.Option.{some, some-ne-none, some-injective}
use lib.ListN.{get_elem?}
use Rattle.dpl_turn.specs.declared.view.SeatView.{SeatView}
use Rattle.dpl_board.specs.declared.entry.Entry.{Entry}
use Rattle.std.proofs.lemmas.List.Quantifiers.{all_pairs_push}
use Rattle.std.specs.List.{All, AllPairs}
use Rattle.std.proofs.lemmas.List.Elements.{All-cons, All-nil}
use Rattle.dpl_turn.specs.Rule.{AllPrefixes, AreEntries, StartsWith, all_posts_at, named_list, named_posts, posts_at}
use Rattle.dpl_turn.proofs.Views.{ByPlace}

-- the history goes on, and what was seen of it stays
pub goes_on : (history more prefix : List Entry) → StartsWith history prefix → StartsWith (history ++ more) prefix
goes_on history more prefix h = (h.0 ++ more, ap (λ (l : List Entry). l ++ more) h.1 ∙ append_assoc prefix h.0 more)

pub goes_on_all : (history more : List Entry) (prefixes : List (List Entry)) → AllPrefixes history prefixes → AllPrefixes (history ++ more) prefixes
goes_on_all history more [] h = tt
goes_on_all history more (x ∷ xs) h = (goes_on history more x h.0, goes_on_all history more xs h.1)

still_at : (history more : List Entry) (k : ℕ) (e : Entry) → slice_get history k ≡ Some e → slice_get (history ++ more) k ≡ Some e
still_at [] more k e h = absurd (cc)
still_at (x ∷ xs) more zero e h = h
still_at (x ∷ xs) more (suc k) e h = still_at xs more k e h

pub still_entries : (history more : List Entry) (own : List (ℕ × Entry)) → AreEntries history own → AreEntries (history ++ more) own
still_entries history more [] h = tt
still_entries history more (x ∷ xs) h = (still_at history more x.0 x.1 h.0, still_entries history more xs h.1)

at_end : (history : List Entry) (e : Entry) → slice_get (history ++ e ∷ []) (length history) ≡ Some e
at_end [] e = refl
at_end (x ∷ xs) e = at_end xs e

pub more_entries : (history : List Entry) (own : List (ℕ × Entry)) (named : Option Entry) → AreEntries history own
    → AreEntries (history ++ named_list named) (own ++ named_posts (length history) named)
more_entries history own None h = subst (λ (l : List (ℕ × Entry)). AreEntries (history ++ []) l) (sym (append-nil own)) (still_entries history [] own h)
more_entries history [] (Some e) h = (at_end history e, tt)
more_entries history (x ∷ xs) (Some e) h = (still_at history (e ∷ []) x.0 x.1 h.0, more_entries history xs (Some e) h.1)

there_below : (history : List Entry) (k : ℕ) (e : Entry) → slice_get history k ≡ Some e → k < length history
there_below [] k e h = absurd (cc)
there_below (x ∷ xs) zero e h = omega arith
there_below (x ∷ xs) (suc k) e h = let r = there_below xs k e h in omega arith

entries_below : (history : List Entry) (own : List (ℕ × Entry)) → AreEntries history own → All (λ (a : ℕ × Entry). a.0 < length history) own
entries_below history [] h = All-nil (λ (a : ℕ × Entry). a.0 < length history)
entries_below history (x ∷ xs) h = All-cons (λ (a : ℕ × Entry). a.0 < length history) x xs (there_below history x.0 x.1 h.0) (entries_below history xs h.1)

pub more_rise : (history : List Entry) (own : List (ℕ × Entry)) (named : Option Entry) → AreEntries history own → AllPairs ByPlace own
    → AllPairs ByPlace (own ++ named_posts (length history) named)
more_rise history own None h rising = subst (AllPairs ByPlace) (sym (append-nil own)) rising
more_rise history own (Some e) h rising = all_pairs_push ByPlace own (length history, e) rising (entries_below history own h)

posts_append : (p : ℕ) (xs ys : List (ℕ × Entry)) → posts_at p (xs ++ ys) ≡ posts_at p xs + posts_at p ys
posts_append p [] ys = sym (zero-add (posts_at p ys))
posts_append p (x ∷ xs) ys = ap (λ (n : ℕ). (if x.0 == p then 1 else 0) + n) (posts_append p xs ys) ∙ sym (add_assoc (if x.0 == p then 1 else 0) (posts_at p xs) (posts_at p ys))

-- what a change of one view adds to the posts
posts_grow : (p : ℕ) (vs : List SeatView) (i : ℕ) (v w : SeatView) (more : List (ℕ × Entry)) → get_elem? vs i ≡ some v → w.own ≡ v.own ++ more
    → all_posts_at p (set vs i w) ≡ all_posts_at p vs + posts_at p more
posts_grow p [] i v w more e same = absurd (some-ne-none v (sym e))
posts_grow p (x ∷ xs) zero v w more e same =
    let mine : posts_at p w.own ≡ posts_at p x.own + posts_at p more = ap (posts_at p)
    (same ∙ ap (λ (u : SeatView). u.own ++ more) (sym (some-injective x v e))) ∙ posts_append p x.own more in omega arith
posts_grow p (x ∷ xs) (suc i) v w more e same = let r = posts_grow p xs i v w more e same in omega arith

one_post : (n : ℕ) (e : Entry) → posts_at n ((n, e) ∷ []) ≡ 1
one_post n e = grind (arith, nat_tests)

no_post : (p n : ℕ) (e : Entry) → p ≢ n → posts_at p ((n, e) ∷ []) ≡ 0
no_post p n e ne = let other : (n == p) ≡ false = ne_eqb n p (λ s. ne (sym s)) in rw other refl

-- the places of a history that goes on by what was named
pub grown_within : (history : List Entry) (views : List SeatView) (id : ℕ) (v w : SeatView) (named : Option Entry) → get_elem? views id ≡ some v
    → w.own ≡ v.own ++ named_posts (length history) named
    → ((p : ℕ) → p < length history → all_posts_at p views ≡ 1) → ((p : ℕ) → length history ≤ p → all_posts_at p views ≡ 0)
    → (p : ℕ) → p < length (history ++ named_list named) → all_posts_at p (set views id w) ≡ 1
grown_within history views id v w None at own within beyond p lt =
    let len : length (history ++ []) ≡ length history = ap length (append-nil history) in
    let grow = posts_grow p views id v w [] at own in
    let one = within p (omega arith) in omega arith
grown_within history views id v w (Some e) at own within beyond p lt =
    let len : length (history ++ e ∷ []) ≡ length history + 1 = omega (arith, length-append history (e ∷ [])) in
    let grow = posts_grow p views id v w ((length history, e) ∷ []) at own in
    dite (ℕ_discrete p (length history))
    (λ (same : p ≡ length history).
    let none_yet = beyond p (omega arith) in
    let mine : posts_at p ((length history, e) ∷ []) ≡ 1 = subst (λ (n : ℕ). posts_at n ((length history, e) ∷ []) ≡ 1) (sym same) (one_post (length history) e) in
    omega arith)
    (λ (ne : p ≢ length history).
    let one = within p (omega arith) in
    let none_more = no_post p (length history) e ne in
    omega arith)

pub grown_beyond : (history : List Entry) (views : List SeatView) (id : ℕ) (v w : SeatView) (named : Option Entry) → get_elem? views id ≡ some v
    → w.own ≡ v.own ++ named_posts (length history) named
    → ((p : ℕ) → length history ≤ p → all_posts_at p views ≡ 0)
    → (p : ℕ) → length (history ++ named_list named) ≤ p → all_posts_at p (set views id w) ≡ 0
grown_beyond history views id v w None at own beyond p le =
    let len : length (history ++ []) ≡ length history = ap length (append-nil history) in
    let grow = posts_grow p views id v w [] at own in
    let zero_posts = beyond p (omega arith) in omega arith
grown_beyond history views id v w (Some e) at own beyond p le =
    let len : length (history ++ e ∷ []) ≡ length history + 1 = omega (arith, length-append history (e ∷ [])) in
    let grow = posts_grow p views id v w ((length history, e) ∷ []) at own in
    let zero_posts = beyond p (omega arith) in
    let none_more = no_post p (length history) e (λ s. omega arith) in omega arith
