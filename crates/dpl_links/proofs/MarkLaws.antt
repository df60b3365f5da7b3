-- Steps of a search.
use Rattle.std.proofs.Common.{◌≡◌, ◌≢◌, ℕ, ◌+◌, ◌<◌, ◌⊎◌, inl, inr, ⊎_elim, Bool, true, false, not, cond, List, [], ◌∷◌, ◌++◌, length}
use Rattle.std.proofs.Common.{get_or, set, refl, ◌∙◌, arith, length-append, length-set, get_or-set_other, get_or-set_same}
use Rattle.std.proofs.lemmas.Bool.{cases_eq}
use Rattle.std.proofs.lemmas.List.Sums.{sum_by-set}
use Rattle.std.proofs.lemmas.List.Elements.{Contains-append_left, Contains-push, Contains-push_cases}
use Rattle.dpl_links.specs.Graph.{IsMarked}
use Rattle.dpl_links.specs.Marks.{Marks, unmarked}

pub marked_here : (ms : List Bool) (v : ℕ) → v < length ms → IsMarked (set ms v true) v
marked_here ms v h = rw get_or-set_same refl

pub marked_there : (ms : List Bool) (v k : ℕ) → v < length ms → IsMarked ms k → IsMarked (set ms v true) k
marked_there ms v k h m = ⊎_elim (λ (e : k ≡ v). rw e (marked_here ms v h)) (λ (ne : k ≢ v). rw get_or-set_other m) (cases_eq k v)

pub marked_cases : (ms : List Bool) (v k : ℕ) → IsMarked (set ms v true) k → IsMarked ms k ⊎ (k ≡ v)
marked_cases ms v k m = ⊎_elim (λ (e : k ≡ v). inr e) (λ (ne : k ≢ v). inl (rw get_or-set_other at m)) (cases_eq k v)

pub one_less : (ms : List Bool) (v : ℕ) → v < length ms → get_or ms v false ≡ false → unmarked (set ms v true) + 1 ≡ unmarked ms
one_less ms v h e =
    let s = sum_by-set (λ b. cond (not b) 1 0) ms v true false h in
    let t = rw e at s in
    omega (arith, t)

-- the vertex was marked
pub Marks-none : (ms : List Bool) (q : List ℕ) (v : ℕ) → IsMarked ms v → Marks (λ k. k ≡ v) ms ms q q
Marks-none ms q v m = record {
  each = refl;
  keeps = λ k h. h;
  sets = λ k e. rw e m;
  alone = λ k h. inl h;
  keeps_notes = λ k h. h;
  notes = λ k h. inl h;
  notes_alone = λ k h. inl h;
  work = refl;
}

-- the vertex wasn't marked
pub Marks-one : (ms : List Bool) (q : List ℕ) (v : ℕ) → v < length ms → get_or ms v false ≡ false → Marks (λ k. k ≡ v) ms (set ms v true) q (q ++ v ∷ [])
Marks-one ms q v h e = record {
  each = length-set ms v true;
  keeps = λ k m. marked_there ms v k h m;
  sets = λ k w. rw w (marked_here ms v h);
  alone = λ k m. marked_cases ms v k m;
  keeps_notes = λ k m. Contains-append_left q (v ∷ []) k m;
  notes = λ k m. ⊎_elim (λ a. inl a) (λ (w : k ≡ v). inr (rw w (Contains-push q v))) (marked_cases ms v k m);
  notes_alone = λ k m. ⊎_elim (λ a. inl a) (λ (w : v ≡ k). inr (rw (← w) (marked_here ms v h))) (Contains-push_cases q v k m);
  work = omega (arith, one_less ms v h e, length-append q (v ∷ []));
}

-- one step and then another
pub Marks-then : (P Q R : ℕ → Type 0) (a b c : List Bool) (q r s : List ℕ) → Marks P a b q r → Marks Q b c r s
    → ((k : ℕ) → R k → P k ⊎ Q k) → ((k : ℕ) → P k → R k) → ((k : ℕ) → Q k → R k) → Marks R a c q s
Marks-then P Q R a b c q r s m n split left right = record {
  each = n.each ∙ m.each;
  keeps = λ k h. n.keeps k (m.keeps k h);
  sets = λ k h. ⊎_elim (λ p. n.keeps k (m.sets k p)) (λ p. n.sets k p) (split k h);
  alone = λ k h. ⊎_elim (λ p. ⊎_elim (λ x. inl x) (λ x. inr (left k x)) (m.alone k p)) (λ p. inr (right k p)) (n.alone k h);
  keeps_notes = λ k h. n.keeps_notes k (m.keeps_notes k h);
  notes = λ k h. ⊎_elim (λ p. ⊎_elim (λ x. inl x) (λ x. inr (n.keeps_notes k x)) (m.notes k p)) (λ p. inr p) (n.notes k h);
  notes_alone = λ k h. ⊎_elim (λ p. ⊎_elim (λ x. inl x) (λ x. inr (n.keeps k x)) (m.notes_alone k p)) (λ p. inr p) (n.notes_alone k h);
  work = n.work ∙ m.work;
}

pub Marks-start : (P : ℕ → Type 0) (ms : List Bool) (q : List ℕ) → ((k : ℕ) → P k → ⊥) → Marks P ms ms q q
Marks-start P ms q none = record {
  each = refl;
  keeps = λ k h. h;
  sets = λ k p. absurd (none k p);
  alone = λ k h. inl h;
  keeps_notes = λ k h. h;
  notes = λ k h. inl h;
  notes_alone = λ k h. inl h;
  work = refl;
}
