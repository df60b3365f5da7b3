-- Marks of entered vertices, and the vertices that have none.
use Rattle.std.proofs.Common.{◌≡◌, ℕ, ◌+◌, ◌<◌, ◌≤◌, ◌⊎◌, inl, inr, ⊎_elim, Bool, true, false, cond, List, [], ◌∷◌, ◌++◌, length, get_or, replicate, sym, ap, ◌∙◌, arith}
use Rattle.std.proofs.lemmas.Bool.{cases_lt}
use Rattle.std.proofs.lemmas.List.{get_or_past, get_or_default, length-replicate}
use Rattle.std.proofs.lemmas.List.Elements.{Contains-append_left, Contains-push, Contains-push_cases}
use Rattle.std.proofs.lemmas.List.Quantifiers.{all_pairs_push}
use Rattle.std.specs.List.{Contains, AllPairs}
use Rattle.std.specs.Prelude.{◌↔◌}
use Rattle.dpl_spec_split.proofs.Ordered.{Contains-nil}
use Rattle.dpl_links.specs.Graph.{LeadsTo, targets_at, IsMarked}
use Rattle.dpl_links.specs.Marks.{Marks}
use Rattle.dpl_links.specs.Sources.{IsEntered, AreSources, AreUnmarked}
use Rattle.dpl_links.proofs.MarkLaws.{Marks-then, Marks-start}
use Rattle.dpl_links.proofs.SpreadLaws.{none_marked}

pub entered_none : (graph : List (List ℕ)) (marks : List Bool) (noted : List ℕ) → Marks (IsEntered graph 0) marks marks noted noted
entered_none graph marks noted = Marks-start (IsEntered graph 0) marks noted (λ j e. absurd (omega (arith, e.1)))

pub entered_more : (graph : List (List ℕ)) (n : ℕ) (row : List ℕ) (a b c : List Bool) (q r s : List ℕ) → row ≡ targets_at graph n
    → Marks (IsEntered graph n) a b q r → Marks (Contains row) b c r s → Marks (IsEntered graph (n + 1)) a c q s
entered_more graph n row a b c q r s is m step =
    Marks-then (IsEntered graph n) (Contains row) (IsEntered graph (n + 1)) a b c q r s m step
    (λ k e. split k e)
    (λ k e. (e.0, omega (arith, e.1), e.2))
    (λ k e. (n, omega arith, rw (← is) e))
  where
    split : (k : ℕ) → IsEntered graph (n + 1) k → IsEntered graph n k ⊎ Contains row k
    split k e =
        ⊎_elim (λ (l : e.0 < n). inl (e.0, l, e.2))
        (λ (l : n ≤ e.0). let w : e.0 ≡ n = omega (arith, e.1) in inr (rw is (rw w at e.2)))
        (cases_lt e.0 n)

pub entered_all : (graph : List (List ℕ)) (n : ℕ) (old marks : List Bool) (q r : List ℕ) → old ≡ replicate (length graph) false
    → length graph ≤ n → Marks (IsEntered graph n) old marks q r → (j : ℕ) → IsMarked marks j ↔ IsEntered graph (length graph) j
entered_all graph n old marks q r fresh h m j =
    (λ i. ⊎_elim (λ x. absurd (none_marked (length graph) j (rw fresh at x))) (λ e. (e.0, below e.0 j e.2, e.2)) (m.alone j i), λ e. m.sets j (e.0, omega (arith, e.1), e.2))
  where
    below : (k i : ℕ) → LeadsTo graph k i → k < length graph
    below k i c = ⊎_elim (λ (l : k < length graph). l) (λ (l : length graph ≤ k). absurd (Contains-nil i (rw (get_or_past graph k [] l) at c))) (cases_lt k (length graph))

-- the first n marks were gone through
pub record AreUnmarkedBelow (marks : List Bool) (n : ℕ) (found : List ℕ) : Type 0 where
  pub ordered : AllPairs (λ i j. i < j) found
  pub sound : (k : ℕ) → Contains found k → (k < n) × ¬ IsMarked marks k
  pub complete : (k : ℕ) → k < n → ¬ IsMarked marks k → Contains found k

pub unmarked_more : (marks : List Bool) (n : ℕ) (marked : Bool) (found new : List ℕ) → get_or marks n false ≡ marked
    → new ≡ cond marked found (found ++ n ∷ []) → AreUnmarkedBelow marks n found → AreUnmarkedBelow marks (n + 1) new
unmarked_more marks n true found new is e a = rw e (record {
  ordered = a.ordered;
  sound = λ k c. (omega (arith, (a.sound k c).0), (a.sound k c).1);
  complete = λ k h not. ⊎_elim (λ (l : k < n). a.complete k l not) (λ (l : n ≤ k). let w : k ≡ n = omega arith in absurd (not (rw w is))) (cases_lt k n);
})
unmarked_more marks n false found new is e a = rw e (record {
  ordered = all_pairs_push (λ i j. i < j) found n a.ordered (λ k d h. (a.sound (get_or found k d) (k, h, get_or_read_again k d h)).0);
  sound = λ k c. ⊎_elim (λ h. (omega (arith, (a.sound k h).0), (a.sound k h).1))
      (λ (w : n ≡ k). (omega arith, λ m. let f : true ≡ false = sym m ∙ rw (← w) is in cc)) (Contains-push_cases found n k c);
  complete = λ k h not. ⊎_elim (λ (l : k < n). Contains-append_left found (n ∷ []) k (a.complete k l not))
      (λ (l : n ≤ k). let w : k ≡ n = omega arith in rw w (Contains-push found n)) (cases_lt k n);
})
  where
    get_or_read_again : (k d : ℕ) → k < length found → get_or found k (get_or found k d) ≡ get_or found k d
    get_or_read_again k d h = get_or_default found k (get_or found k d) d h

pub sources_are : (graph : List (List ℕ)) (marks : List Bool) (found : List ℕ) → length marks ≡ length graph
    → ((j : ℕ) → IsMarked marks j ↔ IsEntered graph (length graph) j) → AreUnmarked marks found → AreSources graph found
sources_are graph marks found each m a = record {
  ordered = a.ordered;
  exactly = λ k. (
    λ c. record {
      known = omega (arith, (a.sound k c).0, each);
      alone = λ j l. (a.sound k c).1
          ((m k).1 (j, below j k l, l));
    },
    λ s. a.complete k (omega (arith, s.known, each)) (λ i. let e = (m k).0 i in s.alone e.0 e.2),
  );
}
  where
    below : (k i : ℕ) → LeadsTo graph k i → k < length graph
    below k i c = ⊎_elim (λ (l : k < length graph). l) (λ (l : length graph ≤ k). absurd (Contains-nil i (rw (get_or_past graph k [] l) at c))) (cases_lt k (length graph))

pub fresh_length : (graph : List (List ℕ)) (marks : List Bool) → marks ≡ replicate (length graph) false → length marks ≡ length graph
fresh_length graph marks e = ap length e ∙ length-replicate (length graph) false

pub unmarked_all : (marks : List Bool) (n : ℕ) (found : List ℕ) → n ≡ length marks → AreUnmarkedBelow marks n found → AreUnmarked marks found
unmarked_all marks n found e a = record {
  ordered = a.ordered;
  sound = λ k c. (omega (arith, (a.sound k c).0, e), (a.sound k c).1);
  complete = λ k h not. a.complete k (omega (arith, h, e)) not;
}
