-- A search that goes on from the noted vertices.
use Rattle.std.proofs.Common.{◌≡◌, ◌<◌, ◌≤◌, true, false, refl, ap, replicate, ℕ, ◌⊎◌, inl, inr, ⊎_elim, Bool, List, [], ◌∷◌, ◌++◌, length, arith, get_or, sym, ◌∙◌}
use Rattle.std.proofs.lemmas.List.Elements.{Contains-append_left, Contains-push, Contains-push_cases}
use Rattle.std.proofs.lemmas.Bool.{cases_lt}
use Rattle.std.proofs.lemmas.List.{get_or_past, get_or-replicate, length-replicate, get_or_read}
use Rattle.dpl_spec_split.proofs.Ordered.{Contains-nil}
use Rattle.std.specs.List.{Contains}
use Rattle.dpl_links.specs.Graph.{LeadsTo, targets_at, Reaches, here, on, IsMarked, AreReached}
use Rattle.dpl_links.specs.Marks.{Marks}

pub record Spread (graph : List (List ℕ)) (from : ℕ) (marks : List Bool) (noted : List ℕ) : Type 0 where
  pub each : length marks ≡ length graph
  pub begun : IsMarked marks from
  pub sound : (k : ℕ) → IsMarked marks k → Reaches graph from k
  pub pending : (k : ℕ) → IsMarked marks k → Contains noted k ⊎ ((j : ℕ) → LeadsTo graph k j → IsMarked marks j)
  pub marked : (k : ℕ) → Contains noted k → IsMarked marks k

pub Reaches-then : {graph : List (List ℕ)} {k j l : ℕ} → Reaches graph k j → LeadsTo graph j l → Reaches graph k l
Reaches-then here e = on e here
Reaches-then (on d r) e = on d (Reaches-then r e)

pub kept_closed : {graph : List (List ℕ)} {k l : ℕ} (P : ℕ → Type 0) → ((i j : ℕ) → P i → LeadsTo graph i j → P j) → Reaches graph k l → P k → P l
kept_closed P closed here p = p
kept_closed P closed (on {k} {j} e r) p = kept_closed P closed r (closed k j p e)

pub Spread-all : (graph : List (List ℕ)) (from : ℕ) (marks : List Bool) (noted : List ℕ) → length noted ≡ 0 → Spread graph from marks noted → AreReached graph from marks
Spread-all graph from marks noted none s = record {
  each = s.each;
  sound = s.sound;
  complete = λ k r. kept_closed (IsMarked marks) (λ i j p e. ⊎_elim (λ c. absurd (nothing i c)) (λ all. all j e) (s.pending i p)) r s.begun;
}
  where
    nothing : (i : ℕ) → Contains noted i → ⊥
    nothing i (k, lt, e) = absurd (omega (arith, none))

pub none_marked : (n k : ℕ) → IsMarked (replicate n false) k → ⊥
none_marked n k h = ⊎_elim (λ (l : k < n). let e = get_or-replicate n k false false l in let f : true ≡ false = sym h ∙ e in
    cc) (λ (l : n ≤ k). let p : length (replicate n false) ≤ k = rw (length-replicate n false) l in
    let e = get_or_past (replicate n false) k false p in let f : true ≡ false = sym h ∙ e in cc) (cases_lt k n)

pub Spread-start : (graph : List (List ℕ)) (from : ℕ) (old marks : List Bool) (noted : List ℕ) → old ≡ replicate (length graph) false
    → Marks (λ k. k ≡ from) old marks [] noted → Spread graph from marks noted
Spread-start graph from old marks noted fresh m = record {
  each = m.each ∙ (ap length fresh ∙ length-replicate (length graph) false);
  begun = m.sets from refl;
  sound = λ k h. ⊎_elim (λ x. absurd (none k x)) (λ (e : k ≡ from). rw e here) (m.alone k h);
  pending = λ k h. ⊎_elim (λ x. absurd (none k x)) (λ x. inl x) (m.notes k h);
  marked = λ k h. ⊎_elim (λ x. absurd (nothing k x)) (λ x. x) (m.notes_alone k h);
}
  where
    nothing : (i : ℕ) → Contains [] i → ⊥
    nothing i c = Contains-nil i c

    none : (k : ℕ) → IsMarked old k → ⊥
    none k h = none_marked (length graph) k (rw fresh at h)

-- the vertex v is taken from the notes, and its targets are marked
pub Spread-more : (graph : List (List ℕ)) (from v : ℕ) (old marks : List Bool) (all rest noted : List ℕ) → all ≡ rest ++ v ∷ []
    → Spread graph from old all → Marks (Contains (targets_at graph v)) old marks rest noted → Spread graph from marks noted
Spread-more graph from v old marks all rest noted e s m = record {
  each = m.each ∙ s.each;
  begun = m.keeps from s.begun;
  sound = λ k h. ⊎_elim (λ x. s.sound k x) (λ x. Reaches-then (s.sound v v_marked) x) (m.alone k h);
  pending = λ k h. ⊎_elim (λ x. later k x) (λ x. inl x) (m.notes k h);
  marked = λ k h. ⊎_elim (λ x. m.keeps k (s.marked k (whole k (Contains-append_left rest (v ∷ []) k x)))) (λ x. x) (m.notes_alone k h);
}
  where
    whole : (k : ℕ) → Contains (rest ++ v ∷ []) k → Contains all k
    whole k c = rw e c

    v_marked : IsMarked old v
    v_marked = s.marked v (whole v (Contains-push rest v))

    noted_later : (k : ℕ) → Contains all k → Contains noted k ⊎ ((j : ℕ) → LeadsTo graph k j → IsMarked marks j)
    noted_later k c = ⊎_elim (λ x. inl (m.keeps_notes k x)) (λ (w : v ≡ k). inr (λ j x. m.sets j (rw w x))) (Contains-push_cases rest v k (rw e at c))

    later : (k : ℕ) → IsMarked old k → Contains noted k ⊎ ((j : ℕ) → LeadsTo graph k j → IsMarked marks j)
    later k x = ⊎_elim (λ y. noted_later k y) (λ y. inr (λ j l. m.keeps j (y j l))) (s.pending k x)

-- a marked vertex is one of the graph
pub marked_below : (ms : List Bool) (k : ℕ) → IsMarked ms k → k < length ms
marked_below ms k m = ⊎_elim (λ (h : k < length ms). h) (λ (h : length ms ≤ k). absurd (past h)) (cases_lt k (length ms))
  where
    past : length ms ≤ k → ⊥
    past h = let e = get_or_past ms k false h in let f : true ≡ false = sym m ∙ e in cc

-- a noted vertex is one of the graph
pub noted_below : (graph : List (List ℕ)) (from v : ℕ) (marks : List Bool) (all rest : List ℕ) → all ≡ rest ++ v ∷ [] → Spread graph from marks all → v < length graph
noted_below graph from v marks all rest e s =
    let m = marked_below marks v (s.marked v (rw e (Contains-push rest v))) in
    omega (arith, m, s.each)

pub targets_are : (graph : List (List ℕ)) (v : ℕ) (r items : List ℕ) → v < length graph → items ≡ r → r ≡ get_or graph v r → items ≡ targets_at graph v
targets_are graph v r items h e f = e ∙ get_or_read graph v r h f []
