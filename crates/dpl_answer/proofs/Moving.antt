-- Sheets with a tile for the edges of marks.
use Rattle.std.proofs.Common.{◌≡◌, ℕ, zero, suc, ◌+◌, ◌<◌, inl, inr, List, [], ◌∷◌, ◌++◌, map, length, refl, sym, ap, ◌∙◌, subst, arith}
use Rattle.std.specs.Prelude.{◌↔◌, Option, Some, None, slice_index_or}
use Rattle.std.specs.List.{All, Contains}
use Rattle.std.proofs.lemmas.Grind.{flat_map-append}
use Rattle.std.proofs.lemmas.List.{append-nil, map-append}
use Rattle.std.proofs.lemmas.List.Concat.{flat_map-cons}
use Rattle.std.proofs.lemmas.List.Elements.{All-append, All-map, Contains-append_cases, Contains-append_left, Contains-append_right}
use Rattle.dpl_spec_split.specs.Graphs.{graph_of}
use Rattle.dpl_stars.specs.declared.joined.Joined.{Joined}
use Rattle.dpl_stars.specs.Sums.{AreEdgePairs, Sums, summary_of}
use Rattle.dpl_stars.proofs.SameGraph.{same-members, summary-along}
use Rattle.dpl_orient.specs.Rooted.{AreSidesBelow}
use Rattle.dpl_board.specs.Sheets.{IsSheet, Sheet, all_edges}
use Rattle.dpl_answer.specs.Anchors.{moved, with_marks}
use Rattle.dpl_answer.specs.Sheets.{HavePairs, sheet_with}
use Rattle.dpl_answer.proofs.Anchoring.{has-moved, moved-has}

pub moved-pairs : (edges : List (ℕ × ℕ)) → AreEdgePairs edges → AreEdgePairs (moved edges)
moved-pairs edges pairs = All-map (λ (e : ℕ × ℕ). e.0 < e.1) (λ (e : ℕ × ℕ). (e.0 + 2, e.1 + 2)) edges (λ k d l. let p = pairs k d l in omega (arith, p))

-- the sides of zones by vertices are below two more
pub moved-below : (n : ℕ) (sides : List (ℕ × ℕ)) → AreSidesBelow n sides → AreSidesBelow (n + 2) (moved sides)
moved-below n sides below = All-map (λ (s : ℕ × ℕ). (s.0 < n + 2) × (s.1 < n + 2)) (λ (s : ℕ × ℕ). (s.0 + 2, s.1 + 2)) sides
    (λ k d l. (let p = below k d l in (omega (arith, p.0), omega (arith, p.1))))

one : (edges : List (ℕ × ℕ)) → AreEdgePairs edges → All AreEdgePairs (edges ∷ [])
one edges pairs zero d l = pairs
one edges pairs (suc k) d l = absurd (omega (arith, l))

-- with the marks' tile it is a sheet still
pub with-sheet : (marked : Option (List (ℕ × ℕ))) (sheet : Sheet) → HavePairs marked → IsSheet sheet → IsSheet (sheet_with marked sheet)
with-sheet None sheet pairs is = is
with-sheet (Some marked) sheet pairs is = All-append AreEdgePairs (map moved sheet) (marked ∷ []) (All-map AreEdgePairs moved sheet (λ k d l. moved-pairs _ (is k d l))) (one marked pairs)

-- the tiles but the last are those of the sheet, by vertices
pub moved-at : (sheet : Sheet) (marked : List (ℕ × ℕ)) (t : ℕ) → t < length sheet → slice_index_or (map moved sheet ++ marked ∷ []) t [] ≡ moved (slice_index_or sheet t [])
moved-at [] marked t l = absurd (omega (arith, l))
moved-at (es ∷ sheet) marked zero l = refl
moved-at (es ∷ sheet) marked (suc t) l = moved-at sheet marked t (omega (arith, l))

-- the last is that of the marks
pub marked-at : (sheet : Sheet) (marked : List (ℕ × ℕ)) (t : ℕ) → t ≡ length sheet → slice_index_or (map moved sheet ++ marked ∷ []) t [] ≡ marked
marked-at [] marked zero is = refl
marked-at [] marked (suc t) is = absurd (omega (arith, is))
marked-at (es ∷ sheet) marked zero is = absurd (omega (arith, is))
marked-at (es ∷ sheet) marked (suc t) is = marked-at sheet marked t (omega (arith, is))

flat-moved : (sheet : Sheet) → all_edges (map moved sheet) ≡ moved (all_edges sheet)
flat-moved [] = refl
flat-moved (es ∷ sheet) = flat_map-cons (λ (x : List (ℕ × ℕ)). x) (moved es) (map moved sheet)
    ∙ (ap (λ r. moved es ++ r) (flat-moved sheet)
    ∙ (sym (map-append (λ (e : ℕ × ℕ). (e.0 + 2, e.1 + 2)) es (all_edges sheet)) ∙ sym (ap moved (flat_map-cons (λ (x : List (ℕ × ℕ)). x) es sheet))))

all-moved : (sheet : Sheet) (marked : List (ℕ × ℕ)) → all_edges (map moved sheet ++ marked ∷ []) ≡ moved (all_edges sheet) ++ marked
all-moved sheet marked = flat_map-append (λ (x : List (ℕ × ℕ)). x) (map moved sheet) (marked ∷ [])
    ∙ (ap (λ r. r ++ all_edges (marked ∷ [])) (flat-moved sheet) ∙ ap (λ r. moved (all_edges sheet) ++ r) (flat_map-cons (λ (x : List (ℕ × ℕ)). x) marked [] ∙ append-nil marked))

module _ (edges others : List (ℕ × ℕ)) (same : (e : ℕ × ℕ) → Contains edges e ↔ Contains others e) (marked : List (ℕ × ℕ)) where
  marks-first : (e : ℕ × ℕ) → Contains (moved edges ++ marked) e → Contains (marked ++ moved others) e
  marks-first e c = elim (Contains-append_cases (moved edges) marked e c) [
    | inl here ↦ (let (d, d_in, x, y) = has-moved edges e.0 e.1 here in Contains-append_right marked (moved others) e (moved-has others d.0 d.1 e.0 e.1 ((same d).0 d_in) x y))
    | inr there ↦ Contains-append_left marked (moved others) e there
  ]

  marks-last : (e : ℕ × ℕ) → Contains (marked ++ moved others) e → Contains (moved edges ++ marked) e
  marks-last e c = elim (Contains-append_cases marked (moved others) e c) [
    | inl there ↦ Contains-append_right (moved edges) marked e there
    | inr here ↦ (let (d, d_in, x, y) = has-moved others e.0 e.1 here in Contains-append_left (moved edges) marked e (moved-has edges d.0 d.1 e.0 e.1 ((same d).1 d_in) x y))
  ]

-- what sums up the edges of all tiles sums up any list of them, with those of the marks
pub with-sums : (marked : Option (List (ℕ × ℕ))) (sheet : Sheet) (edges : List (ℕ × ℕ)) (j : Joined) → ((e : ℕ × ℕ) → Contains (all_edges sheet) e ↔ Contains edges e)
    → Sums (all_edges (sheet_with marked sheet)) j → Sums (with_marks marked edges) j
with-sums None sheet edges j same sums = summary-along (graph_of (all_edges sheet)) (graph_of edges) (same-members (all_edges sheet) edges same) (summary_of j) sums
with-sums (Some marked) sheet edges j same sums =
    summary-along (graph_of (moved (all_edges sheet) ++ marked)) (graph_of (marked ++ moved edges))
    (same-members (moved (all_edges sheet) ++ marked) (marked ++ moved edges) (λ e.
    (marks-first (all_edges sheet) edges same marked e, marks-last (all_edges sheet) edges same marked e))) (summary_of j)
    (subst (λ (xs : List (ℕ × ℕ)). Sums xs j) (all-moved sheet marked) sums)
