-- From the conflicts of a cut to its masks, or to its cycle.
use Rattle.std.proofs.Common.{◌≡◌, ◌∙◌, ◌<◌, ◌≤◌, ◌%◌, ◌/◌, ◌^◌, ℕ, suc, inl, inr, Bool, false, true, List, [], ◌∷◌, length, map, get_or, ap, sym, refl, subst, arith}
use Rattle.std.specs.Prelude.{None, Option, Some}
use Rattle.std.specs.List.{All, Contains, zip}
use Rattle.std.proofs.lemmas.Bool.{cases_order}
use Rattle.std.proofs.lemmas.List.{get_or-map, length-drop, length-map}
use Rattle.dpl_spec_split.specs.declared.Spacing.{Spacing}
use Rattle.dpl_spec_split.specs.declared.Pt.{Pt}
use Rattle.dpl_spec_split.specs.declared.Rect.{Rect}
use Rattle.dpl_spec_split.specs.Slabs.{AreSlabsOf}
use Rattle.dpl_spec_split.specs.Graphs.{AreEdges, IsOddCycle, graph_of}
use Rattle.dpl_spec_split.specs.Summary.{HasOddCycle}
use Rattle.dpl_spec_split.specs.Cycle.{IsReported}
use Rattle.dpl_spec_split.specs.Colours.{AreStitches, on_mask}
use Rattle.dpl_spec_split.specs.Marks.{Marks, letters_by, sides_by, vertex}
use Rattle.dpl_spec_split.specs.Decomposition.{Cut, conflicts, cut_graph}
use Rattle.dpl_stars.specs.Levels.{AreEdgesBelow}
use Rattle.dpl_stars.specs.declared.list.Star.{Star}
use Rattle.dpl_stars.specs.declared.joined.Joined.{Joined}
use Rattle.dpl_stars.specs.declared.joined.Joined.TheVariants.{Stars, Odd}
use Rattle.dpl_stars.specs.Sums.{Sums, row_of}
use Rattle.dpl_orient.specs.Rooted.{ArePiecesBelow}
use Rattle.dpl_orient.specs.Oriented.{IsEvenBelow}
use Rattle.dpl_spec_fewer.specs.Masks.{fixed_by}
use Rattle.dpl_cert.specs.declared.cert.Gain.{Gain}
use Rattle.dpl_cert.specs.declared.cert.Head.{Head}
use Rattle.dpl_cert.specs.declared.cert.PieceLine.{PieceLine}
use Rattle.dpl_cert.specs.declared.cert.StitchLine.{StitchLine}
use Rattle.dpl_cert.specs.declared.cert.PlaceLine.{PlaceLine}
use Rattle.dpl_cert.specs.declared.cert.NearLine.{NearLine}
use Rattle.dpl_cert.specs.Grammar.{IsCycleLength}
use Rattle.dpl_orient.specs.Fewer.{ColoursBy}
use Rattle.dpl_answer.specs.Anchors.{AreLettersOf}
use Rattle.dpl_answer.specs.Flat.{AreLinks, IsClashOfCut, IsPaintedCut, Painted, place_by}
use Rattle.dpl_law_verdict.specs.Own.{AreGainsBy, head_of, piece_line, stitch_line}
use Rattle.dpl_answer.proofs.Reducing.{as_many, coloured-in}
use Rattle.dpl_answer.proofs.Anchoring.{graph-apart, graph-back}
use Rattle.dpl_answer.proofs.SameGraphs.{SameEdges, odd_same, reported_same, roots_same, same_back}

-- what holds of all elements holds of each
pub of_all : {A : Type 0} (P : A → Type 0) (xs : List A) (x : A) → All P xs → Contains xs x → P x
of_all P xs x all c = subst P c.2 (all c.0 x c.1)

-- the edges have what is joined both ways round
pub same_edges : (marks : Option Marks) (spacing : Spacing) (cut : Cut) (edges : List (ℕ × ℕ))
    → AreEdges (cut_graph marks spacing cut) edges → SameEdges (graph_of edges) (cut_graph marks spacing cut)
same_edges marks spacing cut edges are u v = (
  λ joined. elim joined [ inl c ↦ ((are.exactly u v).0 c).1 | inr c ↦ graph-back marks spacing cut.pieces cut.owners v u ((are.exactly v u).0 c).1 ],
  λ c. elim (cases_order u v) [
    | inl e ↦ absurd (graph-apart marks spacing cut.pieces cut.owners u v c e)
    | inr other ↦ elim other [
      | inl l ↦ inl ((are.exactly u v).1 (l, c))
      | inr l ↦ inr ((are.exactly v u).1 (l, graph-back marks spacing cut.pieces cut.owners u v c))
    ]
  ],
)

pub same_conflicts : (spacing : Spacing) (cut : Cut) (edges : List (ℕ × ℕ)) → AreEdges (conflicts spacing cut) edges → SameEdges (graph_of edges) (conflicts spacing cut)
same_conflicts spacing cut edges are = same_edges None spacing cut edges are

-- an edge's ends are below n
ends_below : (n : ℕ) (edges : List (ℕ × ℕ)) (u v : ℕ) → AreEdgesBelow n edges → graph_of edges u v → u < n
ends_below n edges u v below (inl c) = let e = of_all (λ (e : ℕ × ℕ). (e.0 < e.1) × (e.1 < n)) edges (u, v) below c in omega (arith, e.0, e.1)
ends_below n edges u v below (inr c) = let e = of_all (λ (e : ℕ × ℕ). (e.0 < e.1) × (e.1 < n)) edges (v, u) below c in e.1

-- rows stand for pieces that edges touch
pub rows_below : (n : ℕ) (edges : List (ℕ × ℕ)) (rows : List Star) → AreEdgesBelow n edges → Sums edges (Stars rows) → ArePiecesBelow n rows
rows_below n edges rows below sums k d h =
    let there : Contains (map row_of rows) (row_of (get_or rows k d)) = (k, rw length-map h, get_or-map row_of rows k d _ h) in
    let touched = ((sums.exactly (row_of (get_or rows k d))).0 there).0 in
    ends_below n edges _ touched.0 below touched.1

pub not_odd : (n : ℕ) (edges : List (ℕ × ℕ)) (joined : Joined) → IsEvenBelow n joined → Sums edges joined → ¬ HasOddCycle (graph_of edges)
not_odd n edges (Stars rows) even sums = sums.even
not_odd n edges Odd even sums = absurd even

pub painted_from : (fewer : Bool) (marks : Option Marks) (spacing : Spacing) (overlap : ℕ) (cut : Cut) (edges : List (ℕ × ℕ)) (joined : Joined) (colours letters : List Bool) (a b : List Rect)
    (stitches : List ℕ) (head : Head) (ps : List PieceLine) (ss : List StitchLine) (gains : Option (List Gain))
    → AreEdges (cut_graph marks spacing cut) edges → Sums edges joined → IsEvenBelow (vertex marks (length cut.pieces)) joined
    → ColoursBy fewer (fixed_by marks) joined (vertex marks (length cut.pieces)) (sides_by marks cut.sides) colours → letters ≡ letters_by marks colours
    → AreSlabsOf (on_mask cut.pieces cut.zones cut.sides letters false) a
    → AreSlabsOf (on_mask cut.pieces cut.zones cut.sides letters true) b → AreStitches cut.sides letters stitches
    → head ≡ head_of spacing overlap cut → ps ≡ map piece_line (zip letters cut.keys) → ss ≡ map (stitch_line cut.zones cut.sides) stitches
    → AreGainsBy fewer marks spacing cut letters gains
    → IsPaintedCut fewer marks spacing overlap cut (record { a = a; b = b; head = head; pieces = ps; stitches = ss; gains = gains })
painted_from fewer marks spacing overlap cut edges joined colours letters a b stitches head ps ss gains are sums even coloured lettered in_a in_b differing h p s told =
    let same = same_edges marks spacing cut edges are in
    let these = coloured-in fewer marks (vertex marks (length cut.pieces)) edges joined (sides_by marks cut.sides) colours sums coloured in
    let of_parts : Head → List PieceLine → List StitchLine → Painted = λ x y z. record { a = a; b = b; head = x; pieces = y; stitches = z; gains = gains } in
    record {
      masks = record { a = a; b = b; stitches = stitches };
      even = λ odd. not_odd (vertex marks (length cut.pieces)) edges joined even sums
          (odd_same (cut_graph marks spacing cut) (graph_of edges) (same_back (graph_of edges) (cut_graph marks spacing cut) same) odd);
      are_masks = record {
        roots = these.roots;
        odds = these.odds;
        colours = colours;
        rooted = roots_same (graph_of edges) (cut_graph marks spacing cut) same (vertex marks (length cut.pieces)) these.roots these.odds these.rooted;
        coloured = these.coloured;
        a = subst (λ ls. AreSlabsOf (on_mask cut.pieces cut.zones cut.sides ls false) a) lettered in_a;
        b = subst (λ ls. AreSlabsOf (on_mask cut.pieces cut.zones cut.sides ls true) b) lettered in_b;
        stitches = subst (λ ls. AreStitches cut.sides ls stitches) lettered differing;
      };
      gains = gains;
      are_gains = subst (λ (ls : List Bool). AreGainsBy fewer marks spacing cut ls gains) lettered told;
      is = ap (λ (x : Head). of_parts x ps ss) h ∙ (ap (λ (x : List PieceLine). of_parts (head_of spacing overlap cut) x ss) (p ∙ ap (λ (ls : List Bool). map piece_line (zip ls cut.keys)) lettered)
          ∙ ap (of_parts (head_of spacing overlap cut) (map piece_line (zip (letters_by marks colours) cut.keys))) s);
    }

-- there are as many letters as pieces
pub letters_many : (marks : Option Marks) (n : ℕ) (colours : List Bool) → length colours ≡ vertex marks n → length (letters_by marks colours) ≡ n
letters_many None n colours many = many
letters_many (Some m) n colours many = let left = length-drop 2 colours in omega (arith, left, many)

pub letters_as_many : (fewer : Bool) (marks : Option Marks) (n : ℕ) (edges : List (ℕ × ℕ)) (joined : Joined) (sides : List (ℕ × ℕ)) (letters : List Bool) → Sums edges joined
    → AreLettersOf fewer marks joined n sides letters → length letters ≡ n
letters_as_many fewer marks n edges joined sides letters sums (colours, graph, is) =
    ap length is ∙ letters_many marks n colours (as_many fewer (fixed_by marks) (vertex marks n) edges joined (sides_by marks sides) colours sums graph)

pub clash_from : (marks : Option Marks) (spacing : Spacing) (overlap : ℕ) (cut : Cut) (edges : List (ℕ × ℕ)) (cycle : List ℕ) (head : Head) (cs : List PlaceLine) (ns : List NearLine)
    → AreEdges (cut_graph marks spacing cut) edges → HasOddCycle (graph_of edges) → IsReported (graph_of edges) cycle → AreLinks marks spacing cut.pieces cycle ns
    → head ≡ head_of spacing overlap cut → cs ≡ map (place_by marks cut.keys) cycle
    → IsClashOfCut marks spacing overlap cut (record { head = head; cycle = cs; near = ns })
clash_from marks spacing overlap cut edges cycle head cs ns are odd reported nearest h p =
    let same = same_edges marks spacing cut edges are in
    record {
      cycle = cycle;
      odd = odd_same (graph_of edges) (cut_graph marks spacing cut) same odd;
      reported = reported_same (graph_of edges) (cut_graph marks spacing cut) same cycle reported;
      nearest = nearest;
      head = h;
      places = p;
    }

-- an odd cycle of the edges is one of the graph
pub cycle_same : (marks : Option Marks) (spacing : Spacing) (cut : Cut) (edges : List (ℕ × ℕ)) (cycle : List ℕ) → AreEdges (cut_graph marks spacing cut) edges → IsOddCycle (graph_of edges) cycle
    → IsOddCycle (cut_graph marks spacing cut) cycle
cycle_same marks spacing cut edges cycle are odd = record {
  three = odd.three;
  odd = odd.odd;
  different = odd.different;
  around = λ k l. (same_edges marks spacing cut edges are _ _).0 (odd.around k l);
}

pub cycle_length : (n m : ℕ) → 3 ≤ n → n % 2 ≡ 1 → n < 2 ^ 64 → m ≡ n → IsCycleLength m
cycle_length n m three odd small same = subst IsCycleLength (sym same) (record { long = three; odd = (n / 2, omega (arith, odd)); fits = small })

zip_length : {A B : Type 0} (xs : List A) (ys : List B) → length xs ≡ length ys → length (zip xs ys) ≡ length xs
zip_length [] ys h = refl
zip_length (x ∷ xs) [] h = absurd (omega (arith, h))
zip_length (x ∷ xs) (y ∷ ys) h = ap suc (zip_length xs ys (omega (arith, h)))

pub lines_many : (n : ℕ) (colours : List Bool) (keys : List Pt) (ps : List PieceLine) → length colours ≡ n → length keys ≡ n
    → ps ≡ map piece_line (zip colours keys) → length ps ≡ n
lines_many n colours keys ps c k p = ap length p ∙ rw length-map (zip_length colours keys (c ∙ sym k) ∙ c)

pub places_many : (place : ℕ → PlaceLine) (cycle : List ℕ) (cs : List PlaceLine) → cs ≡ map place cycle → length cs ≡ length cycle
places_many place cycle cs p = ap length p ∙ rw length-map refl
