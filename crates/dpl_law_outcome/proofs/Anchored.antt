-- A reported cycle of the graph with anchors, and what joins its places, is a valid conflict, and its lines are a certificate.
use Rattle.std.proofs.Common.{◌≡◌, ◌≢◌, ℕ, zero, suc, ◌+◌, ◌/◌, ◌%◌, ◌<◌, inl, inr, Bool, true, false, List, [], length, map, get_or, sym, refl, ap, ◌∙◌, subst, arith}
use Rattle.std.specs.Prelude.{Some, pos, slice_index}
use Rattle.std.specs.List.{Contains}
use Rattle.std.proofs.lemmas.List.{get_or_default, get_or-map, length-map}
use Rattle.std.proofs.lemmas.Slice.Zip.{AllZip-long}
use Rattle.dpl_spec_split.specs.declared.Spacing.{Spacing}
use Rattle.dpl_spec_split.specs.declared.Rect.{Rect}
use Rattle.dpl_spec_split.specs.Squares.{Covers, IsLeast}
use Rattle.dpl_spec_split.specs.Loops.{AreRectsWithin, farthest}
use Rattle.dpl_spec_split.specs.Zones.{at, part_at}
use Rattle.dpl_spec_split.specs.Graphs.{IsOddCycle}
use Rattle.dpl_spec_split.specs.Cycle.{IsReported}
use Rattle.dpl_spec_split.specs.Marks.{Anchored, MarkEdge, Marks}
use Rattle.dpl_spec_split.specs.Marks.Anchored.{conflict, up, down}
use Rattle.dpl_spec_split.specs.Marks.MarkEdge.{anchors, fixed_to_a, fixed_to_b}
use Rattle.dpl_spec_split.specs.Decomposition.{Cut, IsCut, cut_graph}
use Rattle.dpl_stars.proofs.Forks.{reported-odd}
use Rattle.dpl_law_split.proofs.Apart.{graph-undirected}
use Rattle.dpl_law_split.proofs.Parts.{zip-at}
use Rattle.dpl_cert.specs.declared.cert.PlaceLine.{PlaceLine}
use Rattle.dpl_cert.specs.declared.cert.PlaceLine.TheVariants.{Piece as PieceLine}
use Rattle.dpl_cert.specs.declared.cert.NearLine.{NearLine}
use Rattle.dpl_cert.specs.declared.cert.NearLine.TheVariants.{Pair, Mark, Anchors}
use Rattle.dpl_cert.specs.declared.cert.Cert.TheVariants.{Conflict as ConflictText}
use Rattle.dpl_cert.specs.Grammar.{IsCert, IsCycleLength, IsNear, IsPlace, IsRule}
use Rattle.dpl_spec_verdict.specs.declared.Verdict.TheVariants.{Valid}
use Rattle.dpl_spec_verdict.specs.Order.{HasBad}
use Rattle.dpl_spec_verdict.specs.Conflicts.{AreJoined, AreSame, IsBadPlace, IsGoodPlace, IsNamed, ShowsMark, VerdictOfClaim, place_at}
use Rattle.dpl_answer.specs.Anchors.{AreLinksOf, ShowsLink, ShowsSquare, place_of, set_against, vertex_of}
use Rattle.dpl_law_verdict.specs.Own.{head_of}
use Rattle.dpl_law_verdict.specs.Written.{IsCorner}
use Rattle.dpl_law_verdict.proofs.Counting.{few-numbers}
use Rattle.dpl_law_verdict.proofs.Written.{all-index, all-map, bounded-pieces, head-fits, piece-inside, point-of}

-- ---- vertices

-- a vertex that is a piece is one of the layer's
abbrev IsBelow : ℕ → ℕ → Type 0
IsBelow n v = v < n + 2

edge-below : (m : Marks) (pieces : List (List Rect)) (u v : ℕ) → MarkEdge m pieces u v → IsBelow (length pieces) u × IsBelow (length pieces) v
edge-below m pieces u v (anchors a b) = (omega (arith, a), omega (arith, b))
edge-below m pieces u v (fixed_to_b k l has a b) = (omega (arith, a), omega (arith, b, l))
edge-below m pieces u v (fixed_to_a k l has a b) = (omega (arith, a), omega (arith, b, l))

below : (m : Marks) (spacing : Spacing) (pieces : List (List Rect)) (owners : List ℕ) (u v : ℕ) → Anchored spacing m pieces owners u v → IsBelow (length pieces) u
below m spacing pieces owners u v (conflict i j h a b) = (let l = h.first in omega (arith, a, l))
below m spacing pieces owners u v (up e) = (edge-below m pieces u v e).0
below m spacing pieces owners u v (down e) = (edge-below m pieces v u e).1

-- two pieces that are joined are of different features
apart : (m : Marks) (spacing : Spacing) (pieces : List (List Rect)) (owners : List ℕ) (i j : ℕ) → Anchored spacing m pieces owners (suc (suc i)) (suc (suc j))
    → get_or owners i 0 ≢ get_or owners j 0
apart m spacing pieces owners i j (conflict a b h x y) e =
    let first : i ≡ a = omega (arith, x) in
    let second : j ≡ b = omega (arith, y) in
    h.apart (ap (λ k. get_or owners k 0) (sym first) ∙ (e ∙ ap (λ k. get_or owners k 0) second))
apart m spacing pieces owners i j (up (anchors x y)) e = absurd (omega (arith, x))
apart m spacing pieces owners i j (up (fixed_to_b k l has x y)) e = absurd (omega (arith, x))
apart m spacing pieces owners i j (up (fixed_to_a k l has x y)) e = absurd (omega (arith, x))
apart m spacing pieces owners i j (down (anchors x y)) e = absurd (omega (arith, x))
apart m spacing pieces owners i j (down (fixed_to_b k l has x y)) e = absurd (omega (arith, x))
apart m spacing pieces owners i j (down (fixed_to_a k l has x y)) e = absurd (omega (arith, x))

module _ (m : Marks) (spacing : Spacing) (overlap : ℕ) (layer : List Rect) (c : Cut) (cycle : List ℕ) (near : List NearLine)
    (cut : IsCut (Some m) spacing overlap (Covers layer) c) (reported : IsReported (cut_graph (Some m) spacing c) cycle) (links : AreLinksOf m spacing c.pieces cycle near) where
  abbrev place : ℕ → PlaceLine
  place v = place_of c.keys (vertex_of v)

  abbrev places : List PlaceLine
  places = map place cycle

  many-places : length places ≡ length cycle
  many-places = length-map cycle place

  odd-cycle : IsOddCycle (cut_graph (Some m) spacing c) cycle
  odd-cycle = reported-odd (cut_graph (Some m) spacing c) (graph-undirected (Some m) spacing c) cycle reported

  same-vertex : (u v : ℕ) → AreSame (place u) (place v) → u ≡ v
  same-vertex zero zero e = refl
  same-vertex zero (suc zero) e = absurd (cc)
  same-vertex zero (suc (suc j)) e = absurd e
  same-vertex (suc zero) zero e = absurd (cc)
  same-vertex (suc zero) (suc zero) e = refl
  same-vertex (suc zero) (suc (suc j)) e = absurd e
  same-vertex (suc (suc i)) zero e = absurd e
  same-vertex (suc (suc i)) (suc zero) e = absurd e
  same-vertex (suc (suc i)) (suc (suc j)) e = omega (arith, e)

  named : (v : ℕ) → IsBelow (length c.pieces) v → IsNamed (Some m) c (place v)
  named zero l = tt
  named (suc zero) l = tt
  named (suc (suc k)) l =
      let known : k < length c.pieces = omega (arith, l) in
      let keyed : length c.keys ≡ length c.pieces = AllZip-long (λ piece key. IsLeast (Covers piece) key) c.pieces c.keys cut.pieces.keyed in
      (known, get_or_default c.keys k (at (pos 0) (pos 0)) (get_or c.keys k (at (pos 0) (pos 0))) (subst (λ n. k < n) (sym keyed) known))

  held : (i : ℕ) (b : Bool) (line : NearLine) → ShowsSquare (IsLeast (λ p. part_at c.pieces i p × Covers (set_against m b) p)) line → ShowsMark (Some m) c i b line
  held i b (Pair p q) s = absurd s
  held i false (Mark p) s = s.inside
  held i true (Mark p) s = s.inside
  held i b Anchors s = absurd s

  joined : (u v : ℕ) (line : NearLine) → Anchored spacing m c.pieces c.owners u v → ShowsLink m spacing c.pieces (vertex_of u) (vertex_of v) line
      → AreJoined (Some m) spacing c (place u) (place v) line
  joined zero zero line e s = subst (λ (l : NearLine). AreJoined (Some m) spacing c (place 0) (place 0) l) (sym s) tt
  joined zero (suc zero) line e s = subst (λ (l : NearLine). AreJoined (Some m) spacing c (place 0) (place 1) l) (sym s) tt
  joined (suc zero) zero line e s = subst (λ (l : NearLine). AreJoined (Some m) spacing c (place 1) (place 0) l) (sym s) tt
  joined (suc zero) (suc zero) line e s = subst (λ (l : NearLine). AreJoined (Some m) spacing c (place 1) (place 1) l) (sym s) tt
  joined zero (suc (suc j)) line e s = held j false line s
  joined (suc zero) (suc (suc j)) line e s = held j true line s
  joined (suc (suc i)) zero line e s = held i false line s
  joined (suc (suc i)) (suc zero) line e s = held i true line s
  joined (suc (suc i)) (suc (suc j)) (Pair p q) e s = record { from = s.are.from; to = s.are.to; near = s.are.close; apart = apart m spacing c.pieces c.owners i j e }
  joined (suc (suc i)) (suc (suc j)) (Mark p) e s = absurd s
  joined (suc (suc i)) (suc (suc j)) Anchors e s = absurd s

  good-line : (k : ℕ) (d : NearLine) → k < length cycle → IsGoodPlace (Some m) spacing c places (place (get_or cycle k 0))
      (place (get_or cycle ((k + 1) % length cycle) 0)) k (get_or near k d)
  good-line k d k_in =
      let edge = odd-cycle.around k k_in in
      record {
        named = named (get_or cycle k 0) (below m spacing c.pieces c.owners (get_or cycle k 0) (get_or cycle ((k + 1) % length cycle) 0) edge);
        new = λ j l e. odd-cycle.different j k 0 l k_in (same-vertex (get_or cycle j 0) (get_or cycle k 0) (subst (λ (x : PlaceLine). AreSame x (place (get_or cycle k 0)))
            (get_or-map place cycle j 0 (PieceLine 0 (at (pos 0) (pos 0))) (omega (arith, l, k_in))) e));
        joined = joined (get_or cycle k 0) (get_or cycle ((k + 1) % length cycle) 0) (get_or near k d) edge (links.link k d k_in);
      }

  none-bad-place : HasBad (IsBadPlace (Some m) spacing c places near) places → ⊥
  none-bad-place (k, k_in, bad) =
      let within : k < length cycle = subst (λ n. k < n) many-places k_in in
      let line : NearLine = Anchors in
      let here : PlaceLine = place (get_or cycle k 0) in
      let next_in : (k + 1) % length cycle < length cycle = omega (arith, within) in
      let next : place_at places ((k + 1) % length places) ≡ place (get_or cycle ((k + 1) % length cycle) 0) = ap
      (λ n. place_at places ((k + 1) % n)) many-places
      ∙ get_or-map place cycle ((k + 1) % length cycle) 0 (PieceLine 0 (at (pos 0) (pos 0))) next_in in
      bad here line
      (subst (λ (x : PlaceLine). IsGoodPlace (Some m) spacing c places x (place_at places ((k + 1) % length places)) k (get_or near k line))
      (sym (get_or-map place cycle k 0 here within))
      (subst (λ (n : PlaceLine). IsGoodPlace (Some m) spacing c places here n k (get_or near k line)) (sym next) (good-line k line within)))

  pub anchored-verdict : VerdictOfClaim (Some m) spacing overlap (record { layer = layer; head = head_of spacing overlap c; cycle = places; near = near }) Valid
  anchored-verdict = inr (
    (λ differs. elim differs [ inl ne ↦ ne refl | inr (inl ne) ↦ ne refl | inr (inr ne) ↦ ne refl ]),
    inr ((λ differs. differs (c, cut, refl, refl, refl)), (c, cut, inr (none-bad-place, refl))),
  )

  -- ---- the certificate

  module _ (ruled : IsRule spacing.rule) (cornered : IsCorner spacing) (lapped : IsRule overlap) (within : AreRectsWithin farthest layer) where
    known : (v : ℕ) → Contains cycle v → IsBelow (length c.pieces) v
    known v (i, i_in, is) = subst (λ n. IsBelow (length c.pieces) n) (get_or_default cycle i 0 v i_in ∙ is)
        (below m spacing c.pieces c.owners (get_or cycle i 0) (get_or cycle ((i + 1) % length cycle) 0) (odd-cycle.around i i_in))

    place-fits : (v : ℕ) → IsBelow (length c.pieces) v → IsPlace (place v)
    place-fits zero l = tt
    place-fits (suc zero) l = tt
    place-fits (suc (suc k)) l =
        let known : k < length c.pieces = omega (arith, l) in
        let few = bounded-pieces (Some m) spacing overlap layer c ruled cornered lapped within cut in
        let key = get_or c.keys k (at (pos 0) (pos 0)) in (
          omega (arith, known, few),
          point-of key (piece-inside (Some m) spacing overlap layer c ruled cornered lapped within cut k key
              (zip-at (λ piece p. IsLeast (Covers piece) p) c.pieces c.keys k [] (at (pos 0) (pos 0)) cut.pieces.keyed known).inside),
        )

    square-fits : (i : ℕ) (b : Bool) (line : NearLine) → ShowsSquare (IsLeast (λ p. part_at c.pieces i p × Covers (set_against m b) p)) line → IsNear line
    square-fits i b (Pair p q) s = absurd s
    square-fits i b (Mark p) s = point-of p (piece-inside (Some m) spacing overlap layer c ruled cornered lapped within cut i p s.inside.0)
    square-fits i b Anchors s = absurd s

    line-fits : (u v : ℕ) (line : NearLine) → ShowsLink m spacing c.pieces (vertex_of u) (vertex_of v) line → IsNear line
    line-fits zero zero line s = subst IsNear (sym s) tt
    line-fits zero (suc zero) line s = subst IsNear (sym s) tt
    line-fits (suc zero) zero line s = subst IsNear (sym s) tt
    line-fits (suc zero) (suc zero) line s = subst IsNear (sym s) tt
    line-fits zero (suc (suc j)) line s = square-fits j false line s
    line-fits (suc zero) (suc (suc j)) line s = square-fits j true line s
    line-fits (suc (suc i)) zero line s = square-fits i false line s
    line-fits (suc (suc i)) (suc zero) line s = square-fits i true line s
    line-fits (suc (suc i)) (suc (suc j)) (Pair p q) s = (
      point-of p (piece-inside (Some m) spacing overlap layer c ruled cornered lapped within cut i p s.are.from),
      point-of q (piece-inside (Some m) spacing overlap layer c ruled cornered lapped within cut j q s.are.to),
    )
    line-fits (suc (suc i)) (suc (suc j)) (Mark p) s = absurd s
    line-fits (suc (suc i)) (suc (suc j)) Anchors s = absurd s

    cycle-length : IsCycleLength (length cycle)
    cycle-length =
        let most = few-numbers (length c.pieces + 2) cycle odd-cycle.different known in
        let few = bounded-pieces (Some m) spacing overlap layer c ruled cornered lapped within cut in
        let rest = odd-cycle.odd in
        record { long = odd-cycle.three; odd = (length cycle / 2, omega (arith, rest)); fits = omega (arith, most, few) }

    pub anchored-cert : IsCert (ConflictText (head_of spacing overlap c) places near)
    anchored-cert = (
      head-fits (Some m) spacing overlap layer c ruled cornered lapped within cut,
      subst IsCycleLength (sym many-places) cycle-length,
      all-map IsPlace place cycle (λ v i i_in is. place-fits v (known v (i, i_in, is))),
      links.each ∙ sym many-places,
      all-index IsNear near (λ k d k_in. line-fits (slice_index cycle k) (slice_index cycle ((k + 1) % length cycle)) (get_or near k d) (links.link k d (subst (λ n. k < n) links.each k_in))),
    )
