-- The cycle of a valid verdict.
use Rattle.std.proofs.Common.{◌≡◌, ◌≢◌, ℕ, ◌+◌, ◌%◌, ◌<◌, ◌≤◌, ◌⊎◌, inl, inr, List, length, get_or, sym, ap, ◌∙◌, subst, arith}
use Rattle.std.specs.Prelude.{Option, None, pos}
use Rattle.std.specs.List.{All, AllPairs}
use Rattle.std.proofs.Math.Nat.{mod-eq_of_lt, mod_self}
use Rattle.std.proofs.lemmas.Bool.{cases_lt, cases_order}
use Rattle.std.proofs.lemmas.List.{get_or_default, length-map, get_or-map}
use Rattle.dpl_spec_split.specs.declared.Spacing.{Spacing}
use Rattle.dpl_spec_split.specs.declared.Rect.{Rect}
use Rattle.dpl_spec_split.specs.Squares.{Region, Covers}
use Rattle.dpl_spec_split.specs.Zones.{at}
use Rattle.dpl_spec_split.specs.Graphs.{IsOddCycle}
use Rattle.dpl_spec_split.specs.Decomposition.{Cut, IsCut, cut_graph}
use Rattle.dpl_spec_split.specs.Marks.{Marks}
use Rattle.dpl_cert.specs.declared.cert.Head.{Head}
use Rattle.dpl_cert.specs.declared.cert.PlaceLine.{PlaceLine}
use Rattle.dpl_cert.specs.declared.cert.PlaceLine.TheVariants.{Piece}
use Rattle.dpl_cert.specs.declared.cert.NearLine.{NearLine}
use Rattle.dpl_cert.specs.declared.cert.NearLine.TheVariants.{Pair}
use Rattle.dpl_cert.specs.Grammar.{IsCycleLength}
use Rattle.dpl_spec_verdict.specs.declared.Verdict.TheVariants.{Valid}
use Rattle.dpl_spec_verdict.specs.Order.{HasBad, RulesDiffer, ShowsRules, ShowsCounts, IsValid}
use Rattle.dpl_spec_verdict.specs.Conflicts.{AreJoined, AreSame, IsNamed}
use Rattle.dpl_spec_verdict.specs.Conflicts.{Claim, CountsDiffer, IsBadPlace, IsGoodPlace, ShowsCycle, VerdictFromCounts, VerdictFromCycle, VerdictOfClaim}
use Rattle.dpl_law_verdict.specs.Valid.{IsCycleOf, IsKeyed, vertex_of, vertices_of}
use Rattle.dpl_spec_verdict.proofs.GainLaws.{one-cut}
use Rattle.dpl_law_verdict.proofs.Passing.{equal-where}
use Rattle.dpl_law_verdict.proofs.Telling.{unbroken}
use Rattle.dpl_law_verdict.proofs.Joining.{joined-edge, joined_or_not, named-keyed, named_or_not, same-back, same-vertex}

-- of two or more places the next one is another
after-other : (n k : ℕ) → 2 ≤ n → k < n → k ≡ (k + 1) % n → ⊥
after-other n k two k_in e = elim (cases_lt (k + 1) n) [
  | inl l ↦ let small : (k + 1) % n ≡ k + 1 = mod-eq_of_lt l in omega (arith, e, small)
  | inr ge ↦ let last : k + 1 ≡ n = omega (arith, k_in, ge) in
      let first : (k + 1) % n ≡ 0 = subst (λ (m : ℕ). m % n ≡ 0) (sym last) (mod_self n) in omega (arith, e, first, last, two)
]

abbrev no_place : PlaceLine
no_place = Piece 0 (at (pos 0) (pos 0))

abbrev no_line : NearLine
no_line = Pair (at (pos 0) (pos 0)) (at (pos 0) (pos 0))

module _ (marks : Option Marks) (spacing : Spacing) (cut : Cut) (cycle : List PlaceLine) (near : List NearLine) (each : length near ≡ length cycle)
    (good : HasBad (IsBadPlace marks spacing cut cycle near) cycle → ⊥) where
  abbrev place : ℕ → PlaceLine
  place k = get_or cycle k no_place

  abbrev after : ℕ → ℕ
  after k = (k + 1) % length cycle

  abbrev line : ℕ → NearLine
  line k = get_or near k no_line

  -- what a good place has, if it can be told, holds at each place
  told : (k : ℕ) → k < length cycle → (P : Type 0) → P ⊎ (P → ⊥) → (IsGoodPlace marks spacing cut cycle (place k) (place (after k)) k (line k) → P) → P
  told k k_in P (inl there) gives = there
  told k k_in P (inr never) gives = absurd (good (
    k,
    k_in,
    λ d e h. never (gives (
        subst (λ x. IsGoodPlace marks spacing cut cycle x (place (after k)) k (line k)) (get_or_default cycle k d no_place k_in)
        (subst (λ l. IsGoodPlace marks spacing cut cycle (get_or cycle k d) (place (after k)) k l) (get_or_default near k e no_line (omega (arith, each, k_in))) h))),
  ))

  joined-at : (k : ℕ) → k < length cycle → AreJoined marks spacing cut (place k) (place (after k)) (line k)
  joined-at k k_in = told k k_in (AreJoined marks spacing cut (place k) (place (after k)) (line k))
      (joined_or_not marks spacing cut (place k) (place (after k)) (line k)) (λ h. h.joined)

  named-at : (k : ℕ) → k < length cycle → IsNamed marks cut (place k)
  named-at k k_in = told k k_in (IsNamed marks cut (place k)) (named_or_not marks cut (place k)) (λ h. h.named)

  -- each place is new
  new-at : (j k : ℕ) → j < k → k < length cycle → AreSame (place j) (place k) → ⊥
  new-at j k l k_in same = told k k_in ⊥ (inr (λ h. h)) (λ h. h.new j l same)

  apart : (j k : ℕ) → j < length cycle → k < length cycle → (j ≡ k → ⊥) → AreSame (place j) (place k) → ⊥
  apart j k j_in k_in ne same = elim (cases_order j k) [
    | inl e ↦ ne e
    | inr (inl l) ↦ new-at j k l k_in same
    | inr (inr l) ↦ new-at k j l j_in (same-back (place j) (place k) same)
  ]

  vertex-at : (k d : ℕ) → k < length cycle → get_or (vertices_of marks cycle) k d ≡ vertex_of marks (place k)
  vertex-at k d k_in = get_or-map (vertex_of marks) cycle k no_place d k_in

  lengths : length (vertices_of marks cycle) ≡ length cycle
  lengths = length-map cycle (vertex_of marks)

  different : AllPairs (λ u v. u ≢ v) (vertices_of marks cycle)
  different i j d l j_in e =
      let j_is : j < length cycle = omega (arith, j_in, lengths) in
      let i_is : i < length cycle = omega (arith, l, j_is) in
      new-at i j l j_is (same-vertex marks cut (place i) (place j) (named-at i i_is) (named-at j j_is) (sym (vertex-at i d i_is) ∙ (e ∙ vertex-at j d j_is)))

  edge : (k : ℕ) → k < length cycle → after k < length cycle → (k ≡ after k → ⊥) → cut_graph marks spacing cut (vertex_of marks (place k)) (vertex_of marks (place (after k)))
  edge k k_in next_in ne =
      joined-edge marks spacing cut (place k) (place (after k)) (line k) (named-at k k_in) (apart k (after k) k_in next_in ne) (joined-at k k_in)

  pub odd-cycle : IsCycleLength (length cycle) → IsOddCycle (cut_graph marks spacing cut) (vertices_of marks cycle)
  odd-cycle long =
      let (half, is) = long.odd in
      let three = long.long in
      record {
        three = omega (arith, three, lengths);
        odd = subst (λ n. n % 2 ≡ 1) (sym lengths) (omega (arith, is));
        different = different;
        around = λ k k_in.
            (let k_is : k < length cycle = omega (arith, k_in, lengths) in
            let next_in : after k < length cycle = omega (arith, three) in
            let ne : k ≡ after k → ⊥ = after-other (length cycle) k (omega (arith, three)) k_is in
            let same : get_or (vertices_of marks cycle) ((k + 1) % length (vertices_of marks cycle)) 0 ≡ vertex_of marks (place (after k)) =
            subst (λ n. get_or (vertices_of marks cycle) ((k + 1) % n) 0 ≡ vertex_of marks (place (after k))) (sym lengths) (vertex-at (after k) 0 next_in) in
            subst (λ u. cut_graph marks spacing cut u (get_or (vertices_of marks cycle) ((k + 1) % length (vertices_of marks cycle)) 0)) (sym (vertex-at k 0 k_is))
            (subst (λ v. cut_graph marks spacing cut (vertex_of marks (place k)) v) (sym same) (edge k k_is next_in ne)));
      }

  -- the piece's least square is the place's
  pub all-keyed : (layer : Region) (overlap : ℕ) → IsCut marks spacing overlap layer cut → All (IsKeyed marks cut.pieces) cycle
  all-keyed layer overlap is k d k_in =
      subst (λ (p : PlaceLine). IsKeyed marks cut.pieces p) (get_or_default cycle k no_place d k_in)
      (named-keyed marks spacing overlap layer cut is (place k) (named-at k k_in))

  pub all-shown : (k : ℕ) (d : NearLine) → k < length cycle → AreJoined marks spacing cut (place k) (place (after k)) (get_or near k d)
  all-shown k d k_in =
      subst (λ (l : NearLine). AreJoined marks spacing cut (place k) (place (after k)) l) (get_or_default near k no_line d (omega (arith, each, k_in)))
      (joined-at k k_in)

-- what is counted of a layer is what any cut of it has
count-of : (marks : Option Marks) (spacing : Spacing) (overlap : ℕ) (layer : List Rect) (head : Head) (cut : Cut) → IsCut marks spacing overlap (Covers layer)
    cut → (CountsDiffer marks spacing overlap layer head → ⊥)
    → (head.features ≡ length cut.features) × (head.pieces ≡ length cut.pieces) × (head.zones ≡ length cut.zones)
count-of marks spacing overlap layer head cut is none = (
  equal-where head.features (length cut.features)
      (λ ne. none (λ (c, c_is, f, p, z). ne (f ∙ ap (λ (x : Cut). length x.features) (one-cut marks spacing overlap (Covers layer) c cut c_is is)))),
  equal-where head.pieces (length cut.pieces) (λ ne. none (λ (c, c_is, f, p, z). ne (p ∙ ap (λ (x : Cut). length x.pieces) (one-cut marks spacing overlap (Covers layer) c cut c_is is)))),
  equal-where head.zones (length cut.zones) (λ ne. none (λ (c, c_is, f, p, z). ne (z ∙ ap (λ (x : Cut). length x.zones) (one-cut marks spacing overlap (Covers layer) c cut c_is is)))),
)

pub there-is : (marks : Option Marks) (spacing : Spacing) (overlap : ℕ) (c : Claim) → IsCycleLength (length c.cycle) → length c.near ≡ length c.cycle → VerdictOfClaim marks spacing overlap c Valid
    → IsCycleOf marks spacing overlap c.layer c.head c.cycle c.near
there-is marks spacing overlap c long each valid =
    let one = unbroken (RulesDiffer spacing overlap c.head) (ShowsRules c.head None) (VerdictFromCounts marks spacing overlap c) Valid (λ e. cc) valid in
    let two = unbroken (CountsDiffer marks spacing overlap c.layer c.head) (ShowsCounts marks spacing overlap c.layer)
    (VerdictFromCycle marks spacing overlap c) Valid (λ (f, p, z, are, e). cc) one.1 in
    let (cut, is, found) = two.1 in
    let good = unbroken (HasBad (IsBadPlace marks spacing cut c.cycle c.near) c.cycle) (ShowsCycle marks spacing cut c) IsValid Valid (λ (k, bad, e). cc) found in
    record {
      cut = cut;
      is_cut = is;
      rules = (
        equal-where c.head.rule spacing.rule (λ ne. one.0 (inl ne)),
        equal-where c.head.overlap overlap (λ ne. one.0 (inr (inl ne))),
        equal-where
            c.head.corner spacing.corner (λ ne. one.0 (inr (inr ne))),
      );
      counted = count-of marks spacing overlap c.layer c.head cut is two.0;
      odd = odd-cycle marks spacing cut c.cycle c.near each good.0 long;
      keyed = all-keyed marks spacing cut c.cycle c.near each good.0 (Covers c.layer) overlap is;
      shown = all-shown marks spacing cut c.cycle c.near each good.0;
    }
