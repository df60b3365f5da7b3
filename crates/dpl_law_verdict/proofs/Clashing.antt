-- A reported cycle with near squares is a valid conflict.
use Rattle.std.proofs.Common.{◌≡◌, ℕ, ◌+◌, ◌%◌, ◌<◌, inl, inr, List, length, map, get_or, sym, refl, ap, ◌∙◌, subst, arith}
use Rattle.std.specs.Prelude.{None, pos}
use Rattle.std.proofs.lemmas.List.{get_or_default, get_or-map, length-map}
use Rattle.std.proofs.lemmas.Slice.Zip.{AllZip-long}
use Rattle.dpl_spec_split.specs.declared.Spacing.{Spacing}
use Rattle.dpl_spec_split.specs.declared.Pt.{Pt}
use Rattle.dpl_spec_split.specs.declared.Rect.{Rect}
use Rattle.dpl_spec_split.specs.Squares.{Covers, IsLeast}
use Rattle.dpl_spec_split.specs.Zones.{at, part_at}
use Rattle.dpl_spec_split.specs.Graphs.{IsOddCycle}
use Rattle.dpl_spec_split.specs.Cycle.{IsReported}
use Rattle.dpl_spec_split.specs.Decomposition.{Cut, IsCut, conflicts}
use Rattle.dpl_spec_split.proofs.SquareLaws.{AreNear-sym}
use Rattle.dpl_stars.proofs.Walks.{IsUndirected}
use Rattle.dpl_stars.proofs.Forks.{reported-odd}
use Rattle.dpl_nearest.specs.Nearest.{IsNearestPair}
use Rattle.dpl_cert.specs.declared.cert.PlaceLine.{PlaceLine}
use Rattle.dpl_cert.specs.declared.cert.PlaceLine.TheVariants.{Piece}
use Rattle.dpl_cert.specs.declared.cert.NearLine.{NearLine}
use Rattle.dpl_cert.specs.declared.cert.NearLine.TheVariants.{Pair, Mark, Anchors}
use Rattle.dpl_spec_verdict.specs.declared.Verdict.TheVariants.{Valid}
use Rattle.dpl_spec_verdict.specs.Order.{HasBad}
use Rattle.dpl_spec_verdict.specs.Conflicts.{place_at, AreJoined, AreSame, IsGoodPlace, IsBadPlace, VerdictOfClaim}
use Rattle.dpl_law_verdict.specs.Own.{place_line, ShowsPair}

pub conflicts-undirected : (spacing : Spacing) (c : Cut) → IsUndirected (conflicts spacing c)
conflicts-undirected spacing c = record {
  both = λ u v h. record { first = h.second; second = h.first; apart = λ e. h.apart (sym e); near = AreNear-sym spacing _ _ h.near };
  different = λ u v h e. h.apart (ap (λ k. get_or c.owners k 0) e);
}

module _ (spacing : Spacing) (overlap : ℕ) (layer : List Rect) (c : Cut) (cycle : List ℕ) (near : List NearLine)
    (cut : IsCut None spacing overlap (Covers layer) c) (reported : IsReported (conflicts spacing c) cycle)
    (pairs : (k : ℕ) (d : NearLine) → k < length cycle → ShowsPair (IsNearestPair spacing (part_at c.pieces (get_or cycle k 0))
    (part_at c.pieces (get_or cycle ((k + 1) % length cycle) 0))) (get_or near k d)) where
  abbrev places : List PlaceLine
  places = map (place_line c.keys) cycle

  many-places : length places ≡ length cycle
  many-places = length-map cycle (place_line c.keys)

  odd-cycle : IsOddCycle (conflicts spacing c) cycle
  odd-cycle = reported-odd (conflicts spacing c) (conflicts-undirected spacing c) cycle reported

  joined : (i j : ℕ) (a b : Pt) (line : NearLine) → ShowsPair (IsNearestPair spacing (part_at c.pieces i) (part_at c.pieces j)) line
      → (get_or c.owners i 0 ≡ get_or c.owners j 0 → ⊥) → AreJoined None spacing c (Piece i a) (Piece j b) line
  joined i j a b (Pair p q) pair apart = record { from = pair.are.from; to = pair.are.to; near = pair.are.close; apart = apart }
  joined i j a b (Mark p) pair apart = absurd pair
  joined i j a b Anchors pair apart = absurd pair

  good-line : (k : ℕ) (d : NearLine) → k < length cycle → IsGoodPlace None spacing c places (place_line c.keys (get_or cycle k 0))
      (place_line c.keys (get_or cycle ((k + 1) % length cycle) 0)) k (get_or near k d)
  good-line k d k_in =
      let conflict = odd-cycle.around k k_in in
      let many-keys : length c.keys ≡ length c.pieces = AllZip-long (λ piece key. IsLeast (Covers piece) key) c.pieces c.keys cut.pieces.keyed in
      let known : get_or cycle k 0 < length c.pieces = conflict.first in
      record {
        new = λ j l e. odd-cycle.different j k 0 l k_in (subst (λ (x : PlaceLine). AreSame x (place_line c.keys (get_or cycle k 0)))
            (get_or-map (place_line c.keys) cycle j 0 (Piece 0 (at (pos 0) (pos 0))) (omega (arith, l, k_in))) e);
        named = (
          known,
          get_or_default c.keys (get_or cycle k 0) (at (pos 0) (pos 0)) (get_or c.keys (get_or cycle k 0) (at (pos 0) (pos 0)))
              (subst (λ n. get_or cycle k 0 < n) (sym many-keys) known),
        );
        joined = joined (get_or cycle k 0) (get_or cycle ((k + 1) % length cycle) 0) (get_or c.keys (get_or cycle k 0) (at (pos 0) (pos 0)))
            (get_or c.keys (get_or cycle ((k + 1) % length cycle) 0) (at (pos 0) (pos 0))) (get_or near k d) (pairs k d k_in) conflict.apart;
      }

  none-bad-place : HasBad (IsBadPlace None spacing c places near) places → ⊥
  none-bad-place (k, k_in, bad) =
      let within : k < length cycle = subst (λ n. k < n) many-places k_in in
      let line : NearLine = Pair (at (pos 0) (pos 0)) (at (pos 0) (pos 0)) in
      let place : PlaceLine = place_line c.keys (get_or cycle k 0) in
      let next_in : (k + 1) % length cycle < length cycle = omega (arith, within) in
      let next : place_at places ((k + 1) % length places) ≡ place_line c.keys (get_or cycle ((k + 1) % length cycle) 0) = ap
      (λ n. place_at places ((k + 1) % n)) many-places
      ∙ get_or-map (place_line c.keys) cycle ((k + 1) % length cycle) 0 (Piece 0 (at (pos 0) (pos 0))) next_in in
      bad place line
      (subst (λ (x : PlaceLine). IsGoodPlace None spacing c places x (place_at places ((k + 1) % length places)) k (get_or near k line))
      (sym (get_or-map (place_line c.keys) cycle k 0 place within))
      (subst (λ (n : PlaceLine). IsGoodPlace None spacing c places place n k (get_or near k line)) (sym next) (good-line k line within)))

  pub clash-verdict : VerdictOfClaim None spacing overlap
      (record {
        layer = layer;
        head = record {
          rule = spacing.rule;
          overlap = overlap;
          corner = spacing.corner;
          features = length c.features;
          pieces = length c.pieces;
          zones = length c.zones;
        };
        cycle = places;
        near = near;
      }) Valid
  clash-verdict = inr (
    (λ differs. elim differs [ inl ne ↦ ne refl | inr (inl ne) ↦ ne refl | inr (inr ne) ↦ ne refl ]),
    inr ((λ differs. differs (c, cut, refl, refl, refl)), (c, cut, inr (none-bad-place, refl))),
  )
