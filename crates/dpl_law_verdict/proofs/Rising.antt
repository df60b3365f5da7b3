-- The gains of a cut are within the grammar of certificates.
use Rattle.std.proofs.Common.{ℕ, suc, ◌+◌, ◌<◌, ◌≤◌, ◌^◌, Bool, true, false, not, ◌&&◌, List, [], ◌∷◌, length, get_or, arith}
use Rattle.std.specs.Prelude.{Option, Some, None}
use Rattle.std.specs.List.{AllPairs}
use Rattle.std.proofs.lemmas.List.{get_or_default}
use Rattle.std.proofs.lemmas.List.Sums.{count_by-le-length}
use Rattle.dpl_spec_split.specs.declared.Spacing.{Spacing}
use Rattle.dpl_spec_split.specs.Colours.{colour_at, differ}
use Rattle.dpl_spec_split.specs.Decomposition.{Cut}
use Rattle.dpl_spec_split.specs.Marks.{Marks}
use Rattle.dpl_spec_fewer.specs.Fewer.{leaves, zones_out}
use Rattle.dpl_cert.specs.declared.cert.Gain.{Gain}
use Rattle.dpl_cert.specs.Grammar.{AreGains, AreRising, IsGain}
use Rattle.dpl_spec_verdict.specs.Gains.{IsGainOf}
use Rattle.dpl_law_verdict.specs.Own.{AreGainsBy}

-- ordered gains rise
rising : (least : ℕ) (gains : List Gain) → AllPairs (λ (g h : Gain). g.piece < h.piece) gains
    → ((k : ℕ) (d : Gain) → k < length gains → IsGain (get_or gains k d) × (least ≤ (get_or gains k d).piece)) → AreRising least gains
rising least [] ordered each = tt
rising least (g ∷ gains) ordered each = (
  (each 0 g (omega arith)).0,
  (each 0 g (omega arith)).1,
  rising (g.piece + 1) gains (λ i j d l j_in. ordered (suc i) (suc j) d (omega (arith, l)) (omega (arith, j_in)))
      (λ k d l. ((each (suc k) d (omega (arith, l))).0, (let less = ordered 0 (suc k) d (omega arith) (omega (arith, l)) in omega (arith, less)))),
)

-- and so there are no more of them than numbers that their pieces are below
few-rising : (least n : ℕ) (gains : List Gain) → AreRising least gains → least ≤ n → ((k : ℕ) (d : Gain) → k < length gains → (get_or gains k d).piece < n)
    → length gains + least ≤ n
few-rising least n [] rises low below = omega (arith, low)
few-rising least n (g ∷ gains) (fits, at_least, rest) low below =
    let here = below 0 g (omega arith) in
    let more = few-rising (g.piece + 1) n gains rest (omega (arith, here)) (λ k d l. below (suc k) d (omega (arith, l))) in
    omega (arith, more, at_least)

-- zones that are counted are zones
few-zones-out : (roots : List ℕ) (colours : List Bool) (root : ℕ) (wanted : Bool) (sides : List (ℕ × ℕ)) → zones_out roots colours root wanted sides ≤ length sides
few-zones-out roots colours root wanted sides =
    count_by-le-length (λ (side : ℕ × ℕ). leaves roots root side && not (differ wanted (differ (colour_at colours side.0) (colour_at colours side.1)))) sides

pub gains-fit : (fewer : Bool) (marks : Option Marks) (spacing : Spacing) (c : Cut) (colours : List Bool) (gains : Option (List Gain)) → length c.pieces < 2 ^ 64
    → length c.sides < 2 ^ 64 → AreGainsBy fewer marks spacing c colours gains → AreGains gains
gains-fit false marks spacing c colours None few_pieces few_sides are = tt
gains-fit false marks spacing c colours (Some gains) few_pieces few_sides are = absurd are
gains-fit true marks spacing c colours None few_pieces few_sides are = absurd are
gains-fit true marks spacing c colours (Some gains) few_pieces few_sides are =
    let of : (k : ℕ) (d : Gain) → k < length gains → IsGainOf marks c.pieces c.sides are.roots colours (get_or gains k d) =
    λ k d l. (are.exactly (get_or gains k d)).0 (k, l, get_or_default gains k (get_or gains k d) d l) in
    let rises : AreRising 0 gains = rising 0 gains are.ordered (λ k d l. (let is = of k d l in
    let within = is.within in
    let d_is = is.d in
    let s_is = is.s in
    let most_d = few-zones-out are.roots colours (get_or gains k d).piece true c.sides in
    let most_s = few-zones-out are.roots colours (get_or gains k d).piece false c.sides in (
      record { piece = omega (arith, within, few_pieces); d = omega (arith, d_is, most_d, few_sides); s = omega (arith, s_is, most_s, few_sides) },
      omega arith,
    ))) in
    let most = few-rising 0 (length c.pieces) gains rises (omega arith) (λ k d l. (of k d l).within) in
    (omega (arith, most, few_pieces), rises)
