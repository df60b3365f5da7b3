-- Letters and counts after a flip.
use Rattle.std.proofs.Common.{◌≡◌, ℕ, zero, suc, ◌+◌, ◌<◌, Bool, true, false, not, ◌&&◌, eqb, cond, List, [], ◌∷◌, length, get_or, refl, ap, arith}
use Rattle.std.specs.List.{All}
use Rattle.std.proofs.lemmas.List.Elements.{All-head, All-tail}
use Rattle.std.proofs.lemmas.List.Sums.{sum_by-cons}
use Rattle.dpl_spec_split.specs.Colours.{differ, colour_at}
use Rattle.dpl_spec_fewer.specs.Fewer.{stitch_count, flipped, leaves, zones_out}

pub length-flipped : (roots : List ℕ) (root : ℕ) (colours : List Bool) → length colours ≡ length roots → length (flipped roots root colours) ≡ length colours
length-flipped [] root [] same = refl
length-flipped [] root (c ∷ colours) same = absurd (let e : suc (length colours) ≡ 0 = same in omega (arith, e))
length-flipped (r ∷ roots) root [] same = refl
length-flipped (r ∷ roots) root (c ∷ colours) same = ap suc (length-flipped roots root colours (let e : suc (length colours) ≡ suc
    (length roots) = same in omega (arith, e)))

pub colour-flipped : (roots : List ℕ) (root : ℕ) (colours : List Bool) (v : ℕ) → length colours ≡ length roots → v < length roots
    → colour_at (flipped roots root colours) v ≡ differ (eqb (get_or roots v 0) root) (colour_at colours v)
colour-flipped [] root colours v same l = absurd (omega (arith, l))
colour-flipped (r ∷ roots) root [] v same l = absurd (let e : 0 ≡ suc (length roots) = same in omega (arith, e))
colour-flipped (r ∷ roots) root (c ∷ colours) zero same l = refl
colour-flipped (r ∷ roots) root (c ∷ colours) (suc v) same l =
    colour-flipped roots root colours v (let e : suc (length colours) ≡ suc (length roots) = same in omega (arith, e)) (let m : suc v < suc
    (length roots) = l in omega (arith, m))

-- what counts for one
abbrev pub unit : Bool → ℕ
unit b = cond b 1 0

-- a zone with letters x and y, whose sides are in the component where a and b say so
side-counts : (a b x y : Bool) → unit (differ (differ a x) (differ b y)) + unit (differ a b && not (differ true (differ x y)))
    ≡ unit (differ x y) + unit (differ a b && not (differ false (differ x y)))
side-counts false false false false = refl
side-counts false false false true = refl
side-counts false false true false = refl
side-counts false false true true = refl
side-counts false true false false = refl
side-counts false true false true = refl
side-counts false true true false = refl
side-counts false true true true = refl
side-counts true false false false = refl
side-counts true false false true = refl
side-counts true false true false = refl
side-counts true false true true = refl
side-counts true true false false = refl
side-counts true true false true = refl
side-counts true true true false = refl
side-counts true true true true = refl

module _ (roots : List ℕ) (colours : List Bool) (root : ℕ) (same : length colours ≡ length roots) where
  abbrev after : List Bool
  after = flipped roots root colours

  abbrev Within : ℕ × ℕ → Type 0
  Within side = (side.0 < length roots) × (side.1 < length roots)

  one-side : (side : ℕ × ℕ) → Within side → unit (differ (colour_at after side.0) (colour_at after side.1)) + unit (leaves roots root side && not
      (differ true (differ (colour_at colours side.0) (colour_at colours side.1))))
      ≡ unit (differ (colour_at colours side.0) (colour_at colours side.1)) + unit (leaves roots root side && not (differ false (differ
      (colour_at colours side.0) (colour_at colours side.1))))
  one-side side within = rw (colour-flipped roots root colours side.0 same within.0, colour-flipped roots root colours side.1 same within.1)
      (side-counts (eqb (get_or roots side.0 0) root) (eqb (get_or roots side.1 0) root) (colour_at colours side.0) (colour_at colours side.1))

  pub all-sides : (sides : List (ℕ × ℕ)) → All Within sides
      → stitch_count sides after + zones_out roots colours root true sides ≡ stitch_count sides colours + zones_out roots colours root false sides
  all-sides [] below = refl
  all-sides (side ∷ sides) below =
      let here = one-side side (All-head Within side sides below) in
      let rest = all-sides sides (All-tail Within side sides below) in
      let a = sum_by-cons (λ (s : ℕ × ℕ). unit (differ (colour_at after s.0) (colour_at after s.1))) side sides in
      let b = sum_by-cons (λ (s : ℕ × ℕ). unit (leaves roots root s && not (differ true (differ (colour_at colours s.0)
      (colour_at colours s.1))))) side sides in
      let d = sum_by-cons (λ (s : ℕ × ℕ). unit (differ (colour_at colours s.0) (colour_at colours s.1))) side sides in
      let e = sum_by-cons (λ (s : ℕ × ℕ). unit (leaves roots root s && not (differ false (differ (colour_at colours s.0)
      (colour_at colours s.1))))) side sides in
      omega (arith, here, rest, a, b, d, e)
