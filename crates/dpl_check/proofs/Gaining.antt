-- Lines of gains, one after another.
use Rattle.std.proofs.Common.{◌≡◌, ℕ, ◌+◌, ◌<◌, ◌≤◌, inl, inr, List, length, get_or, Some, sym, ◌∙◌, subst, arith}
use Rattle.std.specs.Prelude.{slice_get}
use Rattle.std.proofs.lemmas.Bool.{cases_eq, cases_lt}
use Rattle.std.proofs.lemmas.Option.{none-some, slice_get-get_or, slice_get_past}
use Rattle.dpl_cert.specs.declared.cert.Gain.{Gain}
use Rattle.dpl_spec_verdict.specs.Gains.{IsBadGain, HasBadGain}

-- none of the first n is bad
abbrev pub NoneBad : List Gain → List Gain → ℕ → Type 0
NoneBad found lines n = (j : ℕ) → j < n → ¬ IsBadGain found lines j

-- the line is the gain at its place, and its component's flip leaves no fewer stitches
abbrev pub IsGoodAt : List Gain → Gain → ℕ → Type 0
IsGoodAt found line k = (slice_get found k ≡ Some line) × (line.d ≤ line.s)

some-same : (g h : Gain) → Some g ≡ Some h → g ≡ h
some-same g h e = cc

module _ (found lines : List Gain) (k : ℕ) (line : Gain) (at : slice_get lines k ≡ Some line) where
  pub good-line : IsGoodAt found line k → ¬ IsBadGain found lines k
  good-line (same, few) (inl other) = other (at ∙ sym same)
  good-line (same, few) (inr (g, is, more)) =
      let e : line ≡ g = some-same line g (sym at ∙ is) in let bad : line.s < line.d = subst (λ (x : Gain). x.s < x.d) (sym e) more in omega (arith, few, bad)

  pub bad-line : ¬ IsGoodAt found line k → IsBadGain found lines k
  bad-line bad = elim (cases_lt line.s line.d) [
    | inl more ↦ inr (line, at, more)
    | inr few ↦ inl (λ e. bad (sym e ∙ at, few))
  ]

pub none-more : (found lines : List Gain) (n : ℕ) → NoneBad found lines n → ¬ IsBadGain found lines n → NoneBad found lines (n + 1)
none-more found lines n before here j l = elim (cases_eq j n) [
  | inl e ↦ subst (λ (m : ℕ). ¬ IsBadGain found lines m) (sym e) here
  | inr ne ↦ before j (omega (arith, l, ne))
]

-- all lines are right, and some are missing
pub bad-past : (found lines : List Gain) (d : Gain) → length lines < length found → IsBadGain found lines (length lines)
bad-past found lines d few = inl (λ e. none-some (get_or found (length lines) d) (sym (slice_get_past lines (length lines) (omega arith)) ∙ (e ∙ slice_get-get_or found (length lines) d few)))

-- all lines are right, and none is missing
pub none-past : (found lines : List Gain) (n : ℕ) → length lines ≤ n → length found ≤ length lines → NoneBad found lines n → ¬ HasBadGain found lines
none-past found lines n all few before (k, bad) = elim (cases_lt k n) [
  | inl l ↦ before k l bad
  | inr past ↦ elim bad [
    | inl other ↦ other (slice_get_past lines k (omega (arith, all, past)) ∙ sym (slice_get_past found k (omega (arith, all, few, past))))
    | inr (g, is, more) ↦ none-some g (sym (slice_get_past lines k (omega (arith, all, past))) ∙ is)
  ]
]
