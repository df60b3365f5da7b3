-- Near squares: fewer columns and rows are too few too, and the corner rule is within the rule.
use Rattle.std.proofs.Common.{◌≡◌, ℕ, zero, suc, ◌+◌, ◌*◌, ◌<◌, ◌≤◌, ◌⊎◌, inl, inr, ◌↔◌, refl, sym, arith}
use Rattle.std.proofs.lemmas.Bool.{cases_lt}
use Rattle.dpl_spec_split.specs.declared.Pt.{Pt}
use Rattle.dpl_spec_split.specs.declared.Spacing.{Spacing}
use Rattle.dpl_spec_split.specs.Squares.{gap, uniform, TooFew, in_line, at_corner, Near}

squares-below : (m n : ℕ) → m ≤ n → m * m ≤ n * n
squares-below m n h = grind arith

sums-below : (m n k l : ℕ) → m ≤ k → n ≤ l → m * m + n * n ≤ k * k + l * l
sums-below m n k l a b = grind arith

-- none of both, of one or the other, or some of both
axes : (dx dy : ℕ) → ((dx ≡ 0) ⊎ (dy ≡ 0)) ⊎ ((0 < dx) × (0 < dy))
axes zero dy = inl (inl refl)
axes (suc m) zero = inl (inr refl)
axes (suc m) (suc n) = inr (omega arith, omega arith)

not-in_line : (spacing : Spacing) (dx dy : ℕ) → (dx ≡ 0) ⊎ (dy ≡ 0) → spacing.rule * spacing.rule ≤ dx * dx + dy * dy → TooFew spacing dx dy → ⊥
not-in_line spacing dx dy axis far (in_line h close) = omega (arith, far, close)
not-in_line spacing dx dy (inl none) far (at_corner some_x some_y close) = omega (arith, none, some_x)
not-in_line spacing dx dy (inr none) far (at_corner some_x some_y close) = omega (arith, none, some_y)

not-at_corner : (spacing : Spacing) (dx dy : ℕ) → 0 < dx → 0 < dy → spacing.corner * spacing.corner ≤ dx * dx + dy * dy → TooFew spacing dx dy → ⊥
not-at_corner spacing dx dy some_x some_y far (in_line (inl none) close) = omega (arith, none, some_x)
not-at_corner spacing dx dy some_x some_y far (in_line (inr none) close) = omega (arith, none, some_y)
not-at_corner spacing dx dy some_x some_y far (at_corner h k close) = omega (arith, far, close)

-- near squares are closer than the rule
pub few-within : (spacing : Spacing) (dx dy : ℕ) → spacing.corner ≤ spacing.rule → TooFew spacing dx dy → dx * dx + dy * dy < spacing.rule * spacing.rule
few-within spacing dx dy less (in_line axis close) = close
few-within spacing dx dy less (at_corner some_x some_y close) = (let h = squares-below spacing.corner spacing.rule less in omega (arith, h, close))

-- near squares have fewer columns and rows between them than the rule
pub few-below : (spacing : Spacing) (dx dy : ℕ) → spacing.corner ≤ spacing.rule → TooFew spacing dx dy → (dx < spacing.rule) × (dy < spacing.rule)
few-below spacing dx dy less few =
    let close = few-within spacing dx dy less few in (
      elim (cases_lt dx spacing.rule) [ inl l ↦ l | inr m ↦ absurd (let h = squares-below spacing.rule dx m in omega (arith, h, close)) ],
      elim (cases_lt dy spacing.rule) [ inl l ↦ l | inr m ↦ absurd (let h = squares-below spacing.rule dy m in omega (arith, h, close)) ],
    )

-- fewer are too few as well
pub few-less : (spacing : Spacing) (m n k l : ℕ) → spacing.corner ≤ spacing.rule → m ≤ k → n ≤ l → TooFew spacing k l → TooFew spacing m n
few-less spacing m n k l less a b few =
    let close = few-within spacing k l less few in
    let sums = sums-below m n k l a b in
    elim (axes m n) [
      | inl axis ↦ in_line axis (omega (arith, sums, close))
      | inr (some_m, some_n) ↦ elim few [
        | in_line (inl none) h ↦ absurd (omega (arith, none, some_m, a))
        | in_line (inr none) h ↦ absurd (omega (arith, none, some_n, b))
        | at_corner some_k some_l h ↦ at_corner some_m some_n (omega (arith, sums, h))
      ]
    ]

pub few-or_not : (spacing : Spacing) (dx dy : ℕ) → TooFew spacing dx dy ⊎ (TooFew spacing dx dy → ⊥)
few-or_not spacing dx dy = elim (axes dx dy) [
  | inl axis ↦ elim (cases_lt (dx * dx + dy * dy) (spacing.rule * spacing.rule)) [
    | inl close ↦ inl (in_line axis close)
    | inr far ↦ inr (λ few. not-in_line spacing dx dy axis far few)
  ]
  | inr (some_x, some_y) ↦ elim (cases_lt (dx * dx + dy * dy) (spacing.corner * spacing.corner)) [
    | inl close ↦ inl (at_corner some_x some_y close)
    | inr far ↦ inr (λ few. not-at_corner spacing dx dy some_x some_y far few)
  ]
]

pub near-or_far : (spacing : Spacing) (p q : Pt) → Near spacing p q ⊎ (Near spacing p q → ⊥)
near-or_far spacing p q = few-or_not spacing (gap p.x q.x) (gap p.y q.y)

pub few-swapped : (spacing : Spacing) (dx dy : ℕ) → TooFew spacing dx dy → TooFew spacing dy dx
few-swapped spacing dx dy (in_line (inl none) close) = in_line (inr none) (omega (arith, close))
few-swapped spacing dx dy (in_line (inr none) close) = in_line (inl none) (omega (arith, close))
few-swapped spacing dx dy (at_corner some_x some_y close) = at_corner some_y some_x (omega (arith, close))

-- where the corner rule is the rule, near is closer than it
pub few-uniform : (rule dx dy : ℕ) → TooFew (uniform rule) dx dy ↔ (dx * dx + dy * dy < rule * rule)
few-uniform rule dx dy = (
  λ few. few-within (uniform rule) dx dy (omega arith) few,
  λ close. elim (axes dx dy) [
    | inl axis ↦ in_line axis close
    | inr (some_x, some_y) ↦ at_corner some_x some_y close
  ],
)
