-- One more rectangle, and tests of columns.
use Rattle.std.proofs.Common.{◌≡◌, ℕ, suc, ◌+◌, ◌<◌, inl, inr, List, [], ◌∷◌, ◌++◌, ◌⊎◌, length, get_or, take, sym, ap, ◌∙◌, subst, true, false, arith}
use Rattle.std.specs.Prelude.{◌↔◌, ℤ, pos, ◌<ℤ◌}
use lib.Signed.{lt_z, le_z, lt_z_yes}
use Rattle.std.proofs.lemmas.Float.{T_from_true}
use Rattle.std.proofs.lemmas.Int.{ints}
use Rattle.std.proofs.lemmas.List.Elements.{Contains-append_left, Contains-push, Contains-push_cases}
use Rattle.std.proofs.Math.Seq.{take-suc}
use Rattle.dpl_spec_split.specs.declared.Pt.{Pt}
use Rattle.dpl_spec_split.specs.declared.Rect.{Rect}
use Rattle.dpl_spec_split.specs.Squares.{Has, Covers}
use Rattle.dpl_spec_split.proofs.SlabLaws.{Covers-member, member-Covers}

-- stands for a rectangle past the end of a list
abbrev pub zero : Rect
zero = record { x0 = pos 0; y0 = pos 0; x1 = pos 0; y1 = pos 0 }

-- what a test of two numbers says, the second by another name
pub lt-from : (a b c : ℤ) → b ≡ c → lt_z a b ≡ true → a <ℤ c
lt-from a b c e h = subst (λ z. a <ℤ z) e (lt_z_yes {a = a} {b = b} (T_from_true (lt_z a b) h))

pub le-false : (a b : ℤ) → le_z a b ≡ false → b <ℤ a
le-false a b h = grind (arith, ints)

-- the squares of rectangles with one more
pub covers-pushed : (rs : List Rect) (r : Rect) (p : Pt) → Covers (rs ++ r ∷ []) p ↔ (Covers rs p ⊎ Has r p)
covers-pushed rs r p = (
  (λ h. let found = member-Covers (rs ++ r ∷ []) p h in
      elim (Contains-push_cases rs r found.0 found.1) [
        | inl one ↦ inl (Covers-member rs found.0 p one found.2)
        | inr other ↦ inr (subst (λ t. Has t p) (sym other) found.2)
      ]),
  λ h. elim h [
    | inl one ↦ (let found = member-Covers rs p one in Covers-member (rs ++ r ∷ []) found.0 p (Contains-append_left rs (r ∷ []) found.0 found.1) found.2)
    | inr other ↦ Covers-member (rs ++ r ∷ []) r p (Contains-push rs r) other
  ],
)

-- the first n of the rectangles, and the next
pub covers-step : (rs : List Rect) (n : ℕ) (r : Rect) (p : Pt) → n < length rs → r ≡ get_or rs n r → Covers (take (n + 1) rs) p ↔ (Covers (take n rs) p ⊎ Has r p)
covers-step rs n r p n_in r_is =
    let one : n + 1 ≡ suc n = omega arith in
    let step : take (n + 1) rs ≡ take n rs ++ r ∷ [] = ap (λ k. take k rs) one ∙ (take-suc rs n r n_in ∙ ap (λ s. take n rs ++ s ∷ []) (sym r_is)) in
    rw step (covers-pushed (take n rs) r p)
