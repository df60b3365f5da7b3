-- Where nothing is marked.
use Rattle.std.proofs.Common.{◌≡◌, inl, inr, List, [], length, ap, arith}
use Rattle.std.specs.Prelude.{None}
use Rattle.dpl_spec_split.specs.declared.Pt.{Pt}
use Rattle.dpl_spec_split.specs.declared.Rect.{Rect}
use Rattle.dpl_spec_split.specs.Squares.{Covers, SameSquares}
use Rattle.dpl_spec_split.specs.Marks.{AreMarks, marked_by}

nowhere : (set : List Rect) (p : Pt) → set ≡ [] → Covers set p → ⊥
nowhere set p none (k, r, k_in, is, has) = let no : length set ≡ 0 = ap length none in omega (arith, no, k_in)

-- no squares are those that no marks fix
pub none-marked : (set : List Rect) → set ≡ [] → SameSquares (Covers set) (marked_by None)
none-marked set none p = (λ h. absurd (nowhere set p none h), λ h. absurd (elim h [ inl a ↦ a | inr b ↦ b ]))

pub none-fixed : (a b : List Rect) → a ≡ [] → b ≡ [] → AreMarks a b None
none-fixed a b no_a no_b = record { on_a = λ p. (λ h. absurd (nowhere a p no_a h), λ h. absurd h); on_b = λ p. (λ h. absurd (nowhere b p no_b h), λ h. absurd h) }
