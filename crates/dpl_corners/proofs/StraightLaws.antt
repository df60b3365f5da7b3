-- Every edge of a bar's loop is parallel to an axis.
use Rattle.std.proofs.Common.{◌≡◌, ℕ, zero, suc, ◌+◌, ◌≤◌, inl, inr, Bool, true, false, cond, List, [], ◌∷◌, get_or, refl, subst, arith}
use Rattle.dpl_spec_split.specs.declared.Pt.{Pt}
use Rattle.dpl_spec_split.specs.Loops.{IsLevelOrUpright, IsRectilinear}
use Rattle.dpl_corners.specs.declared.bar.Bar.{Bar}
use Rattle.dpl_corners.specs.Corners.{over, loop_round}

-- the loop that has these opposite corners
abbrev loop_by : Pt → Pt → Bool → Bool → List Pt
loop_by p r upright closed = p ∷ (cond upright (over p r) (over r p) ∷ (r ∷ (cond upright (over r p) (over p r) ∷ cond closed (p ∷ []) [])))

straight_by : (p r : Pt) (upright closed : Bool) → IsRectilinear (loop_by p r upright closed)
straight_by p r true true = record { between = sides; closing = λ d. inl refl }
  where
    sides : (k : ℕ) (d : Pt) → suc k ≤ 4 → IsLevelOrUpright (get_or (loop_by p r true true) k d) (get_or (loop_by p r true true) (k + 1) d)
    sides zero d within = inl refl
    sides (suc zero) d within = inr refl
    sides (suc (suc zero)) d within = inl refl
    sides (suc (suc (suc zero))) d within = inr refl
    sides (suc (suc (suc (suc k)))) d within = absurd (omega (arith, within))
straight_by p r true false = record { between = sides; closing = λ d. inr refl }
  where
    sides : (k : ℕ) (d : Pt) → suc k ≤ 3 → IsLevelOrUpright (get_or (loop_by p r true false) k d) (get_or (loop_by p r true false) (k + 1) d)
    sides zero d within = inl refl
    sides (suc zero) d within = inr refl
    sides (suc (suc zero)) d within = inl refl
    sides (suc (suc (suc k))) d within = absurd (omega (arith, within))
straight_by p r false true = record { between = sides; closing = λ d. inl refl }
  where
    sides : (k : ℕ) (d : Pt) → suc k ≤ 4 → IsLevelOrUpright (get_or (loop_by p r false true) k d) (get_or (loop_by p r false true) (k + 1) d)
    sides zero d within = inr refl
    sides (suc zero) d within = inl refl
    sides (suc (suc zero)) d within = inr refl
    sides (suc (suc (suc zero))) d within = inl refl
    sides (suc (suc (suc (suc k)))) d within = absurd (omega (arith, within))
straight_by p r false false = record { between = sides; closing = λ d. inl refl }
  where
    sides : (k : ℕ) (d : Pt) → suc k ≤ 3 → IsLevelOrUpright (get_or (loop_by p r false false) k d) (get_or (loop_by p r false false) (k + 1) d)
    sides zero d within = inr refl
    sides (suc zero) d within = inl refl
    sides (suc (suc zero)) d within = inr refl
    sides (suc (suc (suc k))) d within = absurd (omega (arith, within))

pub bar_straight : (b : Bar) (ps : List Pt) → loop_round b ≡ ps → IsRectilinear ps
bar_straight b ps is = subst IsRectilinear is (straight_by b.corner b.opposite b.upright b.closed)
