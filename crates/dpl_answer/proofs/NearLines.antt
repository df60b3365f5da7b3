-- Lines of the nearest pairs of a cycle.
use Rattle.std.proofs.Common.{◌≡◌, ◌<◌, ◌+◌, ◌%◌, ℕ, List, [], ◌∷◌, ◌++◌, length, get_or, inl, inr, sym, ap, ◌∙◌, subst, arith}
use Rattle.std.proofs.Math.ListN.{get_or-append}
use Rattle.std.proofs.Math.Seq.{get_or-append_seam}
use Rattle.std.proofs.lemmas.Int.{ints}
use Rattle.std.proofs.lemmas.Bool.{cases_eq}
use Rattle.dpl_spec_split.specs.declared.Spacing.{Spacing}
use Rattle.dpl_spec_split.specs.declared.Pt.{Pt}
use Rattle.dpl_spec_split.specs.declared.Rect.{Rect}
use Rattle.dpl_spec_split.specs.Squares.{Covers}
use Rattle.dpl_spec_split.specs.Zones.{part_at}
use Rattle.dpl_spec_split.specs.Loops.{AreRectsWithin, IsRectWithin, farthest}
use Rattle.dpl_cert.specs.declared.cert.NearLine.{NearLine}
use Rattle.dpl_cert.specs.Grammar.{IsPoint}
use Rattle.dpl_nearest.specs.Nearest.{IsNearestPair}
use Rattle.dpl_law_verdict.specs.Own.{ShowsPair}

-- the lines of the first n pieces of the cycle
abbrev pub AreNearestFirst : Spacing → List (List Rect) → List ℕ → ℕ → List NearLine → Type 0
AreNearestFirst spacing pieces cycle n lines = (j : ℕ) (d : NearLine) → j < n → ShowsPair (IsNearestPair spacing (part_at pieces (get_or cycle j 0))
    (part_at pieces (get_or cycle ((j + 1) % length cycle) 0))) (get_or lines j d)

-- one line more
pub nearest_more : (spacing : Spacing) (pieces : List (List Rect)) (cycle : List ℕ) (n : ℕ) (old new : List NearLine) (line : NearLine) → length old ≡ n → new ≡ old ++ (line ∷ [])
    → AreNearestFirst spacing pieces cycle n old
    → ShowsPair (IsNearestPair spacing (part_at pieces (get_or cycle n 0)) (part_at pieces (get_or cycle ((n + 1) % length cycle) 0))) line
    → AreNearestFirst spacing pieces cycle (n + 1) new
nearest_more spacing pieces cycle n old new line len put before here j d l = elim (cases_eq j n) [
  | inl e ↦
      let there : get_or new j d ≡ line = ap (λ xs. get_or xs j d) put ∙ (ap (λ m. get_or (old ++ (line ∷ [])) m d) (e ∙ sym len) ∙ get_or-append_seam old line [] d) in
      subst (λ (u : NearLine). ShowsPair (IsNearestPair spacing (part_at pieces (get_or cycle j 0)) (part_at pieces (get_or cycle ((j + 1) % length cycle) 0))) u) (sym there)
      (subst (λ m. ShowsPair (IsNearestPair spacing (part_at pieces (get_or cycle m 0)) (part_at pieces (get_or cycle ((m + 1) % length cycle) 0))) line) (sym e) here)
  | inr ne ↦
      let less : j < n = omega (arith, l, ne) in
      let same : get_or new j d ≡ get_or old j d = ap (λ xs. get_or xs j d) put ∙ get_or-append old (line ∷ []) d j (omega (arith, less, len)) in
      subst (λ (u : NearLine). ShowsPair (IsNearestPair spacing (part_at pieces (get_or cycle j 0))
      (part_at pieces (get_or cycle ((j + 1) % length cycle) 0))) u) (sym same) (before j d less)
]

-- a square of rectangles within the range of a layer
pub point_fits : (rs : List Rect) (p : Pt) → AreRectsWithin farthest rs → Covers rs p → IsPoint p
point_fits rs p within (k, r, k_in, k_is, h) =
    let w : IsRectWithin farthest r = within r (k, k_in, k_is) in
    record { x = (omega (arith, ints), omega (arith, ints)); y = (omega (arith, ints), omega (arith, ints)) }
