-- Parents, one after the other.
use Rattle.std.proofs.Common.{◌≡◌, ℕ, ◌+◌, ◌<◌, inl, inr, List, [], ◌∷◌, ◌++◌, length, sym, subst, arith}
use Rattle.std.proofs.lemmas.Bool.{cases_eq}
use Rattle.std.proofs.lemmas.List.{get_or_append_left, get_or_push, length_push}
use Rattle.dpl_wide.specs.Touching.{AreParents, IsParent}

pub parents-more : (edges : List (ℕ × ℕ)) (n : ℕ) (parents : List ℕ) (p : ℕ) → AreParents edges n parents → IsParent edges n p → AreParents edges (n + 1) (parents ++ p ∷ [])
parents-more edges n parents p before is =
    let each : length parents ≡ n = before.each in
    record {
      each = omega (arith, each, length_push parents p);
      parent = λ k l. elim (cases_eq k n) [
        | inl same ↦ rw (get_or_push parents p 0 k (omega (arith, each, same))) (subst (λ m. IsParent edges m p) (sym same) is)
        | inr ne ↦ (let k_in : k < n = omega (arith, l, ne) in rw (get_or_append_left parents (p ∷ []) 0 k (omega (arith, each, k_in))) (before.parent k k_in))
      ];
    }
