-- Distances, roots and edge lists are unique.
use Rattle.std.proofs.Common.{◌≡◌, ℕ, ◌+◌, inl, inr, List, subst, arith}
use Rattle.dpl_spec_split.specs.Graphs.{Graph, Walk, stay, step, IsDistance, IsRoot, Precedes, AreEdges}
use Rattle.dpl_spec_split.proofs.Ordered.{same_members}

pub distance-unique : (joined : Graph) (u v m n : ℕ) → IsDistance joined u v m → IsDistance joined u v n → m ≡ n
distance-unique joined u v m n a b = let l = a.least n b.walk in let k = b.least m a.walk in omega arith

pub root-unique : (joined : Graph) (v r s : ℕ) → IsRoot joined v r → IsRoot joined v s → r ≡ s
root-unique joined v r s a b = let l = a.least s b.reached in let k = b.least r a.reached in omega arith

walk_as : (joined : Graph) (u v : ℕ) {m : ℕ} (n : ℕ) → Walk joined u v m → m ≡ n → Walk joined u v n
walk_as joined u v n w e = subst (λ k. Walk joined u v k) e w

pub Walk-trans : (joined : Graph) {u v w m n : ℕ} → Walk joined u v m → Walk joined v w n → Walk joined u w (m + n)
Walk-trans joined stay b = walk_as joined _ _ _ b (omega arith)
Walk-trans joined (step e a) b = walk_as joined _ _ _ (step e (Walk-trans joined a b)) (omega arith)

pub edge-strict : (e f : ℕ × ℕ) → Precedes e f → Precedes f e → ⊥
edge-strict e f (inl l) (inl m) = omega arith
edge-strict e f (inl l) (inr m) = omega arith
edge-strict e f (inr l) (inl m) = omega arith
edge-strict e f (inr l) (inr m) = omega arith

pub edges-unique : (joined : Graph) (es fs : List (ℕ × ℕ)) → AreEdges joined es → AreEdges joined fs → es ≡ fs
edges-unique joined es fs a b = same_members Precedes edge-strict es fs a.ordered b.ordered (λ e.
    (λ h. (b.exactly e.0 e.1).1 ((a.exactly e.0 e.1).0 h), λ h. (a.exactly e.0 e.1).1 ((b.exactly e.0 e.1).0 h)))
