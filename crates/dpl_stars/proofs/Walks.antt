-- Walks and distances in a graph whose edges go both ways.
use Rattle.std.proofs.Common.{◌≡◌, ◌≢◌, ℕ, suc, ◌+◌, ◌<◌, ◌≤◌, inl, inr, List, refl, subst, arith}
use Rattle.std.proofs.lemmas.List.Elements.{All-contains}
use Rattle.dpl_spec_split.specs.Graphs.{Graph, Walk, stay, step, IsDistance, Reaches, IsRoot, graph_of}
use Rattle.dpl_spec_split.proofs.GraphLaws.{Walk-trans}
use Rattle.dpl_stars.specs.Laws.{AreOrdered}

pub record IsUndirected (joined : Graph) : Type 0 where
  pub both : (u v : ℕ) → joined u v → joined v u
  pub different : (u v : ℕ) → joined u v → u ≢ v

both_ways : (edges : List (ℕ × ℕ)) (u v : ℕ) → graph_of edges u v → graph_of edges v u
both_ways edges u v (inl h) = inr h
both_ways edges u v (inr h) = inl h

ends_differ : (edges : List (ℕ × ℕ)) → AreOrdered edges → (u v : ℕ) → graph_of edges u v → u ≢ v
ends_differ edges o u v (inl h) = let l : u < v = All-contains (λ (e : ℕ × ℕ). e.0 < e.1) edges (u, v) o h in λ e. omega arith
ends_differ edges o u v (inr h) = let l : v < u = All-contains (λ (e : ℕ × ℕ). e.0 < e.1) edges (v, u) o h in λ e. omega arith

pub graph_of-undirected : (edges : List (ℕ × ℕ)) → AreOrdered edges → IsUndirected (graph_of edges)
graph_of-undirected edges o = record { both = both_ways edges; different = ends_differ edges o }

pub walk_to : (joined : Graph) {u v m : ℕ} (n : ℕ) → Walk joined u v m → m ≡ n → Walk joined u v n
walk_to joined {u = u} {v = v} n w e = subst (λ k. Walk joined u v k) e w

pub Walk-snoc : (joined : Graph) {u v w n : ℕ} → Walk joined u v n → joined v w → Walk joined u w (suc n)
Walk-snoc joined stay e = step e stay
Walk-snoc joined (step f a) e = step f (Walk-snoc joined a e)

pub Walk-reverse : (joined : Graph) → IsUndirected joined → {u v n : ℕ} → Walk joined u v n → Walk joined v u n
Walk-reverse joined un stay = stay
Walk-reverse joined un (step e a) = Walk-snoc joined (Walk-reverse joined un a) (un.both _ _ e)

pub Walk-first : (joined : Graph) {u v m : ℕ} (n : ℕ) → Walk joined u v m → m ≡ suc n → (w : ℕ) × joined u w × Walk joined w v n
Walk-first joined n stay e = absurd (omega (arith, e))
Walk-first joined n (step {v = w} f a) e = (w, f, walk_to joined n a (omega (arith, e)))

pub Walk-nowhere : (joined : Graph) {u v m : ℕ} → Walk joined u v m → m ≡ 0 → u ≡ v
Walk-nowhere joined stay e = refl
Walk-nowhere joined (step f a) e = absurd (omega (arith, e))

pub Reaches-sym : (joined : Graph) → IsUndirected joined → {u v : ℕ} → Reaches joined u v → Reaches joined v u
Reaches-sym joined un (n, w) = (n, Walk-reverse joined un w)

pub Reaches-trans : (joined : Graph) {u v w : ℕ} → Reaches joined u v → Reaches joined v w → Reaches joined u w
Reaches-trans joined (m, a) (n, b) = (m + n, Walk-trans joined a b)

pub Reaches-edge : (joined : Graph) {u v w : ℕ} → Reaches joined u v → joined v w → Reaches joined u w
Reaches-edge joined (m, a) e = (suc m, Walk-snoc joined a e)

-- what is a root of one number of a component is a root of each
pub root-along : (joined : Graph) → IsUndirected joined → (u v root : ℕ) → Reaches joined u v → IsRoot joined u root → IsRoot joined v root
root-along joined un u v root r is = record {
  reached = Reaches-trans joined is.reached r;
  least = λ w h. is.least w (Reaches-trans joined h (Reaches-sym joined un r));
}

pub distance-step : (joined : Graph) (root u v i j : ℕ) → IsDistance joined root u i → joined u v → IsDistance joined root v j → j ≤ suc i
distance-step joined root u v i j a e b = b.least (suc i) (Walk-snoc joined a.walk e)

pub distance-zero : (joined : Graph) (root v n : ℕ) → IsDistance joined root v n → n ≡ 0 → root ≡ v
distance-zero joined root v n a e = Walk-nowhere joined a.walk e

pub distance-self : (joined : Graph) (root : ℕ) → IsDistance joined root root 0
distance-self joined root = record { walk = stay; least = λ m w. omega arith }

-- a neighbour one level lower
pub distance-before : (joined : Graph) → IsUndirected joined → (root v m n : ℕ) → IsDistance joined root v m → m ≡ suc n → (u : ℕ) × joined v u × IsDistance joined root u n
distance-before joined un root v m n a e =
    let (u, joins, back) = Walk-first joined n (Walk-reverse joined un a.walk) e in (
      u,
      joins,
      record {
        walk = Walk-reverse joined un back;
        least = λ k w. let l = a.least (suc k) (Walk-snoc joined w (un.both _ _ joins)) in omega (arith, l, e);
      },
    )
