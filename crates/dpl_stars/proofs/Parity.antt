-- An edge that is not level changes the parity of the distance, so a closed walk of odd length shows a level edge.
use Rattle.std.proofs.Common.{◌≡◌, ◌≢◌, ℕ, zero, suc, ◌+◌, ◌-◌, ◌%◌, ◌<◌, ◌≤◌, ◌⊎◌, inl, inr, List, length, get_or, sym, ap, subst, ◌∙◌, arith}
use Rattle.std.proofs.lemmas.Bool.{cases_order, cases_eq}
use Rattle.std.proofs.Math.Nat.{mod_self, mod-eq_of_lt}
use Rattle.dpl_spec_split.specs.Graphs.{Graph, Walk, stay, step, IsDistance, Reaches, IsOddCycle}
use Rattle.dpl_spec_split.proofs.GraphLaws.{distance-unique, Walk-trans}
use Rattle.dpl_stars.specs.Laws.{HasLevelEdge}
use Rattle.dpl_stars.proofs.Walks.{IsUndirected, walk_to, Walk-snoc, Walk-reverse, distance-step}

-- what a walk reaches from root has a distance
abbrev pub HasDistances : Graph → ℕ → Type 0
HasDistances joined root = (v n : ℕ) → Walk joined root v n → (k : ℕ) × IsDistance joined root v k

level_edge : (joined : Graph) → IsUndirected joined → (root u v n : ℕ) → joined u v → IsDistance joined root u n → IsDistance joined root v n → HasLevelEdge joined root
level_edge joined un root u v n e a b = elim (cases_order u v) [
  | inl same ↦ absurd (un.different u v e same)
  | inr h ↦ elim h [
    | inl l ↦ ((u, v), record { order = l; joined_by = e; level = (n, a, b) })
    | inr l ↦ ((v, u), record { order = l; joined_by = un.both u v e; level = (n, b, a) })
  ]
]

one_apart : (i k j m : ℕ) → i ≢ k → k ≤ suc i → i ≤ suc k → (k + j + m) % 2 ≡ 0 → (i + j + suc m) % 2 ≡ 0
one_apart i k j m ne a b e = elim (cases_order i k) [
  | inl same ↦ absurd (ne same)
  | inr h ↦ elim h [ inl l ↦ omega arith | inr l ↦ omega arith ]
]

pub parity : (joined : Graph) → IsUndirected joined → (root : ℕ) → HasDistances joined root → {u v m : ℕ} → Walk joined u v m → (i j : ℕ)
    → IsDistance joined root u i → IsDistance joined root v j
    → HasLevelEdge joined root ⊎ ((i + j + m) % 2 ≡ 0)
parity joined un root dist {u = u} stay i j a b = let e = distance-unique joined root u i j a b in inr (omega (arith, e))
parity joined un root dist {u = u} {m = m} (step {v = w} {n = n} f rest) i j a b =
    let (k, c) = dist w (suc i) (Walk-snoc joined a.walk f) in
    elim (cases_eq i k) [
      | inl same ↦ inl (level_edge joined un root u w i f a (subst (λ x. IsDistance joined root w x) (sym same) c))
      | inr ne ↦ elim (parity joined un root dist rest k j c b) [
        | inl found ↦ inl found
        | inr even ↦ inr (one_apart i k j n ne (distance-step joined root u w i k a f c) (distance-step joined root w u k i c (un.both u w f) a) even)
      ]
    ]

pub odd-closed : (joined : Graph) → IsUndirected joined → (root : ℕ) → HasDistances joined root → (v m : ℕ) → Reaches joined root v
    → Walk joined v v m → m % 2 ≡ 1 → HasLevelEdge joined root
odd-closed joined un root dist v m (n, to) around odd =
    let (i, a) = dist v n to in
    elim (parity joined un root dist around i i a a) [
      | inl found ↦ found
      | inr even ↦ absurd (omega (arith, even, odd))
    ]

-- the walk along a cycle
along : (joined : Graph) (cycle : List ℕ) → IsOddCycle joined cycle → (k : ℕ) → k < length cycle → Walk joined (get_or cycle 0 0) (get_or cycle k 0) k
along joined cycle c zero l = stay
along joined cycle c (suc k) l =
    let small : k + 1 < length cycle = omega arith in
    let next : (k + 1) % length cycle ≡ suc k = mod-eq_of_lt small ∙ omega arith in
    let within : k < length cycle = omega arith in
    Walk-snoc joined (along joined cycle c k within) (subst (λ x. joined (get_or cycle k 0) (get_or cycle x 0)) next (c.around k within))

pub cycle-closed : (joined : Graph) (cycle : List ℕ) → IsOddCycle joined cycle → Walk joined (get_or cycle 0 0) (get_or cycle 0 0) (length cycle)
cycle-closed joined cycle c =
    let n : ℕ = length cycle in
    let three : 3 ≤ n = c.three in
    let last : n - 1 < n = omega arith in
    let next : (n - 1 + 1) % n ≡ 0 = ap (λ k. k % n) (let e : n - 1 + 1 ≡ n = omega arith in e) ∙ mod_self n in
    walk_to joined n (Walk-snoc joined (along joined cycle c (n - 1) last)
    (subst (λ x. joined (get_or cycle (n - 1) 0) (get_or cycle x 0)) next (c.around (n - 1) last))) (omega arith)

pub cycle-level : (joined : Graph) → IsUndirected joined → (root : ℕ) → HasDistances joined root → (cycle : List ℕ)
    → IsOddCycle joined cycle → Reaches joined root (get_or cycle 0 0) → HasLevelEdge joined root
cycle-level joined un root dist cycle c to = odd-closed joined un root dist (get_or cycle 0 0) (length cycle) to (cycle-closed joined cycle c) c.odd

-- an edge that is level below any number of a component shows one that is level below its root
pub level-at_root : (joined : Graph) → IsUndirected joined → (root r : ℕ) → HasDistances joined root → Reaches joined root r → HasLevelEdge joined r → HasLevelEdge joined root
level-at_root joined un root r dist to (e, is) =
    let (n, a, b) = is.level in
    odd-closed joined un root dist r (suc n + n) to (Walk-trans joined (Walk-snoc joined a.walk is.joined_by) (Walk-reverse joined un b.walk)) (omega arith)
