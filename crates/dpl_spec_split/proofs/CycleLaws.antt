-- One cycle is reported.
use Rattle.std.proofs.Common.{◌≡◌, ◌≢◌, ℕ, ◌<◌, ◌≤◌, ◌⊎◌, inl, inr, List, ◌∷◌, ◌++◌, reverse, length, get_or, sym, refl, ap, ◌∙◌, subst, arith}
use Rattle.std.specs.Prelude.{slice_index}
use Rattle.dpl_spec_split.specs.Graphs.{Graph, Precedes}
use Rattle.dpl_spec_split.specs.Cycle.{IsLevelEdge, IsParent, Climb, last, up, IsReported}
use Rattle.dpl_spec_split.proofs.GraphLaws.{edge-strict}

parent-least : (joined : Graph) (root v p q : ℕ) → IsParent joined root v p → IsParent joined root v q → p ≤ q
parent-least joined root v p q a b = let (n, above, below) = b.level in a.least q n b.joined_by above below

parent-unique : (joined : Graph) (root v p q : ℕ) → IsParent joined root v p → IsParent joined root v q → p ≡ q
parent-unique joined root v p q a b = let l = parent-least joined root v p q a b in let m = parent-least joined root v q p b a in omega arith

climb-head : (joined : Graph) (root : ℕ) {top u : ℕ} {us : List ℕ} → Climb joined root top u us → (0 < length us) × (get_or us 0 0 ≡ u)
climb-head joined root (last p) = (omega arith, refl)
climb-head joined root (up p c) = (omega arith, refl)

-- two climbs from one vertex: they are one, or one goes on through the other's top
data Compared (top other : ℕ) (us ws : List ℕ) : Type 0 where
  same : top ≡ other → us ≡ ws → Compared top other us ws
  shorter : length us < length ws → get_or ws (length us) 0 ≡ top → Compared top other us ws
  longer : length ws < length us → get_or us (length ws) 0 ≡ other → Compared top other us ws

one-more : (u top other : ℕ) (us ws : List ℕ) → Compared top other us ws → Compared top other (u ∷ us) (u ∷ ws)
one-more u top other us ws (same e f) = same e (ap (λ xs. u ∷ xs) f)
one-more u top other us ws (shorter l e) = shorter (omega (arith, l)) e
one-more u top other us ws (longer l e) = longer (omega (arith, l)) e

climb-as : (joined : Graph) (root : ℕ) {top u v : ℕ} {us : List ℕ} → u ≡ v → Climb joined root top u us → Climb joined root top v us
climb-as joined root {top = top} {us = us} e c = subst (λ x. Climb joined root top x us) e c

compare : (joined : Graph) (root : ℕ) {top other u : ℕ} {us ws : List ℕ} → Climb joined root top u us → Climb joined root other u ws → Compared top other us ws
compare joined root (last p) (last q) = same (parent-unique joined root _ _ _ p q) refl
compare joined root (last p) (up q d) = let h = climb-head joined root d in shorter (omega (arith, h.0)) (h.1 ∙ parent-unique joined root _ _ _ q p)
compare joined root (up p c) (last q) = let h = climb-head joined root c in longer (omega (arith, h.0)) (h.1 ∙ parent-unique joined root _ _ _ p q)
compare joined root (up {us = us} p c) (up {us = ws} q d) =
    one-more _ _ _ _ _ (compare joined root c (climb-as joined root (parent-unique joined root _ _ _ q p) d))

meet-unique : (top other : ℕ) (us vs ws xs : List ℕ) → Compared top other us ws → Compared top other vs xs → length us ≡ length vs → length ws ≡ length xs
    → ((k : ℕ) → k < length us → slice_index us k ≢ slice_index vs k) → ((k : ℕ) → k < length ws → slice_index ws k ≢ slice_index xs k)
    → (top ≡ other) × (us ≡ ws) × (vs ≡ xs)
meet-unique top other us vs ws xs (same t a) (same s b) l m p q = (t, a, b)
meet-unique top other us vs ws xs (same t a) (shorter n b) l m p q = absurd
    (let e : length us ≡ length ws = ap (λ ys. let zs : List ℕ = ys in length zs) a in omega (arith, e, l, m, n))
meet-unique top other us vs ws xs (same t a) (longer n b) l m p q = absurd
    (let e : length us ≡ length ws = ap (λ ys. let zs : List ℕ = ys in length zs) a in omega (arith, e, l, m, n))
meet-unique top other us vs ws xs (shorter n a) (same s b) l m p q = absurd
    (let e : length vs ≡ length xs = ap (λ ys. let zs : List ℕ = ys in length zs) b in omega (arith, e, l, m, n))
meet-unique top other us vs ws xs (shorter n a) (shorter o b) l m p q = absurd (q (length us) n (a ∙ (sym b ∙ ap (λ k. get_or xs k 0) (sym l))))
meet-unique top other us vs ws xs (shorter n a) (longer o b) l m p q = absurd (omega (arith, n, o, l, m))
meet-unique top other us vs ws xs (longer n a) (same s b) l m p q = absurd
    (let e : length vs ≡ length xs = ap (λ ys. let zs : List ℕ = ys in length zs) b in omega (arith, e, l, m, n))
meet-unique top other us vs ws xs (longer n a) (shorter o b) l m p q = absurd (omega (arith, n, o, l, m))
meet-unique top other us vs ws xs (longer n a) (longer o b) l m p q = absurd (p (length ws) n (a ∙ (sym b ∙ ap (λ k. get_or vs k 0) (sym m))))

edges-one : (e f : ℕ × ℕ) → (e ≡ f) ⊎ Precedes e f → (f ≡ e) ⊎ Precedes f e → e ≡ f
edges-one e f (inl a) b = a
edges-one e f (inr a) (inl b) = sym b
edges-one e f (inr a) (inr b) = absurd (edge-strict e f a b)

pub cycle-unique : (joined : Graph) (c d : List ℕ) → IsReported joined c → IsReported joined d → c ≡ d
cycle-unique joined c d a b =
    let least = a.odd.least b.root b.edge b.on in
    let most = b.odd.least a.root a.edge a.on in
    let root : a.root ≡ b.root = omega arith in
    let on : IsLevelEdge joined a.root b.edge = subst (λ r. IsLevelEdge joined r b.edge) (sym root) b.on in
    let back : IsLevelEdge joined b.root a.edge = subst (λ r. IsLevelEdge joined r a.edge) root a.on in
    let edge : a.edge ≡ b.edge = edges-one a.edge b.edge (a.least b.edge on) (b.least a.edge back) in
    let first : Climb joined a.root b.top a.edge.0 b.us = subst (λ r. Climb joined r b.top a.edge.0 b.us) (sym root)
    (subst (λ e. let f : ℕ × ℕ = e in Climb joined b.root b.top f.0 b.us) (sym edge) b.first) in
    let second : Climb joined a.root b.top a.edge.1 b.vs = subst (λ r. Climb joined r b.top a.edge.1 b.vs) (sym root)
    (subst (λ e. let f : ℕ × ℕ = e in Climb joined b.root b.top f.1 b.vs) (sym edge) b.second) in
    let one = meet-unique a.top b.top a.us a.vs b.us b.vs (compare joined a.root a.first first) (compare joined a.root a.second second) a.meet b.meet a.apart b.apart in
    a.is ∙ (ap (λ t. t ∷ reverse a.us ++ a.vs) one.0 ∙ (ap (λ xs. b.top ∷ reverse xs ++ a.vs) one.1 ∙ (ap (λ ys. b.top ∷ reverse b.us ++ ys) one.2 ∙ sym b.is)))
