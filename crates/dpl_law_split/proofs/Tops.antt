-- A library has at most one top, or at most one reason why it has none.
use Rattle.std.proofs.Common.{◌≡◌, ◌≢◌, ℕ, ◌<◌, List, [], ◌∷◌, length, Option, Some, None, sym, refl, ap, ◌∙◌, arith}
use Rattle.dpl_spec_format.specs.Tree.{Library}
use Rattle.dpl_spec_layout.specs.declared.TopFault.{TopFault}
use Rattle.dpl_spec_layout.specs.declared.TopFault.TheVariants.{NoMemory, NoTop, ManyTops}
use Rattle.dpl_spec_layout.specs.Structures.{AreRoots, IsTop, IsTopFault}
use Rattle.dpl_spec_split.proofs.Ordered.{same_members}

roots-same : (lib : Library) (rs ss : List ℕ) → AreRoots lib rs → AreRoots lib ss → rs ≡ ss
roots-same lib rs ss a b =
    same_members (λ i j. i < j) (λ i j l m. omega arith) rs ss a.ordered b.ordered (λ k. (λ h. (b.exactly k).1 ((a.exactly k).0 h), λ h. (a.exactly k).1 ((b.exactly k).0 h)))

pub top-same : (lib : Library) (name : Option (List ℕ)) (j k : ℕ) → IsTop lib name j → IsTop lib name k → j ≡ k
top-same lib (Some name) j k a b = cc
top-same lib None j k a b = let e : j ∷ [] ≡ k ∷ [] = roots-same lib (j ∷ []) (k ∷ []) a b in cc

pub top-fault_same : (lib : Library) (name : Option (List ℕ)) (f g : TopFault) → f ≢ NoMemory → g ≢ NoMemory → IsTopFault lib name f → IsTopFault lib name g → f ≡ g
top-fault_same lib name NoMemory g m n a b = absurd (m refl)
top-fault_same lib name NoTop NoMemory m n a b = absurd (n refl)
top-fault_same lib name (ManyTops i) NoMemory m n a b = absurd (n refl)
top-fault_same lib name NoTop NoTop m n a b = refl
top-fault_same lib (Some name) NoTop (ManyTops j) m n a b = absurd b
top-fault_same lib None NoTop (ManyTops j) m n a (more, (roots, are, many)) =
    let e : length roots ≡ 0 = ap length (roots-same lib roots [] are a) in absurd (omega (arith, e, more, many))
top-fault_same lib (Some name) (ManyTops i) NoTop m n a b = absurd a
top-fault_same lib None (ManyTops i) NoTop m n (more, (roots, are, many)) b =
    let e : length roots ≡ 0 = ap length (roots-same lib roots [] are b) in absurd (omega (arith, e, more, many))
top-fault_same lib (Some name) (ManyTops i) (ManyTops j) m n a b = absurd a
top-fault_same lib None (ManyTops i) (ManyTops j) m n (more, (roots, are, many)) (more2, (roots2, are2, many2)) =
    ap (λ c. ManyTops c) (sym many ∙ (ap length (roots-same lib roots roots2 are are2) ∙ many2))

pub top-or_fault : (lib : Library) (name : Option (List ℕ)) (k : ℕ) (f : TopFault) → f ≢ NoMemory → IsTop lib name k → IsTopFault lib name f → ⊥
top-or_fault lib name k NoMemory m a b = m refl
top-or_fault lib (Some name) k NoTop m a b = cc
top-or_fault lib None k NoTop m a b = let e : k ∷ [] ≡ [] = roots-same lib (k ∷ []) [] a b in cc
top-or_fault lib (Some name) k (ManyTops i) m a b = b
top-or_fault lib None k (ManyTops i) m a (more, (roots, are, many)) =
    let e : length roots ≡ 1 = ap length (roots-same lib roots (k ∷ []) are a) in omega (arith, e, more, many)
