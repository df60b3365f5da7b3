-- The library of a file has at most one first fault below its top.
use Rattle.std.proofs.Common.{◌≡◌, ◌≢◌, ℕ, List, refl, sym, ap, ◌∙◌, subst, arith}
use Rattle.dpl_spec_format.specs.Tree.{Library, Element}
use Rattle.dpl_spec_format.specs.Layout.{Holds}
use Rattle.dpl_spec_layout.specs.declared.Layer.{Layer}
use Rattle.dpl_spec_layout.specs.declared.ElementFault.{ElementFault}
use Rattle.dpl_spec_layout.specs.declared.FlattenFault.{FlattenFault}
use Rattle.dpl_spec_layout.specs.declared.FlattenFault.TheVariants.{NoMemory, MissingStructure, Recursion, Element as Refused, TooManyPoints, OutOfRange}
use Rattle.dpl_spec_layout.specs.Elements.{IsRefusedFor}
use Rattle.dpl_spec_layout.specs.Faults.{Finding, IsFound, IsNowhere, IsFirst, IsFirstRefused, IsFaultless, IsFirstFault}
use Rattle.dpl_law_split.proofs.Offsets.{element-same}
use Rattle.dpl_law_split.proofs.ElementFaults.{refused-same}

module _ (lib : Library) (top : ℕ) where
  first-same : (P : Finding) (i j : ℕ) → IsFirst lib top P i → IsFirst lib top P j → i ≡ j
  first-same P i j a b =
      let (k, d, d_found, d_at) = a.some in
      let (l, e, e_found, e_at) = b.some in
      let low = a.least l e e_found in
      let high = b.least k d d_found in
      omega (arith, low, high, d_at, e_at)

  not-nowhere : (P : Finding) (i : ℕ) → IsFirst lib top P i → IsNowhere lib top P → ⊥
  not-nowhere P i a none = let (k, d, found, at) = a.some in none k d found

module _ (lib : Library) (top : ℕ) (layer : Layer) where
  not-drawn : (i : ℕ) (f : ElementFault) → IsFirstRefused lib top layer i f
      → ((k : ℕ) (e : Element) → IsFound lib top (λ n x. (g : ElementFault) × IsRefusedFor layer x.body g) k e → ⊥) → ⊥
  not-drawn i f a none = let (k, d, found, at) = a.some in none k d (record { reached = found.reached; inside = found.inside; holds = (f, found.holds) })

  refusal-same : (bytes : List ℕ) (i j : ℕ) (f g : ElementFault) → Holds bytes lib → IsFirstRefused lib top layer i f → IsFirstRefused lib top layer j g → (i ≡ j) × (f ≡ g)
  refusal-same bytes i j f g h a b =
      let (k, d, d_found, d_at) = a.some in
      let (l, e, e_found, e_at) = b.some in
      let low = a.least l e (record { reached = e_found.reached; inside = e_found.inside; holds = (g, e_found.holds) }) in
      let high = b.least k d (record { reached = d_found.reached; inside = d_found.inside; holds = (f, d_found.holds) }) in
      let same : i ≡ j = omega (arith, low, high, d_at, e_at) in
      let one : d ≡ e = element-same bytes lib k l d e h d_found.inside e_found.inside (d_at ∙ (same ∙ sym e_at)) in
      (same, refused-same layer e.body f g (subst (λ x. let y : Element = x in IsRefusedFor layer y.body f) one d_found.holds) e_found.holds)

  pub fault-same : (bytes : List ℕ) (f g : FlattenFault) → Holds bytes lib → f ≢ NoMemory → g ≢ NoMemory → IsFirstFault lib top layer f → IsFirstFault lib top layer g → f ≡ g
  fault-same bytes NoMemory g h m n a b = absurd (m refl)
  fault-same bytes (MissingStructure i) NoMemory h m n a b = absurd (n refl)
  fault-same bytes (MissingStructure i) (MissingStructure j) h m n a b = ap (λ n. MissingStructure n) (first-same lib top _ i j a b)
  fault-same bytes (MissingStructure i) (Recursion j) h m n a b = absurd (not-nowhere lib top _ _ a b.0)
  fault-same bytes (MissingStructure i) (Refused j fj) h m n a b = absurd (not-nowhere lib top _ _ a b.0.complete)
  fault-same bytes (MissingStructure i) TooManyPoints h m n a b = absurd (not-nowhere lib top _ _ a b.0.whole.complete)
  fault-same bytes (MissingStructure i) (OutOfRange j) h m n a b = absurd (not-nowhere lib top _ _ a b.0.sound.whole.complete)
  fault-same bytes (Recursion i) NoMemory h m n a b = absurd (n refl)
  fault-same bytes (Recursion i) (MissingStructure j) h m n a b = absurd (not-nowhere lib top _ _ b a.0)
  fault-same bytes (Recursion i) (Recursion j) h m n a b = ap (λ n. Recursion n) (first-same lib top _ i j a.1 b.1)
  fault-same bytes (Recursion i) (Refused j fj) h m n a b = absurd (not-nowhere lib top _ _ a.1 b.0.acyclic)
  fault-same bytes (Recursion i) TooManyPoints h m n a b = absurd (not-nowhere lib top _ _ a.1 b.0.whole.acyclic)
  fault-same bytes (Recursion i) (OutOfRange j) h m n a b = absurd (not-nowhere lib top _ _ a.1 b.0.sound.whole.acyclic)
  fault-same bytes (Refused i fi) NoMemory h m n a b = absurd (n refl)
  fault-same bytes (Refused i fi) (MissingStructure j) h m n a b = absurd (not-nowhere lib top _ _ b a.0.complete)
  fault-same bytes (Refused i fi) (Recursion j) h m n a b = absurd (not-nowhere lib top _ _ b.1 a.0.acyclic)
  fault-same bytes (Refused i fi) (Refused j fj) h m n a b = let both = refusal-same bytes i j fi fj h a.1 b.1 in ap (λ n. Refused n fi) both.0 ∙ ap (λ x. Refused j x) both.1
  fault-same bytes (Refused i fi) TooManyPoints h m n a b = absurd (not-drawn _ _ a.1 b.0.drawn)
  fault-same bytes (Refused i fi) (OutOfRange j) h m n a b = absurd (not-drawn _ _ a.1 b.0.sound.drawn)
  fault-same bytes TooManyPoints NoMemory h m n a b = absurd (n refl)
  fault-same bytes TooManyPoints (MissingStructure j) h m n a b = absurd (not-nowhere lib top _ _ b a.0.whole.complete)
  fault-same bytes TooManyPoints (Recursion j) h m n a b = absurd (not-nowhere lib top _ _ b.1 a.0.whole.acyclic)
  fault-same bytes TooManyPoints (Refused j fj) h m n a b = absurd (not-drawn _ _ b.1 a.0.drawn)
  fault-same bytes TooManyPoints TooManyPoints h m n a b = refl
  fault-same bytes TooManyPoints (OutOfRange j) h m n a b = absurd (let few = b.0.few in let many = a.1 in omega (arith, few, many))
  fault-same bytes (OutOfRange i) NoMemory h m n a b = absurd (n refl)
  fault-same bytes (OutOfRange i) (MissingStructure j) h m n a b = absurd (not-nowhere lib top _ _ b a.0.sound.whole.complete)
  fault-same bytes (OutOfRange i) (Recursion j) h m n a b = absurd (not-nowhere lib top _ _ b.1 a.0.sound.whole.acyclic)
  fault-same bytes (OutOfRange i) (Refused j fj) h m n a b = absurd (not-drawn _ _ b.1 a.0.sound.drawn)
  fault-same bytes (OutOfRange i) TooManyPoints h m n a b = absurd (let few = a.0.few in let many = b.1 in omega (arith, few, many))
  fault-same bytes (OutOfRange i) (OutOfRange j) h m n a b = ap (λ n. OutOfRange n) (first-same lib top _ i j a.1 b.1)

  pub faultless-or_fault : (f : FlattenFault) → f ≢ NoMemory → IsFaultless lib top layer → IsFirstFault lib top layer f → ⊥
  faultless-or_fault NoMemory m a b = m refl
  faultless-or_fault (MissingStructure i) m a b = not-nowhere lib top _ _ b a.small.sound.whole.complete
  faultless-or_fault (Recursion i) m a b = not-nowhere lib top _ _ b.1 a.small.sound.whole.acyclic
  faultless-or_fault (Refused i f) m a b = not-drawn _ _ b.1 a.small.sound.drawn
  faultless-or_fault TooManyPoints m a b = let few = a.small.few in let many = b.1 in omega (arith, few, many)
  faultless-or_fault (OutOfRange i) m a b = not-nowhere lib top _ _ b.1 a.within
