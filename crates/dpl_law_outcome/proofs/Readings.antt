-- A file has one reading: its first fault, or the slabs of its layer.
use Rattle.std.proofs.Common.{◌≡◌, ◌≢◌, ◌⊎◌, Option, ℕ, inl, inr, List, Some, None, sym, ap, ◌∙◌, subst, arith}
use Rattle.dpl_spec_split.specs.declared.Rect.{Rect}
use Rattle.dpl_spec_split.proofs.WholeLaws.{slabs-unique}
use Rattle.dpl_spec_format.specs.Tree.{Library}
use Rattle.dpl_spec_format.specs.Layout.{Holds}
use Rattle.dpl_spec_format.proofs.Uniqueness.{one_library, one_fault, apart}
use Rattle.dpl_spec_layout.specs.declared.TopFault.{TopFault}
use Rattle.dpl_spec_layout.specs.declared.TopFault.TheVariants.{NoMemory as NoMemoryForTop}
use Rattle.dpl_spec_layout.specs.declared.FlattenFault.{FlattenFault}
use Rattle.dpl_spec_layout.specs.declared.FlattenFault.TheVariants.{NoMemory}
use Rattle.dpl_spec_layout.specs.Placements.{IsInLayer}
use Rattle.dpl_spec_layout.specs.Faults.{IsFaultless, IsFirstFault}
use Rattle.dpl_spec_split.specs.Slabs.{AreSlabsOf}
use Rattle.dpl_law_split.proofs.Tops.{top-same, top-fault_same, top-or_fault}
use Rattle.dpl_law_split.proofs.FirstFaults.{fault-same, faultless-or_fault}
use Rattle.dpl_cert.specs.declared.name.Name.{Name}
use Rattle.dpl_layer.specs.Naming.{syntax_name, top_name, flatten_name}
use Rattle.dpl_spec_split.specs.Squares.{Covers}
use Rattle.dpl_spec_layout.specs.declared.Layer.{Layer as ChosenLayer}
use Rattle.dpl_spec_layout.specs.Structures.{IsTop}
use Rattle.dpl_layer.specs.Marked.{AreFaultless, AreMarked, FaultyMarked, IsFaultBelow, IsFaultOfMarkers, IsMarkedFaultIn, IsMarkedIn, IsMarkedLayout, IsMarkedReading}
use Rattle.dpl_layer.specs.Marked.{MarkedChoice, MarkedLayer, MarkedReading, marker}
use Rattle.dpl_layer.specs.Reading.{Choice, Reading, Faulty, Layer, chosen, copied_of, IsFaultIn, IsLayerIn, IsLayout, IsReading}

named-top : (f : TopFault) (p : Name × ℕ) → top_name f ≡ Some p → f ≢ NoMemoryForTop
named-top f p e is = let gone : None ≡ Some p = sym (ap top_name is) ∙ e in cc

named-fault : (f : FlattenFault) (p : Name × ℕ) → flatten_name f ≡ Some p → f ≢ NoMemory
named-fault f p e is = let gone : None ≡ Some p = sym (ap flatten_name is) ∙ e in cc

abbrev faulty : Name × ℕ → Reading
faulty p = Faulty p.0 p.1

module _ (v : Choice) (bytes : List ℕ) (lib : Library) (holds : Holds bytes lib) where
  fault-in_same : (m n : Name) (i j : ℕ) → IsFaultIn v lib m i → IsFaultIn v lib n j → Faulty m i ≡ Faulty n j
  fault-in_same m n i j (inl (f, a, e)) (inl (g, b, h)) =
      let same : f ≡ g = top-fault_same lib v.top f g (named-top f (m, i) e) (named-top g (n, j) h) a b in
      let p : Name × ℕ = (m, i) in
      let q : Name × ℕ = (n, j) in
      let some : Some p ≡ Some q = sym e ∙ (ap top_name same ∙ h) in
      let pair : p ≡ q = cc in
      ap faulty pair
  fault-in_same m n i j (inl (f, a, e)) (inr (top, g, is_top, b, h)) = absurd (top-or_fault lib v.top top f (named-top f (m, i) e) is_top a)
  fault-in_same m n i j (inr (top, f, is_top, a, e)) (inl (g, b, h)) = absurd (top-or_fault lib v.top top g (named-top g (n, j) h) is_top b)
  fault-in_same m n i j (inr (top, f, is_top, a, e)) (inr (other, g, is_other, b, h)) =
      let tops : other ≡ top = top-same lib v.top other top is_other is_top in
      let b1 : IsFirstFault lib top (chosen v) g = subst (λ t. IsFirstFault lib t (chosen v) g) tops b in
      let same : f ≡ g = fault-same lib top (chosen v) bytes f g holds (named-fault f (m, i) e) (named-fault g (n, j) h) a b1 in
      let p : Name × ℕ = (m, i) in
      let q : Name × ℕ = (n, j) in
      let some : Some p ≡ Some q = sym e ∙ (ap flatten_name same ∙ h) in
      let pair : p ≡ q = cc in
      ap faulty pair

  fault-or_layer : (m : Name) (i : ℕ) (front : List ℕ) (slabs : List Rect) → IsFaultIn v lib m i → IsLayerIn v lib front slabs → ⊥
  fault-or_layer m i front slabs (inl (f, a, e)) l = top-or_fault lib v.top l.top f (named-top f (m, i) e) l.is_top a
  fault-or_layer m i front slabs (inr (top, f, is_top, a, e)) l =
      let tops : l.top ≡ top = top-same lib v.top l.top top l.is_top is_top in
      faultless-or_fault lib top (chosen v) f (named-fault f (m, i) e) (subst (λ t. IsFaultless lib t (chosen v)) tops l.faultless) a

  layer-in_same : (p q : List ℕ) (r s : List Rect) → IsLayerIn v lib p r → IsLayerIn v lib q s → Layer p r ≡ Layer q s
  layer-in_same p q r s a b =
      let tops : b.top ≡ a.top = top-same lib v.top b.top a.top b.is_top a.is_top in
      let some : Some p ≡ Some q = sym a.before ∙ (ap (λ t. copied_of lib t) (sym tops) ∙ b.before) in
      let fronts : p ≡ q = cc in
      let slabs : r ≡ s = slabs-unique (IsInLayer lib a.top (chosen v)) r s a.squares (subst (λ t. AreSlabsOf (IsInLayer lib t (chosen v)) s) tops b.squares) in
      ap (λ x. Layer x r) fronts ∙ ap (λ x. Layer q x) slabs

module _ (v : Choice) (bytes : List ℕ) where
  layout-same : (x y : Reading) → IsLayout v bytes x → IsLayout v bytes y → x ≡ y
  layout-same (Faulty m i) (Faulty n j) (inl (f, a, e)) (inl (g, b, h)) =
      let p : Name × ℕ = (m, i) in
      let q : Name × ℕ = (n, j) in
      let same : p ≡ q = sym e ∙ (ap syntax_name (one_fault bytes f g a b) ∙ h) in
      ap faulty same
  layout-same (Faulty m i) (Faulty n j) (inl (f, a, e)) (inr (lib, holds, b)) = absurd (apart bytes lib f holds a)
  layout-same (Faulty m i) (Faulty n j) (inr (lib, holds, a)) (inl (g, b, h)) = absurd (apart bytes lib g holds b)
  layout-same (Faulty m i) (Faulty n j) (inr (lib, holds, a)) (inr (other, holds2, b)) =
      let libs : other ≡ lib = one_library bytes other lib holds2 holds in
      fault-in_same v bytes lib holds m n i j a (subst (λ l. IsFaultIn v l n j) libs b)
  layout-same (Faulty m i) (Layer q s) (inl (f, a, e)) (lib, holds, b) = absurd (apart bytes lib f holds a)
  layout-same (Faulty m i) (Layer q s) (inr (lib, holds, a)) (other, holds2, b) =
      let libs : other ≡ lib = one_library bytes other lib holds2 holds in
      absurd (fault-or_layer v bytes lib holds m i q s a (subst (λ l. IsLayerIn v l q s) libs b))
  layout-same (Layer p r) (Faulty n j) (lib, holds, a) (inl (g, b, h)) = absurd (apart bytes lib g holds b)
  layout-same (Layer p r) (Faulty n j) (lib, holds, a) (inr (other, holds2, b)) =
      let libs : other ≡ lib = one_library bytes other lib holds2 holds in
      absurd (fault-or_layer v bytes lib holds n j p r (subst (λ l. IsFaultIn v l n j) libs b) a)
  layout-same (Layer p r) (Layer q s) (lib, holds, a) (other, holds2, b) =
      let libs : other ≡ lib = one_library bytes other lib holds2 holds in
      layer-in_same v bytes lib holds p q r s a (subst (λ l. IsLayerIn v l q s) libs b)

  pub reading-same : (x y : Reading) → IsReading v bytes x → IsReading v bytes y → x ≡ y
  reading-same x y (inl (large, a)) (inl (again, b)) = a ∙ sym b
  reading-same x y (inl (large, a)) (inr (small, b)) = absurd (omega (arith, large, small))
  reading-same x y (inr (small, a)) (inl (large, b)) = absurd (omega (arith, large, small))
  reading-same x y (inr (small, a)) (inr (again, b)) = layout-same x y a b

-- ---- with markers

abbrev faulty-marked : Name × ℕ → MarkedReading
faulty-marked p = FaultyMarked p.0 p.1

module _ (bytes : List ℕ) (lib : Library) (holds : Holds bytes lib) (top : ℕ) where
  below-same : (layer : ChosenLayer) (m n : Name) (i j : ℕ) → IsFaultBelow lib top layer m i → IsFaultBelow lib top layer n j → FaultyMarked m i ≡ FaultyMarked n j
  below-same layer m n i j (f, a, e) (g, b, h) =
      let same : f ≡ g = fault-same lib top layer bytes f g holds (named-fault f (m, i) e) (named-fault g (n, j) h) a b in
      let p : Name × ℕ = (m, i) in
      let q : Name × ℕ = (n, j) in
      let some : Some p ≡ Some q = sym e ∙ (ap flatten_name same ∙ h) in
      let pair : p ≡ q = cc in
      ap faulty-marked pair

  below-or_faultless : (layer : ChosenLayer) (m : Name) (i : ℕ) → IsFaultBelow lib top layer m i → IsFaultless lib top layer → ⊥
  below-or_faultless layer m i (f, a, e) sound = faultless-or_fault lib top layer f (named-fault f (m, i) e) sound a

  markers-same : (k : Option ℕ) (m n : Name) (i j : ℕ) → IsFaultOfMarkers lib top k m i → IsFaultOfMarkers lib top k n j → FaultyMarked m i ≡ FaultyMarked n j
  markers-same None m n i j a b = absurd a
  markers-same (Some k) m n i j a b = below-same (marker k) m n i j a b

  markers-or_faultless : (k : Option ℕ) (m : Name) (i : ℕ) → IsFaultOfMarkers lib top k m i → AreFaultless lib top k → ⊥
  markers-or_faultless None m i a sound = absurd a
  markers-or_faultless (Some k) m i a sound = below-or_faultless (marker k) m i a sound

  -- the first fault of the markers of mask A, and then of those of mask B
  abbrev IsOfMarkers : Option ℕ → Option ℕ → Name → ℕ → Type 0
  IsOfMarkers k l m i = IsFaultOfMarkers lib top k m i ⊎ (AreFaultless lib top k × IsFaultOfMarkers lib top l m i)

  both-same : (k l : Option ℕ) (m n : Name) (i j : ℕ) → IsOfMarkers k l m i → IsOfMarkers k l n j → FaultyMarked m i ≡ FaultyMarked n j
  both-same k l m n i j (inl a) (inl b) = markers-same k m n i j a b
  both-same k l m n i j (inl a) (inr (sound, b)) = absurd (markers-or_faultless k m i a sound)
  both-same k l m n i j (inr (sound, a)) (inl b) = absurd (markers-or_faultless k n j b sound)
  both-same k l m n i j (inr (sound, a)) (inr (again, b)) = markers-same l m n i j a b

  both-or_faultless : (k l : Option ℕ) (m : Name) (i : ℕ) → IsOfMarkers k l m i → AreFaultless lib top k → AreFaultless lib top l → ⊥
  both-or_faultless k l m i (inl a) first second = markers-or_faultless k m i a first
  both-or_faultless k l m i (inr (sound, a)) first second = markers-or_faultless l m i a second

  marks-same : (k : Option ℕ) (layer a b : List Rect) → AreMarked lib top k layer a → AreMarked lib top k layer b → a ≡ b
  marks-same None layer a b p q = p ∙ sym q
  marks-same (Some k) layer a b p q = slabs-unique (λ s. IsInLayer lib top (marker k) s × Covers layer s) a b p q

module _ (v : MarkedChoice) (bytes : List ℕ) (lib : Library) (holds : Holds bytes lib) where
  fault-or_sound : (m : Name) (i top : ℕ) → IsFaultIn v.layer lib m i → IsTop lib v.layer.top top → IsFaultless lib top (chosen v.layer) → ⊥
  fault-or_sound m i top (inl (f, a, e)) is_top sound = top-or_fault lib v.layer.top top f (named-top f (m, i) e) is_top a
  fault-or_sound m i top (inr (other, f, is_other, a, e)) is_top sound =
      let tops : top ≡ other = top-same lib v.layer.top top other is_top is_other in
      faultless-or_fault lib other (chosen v.layer) f (named-fault f (m, i) e) (subst (λ t. IsFaultless lib t (chosen v.layer)) tops sound) a

  marked-fault_same : (m n : Name) (i j : ℕ) → IsMarkedFaultIn v lib m i → IsMarkedFaultIn v lib n j → FaultyMarked m i ≡ FaultyMarked n j
  marked-fault_same m n i j (inl a) (inl b) =
      let same : Faulty m i ≡ Faulty n j = fault-in_same v.layer bytes lib holds m n i j a b in
      let names : m ≡ n = cc in
      let places : i ≡ j = cc in
      ap (λ x. FaultyMarked x i) names ∙ ap (λ x. FaultyMarked n x) places
  marked-fault_same m n i j (inl a) (inr (top, is_top, sound, b)) = absurd (fault-or_sound m i top a is_top sound)
  marked-fault_same m n i j (inr (top, is_top, sound, a)) (inl b) = absurd (fault-or_sound n j top b is_top sound)
  marked-fault_same m n i j (inr (top, is_top, sound, a)) (inr (other, is_other, again, b)) =
      let tops : other ≡ top = top-same lib v.layer.top other top is_other is_top in
      both-same bytes lib holds top v.mark_a v.mark_b m n i j a (subst (λ t. IsOfMarkers bytes lib holds t v.mark_a v.mark_b n j) tops b)

  marked-fault_or_layer : (m : Name) (i : ℕ) (front : List ℕ) (slabs a b : List Rect) → IsMarkedFaultIn v lib m i → IsMarkedIn v lib front slabs a b → ⊥
  marked-fault_or_layer m i front slabs a b (inl fault) l = fault-or_layer v.layer bytes lib holds m i front slabs fault l.layer
  marked-fault_or_layer m i front slabs a b (inr (top, is_top, sound, fault)) l =
      let tops : top ≡ l.layer.top = top-same lib v.layer.top top l.layer.top is_top l.layer.is_top in
      both-or_faultless bytes lib holds l.layer.top v.mark_a v.mark_b m i (subst (λ t. IsOfMarkers bytes lib holds t v.mark_a v.mark_b m i) tops fault) l.faultless_a l.faultless_b

  marked-in_same : (p q : List ℕ) (r s a b c d : List Rect) → IsMarkedIn v lib p r a b → IsMarkedIn v lib q s c d → MarkedLayer p r a b ≡ MarkedLayer q s c d
  marked-in_same p q r s a b c d x y =
      let tops : y.layer.top ≡ x.layer.top = top-same lib v.layer.top y.layer.top x.layer.top y.layer.is_top x.layer.is_top in
      let layers : Layer p r ≡ Layer q s = layer-in_same v.layer bytes lib holds p q r s x.layer y.layer in
      let fronts : p ≡ q = cc in
      let slabs : s ≡ r = cc in
      let on_a : AreMarked lib x.layer.top v.mark_a r c = subst (λ l. AreMarked lib x.layer.top v.mark_a l c) slabs
      (subst (λ t. AreMarked lib t v.mark_a s c) tops y.marked_a) in
      let on_b : AreMarked lib x.layer.top v.mark_b r d = subst (λ l. AreMarked lib x.layer.top v.mark_b l d) slabs
      (subst (λ t. AreMarked lib t v.mark_b s d) tops y.marked_b) in
      let firsts : a ≡ c = marks-same bytes lib holds x.layer.top v.mark_a r a c x.marked_a on_a in
      let seconds : b ≡ d = marks-same bytes lib holds x.layer.top v.mark_b r b d x.marked_b on_b in
      ap (λ k. MarkedLayer k r a b) fronts ∙ (ap (λ k. MarkedLayer q k a b) (sym slabs) ∙ (ap (λ k. MarkedLayer q s k b) firsts ∙ ap (λ k. MarkedLayer q s c k) seconds))

module _ (v : MarkedChoice) (bytes : List ℕ) where
  marked-layout_same : (x y : MarkedReading) → IsMarkedLayout v bytes x → IsMarkedLayout v bytes y → x ≡ y
  marked-layout_same (FaultyMarked m i) (FaultyMarked n j) (inl (f, a, e)) (inl (g, b, h)) =
      let p : Name × ℕ = (m, i) in
      let q : Name × ℕ = (n, j) in
      let same : p ≡ q = sym e ∙ (ap syntax_name (one_fault bytes f g a b) ∙ h) in
      ap faulty-marked same
  marked-layout_same (FaultyMarked m i) (FaultyMarked n j) (inl (f, a, e)) (inr (lib, holds, b)) = absurd (apart bytes lib f holds a)
  marked-layout_same (FaultyMarked m i) (FaultyMarked n j) (inr (lib, holds, a)) (inl (g, b, h)) = absurd (apart bytes lib g holds b)
  marked-layout_same (FaultyMarked m i) (FaultyMarked n j) (inr (lib, holds, a)) (inr (other, holds2, b)) =
      let libs : other ≡ lib = one_library bytes other lib holds2 holds in
      marked-fault_same v bytes lib holds m n i j a (subst (λ l. IsMarkedFaultIn v l n j) libs b)
  marked-layout_same (FaultyMarked m i) (MarkedLayer q s c d) (inl (f, a, e)) (lib, holds, b) = absurd (apart bytes lib f holds a)
  marked-layout_same (FaultyMarked m i) (MarkedLayer q s c d) (inr (lib, holds, a)) (other, holds2, b) =
      let libs : other ≡ lib = one_library bytes other lib holds2 holds in
      absurd (marked-fault_or_layer v bytes lib holds m i q s c d a (subst (λ l. IsMarkedIn v l q s c d) libs b))
  marked-layout_same (MarkedLayer p r a b) (FaultyMarked n j) (lib, holds, x) (inl (g, y, h)) = absurd (apart bytes lib g holds y)
  marked-layout_same (MarkedLayer p r a b) (FaultyMarked n j) (lib, holds, x) (inr (other, holds2, y)) =
      let libs : other ≡ lib = one_library bytes other lib holds2 holds in
      absurd (marked-fault_or_layer v bytes lib holds n j p r a b (subst (λ l. IsMarkedFaultIn v l n j) libs y) x)
  marked-layout_same (MarkedLayer p r a b) (MarkedLayer q s c d) (lib, holds, x) (other, holds2, y) =
      let libs : other ≡ lib = one_library bytes other lib holds2 holds in
      marked-in_same v bytes lib holds p q r s a b c d x (subst (λ l. IsMarkedIn v l q s c d) libs y)

  pub marked-same : (x y : MarkedReading) → IsMarkedReading v bytes x → IsMarkedReading v bytes y → x ≡ y
  marked-same x y (inl (large, a)) (inl (again, b)) = a ∙ sym b
  marked-same x y (inl (large, a)) (inr (small, b)) = absurd (omega (arith, large, small))
  marked-same x y (inr (small, a)) (inl (large, b)) = absurd (omega (arith, large, small))
  marked-same x y (inr (small, a)) (inr (again, b)) = marked-layout_same x y a b
