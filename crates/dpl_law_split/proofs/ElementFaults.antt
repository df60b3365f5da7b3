-- An element is refused for one thing.
use Rattle.std.proofs.Common.{◌≡◌, ◌<◌, ◌≤◌, ⊎_elim, List, [], ◌∷◌, get_or, refl, sym, ap, ◌∙◌, arith}
use Rattle.std.specs.Prelude.{unwrap_or}
use Rattle.std.proofs.lemmas.Bool.{cases_lt}
use Rattle.dpl_spec_elements.specs.declared.PathFault.{PathFault}
use Rattle.dpl_spec_elements.specs.declared.PathFault.TheVariants.{RoundPath, BadPathType, OddWidth, SlantedPath, PathTurnsBack, NegativeExtension}
use Rattle.dpl_spec_elements.specs.Paths as paths
use Rattle.dpl_spec_elements.specs.Paths.{place}
use Rattle.dpl_spec_format.specs.Tree.{Trans, Body, is_boundary, is_path, is_sref, is_aref, is_text, is_node, is_box}
use Rattle.dpl_spec_layout.specs.declared.Layer.{Layer}
use Rattle.dpl_spec_layout.specs.declared.ElementFault.{ElementFault}
use Rattle.dpl_spec_layout.specs.declared.ElementFault.TheVariants.{AbsoluteTransform, Magnified, AngleNotRight, BadArray, SlantedBoundary, Path}
use Rattle.dpl_spec_layout.specs.Elements.{plain, IsArray, IsReferenceFault, IsPathFault, IsRefusedFor}

reference-same : (t : Trans) (unlaid : Type 0) (f g : ElementFault) → IsReferenceFault t unlaid f → IsReferenceFault t unlaid g → f ≡ g
reference-same t unlaid AbsoluteTransform AbsoluteTransform a b = refl
reference-same t unlaid AbsoluteTransform Magnified a b = absurd (b.0 a)
reference-same t unlaid AbsoluteTransform AngleNotRight a b = absurd (b.0 a)
reference-same t unlaid AbsoluteTransform BadArray a b = absurd (b.0 a)
reference-same t unlaid AbsoluteTransform SlantedBoundary a b = absurd b
reference-same t unlaid AbsoluteTransform (Path g) a b = absurd b
reference-same t unlaid Magnified AbsoluteTransform a b = absurd (a.0 b)
reference-same t unlaid Magnified Magnified a b = refl
reference-same t unlaid Magnified AngleNotRight a b = absurd (b.1 a.1)
reference-same t unlaid Magnified BadArray a b = absurd (b.1 a.1)
reference-same t unlaid Magnified SlantedBoundary a b = absurd b
reference-same t unlaid Magnified (Path g) a b = absurd b
reference-same t unlaid AngleNotRight AbsoluteTransform a b = absurd (a.0 b)
reference-same t unlaid AngleNotRight Magnified a b = absurd (a.1 b.1)
reference-same t unlaid AngleNotRight AngleNotRight a b = refl
reference-same t unlaid AngleNotRight BadArray a b = absurd (b.2 a.2)
reference-same t unlaid AngleNotRight SlantedBoundary a b = absurd b
reference-same t unlaid AngleNotRight (Path g) a b = absurd b
reference-same t unlaid BadArray AbsoluteTransform a b = absurd (a.0 b)
reference-same t unlaid BadArray Magnified a b = absurd (a.1 b.1)
reference-same t unlaid BadArray AngleNotRight a b = absurd (a.2 b.2)
reference-same t unlaid BadArray BadArray a b = refl
reference-same t unlaid BadArray SlantedBoundary a b = absurd b
reference-same t unlaid BadArray (Path g) a b = absurd b
reference-same t unlaid SlantedBoundary g a b = absurd a
reference-same t unlaid (Path f) g a b = absurd a

-- the faults of a path by their place
abbrev by_place : List PathFault
by_place = RoundPath ∷ RoundPath ∷ BadPathType ∷ OddWidth ∷ SlantedPath ∷ PathTurnsBack ∷ NegativeExtension ∷ []

at_place : (f : PathFault) → get_or by_place (place f) RoundPath ≡ f
at_place RoundPath = refl
at_place BadPathType = refl
at_place OddWidth = refl
at_place SlantedPath = refl
at_place PathTurnsBack = refl
at_place NegativeExtension = refl

place-same : (f g : PathFault) → place f ≡ place g → f ≡ g
place-same f g e = sym (at_place f) ∙ (ap (λ n. get_or by_place n RoundPath) e ∙ at_place g)

first-same : (p : paths.PathElement) (f g : PathFault) → paths.IsFirstFault p f → paths.IsFirstFault p g → f ≡ g
first-same p f g a b =
    ⊎_elim (λ (l : place f < place g). absurd (b.first f l a.there))
    (λ (l : place g ≤ place f).
    ⊎_elim (λ (m : place g < place f). absurd (a.first g m b.there)) (λ (m : place f ≤ place g). place-same f g (omega (arith, l, m))) (cases_lt (place g) (place f)))
    (cases_lt (place f) (place g))

path-same : (p : paths.PathElement) (f g : ElementFault) → IsPathFault p f → IsPathFault p g → f ≡ g
path-same p (Path f) (Path g) a b = ap (λ x. Path x) (first-same p f g a b)
path-same p (Path f) AbsoluteTransform a b = absurd b
path-same p (Path f) Magnified a b = absurd b
path-same p (Path f) AngleNotRight a b = absurd b
path-same p (Path f) BadArray a b = absurd b
path-same p (Path f) SlantedBoundary a b = absurd b
path-same p AbsoluteTransform g a b = absurd a
path-same p Magnified g a b = absurd a
path-same p AngleNotRight g a b = absurd a
path-same p BadArray g a b = absurd a
path-same p SlantedBoundary g a b = absurd a

pub refused-same : (chosen : Layer) (b : Body) (f g : ElementFault) → IsRefusedFor chosen b f → IsRefusedFor chosen b g → f ≡ g
refused-same chosen (is_sref r) f g x y = reference-same (unwrap_or r.trans plain) ⊥ f g x y
refused-same chosen (is_aref r) f g x y = reference-same (unwrap_or r.trans plain) (¬ IsArray r.columns r.rows r.xy) f g x y
refused-same chosen (is_boundary b) f g x y = x.1.0 ∙ sym y.1.0
refused-same chosen (is_box b) f g x y = x.1.0 ∙ sym y.1.0
refused-same chosen (is_path p) f g x y = path-same _ f g x.1 y.1
refused-same chosen (is_text t) f g x y = absurd x
refused-same chosen (is_node n) f g x y = absurd x
