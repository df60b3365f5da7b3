-- The layer of a library, and the records before its top's elements.
use Rattle.std.proofs.Common.{◌≡◌, ◌∙◌, ◌<◌, ◌++◌, inl, inr, ap, sym, refl, arith, append_assoc, List, ℕ, Option, Some, None, length}
use Rattle.std.specs.Prelude.{IfErr, IfSome, ◌↔◌, slice_get, Result, Ok, Err}
use Rattle.std.specs.Result.{IsErrAnd}
use Rattle.dpl_layer.specs.declared.fault.LayerFault.{LayerFault}
use Rattle.std.specs.Option.{option_map}
use Rattle.std.proofs.lemmas.Option.{slice_get_cases}
use Rattle.dpl_spec_split.specs.declared.Pt.{Pt}
use Rattle.dpl_spec_split.specs.declared.Rect.{Rect}
use Rattle.dpl_spec_split.specs.Squares.{Region}
use Rattle.dpl_spec_split.specs.Slabs.{AreSlabsOf}
use Rattle.dpl_spec_split.proofs.SquareLaws.{SameSquares-trans}
use Rattle.dpl_spec_format.specs.Tree.{Frame, Library, Structure, frame_of}
use Rattle.dpl_spec_layout.specs.declared.Layer.{Layer as ChosenLayer}
use Rattle.dpl_spec_layout.specs.declared.FlattenFault.{FlattenFault}
use Rattle.dpl_spec_layout.specs.Faults.{IsFirstFault}
use Rattle.dpl_flatten.specs.declared.drawing.Shapes.{Shapes}
use Rattle.dpl_flatten.specs.Drawing.{Drawn, AreShapesOf, IsDrawingOf, ShapesCover}
use Rattle.dpl_cert.specs.declared.name.Name.{Name}
use Rattle.dpl_layer.specs.Naming.{flatten_name}
use Rattle.dpl_layer.specs.Reading.{Choice, HasDrawing, IsLayout, Layer, chosen, frame_bytes, copied_of}
use Rattle.dpl_layer.specs.LayerFaults.{of_named}
use Rattle.dpl_layer.specs.Marked.{AreSquaresBelow}
use Rattle.dpl_layer.specs.View.{IsFaultOfLayer, IsLayerFault}
use Rattle.dpl_layer.specs.declared.fault.LayerFault.TheVariants.{NoMemory, Refused}

-- six parts put one behind another
six_parts : (a b c d e f : List ℕ) → ((((a ++ b) ++ c) ++ d) ++ e) ++ f ≡ a ++ (b ++ (c ++ (d ++ (e ++ f))))
six_parts a b c d e f = simp append_assoc

pub six_puts : (s1 s2 s3 s4 s5 s6 a b c d e f : List ℕ) → s1 ≡ a → s2 ≡ s1 ++ b → s3 ≡ s2 ++ c → s4 ≡ s3 ++ d → s5 ≡ s4 ++ e → s6 ≡ s5 ++ f
    → s6 ≡ a ++ (b ++ (c ++ (d ++ (e ++ f))))
six_puts s1 s2 s3 s4 s5 s6 a b c d e f p q r s t u =
    u ∙ ap (λ x. x ++ f) (t ∙ ap (λ x. x ++ e) (s ∙ ap (λ x. x ++ d) (r ∙ ap (λ x. x ++ c) (q ∙ ap (λ x. x ++ b) p)))) ∙ six_parts a b c d e f

found : (lib : Library) (o : Option Structure) (s : Structure) (f : Frame) (bytes : List ℕ) → o ≡ Some s → IfSome o (λ t. f ≡ frame_of lib t) → bytes ≡ frame_bytes f
    → option_map (λ t. frame_bytes (frame_of lib t)) o ≡ Some bytes
found lib None s f bytes is h e = cc
found lib (Some t) s f bytes is h e = ap Some (ap frame_bytes (sym h) ∙ sym e)

pub frame_copied : (lib : Library) (top : ℕ) (f : Frame) (bytes : List ℕ) → top < length lib.structures
    → IfSome (slice_get lib.structures top) (λ s. f ≡ frame_of lib s) → bytes ≡ frame_bytes f
    → copied_of lib top ≡ Some bytes
frame_copied lib top f bytes within h e = elim (slice_get_cases lib.structures top).1 [
  | inl there ↦ found lib (slice_get lib.structures top) there.0 f bytes there.2 h e
  | inr past ↦ absurd (omega (arith, within, past.0))
]

-- slabs of the same squares
pub slabs_same : (a b : Region) (rs : List Rect) → AreSlabsOf a rs → ((p : Pt) → a p ↔ b p) → AreSlabsOf b rs
slabs_same a b rs s same = record { canonical = s.canonical; covers = SameSquares-trans _ _ _ s.covers same }

-- the canonical slabs of what is drawn are the layer's
pub drawn_squares : (lib : Library) (top : ℕ) (layer : ChosenLayer) (shapes : Shapes) (slabs : List Rect) → AreShapesOf lib top layer shapes
    → AreSlabsOf (ShapesCover shapes) slabs → AreSquaresBelow lib top layer slabs
drawn_squares lib top layer shapes slabs l swept = record { faultless = l.faultless; squares = slabs_same _ _ _ swept l.covers }

-- a fault that has a name is one of the layer
pub named_fault : (lib : Library) (top : ℕ) (layer : ChosenLayer) (f : FlattenFault) → IsFirstFault lib top layer f
    → IsFaultOfLayer lib top layer (of_named (flatten_name f))
named_fault lib top layer f first = go (flatten_name f) refl
  where
    go : (o : Option (Name × ℕ)) → flatten_name f ≡ o → IsFaultOfLayer lib top layer (of_named o)
    go None is = tt
    go (Some (name, at)) is = (f, first, is)

-- an error that is handed on is the fault
pub given_fault : {X : Type 0} (P : LayerFault → Type 0) (r : Result X LayerFault) (f : LayerFault) → IsErrAnd r (λ e. e ≡ f) → P f → IfErr r P
given_fault P (Ok x) f is fault = absurd is
given_fault P (Err e) f is fault = rw is fault

-- the squares of what is drawn of some bytes are their layer
pub swept_layer : (v : Choice) (bytes copied : List ℕ) (d : Drawn) (slabs : List Rect) → HasDrawing v bytes copied d
    → ((lib : Library) (top : ℕ) (layer : ChosenLayer) → IsDrawingOf lib top layer d → AreSquaresBelow lib top layer slabs) → IsLayout v bytes (Layer copied slabs)
swept_layer v bytes copied d slabs (lib, holds, are) squares =
    let s = squares lib are.top (chosen v) are.drawing in (
      lib,
      holds,
      record { top = are.top; is_top = are.is_top; faultless = s.faultless; before = are.before; squares = s.squares },
    )

-- a fault of what is drawn of some bytes is theirs
pub drawn_fault : (v : Choice) (bytes copied : List ℕ) (d : Drawn) (e : LayerFault) → HasDrawing v bytes copied d
    → ((lib : Library) (top : ℕ) (layer : ChosenLayer) → IsDrawingOf lib top layer d → IsFaultOfLayer lib top layer e) → IsLayerFault v bytes e
drawn_fault v bytes copied d NoMemory has of = tt
drawn_fault v bytes copied d (Refused name at) (lib, holds, are) of =
    let (f, first, named) = of lib are.top (chosen v) are.drawing in
    inr (lib, holds, inr (are.top, f, are.is_top, first, named))
