-- What is read of a layout: the squares of one layer, or its first fault.
use Rattle.std.specs.Prelude.{◌≡◌, ◌⊎◌, ◌<◌, ◌≤◌, ◌++◌, ℕ, List, length, Option, Some, slice_get}
use Rattle.std.specs.Option.{option_map}
use Rattle.dpl_spec_split.specs.declared.Rect.{Rect}
use Rattle.dpl_spec_split.specs.Slabs.{AreSlabsOf}
use Rattle.dpl_spec_format.specs.Tree.{Frame, Library, frame_of}
use Rattle.dpl_spec_format.specs.Layout.{Holds, IsFirstFault as IsFirstSyntaxFault}
use Rattle.dpl_spec_layout.specs.declared.Layer.{Layer as ChosenLayer}
use Rattle.dpl_spec_layout.specs.declared.TopFault.{TopFault}
use Rattle.dpl_spec_layout.specs.declared.FlattenFault.{FlattenFault}
use Rattle.dpl_spec_layout.specs.Structures.{IsTop, IsTopFault}
use Rattle.dpl_spec_layout.specs.Placements.{IsInLayer}
use Rattle.dpl_spec_layout.specs.Faults.{IsFaultless, IsFirstFault}
use Rattle.dpl_flatten.specs.Drawing.{Drawn, IsDrawingOf}
use Rattle.dpl_spec_format.specs.Faults.{Fault}
use Rattle.dpl_cert.specs.declared.name.Name.{Name}
use Rattle.dpl_cert.specs.declared.name.Name.TheVariants.{TooLarge}
use Rattle.dpl_layer.specs.Naming.{syntax_name, top_name, flatten_name}

pub data Reading : Type 0 where
  -- the first fault, and where it stands
  Faulty : Name → ℕ → Reading
  -- the copied records, which are those before the top's elements, and the canonical slabs of the layer
  Layer : List ℕ → List Rect → Reading

-- the most bytes of a file
abbrev pub limit : ℕ
limit = 268435456

-- what is taken of a layout: the name of the top, where it is named, and the layer with its datatype
pub record Choice : Type 0 where
  pub top : Option (List ℕ)
  pub layer : ℕ
  pub datatype : ℕ

abbrev pub chosen : Choice → ChosenLayer
chosen v = record { layer = v.layer; datatype = v.datatype }

-- the records before a structure's elements, one behind the other
abbrev pub frame_bytes : Frame → List ℕ
frame_bytes f = f.header ++ (f.bgnlib ++ (f.libname ++ (f.units ++ (f.bgnstr ++ f.strname))))

abbrev pub copied_of : Library → ℕ → Option (List ℕ)
copied_of lib top = option_map (λ s. frame_bytes (frame_of lib s)) (slice_get lib.structures top)

-- the library has no top, or its layer a fault
abbrev pub IsFaultIn : Choice → Library → Name → ℕ → Type 0
IsFaultIn v lib name at =
    ((f : TopFault) × IsTopFault lib v.top f × (top_name f ≡ Some (name, at)))
    ⊎ ((top : ℕ) × (f : FlattenFault) × IsTop lib v.top top × IsFirstFault lib top (chosen v) f × (flatten_name f ≡ Some (name, at)))

-- the layer of the library, which has no fault
pub record IsLayerIn (v : Choice) (lib : Library) (copied : List ℕ) (slabs : List Rect) : Type 0 where
  pub top : ℕ
  pub is_top : IsTop lib v.top top
  pub faultless : IsFaultless lib top (chosen v)
  pub before : copied_of lib top ≡ Some copied
  pub squares : AreSlabsOf (IsInLayer lib top (chosen v)) slabs

-- a drawing of the layer of the library
pub record HasDrawingIn (v : Choice) (lib : Library) (copied : List ℕ) (d : Drawn) : Type 0 where
  pub top : ℕ
  pub is_top : IsTop lib v.top top
  pub before : copied_of lib top ≡ Some copied
  pub drawing : IsDrawingOf lib top (chosen v) d

-- a drawing of the layer of what these bytes hold
abbrev pub HasDrawing : Choice → List ℕ → List ℕ → Drawn → Type 0
HasDrawing v bytes copied drawing = (lib : Library) × Holds bytes lib × HasDrawingIn v lib copied drawing

-- what these bytes hold
abbrev pub IsLayout : Choice → List ℕ → Reading → Type 0
IsLayout v bytes (Faulty name at) =
    ((f : Fault) × IsFirstSyntaxFault bytes f × (syntax_name f ≡ (name, at)))
    ⊎ ((lib : Library) × Holds bytes lib × IsFaultIn v lib name at)
IsLayout v bytes (Layer copied slabs) = (lib : Library) × Holds bytes lib × IsLayerIn v lib copied slabs

-- what is read of a file: where it isn't too large, what its bytes hold
abbrev pub IsReading : Choice → List ℕ → Reading → Type 0
IsReading v bytes reading = ((limit < length bytes) × (reading ≡ Faulty TooLarge limit)) ⊎ ((length bytes ≤ limit) × IsLayout v bytes reading)
