-- What a library is, and which library a list of records is. `bytes` are the file's.
use Rattle.std.specs.Prelude.{◌≡◌, ℕ, ◌%◌, ◌≤◌, length, ℤ, Bool, ◌==◌, if◌then◌else◌, List, [], ◌∷◌, map, slice_get, slice_range, Option, Some, None, find}
use Rattle.std.specs.Option.{option_map}
use Rattle.dpl_spec_format.specs.Kinds as kinds
use Rattle.dpl_spec_format.specs.Fields.{u16_at, i16_at, i32_at, real_at, name_of}
use Rattle.dpl_spec_format.specs.Records.{Record}

-- how a reference is turned: the bits of STRANS, and the reals of MAG and ANGLE
pub record Trans : Type 0 where
  pub strans : ℕ
  pub mag : Option (List ℕ)
  pub angle : Option (List ℕ)

-- In each of these `xy` is the data of XY, eight bytes for each point.
pub record Boundary : Type 0 where
  pub layer : ℕ
  pub datatype : ℕ
  pub xy : List ℕ

pub record Path : Type 0 where
  pub layer : ℕ
  pub datatype : ℕ
  pub kind : Option ℤ
  pub width : Option ℤ
  pub begin_ext : Option ℤ
  pub end_ext : Option ℤ
  pub xy : List ℕ

pub record Sref : Type 0 where
  pub name : List ℕ
  pub trans : Option Trans
  pub xy : List ℕ

pub record Aref : Type 0 where
  pub name : List ℕ
  pub trans : Option Trans
  pub columns : ℤ
  pub rows : ℤ
  pub xy : List ℕ

pub record Text : Type 0 where
  pub layer : ℕ
  pub texttype : ℤ
  pub xy : List ℕ
  pub string : List ℕ

pub record Node : Type 0 where
  pub layer : ℕ
  pub nodetype : ℤ
  pub xy : List ℕ

pub record BoxShape : Type 0 where
  pub layer : ℕ
  pub boxtype : ℕ
  pub xy : List ℕ

pub data Body : Type 0 where
  is_boundary : Boundary → Body
  is_path : Path → Body
  is_sref : Sref → Body
  is_aref : Aref → Body
  is_text : Text → Body
  is_node : Node → Body
  is_box : BoxShape → Body

-- one point or more
abbrev pub IsPoints : List ℕ → Type 0
IsPoints xy = (8 ≤ length xy) × (length xy % 8 ≡ 0)

-- A reference and a text have one point, an array three, every other element one or more.
abbrev pub HasPoints : Body → Type 0
HasPoints (is_boundary b) = IsPoints b.xy
HasPoints (is_path p) = IsPoints p.xy
HasPoints (is_sref r) = length r.xy ≡ 8
HasPoints (is_aref r) = length r.xy ≡ 24
HasPoints (is_text t) = length t.xy ≡ 8
HasPoints (is_node n) = IsPoints n.xy
HasPoints (is_box b) = IsPoints b.xy

pub record Element : Type 0 where
  -- the offset of its first record
  pub at : ℕ
  pub body : Body

pub record Structure : Type 0 where
  -- the offset of BGNSTR
  pub at : ℕ
  -- the bytes of two whole records
  pub bgnstr : List ℕ
  pub strname : List ℕ
  pub name : List ℕ
  pub elements : List Element

pub record Library : Type 0 where
  -- the bytes of four whole records
  pub header : List ℕ
  pub bgnlib : List ℕ
  pub libname : List ℕ
  pub units : List ℕ
  pub structures : List Structure

-- ---- from records

-- the first record of a type
abbrev pub first_of : ℕ → List Record → Option Record
first_of kind rs = find (λ r. r.kind == kind) rs

abbrev pub data_or_none : Option Record → List ℕ
data_or_none None = []
data_or_none (Some r) = r.body

-- In what follows `find` gives the record of each type that an element has, where it has one.
abbrev pub Finder : Type 0
Finder = ℕ → Option Record

abbrev pub data_of : ℕ → Finder → List ℕ
data_of kind find = data_or_none (find kind)

abbrev pub short_of : ℕ → Finder → Option ℤ
short_of kind find = option_map (λ (r : Record). i16_at r.body 0) (find kind)

abbrev pub long_of : ℕ → Finder → Option ℤ
long_of kind find = option_map (λ (r : Record). i32_at r.body 0) (find kind)

abbrev pub real_of : ℕ → Finder → Option (List ℕ)
real_of kind find = option_map (λ (r : Record). real_at r.body 0) (find kind)

abbrev pub trans_of : Finder → Option Trans
trans_of find = option_map (λ (r : Record). record {
  strans = u16_at r.body 0;
  mag = real_of kinds.mag find;
  angle = real_of kinds.angle find;
}) (find kinds.strans)

abbrev pub boundary_of : Finder → Boundary
boundary_of find = record {
  layer = u16_at (data_of kinds.layer find) 0;
  datatype = u16_at (data_of kinds.datatype find) 0;
  xy = data_of kinds.xy find;
}

abbrev pub path_of : Finder → Path
path_of find = record {
  layer = u16_at (data_of kinds.layer find) 0;
  datatype = u16_at (data_of kinds.datatype find) 0;
  kind = short_of kinds.pathtype find;
  width = long_of kinds.width find;
  begin_ext = long_of kinds.bgnextn find;
  end_ext = long_of kinds.endextn find;
  xy = data_of kinds.xy find;
}

abbrev pub sref_of : Finder → Sref
sref_of find = record {
  name = name_of (data_of kinds.sname find);
  trans = trans_of find;
  xy = data_of kinds.xy find;
}

abbrev pub aref_of : Finder → Aref
aref_of find = record {
  name = name_of (data_of kinds.sname find);
  trans = trans_of find;
  columns = i16_at (data_of kinds.colrow find) 0;
  rows = i16_at (data_of kinds.colrow find) 2;
  xy = data_of kinds.xy find;
}

abbrev pub text_of : Finder → Text
text_of find = record {
  layer = u16_at (data_of kinds.layer find) 0;
  texttype = i16_at (data_of kinds.texttype find) 0;
  xy = data_of kinds.xy find;
  string = data_of kinds.text_string find;
}

abbrev pub node_of : Finder → Node
node_of find = record {
  layer = u16_at (data_of kinds.layer find) 0;
  nodetype = i16_at (data_of kinds.nodetype find) 0;
  xy = data_of kinds.xy find;
}

abbrev pub box_of : Finder → BoxShape
box_of find = record {
  layer = u16_at (data_of kinds.layer find) 0;
  boxtype = u16_at (data_of kinds.boxtype find) 0;
  xy = data_of kinds.xy find;
}

-- the body that begins with a record of this type
abbrev pub body_of : ℕ → Finder → Body
body_of kind find =
    if kind == kinds.boundary then is_boundary (boundary_of find)
    else if kind == kinds.path then is_path (path_of find)
    else if kind == kinds.sref then is_sref (sref_of find)
    else if kind == kinds.aref then is_aref (aref_of find)
    else if kind == kinds.text then is_text (text_of find)
    else if kind == kinds.node then is_node (node_of find)
    else is_box (box_of find)

-- the records before the first of this type
abbrev pub before : ℕ → List Record → List Record
before kind [] = []
before kind (r ∷ rs) = if r.kind == kind then [] else r ∷ before kind rs

-- Each record whose type passes the test, with the records behind it that stand before the first of the type `end`.
unfoldable pub parts : (ℕ → Bool) → ℕ → List Record → List (Record × List Record)
parts begins end [] = []
parts begins end (r ∷ rs) =
    if begins r.kind then (r, before end rs) ∷ parts begins end rs else parts begins end rs

-- the bytes of a whole record
abbrev pub whole : List ℕ → Record → List ℕ
whole bytes r = slice_range bytes r.at r.next

abbrev pub whole_or_none : List ℕ → Option Record → List ℕ
whole_or_none bytes None = []
whole_or_none bytes (Some r) = whole bytes r

-- the bytes of the first record of a type
abbrev pub whole_of : List ℕ → ℕ → List Record → List ℕ
whole_of bytes kind rs = whole_or_none bytes (first_of kind rs)

-- an element begins with one of seven types, and ends with ENDEL
abbrev pub element_of : Record × List Record → Element
element_of p = record { at = p.0.at; body = body_of p.0.kind (λ kind. first_of kind p.1) }

abbrev pub elements_of : List Record → List Element
elements_of rs = map element_of (parts kinds.begins_element kinds.endel rs)

-- a structure begins with BGNSTR, and ends with ENDSTR
abbrev pub structure_of : List ℕ → Record × List Record → Structure
structure_of bytes p = record {
  at = p.0.at;
  bgnstr = whole bytes p.0;
  strname = whole_of bytes kinds.strname p.1;
  name = name_of (data_or_none (first_of kinds.strname p.1));
  elements = elements_of p.1;
}

abbrev pub library_of : List ℕ → List Record → Library
library_of bytes rs = record {
  header = whole_of bytes kinds.header rs;
  bgnlib = whole_of bytes kinds.bgnlib rs;
  libname = whole_of bytes kinds.libname rs;
  units = whole_of bytes kinds.units rs;
  structures = map (structure_of bytes) (parts (λ k. k == kinds.bgnstr) kinds.endstr rs);
}

-- ---- parts of a library

abbrev pub names_in : Library → List (List ℕ)
names_in lib = map (λ (s : Structure). s.name) lib.structures

abbrev pub elements_or_none : Option Structure → List Element
elements_or_none None = []
elements_or_none (Some s) = s.elements

-- the elements of the structure of this number
abbrev pub elements_at : Library → ℕ → List Element
elements_at lib i = elements_or_none (slice_get lib.structures i)

-- the whole records before a structure's elements
pub record Frame : Type 0 where
  pub header : List ℕ
  pub bgnlib : List ℕ
  pub libname : List ℕ
  pub units : List ℕ
  pub bgnstr : List ℕ
  pub strname : List ℕ

abbrev pub frame_of : Library → Structure → Frame
frame_of lib s = record {
  header = lib.header;
  bgnlib = lib.bgnlib;
  libname = lib.libname;
  units = lib.units;
  bgnstr = s.bgnstr;
  strname = s.strname;
}
