-- What the data of each type of record is: its data type, and how many bytes it has.
use Rattle.std.specs.Prelude.{ℕ, ◌%◌, Bool, true, IsTrue, nat_le, ◌==◌, ◌&&◌, List, [], ◌∷◌, slice_get, Option, Some, None}

pub data Size : Type 0 where
  -- this many bytes
  exactly : ℕ → Size
  -- any number of bytes
  any : Size
  -- one point or more, of eight bytes each
  points : Size

pub record Form : Type 0 where
  -- 0 none, 1 bit array, 2 two-byte integers, 3 four-byte integers, 5 eight-byte reals, 6 text; None: not checked
  pub data_type : Option ℕ
  pub size : Size

abbrev pub of : ℕ → Size → Option Form
of t size = Some (record { data_type = Some t; size = size })

abbrev pub unchecked : Option Form
unchecked = Some (record { data_type = None; size = any })

-- by type, from 0x00 on; None is no type of record
unfoldable pub table : List (Option Form)
table =
    of 2 (exactly 2)  -- HEADER, type 0x00
    ∷ of 2 (exactly 24)  -- BGNLIB, type 0x01
    ∷ of 6 any  -- LIBNAME, type 0x02
    ∷ of 5 (exactly 16)  -- UNITS, type 0x03
    ∷ of 0 (exactly 0)  -- ENDLIB, type 0x04
    ∷ of 2 (exactly 24)  -- BGNSTR, type 0x05
    ∷ of 6 any  -- STRNAME, type 0x06
    ∷ of 0 (exactly 0)  -- ENDSTR, type 0x07
    ∷ of 0 (exactly 0)  -- BOUNDARY, type 0x08
    ∷ of 0 (exactly 0)  -- PATH, type 0x09
    ∷ of 0 (exactly 0)  -- SREF, type 0x0A
    ∷ of 0 (exactly 0)  -- AREF, type 0x0B
    ∷ of 0 (exactly 0)  -- TEXT, type 0x0C
    ∷ of 2 (exactly 2)  -- LAYER, type 0x0D
    ∷ of 2 (exactly 2)  -- DATATYPE, type 0x0E
    ∷ of 3 (exactly 4)  -- WIDTH, type 0x0F
    ∷ of 3 points  -- XY, type 0x10
    ∷ of 0 (exactly 0)  -- ENDEL, type 0x11
    ∷ of 6 any  -- SNAME, type 0x12
    ∷ of 2 (exactly 4)  -- COLROW, type 0x13
    ∷ None  -- type 0x14
    ∷ of 0 (exactly 0)  -- NODE, type 0x15
    ∷ of 2 (exactly 2)  -- TEXTTYPE, type 0x16
    ∷ of 1 (exactly 2)  -- PRESENTATION, type 0x17
    ∷ None  -- type 0x18
    ∷ of 6 any  -- STRING, type 0x19
    ∷ of 1 (exactly 2)  -- STRANS, type 0x1A
    ∷ of 5 (exactly 8)  -- MAG, type 0x1B
    ∷ of 5 (exactly 8)  -- ANGLE, type 0x1C
    ∷ None  -- type 0x1D
    ∷ None  -- type 0x1E
    ∷ unchecked  -- REFLIBS, type 0x1F
    ∷ unchecked  -- FONTS, type 0x20
    ∷ of 2 (exactly 2)  -- PATHTYPE, type 0x21
    ∷ unchecked  -- GENERATIONS, type 0x22
    ∷ unchecked  -- ATTRTABLE, type 0x23
    ∷ None  -- type 0x24
    ∷ None  -- type 0x25
    ∷ of 1 (exactly 2)  -- ELFLAGS, type 0x26
    ∷ None  -- type 0x27
    ∷ None  -- type 0x28
    ∷ None  -- type 0x29
    ∷ of 2 (exactly 2)  -- NODETYPE, type 0x2A
    ∷ of 2 (exactly 2)  -- PROPATTR, type 0x2B
    ∷ of 6 any  -- PROPVALUE, type 0x2C
    ∷ of 0 (exactly 0)  -- BOX, type 0x2D
    ∷ of 2 (exactly 2)  -- BOXTYPE, type 0x2E
    ∷ of 3 (exactly 4)  -- PLEX, type 0x2F
    ∷ of 3 (exactly 4)  -- BGNEXTN, type 0x30
    ∷ of 3 (exactly 4)  -- ENDEXTN, type 0x31
    ∷ unchecked  -- passed over, type 0x32
    ∷ unchecked  -- passed over, type 0x33
    ∷ unchecked  -- passed over, type 0x34
    ∷ unchecked  -- passed over, type 0x35
    ∷ unchecked  -- passed over, type 0x36
    ∷ unchecked  -- passed over, type 0x37
    ∷ unchecked  -- passed over, type 0x38
    ∷ unchecked  -- passed over, type 0x39
    ∷ unchecked  -- passed over, type 0x3A
    ∷ unchecked  -- passed over, type 0x3B
    ∷ []

abbrev pub row_or_none : Option (Option Form) → Option Form
row_or_none None = None
row_or_none (Some row) = row

unfoldable pub form_of : ℕ → Option Form
form_of kind = row_or_none (slice_get table kind)

abbrev pub type_fits : Option ℕ → ℕ → Bool
type_fits None t = true
type_fits (Some wanted) t = t == wanted

abbrev pub size_fits : Size → ℕ → Bool
size_fits (exactly n) len = len == n
size_fits any len = true
size_fits points len = nat_le 8 len && (len % 8 == 0)

abbrev pub IsSizeIn : Option Form → ℕ → Type 0
IsSizeIn None len = ⊥
IsSizeIn (Some form) len = IsTrue (size_fits form.size len)

-- a record of this type may have this many bytes of data
abbrev pub IsSizeOf : ℕ → ℕ → Type 0
IsSizeOf kind len = IsSizeIn (form_of kind) len
