-- The types of records, by name.
use Rattle.std.specs.Prelude.{ℕ, Bool, nat_le, ◌==◌, ◌&&◌, ◌||◌}

abbrev pub header : ℕ
header = 0x00

abbrev pub bgnlib : ℕ
bgnlib = 0x01

abbrev pub libname : ℕ
libname = 0x02

abbrev pub units : ℕ
units = 0x03

abbrev pub endlib : ℕ
endlib = 0x04

abbrev pub bgnstr : ℕ
bgnstr = 0x05

abbrev pub strname : ℕ
strname = 0x06

abbrev pub endstr : ℕ
endstr = 0x07

abbrev pub boundary : ℕ
boundary = 0x08

abbrev pub path : ℕ
path = 0x09

abbrev pub sref : ℕ
sref = 0x0A

abbrev pub aref : ℕ
aref = 0x0B

abbrev pub text : ℕ
text = 0x0C

abbrev pub layer : ℕ
layer = 0x0D

abbrev pub datatype : ℕ
datatype = 0x0E

abbrev pub width : ℕ
width = 0x0F

abbrev pub xy : ℕ
xy = 0x10

abbrev pub endel : ℕ
endel = 0x11

abbrev pub sname : ℕ
sname = 0x12

abbrev pub colrow : ℕ
colrow = 0x13

abbrev pub node : ℕ
node = 0x15

abbrev pub texttype : ℕ
texttype = 0x16

abbrev pub presentation : ℕ
presentation = 0x17

abbrev pub text_string : ℕ
text_string = 0x19

abbrev pub strans : ℕ
strans = 0x1A

abbrev pub mag : ℕ
mag = 0x1B

abbrev pub angle : ℕ
angle = 0x1C

abbrev pub reflibs : ℕ
reflibs = 0x1F

abbrev pub fonts : ℕ
fonts = 0x20

abbrev pub pathtype : ℕ
pathtype = 0x21

abbrev pub generations : ℕ
generations = 0x22

abbrev pub attrtable : ℕ
attrtable = 0x23

abbrev pub elflags : ℕ
elflags = 0x26

abbrev pub nodetype : ℕ
nodetype = 0x2A

abbrev pub propattr : ℕ
propattr = 0x2B

abbrev pub propvalue : ℕ
propvalue = 0x2C

abbrev pub box : ℕ
box = 0x2D

abbrev pub boxtype : ℕ
boxtype = 0x2E

abbrev pub plex : ℕ
plex = 0x2F

abbrev pub bgnextn : ℕ
bgnextn = 0x30

abbrev pub endextn : ℕ
endextn = 0x31

-- the types that are passed over between BGNLIB and the first structure
abbrev pub is_skipped : ℕ → Bool
is_skipped k = (k == reflibs) || (k == fonts) || (k == generations) || (k == attrtable) || (nat_le 0x32 k && nat_le k 0x3B)

-- the type that is passed over between STRNAME and the first element
abbrev pub structure_class : ℕ
structure_class = 0x34

-- the types that begin an element
abbrev pub begins_element : ℕ → Bool
begins_element k = (k == boundary) || (k == path) || (k == sref) || (k == aref) || (k == text) || (k == node) || (k == box)
