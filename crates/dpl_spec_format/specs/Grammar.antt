-- Which lists of types of records make a library.
use Rattle.std.specs.Prelude.{◌≡◌, ℕ, Bool, IsTrue, ◌==◌, ◌⊎◌, List, [], ◌∷◌, ◌++◌}
use Rattle.std.specs.List.{flat_map, AllByRecursion}
use Rattle.dpl_spec_format.specs.Kinds as kinds

pub data Grammar : Type 0 where
  -- one record whose type passes the test
  one : (ℕ → Bool) → Grammar
  -- the first, then the second
  both : Grammar → Grammar → Grammar
  -- the first or the second
  either : Grammar → Grammar → Grammar
  maybe : Grammar → Grammar
  -- any number of times, one behind the other
  many : Grammar → Grammar

infixr 6 ◌⨾◌
abbrev pub ◌⨾◌ : Grammar → Grammar → Grammar
g ⨾ h = both g h

infixr 5 ◌∣◌
abbrev pub ◌∣◌ : Grammar → Grammar → Grammar
g ∣ h = either g h

-- the lists of types that a grammar has
abbrev pub Has : Grammar → List ℕ → Type 0
Has (one test) ks = (k : ℕ) × (ks ≡ k ∷ []) × IsTrue (test k)
Has (both g h) ks = (front rest : List ℕ) × (ks ≡ front ++ rest) × Has g front × Has h rest
Has (either g h) ks = Has g ks ⊎ Has h ks
Has (maybe g) ks = (ks ≡ []) ⊎ Has g ks
Has (many g) ks = (parts : List (List ℕ)) × (ks ≡ flat_map (λ part. part) parts) × AllByRecursion (Has g) parts

-- some list of the grammar begins with these types
abbrev pub Begins : Grammar → List ℕ → Type 0
Begins g ks = (more : List ℕ) × Has g (ks ++ more)

-- one record of this type
abbrev pub a : ℕ → Grammar
a kind = one (λ k. k == kind)

abbrev pub skip : Grammar
skip = one kinds.is_skipped

abbrev pub strans : Grammar
strans = a kinds.strans ⨾ maybe (a kinds.mag) ⨾ maybe (a kinds.angle)

-- what each element has behind its first record
abbrev pub flags : Grammar → Grammar
flags rest = maybe (a kinds.elflags) ⨾ maybe (a kinds.plex) ⨾ rest

abbrev pub boundary : Grammar
boundary = a kinds.boundary ⨾ flags (a kinds.layer ⨾ a kinds.datatype ⨾ a kinds.xy)

abbrev pub path : Grammar
path =
    a kinds.path
    ⨾ flags
    (a kinds.layer
    ⨾ a kinds.datatype
    ⨾ maybe (a kinds.pathtype)
    ⨾ maybe (a kinds.width)
    ⨾ maybe (a kinds.bgnextn)
    ⨾ maybe (a kinds.endextn)
    ⨾ a kinds.xy)

abbrev pub sref : Grammar
sref = a kinds.sref ⨾ flags (a kinds.sname ⨾ maybe strans ⨾ a kinds.xy)

abbrev pub aref : Grammar
aref = a kinds.aref ⨾ flags (a kinds.sname ⨾ maybe strans ⨾ a kinds.colrow ⨾ a kinds.xy)

abbrev pub text : Grammar
text =
    a kinds.text
    ⨾ flags
    (a kinds.layer
    ⨾ a kinds.texttype
    ⨾ maybe (a kinds.presentation)
    ⨾ maybe (a kinds.pathtype)
    ⨾ maybe (a kinds.width)
    ⨾ maybe strans
    ⨾ a kinds.xy
    ⨾ a kinds.text_string)

abbrev pub node : Grammar
node = a kinds.node ⨾ flags (a kinds.layer ⨾ a kinds.nodetype ⨾ a kinds.xy)

abbrev pub box : Grammar
box = a kinds.box ⨾ flags (a kinds.layer ⨾ a kinds.boxtype ⨾ a kinds.xy)

abbrev pub element : Grammar
element =
    (boundary ∣ path ∣ sref ∣ aref ∣ text ∣ node ∣ box)
    ⨾ many (a kinds.propattr ⨾ a kinds.propvalue)
    ⨾ a kinds.endel

abbrev pub structure : Grammar
structure =
    a kinds.bgnstr
    ⨾ a kinds.strname
    ⨾ many (a kinds.structure_class)
    ⨾ many element
    ⨾ a kinds.endstr

abbrev pub library : Grammar
library =
    a kinds.header
    ⨾ a kinds.bgnlib
    ⨾ many skip
    ⨾ a kinds.libname
    ⨾ many skip
    ⨾ a kinds.units
    ⨾ many skip
    ⨾ many structure
    ⨾ a kinds.endlib
