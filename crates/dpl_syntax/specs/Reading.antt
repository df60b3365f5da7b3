-- Reading the records of an element one by one, from an offset on, with the first fault that is met.
use Rattle.std.specs.Prelude.{◌≡◌, ℕ, ◌==◌, if◌then◌else◌, List, [], ◌∷◌, ◌++◌, length, Option, Some, None, Result, Ok, Err}
use Rattle.std.specs.Prelude.{nat_eq}
use Rattle.std.specs.List.{list_any}
use Rattle.std.specs.Cmp.Lexicographic.{pointwise}
use Rattle.dpl_spec_format.specs.Kinds as kinds
use Rattle.dpl_spec_format.specs.Faults.{Fault, unexpected, bad_size, bad_name, duplicate_structure}
use Rattle.dpl_spec_format.specs.Fields.{name_of}
use Rattle.dpl_spec_format.specs.Records.{Record, record_at}
use Rattle.dpl_spec_format.specs.Stream.{is_empty}
use Rattle.dpl_spec_format.specs.Tree.{Body, Trans, Finder, body_of, trans_of}
use Rattle.dpl_syntax.specs.declared.fault.SyntaxFault.{SyntaxFault}
use Rattle.dpl_syntax.specs.Outcome.{Refuses}

infixl 10 ◌>>=◌
abbrev pub ◌>>=◌ : {A B : Type 0} → Result A Fault → (A → Result B Fault) → Result B Fault
(Ok x) >>= f = f x
(Err e) >>= f = Err e

-- What was returned, seen by view, is what reading gives, unless memory ran out.
abbrev pub Answers : {X Y : Type 0} → (X → Y) → Result X SyntaxFault → Result Y Fault → Type 0
Answers view (Ok x) read = read ≡ Ok (view x)
Answers view (Err e) read = Refuses (λ f. read ≡ Err f) e

-- What is read, of which this holds, and where the next record is.
pub record IsRead {Y : Type 0} (read : Result (Y × ℕ) Fault) (Is : Y → Type 0) (next : ℕ) : Type 0 where
  pub from : Y
  pub found : read ≡ Ok (from, next)
  pub is : Is from

abbrev pub data_in : Record → List ℕ
data_in r = r.body

-- What an element has behind its first record, in order.
pub data Item : Type 0 where
  -- a record of this type
  must : ℕ → Item
  -- a record of this type, or none
  may : ℕ → Item
  -- STRANS with MAG and ANGLE behind it, each of which may be missing, or nothing
  transformed : Item
  -- SNAME with a name
  named : Item
  -- XY of this many bytes
  points : ℕ → Item

-- the records that were found, by type
abbrev pub Slots : Type 0
Slots = List (ℕ × Option Record)

abbrev pub or_else : Option Record → Option Record → Option Record
or_else None other = other
or_else (Some r) other = Some r

abbrev pub pick : Slots → Finder
pick [] kind = None
pick (s ∷ ss) kind = or_else (if s.0 == kind then s.1 else None) (pick ss kind)

-- a record or none, and where the next one is
abbrev pub kept : Option Record × ℕ → Result (Option Record × ℕ) Fault
kept x = Ok x

module _ (bytes : List ℕ) where
  abbrev pub take : ℕ → ℕ → Result (Record × ℕ) Fault
  take kind at = do
    r ← record_at bytes at
    if r.kind == kind then Ok (r, r.next) else Err (unexpected at)

  abbrev pub take_if : ℕ → ℕ → Result (Option Record × ℕ) Fault
  take_if kind at = do
    r ← record_at bytes at
    if r.kind == kind then kept (Some r, r.next) else kept (None, at)

  abbrev pub take_name : ℕ → Result (Record × ℕ) Fault
  take_name at = do
    r ← take kinds.sname at
    if is_empty (name_of r.0.body) then Err (bad_name r.0.at) else Ok r

  abbrev pub take_strname : List (List ℕ) → ℕ → Result (Record × ℕ) Fault
  take_strname known at = do
    r ← take kinds.strname at
    if is_empty (name_of r.0.body) then Err (bad_name r.0.at) else if list_any (pointwise nat_eq (name_of r.0.body)) known then Err (duplicate_structure r.0.at) else Ok r

  abbrev pub take_points : ℕ → ℕ → Result (Record × ℕ) Fault
  take_points len at = do
    r ← take kinds.xy at
    if length r.0.body == len then Ok r else Err (bad_size r.0.at)

  abbrev pub take_transformed : Option Record × ℕ → Result (Slots × ℕ) Fault
  take_transformed (None, at) = Ok ((kinds.strans, None) ∷ (kinds.mag, None) ∷ (kinds.angle, None) ∷ [], at)
  take_transformed (Some r, at) = do
    m ← take_if kinds.mag at
    g ← take_if kinds.angle m.1
    Ok ((kinds.strans, Some r) ∷ (kinds.mag, m.0) ∷ (kinds.angle, g.0) ∷ [], g.1)

  abbrev pub one_slot : ℕ → Result (Record × ℕ) Fault → Result (Slots × ℕ) Fault
  one_slot kind (Ok r) = Ok ((kind, Some r.0) ∷ [], r.1)
  one_slot kind (Err f) = Err f

  abbrev pub item_at : Item → ℕ → Result (Slots × ℕ) Fault
  item_at (must kind) at = one_slot kind (take kind at)
  item_at (may kind) at = do
    o ← take_if kind at
    Ok ((kind, o.0) ∷ [], o.1)
  item_at transformed at = do
    o ← take_if kinds.strans at
    take_transformed o
  item_at named at = one_slot kinds.sname (take_name at)
  item_at (points len) at = one_slot kinds.xy (take_points len at)

  unfoldable pub items_at : List Item → ℕ → Result (Slots × ℕ) Fault
  items_at [] at = Ok ([], at)
  items_at (i ∷ is) at = do
    first ← item_at i at
    others ← items_at is first.1
    Ok (first.0 ++ others.0, others.1)

-- what a transformation fills
abbrev pub trans_slots : Option Record → Option Record → Option Record → Slots
trans_slots strans mag angle = (kinds.strans, strans) ∷ (kinds.mag, mag) ∷ (kinds.angle, angle) ∷ []

-- a transformation or none, read from `at` up to `next`
pub record IsTransformed (bytes : List ℕ) (at : ℕ) (t : Option Trans) (next : ℕ) : Type 0 where
  pub strans : Option Record
  pub mag : Option Record
  pub angle : Option Record
  pub fills : item_at bytes transformed at ≡ Ok (trans_slots strans mag angle, next)
  pub is : t ≡ trans_of (pick (trans_slots strans mag angle))

-- ---- what each element has

abbrev pub boundary : List Item
boundary = must kinds.layer ∷ must kinds.datatype ∷ must kinds.xy ∷ []

abbrev pub path : List Item
path =
    must kinds.layer
    ∷ must kinds.datatype
    ∷ may kinds.pathtype
    ∷ may kinds.width
    ∷ may kinds.bgnextn
    ∷ may kinds.endextn
    ∷ must kinds.xy
    ∷ []

abbrev pub sref : List Item
sref = named ∷ transformed ∷ points 8 ∷ []

abbrev pub aref : List Item
aref = named ∷ transformed ∷ must kinds.colrow ∷ points 24 ∷ []

abbrev pub text : List Item
text =
    must kinds.layer
    ∷ must kinds.texttype
    ∷ may kinds.presentation
    ∷ may kinds.pathtype
    ∷ may kinds.width
    ∷ transformed
    ∷ points 8
    ∷ must kinds.text_string
    ∷ []

-- what a text has between its type and its point
abbrev pub style : List Item
style = may kinds.presentation ∷ may kinds.pathtype ∷ may kinds.width ∷ transformed ∷ []

pub record IsStyled (bytes : List ℕ) (at next : ℕ) : Type 0 where
  pub presentation : Option Record
  pub pathtype : Option Record
  pub width : Option Record
  pub strans : Option Record
  pub mag : Option Record
  pub angle : Option Record
  pub fills : items_at bytes style at ≡ Ok ((kinds.presentation, presentation) ∷ (kinds.pathtype, pathtype) ∷ (kinds.width, width) ∷ trans_slots strans mag angle, next)

abbrev pub node : List Item
node = must kinds.layer ∷ must kinds.nodetype ∷ must kinds.xy ∷ []

abbrev pub box : List Item
box = must kinds.layer ∷ must kinds.boxtype ∷ must kinds.xy ∷ []

-- what an element of this type has behind its flags
abbrev pub own_items_of : ℕ → List Item
own_items_of kind =
    if kind == kinds.boundary then boundary
    else if kind == kinds.path then path
    else if kind == kinds.sref then sref
    else if kind == kinds.aref then aref
    else if kind == kinds.text then text
    else if kind == kinds.node then node
    else box

-- every element may have flags before its own items
abbrev pub items_of : ℕ → List Item
items_of kind = may kinds.elflags ∷ may kinds.plex ∷ own_items_of kind

-- the body of an element of this type, from behind its first record on
abbrev pub body_at : List ℕ → ℕ → ℕ → Result (Body × ℕ) Fault
body_at bytes kind at = do
  found ← items_at bytes (items_of kind) at
  Ok (body_of kind (pick found.0), found.1)

-- where ELFLAGS and PLEX end
abbrev pub flags_end : List ℕ → ℕ → Result ℕ Fault
flags_end bytes at = do
  flags ← take_if bytes kinds.elflags at
  plex ← take_if bytes kinds.plex flags.1
  Ok plex.1

-- the body of an element of this type, from behind its flags on
abbrev pub body_behind_flags : List ℕ → ℕ → ℕ → Result (Body × ℕ) Fault
body_behind_flags bytes kind at = do
  found ← items_at bytes (own_items_of kind) at
  Ok (body_of kind (pick found.0), found.1)
