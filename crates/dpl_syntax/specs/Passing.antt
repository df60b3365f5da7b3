-- What reading on from an offset finds.
use Rattle.std.specs.Prelude.{◌≡◌, ℕ, ◌<◌, ◌≤◌, length, Ok, Bool, true, false, ◌==◌, ◌||◌, ◌&&◌, not, List, [], ◌∷◌, ◌++◌, map}
use Rattle.dpl_spec_format.specs.Kinds as kinds
use Rattle.dpl_spec_format.specs.Faults.{Fault}
use Rattle.dpl_spec_format.specs.Records.{Record, record_at}
use Rattle.dpl_spec_format.specs.Grammar.{Grammar, Has, both, many, a, skip, element, structure}
use Rattle.dpl_spec_format.specs.Layout.{IsFirstFault}
use Rattle.dpl_spec_format.specs.Stream.{names}
use Rattle.dpl_spec_format.specs.Tree as tree
use Rattle.dpl_spec_format.specs.Tree.{parts, element_of, structure_of}
use Rattle.dpl_syntax.specs.Reached.{Reached}
use Rattle.dpl_syntax.specs.Inner.{AreInner}
use Rattle.dpl_syntax.specs.Reading.{take}

-- Wherever what is behind is of the grammar `from`, it is of the grammar `to` at `next`, behind records that are so.
abbrev pub Passes : List ℕ → (Grammar → Grammar) → (Grammar → Grammar) → (List Record → Type 0) → ℕ → ℕ → Type 0
Passes bytes from to Are at next =
    (before : List Record) (rest : Grammar) → Reached bytes before (from rest) at → (rs : List Record) × Are rs × Reached bytes (before ++ rs) (to rest) next

-- Wherever what is behind is of the grammar `from`, this is the first fault.
abbrev pub Fails : List ℕ → (Grammar → Grammar) → ℕ → Fault → Type 0
Fails bytes from at f = (before : List Record) (rest : Grammar) → Reached bytes before (from rest) at → IsFirstFault bytes f

abbrev pub same : Grammar → Grammar
same rest = rest

-- ---- the end of an element

abbrev pub is_property : ℕ → Bool
is_property k = (k == kinds.propattr) || (k == kinds.propvalue)

abbrev pub AreProperties : List Record → Type 0
AreProperties [] = Unit {0}
AreProperties (r ∷ rs) = (is_property r.kind ≡ true) × AreProperties rs

abbrev pub properties : Grammar
properties = many (both (a kinds.propattr) (a kinds.propvalue))

abbrev pub properties_end : Grammar → Grammar
properties_end rest = both (both properties (a kinds.endel)) rest

-- the same, in the order of reading
abbrev pub property_first : Grammar → Grammar
property_first rest = both properties (both (a kinds.endel) rest)

abbrev pub endel_first : Grammar → Grammar
endel_first rest = both (a kinds.endel) rest

-- properties, and ENDEL
pub record IsEnd (rs : List Record) : Type 0 where
  pub properties : List Record
  pub endel : Record
  pub split : rs ≡ properties ++ endel ∷ []
  pub are : AreProperties properties
  pub is : endel.kind ≡ kinds.endel

-- ---- elements

abbrev pub element_then : Grammar → Grammar
element_then rest = both element rest

-- the records of one element
pub record IsElement (e : tree.Element) (rs : List Record) : Type 0 where
  pub first : Record
  pub inner : List Record
  pub endel : Record
  pub split : rs ≡ first ∷ (inner ++ endel ∷ [])
  pub begins : kinds.begins_element first.kind ≡ true
  pub are : AreInner inner
  pub ends : endel.kind ≡ kinds.endel
  pub is : e ≡ element_of (first, inner)

-- the next record, which begins an element
pub record IsNextElement (bytes : List ℕ) (at : ℕ) (r : Record) : Type 0 where
  pub found : record_at bytes at ≡ Ok r
  pub after : at < r.next
  pub within : r.next ≤ length bytes
  pub begins : kinds.begins_element r.kind ≡ true

-- the next record begins none
abbrev pub IsNoElement : List ℕ → ℕ → Type 0
IsNoElement bytes at = (r : Record) × (record_at bytes at ≡ Ok r) × (kinds.begins_element r.kind ≡ false)

-- an element is the next, and reading has come behind it
pub record IsTakenElement (bytes : List ℕ) (at : ℕ) (e : tree.Element) (next : ℕ) : Type 0 where
  pub first : Record
  pub is_next : IsNextElement bytes at first
  pub passes : Passes bytes element_then same (IsElement e) at next

abbrev pub endstr_first : Grammar → Grammar
endstr_first rest = both (a kinds.endstr) rest

abbrev pub elements_first : Grammar → Grammar
elements_first rest = both (many element) (endstr_first rest)

abbrev pub class_first : Grammar → Grammar
class_first rest = both (many (a kinds.structure_class)) (elements_first rest)

-- types that stand within a structure, behind its name
abbrev pub is_calm : ℕ → Bool
is_calm k = not (k == kinds.bgnstr) && (not (k == kinds.endstr) && (not (k == kinds.strname) && not (k == kinds.endlib)))

abbrev pub AreCalm : List Record → Type 0
AreCalm [] = Unit {0}
AreCalm (r ∷ rs) = (is_calm r.kind ≡ true) × AreCalm rs

-- the records of these elements, whatever follows, and nothing that begins or ends a structure
pub record AreElements (es : List tree.Element) (rs : List Record) : Type 0 where
  pub each : List (Record × List Record)
  pub split : (more : List Record) → parts kinds.begins_element kinds.endel (rs ++ more) ≡ each ++ parts kinds.begins_element kinds.endel more
  pub are : map element_of each ≡ es
  pub calm : AreCalm rs

-- These elements are what is left of a structure behind its name, up to its ENDSTR, behind which reading has come.
pub record AreTakenElements (bytes : List ℕ) (es : List tree.Element) (at next : ℕ) : Type 0 where
  pub first : ℕ
  pub end : ℕ
  pub endstr : Record
  pub classes : Passes bytes class_first elements_first (AreElements []) at first
  pub elements : Passes bytes elements_first endstr_first (AreElements es) first end
  pub ends : take bytes kinds.endstr end ≡ Ok (endstr, next)

-- ---- structures

-- The same, where the structures so far have these names.
abbrev pub PassesNamed : List ℕ → List (List ℕ) → (Grammar → Grammar) → (Grammar → Grammar) → (List Record → Type 0) → ℕ → ℕ → Type 0
PassesNamed bytes known from to Are at next =
    (before : List Record) (rest : Grammar) → names before ≡ known → Reached bytes before (from rest) at → (rs : List Record) × Are rs × Reached bytes (before ++ rs) (to rest) next

abbrev pub FailsNamed : List ℕ → List (List ℕ) → (Grammar → Grammar) → ℕ → Fault → Type 0
FailsNamed bytes known from at f = (before : List Record) (rest : Grammar) → names before ≡ known → Reached bytes before (from rest) at → IsFirstFault bytes f

abbrev pub structure_then : Grammar → Grammar
structure_then rest = both structure rest

-- what is left of a library behind its head, and behind its structures
abbrev pub structures_first : Grammar → Grammar
structures_first rest = both (many structure) (a kinds.endlib)

abbrev pub endlib_first : Grammar → Grammar
endlib_first rest = a kinds.endlib

abbrev pub split_structures : List Record → List (Record × List Record)
split_structures rs = parts (λ k. k == kinds.bgnstr) kinds.endstr rs

-- the next record is of this type
pub record IsNext (bytes : List ℕ) (at kind : ℕ) (r : Record) : Type 0 where
  pub found : record_at bytes at ≡ Ok r
  pub at_is : r.at ≡ at
  pub after : at < r.next
  pub within : r.next ≤ length bytes
  pub is : r.kind ≡ kind

-- the next record is of another
abbrev pub IsOther : List ℕ → ℕ → ℕ → Type 0
IsOther bytes at kind = (r : Record) × (record_at bytes at ≡ Ok r) × (r.kind == kind ≡ false)

-- the records of one structure, whatever follows
pub record IsStructure (bytes : List ℕ) (s : tree.Structure) (rs : List Record) : Type 0 where
  pub each : Record × List Record
  pub split : (more : List Record) → split_structures (rs ++ more) ≡ each ∷ split_structures more
  pub is : structure_of bytes each ≡ s
  pub named : names rs ≡ s.name ∷ []

pub record AreStructures (bytes : List ℕ) (ss : List tree.Structure) (rs : List Record) : Type 0 where
  pub each : List (Record × List Record)
  pub split : (more : List Record) → split_structures (rs ++ more) ≡ each ++ split_structures more
  pub are : map (structure_of bytes) each ≡ ss
  pub named : names rs ≡ map (λ (s : tree.Structure). s.name) ss

-- These structures are what is left of a library behind its head, up to its ENDLIB.
pub record AreTakenStructures (bytes : List ℕ) (ss : List tree.Structure) (at : ℕ) : Type 0 where
  pub end : ℕ
  pub endlib : Record × ℕ
  pub structures : PassesNamed bytes [] structures_first endlib_first (AreStructures bytes ss) at end
  pub ends : take bytes kinds.endlib end ≡ Ok endlib

-- ---- the head of a library

-- nothing in this grammar begins with a record that is passed over
abbrev pub SkipsNone : Grammar → Type 0
SkipsNone rest = (k : ℕ) → kinds.is_skipped k ≡ true → (ks : List ℕ) → Has rest (k ∷ ks) → ⊥

abbrev pub AreSkipped : List Record → Type 0
AreSkipped [] = Unit {0}
AreSkipped (r ∷ rs) = (kinds.is_skipped r.kind ≡ true) × AreSkipped rs

abbrev pub skips_then : Grammar → Grammar
skips_then rest = both (many skip) rest

abbrev pub PassesSkips : List ℕ → (Grammar → Grammar) → ℕ → ℕ → Type 0
PassesSkips bytes to at next =
    (before : List Record) (rest : Grammar) → SkipsNone rest → Reached bytes before (skips_then rest) at
    → (rs : List Record) × AreSkipped rs × Reached bytes (before ++ rs) (to rest) next

abbrev pub FailsSkips : List ℕ → (Grammar → Grammar) → ℕ → Fault → Type 0
FailsSkips bytes from at f = (before : List Record) (rest : Grammar) → SkipsNone rest → Reached bytes before (from rest) at → IsFirstFault bytes f

-- a record of a type, and the records that are passed over behind it
abbrev pub part_then : ℕ → Grammar → Grammar
part_then kind rest = both (a kind) (skips_then rest)

pub record IsPart (kind : ℕ) (r : Record) (rs : List Record) : Type 0 where
  pub skipped : List Record
  pub split : rs ≡ r ∷ skipped
  pub is : r.kind ≡ kind
  pub are : AreSkipped skipped

abbrev pub PassesPart : List ℕ → ℕ → Record → ℕ → ℕ → Type 0
PassesPart bytes kind r at next =
    (before : List Record) (rest : Grammar) → SkipsNone rest → Reached bytes before (part_then kind rest) at
    → (rs : List Record) × IsPart kind r rs × Reached bytes (before ++ rs) rest next

-- these are the bytes of a record of a type, behind which reading has come
pub record IsTakenWhole (bytes : List ℕ) (kind : ℕ) (whole : List ℕ) (at next : ℕ) : Type 0 where
  pub first : Record
  pub is : whole ≡ tree.whole bytes first
  pub found : take bytes kind at ≡ Ok (first, next)

-- the same, where those that are passed over behind it are read too
pub record IsTakenPart (bytes : List ℕ) (kind : ℕ) (part : List ℕ) (at next : ℕ) : Type 0 where
  pub first : Record
  pub is : part ≡ tree.whole bytes first
  pub passes : PassesPart bytes kind first at next

-- the types of the records in a library's head
abbrev pub is_part : ℕ → Bool
is_part k = (k == kinds.bgnlib) || ((k == kinds.libname) || (k == kinds.units))

-- the next record is one that is passed over
pub record IsNextSkipped (bytes : List ℕ) (at : ℕ) (r : Record) : Type 0 where
  pub found : record_at bytes at ≡ Ok r
  pub after : at < r.next
  pub within : r.next ≤ length bytes
  pub is : kinds.is_skipped r.kind ≡ true

abbrev pub IsNoneSkipped : List ℕ → ℕ → Type 0
IsNoneSkipped bytes at = (r : Record) × (record_at bytes at ≡ Ok r) × (kinds.is_skipped r.kind ≡ false)
