-- What a record that the grammar has is still refused for.
use Rattle.std.specs.Prelude.{ℕ, ◌*◌, Bool, false, not, nat_eq, ◌==◌, ◌&&◌, ◌||◌, if◌then◌else◌, List, [], ◌∷◌, map, filter, fold, length, Option, Some, None}
use Rattle.std.specs.List.{list_any}
use Rattle.std.specs.Cmp.Lexicographic.{pointwise}
use Rattle.dpl_spec_format.specs.Kinds as kinds
use Rattle.dpl_spec_format.specs.Faults.{Fault, bad_size, bad_name, duplicate_structure}
use Rattle.dpl_spec_format.specs.Fields.{name_of}
use Rattle.dpl_spec_format.specs.Records.{Record}

abbrev pub kinds_of : List Record → List ℕ
kinds_of rs = map (λ r. r.kind) rs

-- the type of the element that the last of these records belongs to
abbrev pub owner : List Record → ℕ
owner rs = fold (λ kind r. if kinds.begins_element r.kind then r.kind else kind) 0 rs

-- A reference has one point, a text too, and an array three. Other elements have one or more.
abbrev pub is_wrong_size : ℕ → ℕ → Bool
is_wrong_size kind len =
    if kind == kinds.sref then not (len == 8)
    else if kind == kinds.text then not (len == 8)
    else if kind == kinds.aref then not (len == 24)
    else false

-- the names of the structures that these records begin
abbrev pub names : List Record → List (List ℕ)
names rs = map (λ r. name_of r.body) (filter (λ r. r.kind == kinds.strname) rs)

abbrev pub is_empty : List ℕ → Bool
is_empty bytes = length bytes == 0

-- what a record of this type, at this offset and with these data, is refused for, if for anything: in an element of the
-- type `element`, where structures have the names `known`
unfoldable pub refusal_in : ℕ → List (List ℕ) → ℕ → ℕ → List ℕ → Option Fault
refusal_in element known kind at body =
    if (kind == kinds.xy) && is_wrong_size element (length body) then Some (bad_size at)
    else if ((kind == kinds.strname) || (kind == kinds.sname)) && is_empty (name_of body) then Some (bad_name at)
    else if (kind == kinds.strname) && list_any (pointwise nat_eq (name_of body)) known then Some (duplicate_structure at)
    else None

-- what a record behind these is refused for, if for anything
abbrev pub refusal : List Record → Record → Option Fault
refusal before r = refusal_in (owner before) (names before) r.kind r.at r.body
