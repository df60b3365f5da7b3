-- In the library of a file no two elements stand at one offset.
use Rattle.std.proofs.Common.{◌≡◌, ℕ, ◌+◌, ◌-◌, ◌<◌, ◌≤◌, ◌⊎◌, inl, inr, Bool, true, false, ◌||◌, List, [], ◌∷◌, map, length, Option, Some}
use Rattle.std.proofs.Common.{None, Result, Ok, Err, sym, refl, ap, ◌∙◌, subst, arith}
use Rattle.std.specs.Prelude.{nat_lt, ◌%◌, ◌==◌, not, slice_get, slice_index, slice_range, if◌then◌else◌}
use Rattle.std.specs.List.{Contains}
use Rattle.std.proofs.lemmas.Bool.{ltb-false}
use Rattle.std.proofs.lemmas.Option.{slice_get_within, get_or_from_slice_get}
use Rattle.dpl_spec_split.proofs.Ordered.{Contains-cases, Contains-head, Contains-later, Contains-nil}
use Rattle.dpl_spec_format.specs.Kinds as kinds
use Rattle.dpl_spec_format.specs.Fields.{u16_at}
use Rattle.dpl_spec_format.specs.Table.{Form, form_of, type_fits, size_fits}
use Rattle.dpl_spec_format.specs.Faults.{Fault, truncated, bad_length, bad_data_type, bad_size}
use Rattle.dpl_spec_format.specs.Records.{Record, record_at, checked, Lies}
use Rattle.dpl_spec_format.specs.Tree.{Library, Structure, Element, before, parts, element_of, elements_of, structure_of, library_of, elements_at, elements_or_none}
use Rattle.dpl_spec_format.specs.Layout.{Holds}

-- ---- where a record lies

pub if_ok : (b : Bool) (f : Fault) (y : Result Record Fault) (r : Record) → (if b then Err f else y) ≡ Ok r → (b ≡ false) × (y ≡ Ok r)
if_ok true f y r e = absurd cc
if_ok false f y r e = (refl, e)

pub not_first : (b c : Bool) → b || c ≡ false → b ≡ false
not_first true c e = e
not_first false c e = refl

pub checked-place : (bytes : List ℕ) (at len : ℕ) (form : Option Form) (r : Record) → checked bytes at len form ≡ Ok r → (r.at ≡ at) × (r.next ≡ at + len)
checked-place bytes at len None r e = absurd cc
checked-place bytes at len (Some form) r e =
    let made : Record = record { at = at; next = at + len; kind = slice_index bytes (at + 2); body = slice_range bytes (at + 4) (at + len) } in
    let (a, rest) = if_ok (not (type_fits form.data_type (slice_index bytes (at + 3)))) (bad_data_type at)
    (if not (size_fits form.size (len - 4)) then Err (bad_size at) else Ok made) r e in
    let (b, is) = if_ok (not (size_fits form.size (len - 4))) (bad_size at) (Ok made) r rest in
    let same : made ≡ r = cc in
    (ap (λ x. let y : Record = x in y.at) (sym same), ap (λ x. let y : Record = x in y.next) (sym same))

pub record-place : (bytes : List ℕ) (at : ℕ) (r : Record) → record_at bytes at ≡ Ok r → (r.at ≡ at) × (at < r.next)
unfolding record_at
record-place bytes at r e =
    let len = u16_at bytes at in
    let rest = checked bytes at len (form_of (slice_index bytes (at + 2))) in
    let (a, e1) = if_ok (nat_lt (length bytes - at) 4) (truncated at)
    (if nat_lt len 4 || (len % 2 == 1) then Err (bad_length at) else if nat_lt (length bytes - at) len then Err (truncated at) else rest) r e in
    let (b, e2) = if_ok (nat_lt len 4 || (len % 2 == 1)) (bad_length at) (if nat_lt (length bytes - at) len then Err (truncated at) else rest) r e1 in
    let (c, e3) = if_ok (nat_lt (length bytes - at) len) (truncated at) rest r e2 in
    let long : 4 ≤ len = ltb-false len 4 (not_first (nat_lt len 4) (len % 2 == 1) b) in
    let (place, next) = checked-place bytes at len (form_of (slice_index bytes (at + 2))) r e3 in
    (place, omega (arith, long, next))

-- ---- records of a list with those behind them

abbrev pub IsTail : List Record → Record → List Record → Type 0
IsTail [] r rest = ⊥
IsTail (x ∷ xs) r rest = ((x ≡ r) × (xs ≡ rest)) ⊎ IsTail xs r rest

tail-after : (bytes : List ℕ) (from to : ℕ) (rs : List Record) (r : Record) (rest : List Record) → Lies bytes from rs to → IsTail rs r rest → from ≤ r.at
tail-after bytes from to [] r rest lies t = absurd t
tail-after bytes from to (x ∷ xs) r rest lies (inl (same, more)) =
    let (place, next) = record-place bytes from x lies.0 in
    let there : x.at ≡ r.at = ap (λ y. let z : Record = y in z.at) same in
    omega (arith, place, there)
tail-after bytes from to (x ∷ xs) r rest lies (inr t) =
    let (place, next) = record-place bytes from x lies.0 in
    let later = tail-after bytes x.next to xs r rest lies.1 t in
    omega (arith, next, later)

-- records of one offset are one, and so is what lies behind
pub tail-same : (bytes : List ℕ) (from to : ℕ) (rs : List Record) (r s : Record) (rest more : List Record) → Lies bytes from rs to
    → IsTail rs r rest → IsTail rs s more → r.at ≡ s.at → (r ≡ s) × (rest ≡ more)
tail-same bytes from to [] r s rest more lies t u e = absurd t
tail-same bytes from to (x ∷ xs) r s rest more lies (inl (a, b)) (inl (c, d)) e = (sym a ∙ c, sym b ∙ d)
tail-same bytes from to (x ∷ xs) r s rest more lies (inl (a, b)) (inr u) e =
    let (place, next) = record-place bytes from x lies.0 in
    let later = tail-after bytes x.next to xs s more lies.1 u in
    let there : x.at ≡ r.at = ap (λ y. let z : Record = y in z.at) a in
    absurd (omega (arith, place, next, later, there, e))
tail-same bytes from to (x ∷ xs) r s rest more lies (inr t) (inl (c, d)) e =
    let (place, next) = record-place bytes from x lies.0 in
    let later = tail-after bytes x.next to xs r rest lies.1 t in
    let there : x.at ≡ s.at = ap (λ y. let z : Record = y in z.at) c in
    absurd (omega (arith, place, next, later, there, e))
tail-same bytes from to (x ∷ xs) r s rest more lies (inr t) (inr u) e = tail-same bytes x.next to xs r s rest more lies.1 t u e

tail-in : (rs : List Record) (r : Record) (rest : List Record) (s : Record) (more : List Record) → IsTail rs r rest → IsTail rest s more → IsTail rs s more
tail-in [] r rest s more t u = absurd t
tail-in (x ∷ xs) r rest s more (inl (a, b)) u = inr (subst (λ zs. IsTail zs s more) (sym b) u)
tail-in (x ∷ xs) r rest s more (inr t) u = inr (tail-in xs r rest s more t u)

-- ---- parts

before-step : (kind : ℕ) (x : Record) (xs : List Record) (r : Record) (rest : List Record) (b : Bool)
    → (IsTail (before kind xs) r rest → (more : List Record) × IsTail xs r more × (rest ≡ before kind more))
    → IsTail (if b then [] else x ∷ before kind xs) r rest → (more : List Record) × IsTail (x ∷ xs) r more × (rest ≡ before kind more)
before-step kind x xs r rest true later t = absurd t
before-step kind x xs r rest false later (inl (a, b)) = (xs, inl (a, refl), sym b)
before-step kind x xs r rest false later (inr t) = let (more, u, e) = later t in (more, inr u, e)

before-tail : (kind : ℕ) (rs : List Record) (r : Record) (rest : List Record) → IsTail (before kind rs) r rest → (more : List Record) × IsTail rs r more × (rest ≡ before kind more)
before-tail kind [] r rest t = absurd t
before-tail kind (x ∷ xs) r rest t = before-step kind x xs r rest (x.kind == kind) (before-tail kind xs r rest) t

part-step : (begins : ℕ → Bool) (end : ℕ) (x : Record) (xs : List Record) (p : Record × List Record) (b : Bool)
    → (Contains (parts begins end xs) p → (rest : List Record) × IsTail xs p.0 rest × (p.1 ≡ before end rest))
    → Contains (if b then (x, before end xs) ∷ parts begins end xs else parts begins end xs) p → (rest : List Record) × IsTail (x ∷ xs) p.0 rest × (p.1 ≡ before end rest)
part-step begins end x xs p false later h = let (rest, t, e) = later h in (rest, inr t, e)
part-step begins end x xs p true later h = elim (Contains-cases (x, before end xs) p (parts begins end xs) h) [
  | inl same ↦ (xs, inl (ap (λ q. let pair : Record × List Record = q in pair.0) same, refl), sym (ap (λ q. let pair : Record × List Record = q in pair.1) same))
  | inr more ↦ (let (rest, t, e) = later more in (rest, inr t, e))
]

part-tail : (begins : ℕ → Bool) (end : ℕ) (rs : List Record) (p : Record × List Record) → Contains (parts begins end rs) p
    → (rest : List Record) × IsTail rs p.0 rest × (p.1 ≡ before end rest)
unfolding parts
part-tail begins end [] p h = absurd (Contains-nil p h)
part-tail begins end (x ∷ xs) p h = part-step begins end x xs p (begins x.kind) (part-tail begins end xs p) h

contains-mapped : {X Y : Type 0} (f : X → Y) (xs : List X) (y : Y) → Contains (map f xs) y → (x : X) × Contains xs x × (y ≡ f x)
contains-mapped f [] y h = absurd (Contains-nil y h)
contains-mapped f (x ∷ xs) y h = elim (Contains-cases (f x) y (map f xs) h) [
  | inl same ↦ (x, Contains-head x xs, sym same)
  | inr later ↦ (let (w, w_in, e) = contains-mapped f xs y later in (w, Contains-later x w xs w_in, e))
]

-- ---- elements

-- an element is made of a record of the file and of what lies behind it
IsMade : List Record → Element → Type 0
IsMade rs e = (r : Record) × (rest : List Record) × IsTail rs r rest × (e ≡ element_of (r, before kinds.endel (before kinds.endstr rest)))

element-in : (rs : List Record) (e : Element) → Contains (elements_of rs) e → (r : Record) × (rest : List Record) × IsTail rs r rest × (e ≡ element_of (r, before kinds.endel rest))
element-in rs e h =
    let (p, p_in, is) = contains-mapped element_of (parts kinds.begins_element kinds.endel rs) e h in
    let (rest, t, tail_is) = part-tail kinds.begins_element kinds.endel rs p p_in in
    (p.0, rest, t, is ∙ ap (λ q. element_of (p.0, q)) tail_is)

structure-of : (structures : List Structure) (k : ℕ) (e : Element) (o : Option Structure) → slice_get structures k ≡ o
    → Contains (elements_or_none o) e → (s : Structure) × Contains structures s × Contains s.elements e
structure-of structures k e None is h = absurd (Contains-nil e h)
structure-of structures k e (Some s) is h = (s, (k, slice_get_within structures k s is, get_or_from_slice_get structures k s s is), h)

element-made : (bytes : List ℕ) (rs : List Record) (k : ℕ) (e : Element) → Contains (elements_at (library_of bytes rs) k) e → IsMade rs e
unfolding IsMade
element-made bytes rs k e h =
    let structures = (library_of bytes rs).structures in
    let (s, s_in, in_s) = structure-of structures k e (slice_get structures k) refl h in
    let (p, p_in, s_is) = contains-mapped (structure_of bytes) (parts (λ j. j == kinds.bgnstr) kinds.endstr rs) s s_in in
    let (behind, t, p_is) = part-tail (λ j. j == kinds.bgnstr) kinds.endstr rs p p_in in
    let in_p : Contains (elements_of p.1) e = subst (λ x. let y : Structure = x in Contains y.elements e) s_is in_s in
    let (r, rest, u, is) = element-in p.1 e in_p in
    let (more, v, rest_is) = before-tail kinds.endstr behind r rest (subst (λ q. IsTail q r rest) p_is u) in
    (r, more, tail-in rs p.0 behind r more t v, is ∙ ap (λ q. element_of (r, before kinds.endel q)) rest_is)

made-same : (bytes : List ℕ) (to : ℕ) (rs : List Record) (d e : Element) → Lies bytes 0 rs to → IsMade rs d → IsMade rs e → d.at ≡ e.at → d ≡ e
unfolding IsMade
made-same bytes to rs d e lies (r, rest, t, d_is) (s, more, u, e_is) same =
    let d_at : d.at ≡ r.at = ap (λ x. let y : Element = x in y.at) d_is in
    let e_at : e.at ≡ s.at = ap (λ x. let y : Element = x in y.at) e_is in
    let (r_is, rest_is) = tail-same bytes 0 to rs r s rest more lies t u (sym d_at ∙ (same ∙ e_at)) in
    let of_parts : Record → List Record → Element = λ x y. element_of (x, before kinds.endel (before kinds.endstr y)) in
    d_is ∙ (ap (λ x. of_parts x rest) r_is ∙ (ap (λ y. of_parts s y) rest_is ∙ sym e_is))

pub element-same : (bytes : List ℕ) (lib : Library) (j k : ℕ) (d e : Element) → Holds bytes lib → Contains (elements_at lib j) d
    → Contains (elements_at lib k) e → d.at ≡ e.at → d ≡ e
element-same bytes lib j k d e h in_j in_k same =
    made-same bytes h.end h.records d e h.lies
    (element-made bytes h.records j d (subst (λ l. Contains (elements_at l j) d) h.is in_j))
    (element-made bytes h.records k e (subst (λ l. Contains (elements_at l k) e) h.is in_k))
    same
