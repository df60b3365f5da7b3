-- The six records before the elements of a structure of a library that a file holds.
use Rattle.std.proofs.Common.{◌≡◌, ℕ, ◌⊎◌, inl, inr, Bool, true, false, not, ◌&&◌, cond, eqb, List, [], ◌∷◌, ◌++◌, map, Some, None, Ok, refl, sym, subst, ap, ◌∙◌, arith}
use Rattle.std.specs.Cmp.Lexicographic.{pointwise}
use Rattle.dpl_spec_format.specs.Faults.{bad_name, duplicate_structure}
use Rattle.std.specs.Prelude.{nat_eq, if◌then◌else◌, ◌==◌}
use Rattle.std.specs.List.{Contains, flat_map, AllByRecursion, list_any}
use Rattle.std.proofs.lemmas.Bool.{eqb-true, eq-eqb}
use Rattle.std.proofs.lemmas.List.Concat.{flat_map-cons}
use Rattle.dpl_spec_split.proofs.Ordered.{Contains-cases, Contains-head, Contains-later, Contains-nil}
use Rattle.dpl_spec_format.specs.Kinds as kinds
use Rattle.dpl_spec_format.specs.Fields.{name_of}
use Rattle.dpl_spec_format.specs.Grammar as grammar
use Rattle.dpl_spec_format.specs.Grammar.{Grammar, one, both, either, maybe, many, a, Has, library}
use Rattle.dpl_spec_format.specs.Records.{Record, record_at, Lies}
use Rattle.dpl_spec_format.specs.Stream.{kinds_of, refusal, refusal_in, is_empty, owner, names}
use Rattle.dpl_spec_format.specs.Tree.{Library, Structure, first_of, before, parts, whole, whole_of, whole_or_none, structure_of, library_of}
use Rattle.dpl_spec_format.specs.Layout.{Holds, IsSound}
use Rattle.dpl_law_outcome.proofs.Moving.{built-of}
use Rattle.dpl_law_outcome.proofs.Putting.{IsRecord, lifted}

-- ---- records of a list with those behind them

abbrev IsTail : List Record → Record → List Record → Type 0
IsTail [] r rest = ⊥
IsTail (x ∷ xs) r rest = ((x ≡ r) × (xs ≡ rest)) ⊎ IsTail xs r rest

found-in : (bytes : List ℕ) (from to : ℕ) (rs : List Record) (r : Record) (rest : List Record) → Lies bytes from rs to → IsTail rs r rest → record_at bytes r.at ≡ Ok r
found-in bytes from to [] r rest lies t = absurd t
found-in bytes from to (x ∷ xs) r rest lies (inl (same, more)) =
    let here : from ≡ x.at = ap (λ y. let z : Record = y in z.at) (built-of bytes from x lies.0).is in
    subst (λ y. let z : Record = y in record_at bytes z.at ≡ Ok z) same (ap (record_at bytes) (sym here) ∙ lies.0)
found-in bytes from to (x ∷ xs) r rest lies (inr t) = found-in bytes x.next to xs r rest lies.1 t

next-in : (rs : List Record) (r n : Record) (rest more : List Record) → IsTail rs r rest → rest ≡ n ∷ more → IsTail rs n more
next-in [] r n rest more t e = absurd t
next-in (x ∷ xs) r n rest more (inl (p, q)) e = inr (subst (λ ys. IsTail ys n more) (sym (q ∙ e)) (inl (refl, refl)))
next-in (x ∷ xs) r n rest more (inr t) e = inr (next-in xs r n rest more t e)

sound-in : (front rs : List Record) (r : Record) (rest : List Record) → IsSound front rs → IsTail rs r rest → (earlier : List Record) × (refusal earlier r ≡ None)
sound-in front [] r rest sound t = absurd t
sound-in front (x ∷ xs) r rest sound (inl (same, more)) = (front, subst (λ y. refusal front y ≡ None) same sound.0)
sound-in front (x ∷ xs) r rest sound (inr t) = sound-in (front ++ x ∷ []) xs r rest sound.1 t

part-step : (begins : ℕ → Bool) (end : ℕ) (x : Record) (xs : List Record) (p : Record × List Record) (b : Bool) → begins x.kind ≡ b
    → (Contains (parts begins end xs) p → (rest : List Record) × IsTail xs p.0 rest × (p.1 ≡ before end rest) × (begins p.0.kind ≡ true))
    → Contains (if b then (x, before end xs) ∷ parts begins end xs else parts begins end xs) p
    → (rest : List Record) × IsTail (x ∷ xs) p.0 rest × (p.1 ≡ before end rest) × (begins p.0.kind ≡ true)
part-step begins end x xs p false is later h = let (rest, t, e, k) = later h in (rest, inr t, e, k)
part-step begins end x xs p true is later h = elim (Contains-cases (x, before end xs) p (parts begins end xs) h) [
  | inl same ↦ (
    xs,
    inl (ap (λ q. let pair : Record × List Record = q in pair.0) same, refl),
    sym (ap (λ q. let pair : Record × List Record = q in pair.1) same),
    ap (λ q. let pair : Record × List Record = q in
        begins pair.0.kind) (sym same) ∙ is,
  )
  | inr more ↦ (let (rest, t, e, k) = later more in (rest, inr t, e, k))
]

part-tail : (begins : ℕ → Bool) (end : ℕ) (rs : List Record) (p : Record × List Record) → Contains (parts begins end rs) p
    → (rest : List Record) × IsTail rs p.0 rest × (p.1 ≡ before end rest) × (begins p.0.kind ≡ true)
unfolding parts
part-tail begins end [] p h = absurd (Contains-nil p h)
part-tail begins end (x ∷ xs) p h = part-step begins end x xs p (begins x.kind) refl (part-tail begins end xs p) h

contains-mapped : {X Y : Type 0} (f : X → Y) (xs : List X) (y : Y) → Contains (map f xs) y → (x : X) × Contains xs x × (y ≡ f x)
contains-mapped f [] y h = absurd (Contains-nil y h)
contains-mapped f (x ∷ xs) y h = elim (Contains-cases (f x) y (map f xs) h) [
  | inl same ↦ (x, Contains-head x xs, sym same)
  | inr later ↦ (let (w, w_in, e) = contains-mapped f xs y later in (w, Contains-later x w xs w_in, e))
]

-- ---- the types that a library has

abbrev Occurs : ℕ → List ℕ → Type 0
Occurs k [] = ⊥
Occurs k (j ∷ js) = (j ≡ k) ⊎ Occurs k js

occurs-left : (k : ℕ) (xs ys : List ℕ) → Occurs k xs → Occurs k (xs ++ ys)
occurs-left k [] ys h = absurd h
occurs-left k (x ∷ xs) ys (inl e) = inl e
occurs-left k (x ∷ xs) ys (inr h) = inr (occurs-left k xs ys h)

occurs-right : (k : ℕ) (xs ys : List ℕ) → Occurs k ys → Occurs k (xs ++ ys)
occurs-right k [] ys h = h
occurs-right k (x ∷ xs) ys h = inr (occurs-right k xs ys h)

abbrev Always : ℕ → Grammar → Type 0
Always k g = (ks : List ℕ) → Has g ks → Occurs k ks

always-first : (k : ℕ) (g : Grammar) → Always k (both (a k) g)
always-first k g ks (front, rest, e, h, q) =
    subst (Occurs k) (sym e) (occurs-left k front rest (subst (Occurs k) (sym h.1) (inl (eqb-true h.0 k h.2))))

always-rest : (k : ℕ) (g h : Grammar) → Always k h → Always k (both g h)
always-rest k g h later ks (front, rest, e, p, q) = subst (Occurs k) (sym e) (occurs-right k front rest (later rest q))

abbrev l8 : Grammar
l8 = both (many grammar.structure) (a kinds.endlib)

abbrev l7 : Grammar
l7 = both (many grammar.skip) l8

abbrev l6 : Grammar
l6 = both (a kinds.units) l7

abbrev l5 : Grammar
l5 = both (many grammar.skip) l6

abbrev l4 : Grammar
l4 = both (a kinds.libname) l5

abbrev l3 : Grammar
l3 = both (many grammar.skip) l4

abbrev l2 : Grammar
l2 = both (a kinds.bgnlib) l3

has-header : Always kinds.header library
has-header = always-first kinds.header l2

has-bgnlib : Always kinds.bgnlib library
has-bgnlib = always-rest kinds.bgnlib (a kinds.header) l2 (always-first kinds.bgnlib l3)

has-libname : Always kinds.libname library
has-libname = always-rest kinds.libname (a kinds.header) l2
    (always-rest kinds.libname (a kinds.bgnlib) l3 (always-rest kinds.libname (many grammar.skip) l4 (always-first kinds.libname l5)))

has-units : Always kinds.units library
has-units =
    always-rest kinds.units (a kinds.header) l2
    (always-rest kinds.units (a kinds.bgnlib) l3
    (always-rest kinds.units (many grammar.skip) l4
    (always-rest kinds.units (a kinds.libname) l5
    (always-rest kinds.units (many grammar.skip) l6
    (always-first kinds.units l7)))))

record IsFirst (k : ℕ) (rs : List Record) : Type 0 where
  found : Record
  rest : List Record
  is : first_of k rs ≡ Some found
  kind : found.kind ≡ k
  there : IsTail rs found rest

first-step : (k : ℕ) (r : Record) (rs : List Record) (b : Bool) → eqb r.kind k ≡ b → (r.kind ≡ k) ⊎ IsFirst k rs → IsFirst k (r ∷ rs)
first-step k r rs true e h = record { found = r; rest = rs; is = ap (λ (b : Bool). cond b (Some r) (first_of k rs)) e; kind = eqb-true r.kind k e; there = inl (refl, refl) }
first-step k r rs false e (inl same) = absurd (let t : eqb r.kind k ≡ true = eq-eqb r.kind k same in cc)
first-step k r rs false e (inr f) = record { found = f.found; rest = f.rest; is = ap (λ (b : Bool). cond b (Some r) (first_of k rs)) e ∙ f.is; kind = f.kind; there = inr f.there }

first-found : (k : ℕ) (rs : List Record) → Occurs k (kinds_of rs) → IsFirst k rs
first-found k [] h = absurd h
first-found k (r ∷ rs) (inl e) = first-step k r rs (eqb r.kind k) refl (inl e)
first-found k (r ∷ rs) (inr h) = first-step k r rs (eqb r.kind k) refl (inr (first-found k rs h))

-- ---- behind BGNSTR stands STRNAME

abbrev StartsName : List ℕ → Type 0
StartsName [] = ⊥
StartsName (k ∷ ks) = k ≡ kinds.strname

abbrev AreNamed : List ℕ → Type 0
AreNamed [] = Unit {0}
AreNamed (k ∷ ks) = (k ≡ kinds.bgnstr → StartsName ks) × AreNamed ks

starts-append : (xs ys : List ℕ) → StartsName xs → StartsName (xs ++ ys)
starts-append [] ys h = absurd h
starts-append (x ∷ xs) ys h = h

named-append : (xs ys : List ℕ) → AreNamed xs → AreNamed ys → AreNamed (xs ++ ys)
named-append [] ys p q = q
named-append (x ∷ xs) ys p q = (λ e. starts-append xs ys (p.0 e), named-append xs ys p.1 q)

abbrev Names : Grammar → Type 0
Names g = (ks : List ℕ) → Has g ks → AreNamed ks

names-both : (g h : Grammar) → Names g → Names h → Names (both g h)
names-both g h p q ks (front, rest, e, x, y) = subst AreNamed (sym e) (named-append front rest (p front x) (q rest y))

names-parts : (g : Grammar) → Names g → (each : List (List ℕ)) → AllByRecursion (Has g) each → AreNamed (flat_map (λ part. part) each)
names-parts g p [] all = tt
names-parts g p (part ∷ each) all = subst AreNamed (sym (flat_map-cons (λ q. q) part each)) (named-append part (flat_map (λ q. q) each) (p part all.0) (names-parts g p each all.1))

names-many : (g : Grammar) → Names g → Names (many g)
names-many g p ks (each, e, all) = subst AreNamed (sym e) (names-parts g p each all)

-- no record of the grammar is BGNSTR
abbrev is_still : Grammar → Bool
is_still (one test) = not (test kinds.bgnstr)
is_still (both g h) = is_still g && is_still h
is_still (either g h) = is_still g && is_still h
is_still (maybe g) = is_still g
is_still (many g) = is_still g

and_first : (x y : Bool) → x && y ≡ true → x ≡ true
and_first true y e = refl
and_first false y e = absurd cc

and_second : (x y : Bool) → x && y ≡ true → y ≡ true
and_second true y e = e
and_second false y e = absurd cc

untrue : (b : Bool) → not b ≡ true → b ≡ true → ⊥
untrue true e h = cc
untrue false e h = cc

names-still : (g : Grammar) → is_still g ≡ true → Names g
names-still (one test) e ks (k, is, t) = subst AreNamed (sym is) (λ s. absurd (untrue (test kinds.bgnstr) e (subst (λ j. test j ≡ true) s t)), tt)
names-still (both g h) e ks p = names-both g h (names-still g (and_first (is_still g) (is_still h) e)) (names-still h (and_second (is_still g) (is_still h) e)) ks p
names-still (either g h) e ks (inl p) = names-still g (and_first (is_still g) (is_still h) e) ks p
names-still (either g h) e ks (inr p) = names-still h (and_second (is_still g) (is_still h) e) ks p
names-still (maybe g) e ks (inl p) = subst AreNamed (sym p) tt
names-still (maybe g) e ks (inr p) = names-still g e ks p
names-still (many g) e ks p = names-many g (names-still g e) ks p

abbrev inside : Grammar
inside = both (many (a kinds.structure_class)) (both (many grammar.element) (a kinds.endstr))

names-structure : Names grammar.structure
names-structure ks (f, r, e, (k, is, t), (f2, r2, e2, (k2, is2, t2), q)) =
    let name : k2 ≡ kinds.strname = eqb-true k2 kinds.strname t2 in
    let all : ks ≡ k ∷ (k2 ∷ r2) = e ∙ ap (λ x. x ++ r) is ∙ ap (λ x. k ∷ x) (e2 ∙ ap (λ x. x ++ r2) is2) in
    subst AreNamed (sym all) (λ s. name, ((λ s. absurd (let d : kinds.strname ≡ kinds.bgnstr = sym name ∙ s in omega (arith, d))), names-still inside refl r2 q))

names-library : Names library
names-library =
    names-both (a kinds.header) l2 (names-still (a kinds.header) refl)
    (names-both (a kinds.bgnlib) l3 (names-still (a kinds.bgnlib) refl)
    (names-both (many grammar.skip) l4 (names-still (many grammar.skip) refl)
    (names-both (a kinds.libname) l5 (names-still (a kinds.libname) refl)
    (names-both (many grammar.skip) l6 (names-still (many grammar.skip) refl)
    (names-both (a kinds.units) l7 (names-still (a kinds.units) refl)
    (names-both (many grammar.skip) l8 (names-still (many grammar.skip) refl)
    (names-both (many grammar.structure) (a kinds.endlib) (names-many grammar.structure names-structure) (names-still (a kinds.endlib) refl))))))))

name-behind : (rs : List Record) (r : Record) (rest : List Record) → AreNamed (kinds_of rs) → IsTail rs r rest → r.kind ≡ kinds.bgnstr → StartsName (kinds_of rest)
name-behind [] r rest h t e = absurd t
name-behind (x ∷ xs) r rest h (inl (p, q)) e = subst (λ ys. StartsName (kinds_of ys)) q (h.0 (ap (λ y. let z : Record = y in z.kind) p ∙ e))
name-behind (x ∷ xs) r rest h (inr t) e = name-behind xs r rest h.1 t e

-- ---- a name that isn't refused

strname_refusal : (o : ℕ) (known : List (List ℕ)) (at : ℕ) (body : List ℕ) (b : Bool) → is_empty (name_of body) ≡ b → refusal_in o known kinds.strname at body ≡ None → b ≡ false
unfolding refusal_in
strname_refusal o known at body true e h =
    let some : Some (bad_name at) ≡ None = ap
    (λ (b : Bool). cond b (Some (bad_name at)) (cond (list_any (pointwise nat_eq (name_of body)) known)
    (Some (duplicate_structure at)) None)) (sym e) ∙ h in
    absurd cc
strname_refusal o known at body false e h = refl

-- ---- the six records

abbrev IsWhole : List ℕ → ℕ → Type 0
IsWhole w kind = (body : List ℕ) × IsRecord w kind body

pub record IsFront (lib : Library) (s : Structure) : Type 0 where
  pub header : IsWhole lib.header kinds.header
  pub bgnlib : IsWhole lib.bgnlib kinds.bgnlib
  pub libname : IsWhole lib.libname kinds.libname
  pub units : IsWhole lib.units kinds.units
  pub bgnstr : IsWhole s.bgnstr kinds.bgnstr
  pub strname : (body : List ℕ) × IsRecord s.strname kinds.strname body × (is_empty (name_of body) ≡ false)

module _ (bytes : List ℕ) (rs : List Record) (end : ℕ) (lies : Lies bytes 0 rs end) (has : Has library (kinds_of rs)) (sound : IsSound [] rs) where
  whole-at : (r : Record) (rest : List Record) → IsTail rs r rest → IsRecord (whole bytes r) r.kind r.body
  whole-at r rest t = lifted bytes r.at r (found-in bytes 0 end rs r rest lies t)

  part-of : (kind : ℕ) → Always kind library → IsWhole (whole_of bytes kind rs) kind
  part-of kind always =
      let f = first-found kind rs (always (kinds_of rs) has) in (
        f.found.body,
        subst (λ o. IsRecord (whole_or_none bytes o) kind f.found.body) (sym f.is)
            (subst (λ k. IsRecord (whole bytes f.found) k f.found.body) f.kind (whole-at f.found f.rest f.there)),
      )

  structure-parts : (p : Record × List Record) (rest : List Record) → IsTail rs p.0 rest → p.1 ≡ before kinds.endstr rest → p.0.kind ≡ kinds.bgnstr → StartsName (kinds_of rest)
      → IsWhole (structure_of bytes p).bgnstr kinds.bgnstr × ((body : List ℕ) × IsRecord (structure_of bytes p).strname kinds.strname body × (is_empty (name_of body) ≡ false))
  structure-parts p [] t e k name = absurd name
  structure-parts p (n ∷ more) t e k name =
      let there = next-in rs p.0 n (n ∷ more) more t refl in
      let (earlier, fine) = sound-in [] rs n more sound there in
      let is : p.1 ≡ n ∷ before kinds.endstr more = e ∙ ap (λ j. cond (eqb j kinds.endstr) [] (n ∷ before kinds.endstr more)) name in
      let first : first_of kinds.strname p.1 ≡ Some n = ap (first_of kinds.strname) is
      ∙ ap (λ j. cond (eqb j kinds.strname) (Some n) (first_of kinds.strname (before kinds.endstr more))) name in (
        (p.0.body, subst (λ j. IsRecord (whole bytes p.0) j p.0.body) k (whole-at p.0 (n ∷ more) t)),
        (
          n.body,
          subst (λ o. IsRecord (whole_or_none bytes o) kinds.strname n.body) (sym first) (subst (λ j. IsRecord (whole bytes n) j n.body) name (whole-at n more there)),
          strname_refusal (owner earlier) (names earlier) n.at n.body (is_empty (name_of n.body)) refl
              (subst (λ j. refusal_in (owner earlier) (names earlier) j n.at n.body ≡ None) name fine),
        ),
      )

  front-of : (s : Structure) → Contains (library_of bytes rs).structures s → IsFront (library_of bytes rs) s
  front-of s s_in =
      let (p, p_in, s_is) = contains-mapped (structure_of bytes) (parts (λ j. j == kinds.bgnstr) kinds.endstr rs) s s_in in
      let (rest, t, e, begins) = part-tail (λ j. j == kinds.bgnstr) kinds.endstr rs p p_in in
      let k : p.0.kind ≡ kinds.bgnstr = eqb-true p.0.kind kinds.bgnstr begins in
      let (g, n) = structure-parts p rest t e k (name-behind rs p.0 rest (names-library (kinds_of rs) has) t k) in
      let made : IsFront (library_of bytes rs) (structure_of bytes p) = record {
        header = part-of kinds.header has-header;
        bgnlib = part-of kinds.bgnlib has-bgnlib;
        libname = part-of kinds.libname has-libname;
        units = part-of kinds.units has-units;
        bgnstr = g;
        strname = n;
      } in
      subst (IsFront (library_of bytes rs)) (sym s_is) made

pub front-whole : (bytes : List ℕ) (lib : Library) (s : Structure) → Holds bytes lib → Contains lib.structures s → IsFront lib s
front-whole bytes lib s h s_in =
    let there : Contains (library_of bytes h.records).structures s = subst (λ l. let x : Library = l in Contains x.structures s) h.is s_in in
    subst (λ l. IsFront l s) (sym h.is) (front-of bytes h.records h.end h.lies h.has h.sound s there)
