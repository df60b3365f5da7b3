-- Records by type, and records between an element's first and its last.
use Rattle.std.proofs.Common.{◌≡◌, ℕ, Bool, true, false, not, ◌&&◌, ◌⊎◌, inl, inr, cond, eqb, List, [], ◌∷◌, ◌++◌, Option, Some, None, refl, sym, ap, ◌∙◌}
use Rattle.std.specs.Prelude.{fold, filter, map}
use Rattle.std.proofs.lemmas.List.{append-nil, map-append}
use Rattle.std.proofs.lemmas.List.Sums.{fold-append}
use Rattle.std.proofs.lemmas.List.Elements.{filter-append}
use Rattle.dpl_spec_format.specs.Fields.{name_of}
use Rattle.dpl_spec_format.specs.Kinds as kinds
use Rattle.dpl_spec_format.specs.Records.{Record}
use Rattle.dpl_spec_format.specs.Stream.{owner, names}
use Rattle.dpl_spec_format.specs.Tree.{first_of}
use Rattle.dpl_syntax.specs.Reading.{Slots, or_else, pick}
use Rattle.dpl_syntax.specs.Inner.{is_inner, AreInner}

pub decide : (b : Bool) → (b ≡ true) ⊎ (b ≡ false)
decide true = inl refl
decide false = inr refl

pub and_first : (a b : Bool) → a && b ≡ true → a ≡ true
and_first true b e = refl
and_first false b e = absurd cc

pub and_second : (a b : Bool) → a && b ≡ true → b ≡ true
and_second true b e = e
and_second false b e = absurd cc

pub not_true : (b : Bool) → not b ≡ true → b ≡ false
not_true true e = absurd cc
not_true false e = refl

-- ---- by type

-- the records are those of the slots
abbrev pub Slotted : List Record → Slots → Type 0
Slotted rs ss = (k : ℕ) → first_of k rs ≡ pick ss k

or_assoc : (a b c : Option Record) → or_else (or_else a b) c ≡ or_else a (or_else b c)
or_assoc None b c = refl
or_assoc (Some r) b c = refl

pub or_none : (a : Option Record) → or_else a None ≡ a
or_none None = refl
or_none (Some r) = refl

cond_or : (b : Bool) (r : Record) (a c : Option Record) → cond b (Some r) (or_else a c) ≡ or_else (cond b (Some r) a) c
cond_or true r a c = refl
cond_or false r a c = refl

pub first_of-append : (k : ℕ) (rs qs : List Record) → first_of k (rs ++ qs) ≡ or_else (first_of k rs) (first_of k qs)
first_of-append k [] qs = refl
first_of-append k (r ∷ rs) qs =
    ap (cond (eqb r.kind k) (Some r)) (first_of-append k rs qs) ∙ cond_or (eqb r.kind k) r (first_of k rs) (first_of k qs)

pick-append : (k : ℕ) (ss ts : Slots) → pick (ss ++ ts) k ≡ or_else (pick ss k) (pick ts k)
pick-append k [] ts = refl
pick-append k (s ∷ ss) ts =
    ap (or_else (cond (eqb s.0 k) s.1 None)) (pick-append k ss ts) ∙ sym (or_assoc (cond (eqb s.0 k) s.1 None) (pick ss k) (pick ts k))

pub slotted_append : (rs qs : List Record) (ss ts : Slots) → Slotted rs ss → Slotted qs ts → Slotted (rs ++ qs) (ss ++ ts)
slotted_append rs qs ss ts one other k =
    first_of-append k rs qs ∙ ap (λ (o : Option Record). or_else o (first_of k qs)) (one k) ∙ ap (or_else (pick ss k)) (other k) ∙ sym (pick-append k ss ts)

pub slotted_one : (kind : ℕ) (r : Record) → r.kind ≡ kind → Slotted (r ∷ []) ((kind, Some r) ∷ [])
slotted_one kind r e k =
    ap (λ (j : ℕ). cond (eqb j k) (Some r) None) e ∙ sym (or_none (cond (eqb kind k) (Some r) None))

cond_none : (b : Bool) → or_else (cond b None None) None ≡ None
cond_none true = refl
cond_none false = refl

pub slotted_none : (kind : ℕ) → Slotted [] ((kind, None) ∷ [])
slotted_none kind k = sym (cond_none (eqb kind k))

-- ---- between

pub inner_append : (rs qs : List Record) → AreInner rs → AreInner qs → AreInner (rs ++ qs)
inner_append [] qs one other = other
inner_append (r ∷ rs) qs one other = (one.0, inner_append rs qs one.1 other)

pub inner_one : (kind : ℕ) (r : Record) → r.kind ≡ kind → is_inner kind ≡ true → AreInner (r ∷ [])
inner_one kind r e inner = (ap is_inner e ∙ inner, tt)

-- what an inner type isn't
pub record IsNoOuter (k : ℕ) : Type 0 where
  pub begins : kinds.begins_element k ≡ false
  pub endel : eqb k kinds.endel ≡ false
  pub bgnstr : eqb k kinds.bgnstr ≡ false
  pub endstr : eqb k kinds.endstr ≡ false
  pub strname : eqb k kinds.strname ≡ false
  pub endlib : eqb k kinds.endlib ≡ false

none_of : (a b c d e f : Bool) → not a && (not b && (not c && (not d && (not e && not f)))) ≡ true → (a ≡ false) × (b ≡ false)
    × (c ≡ false) × (d ≡ false) × (e ≡ false) × (f ≡ false)
none_of a b c d e f h =
    let h1 = and_second (not a) (not b && (not c && (not d && (not e && not f)))) h in
    let h2 = and_second (not b) (not c && (not d && (not e && not f))) h1 in
    let h3 = and_second (not c) (not d && (not e && not f)) h2 in
    let h4 = and_second (not d) (not e && not f) h3 in
    let h5 = and_second (not e) (not f) h4 in (
      not_true a (and_first (not a) (not b && (not c && (not d && (not e && not f)))) h),
      not_true b (and_first (not b) (not c && (not d && (not e && not f))) h1),
      not_true c (and_first (not c) (not d && (not e && not f)) h2),
      not_true d (and_first (not d) (not e && not f) h3),
      not_true e (and_first (not e) (not f) h4),
      not_true f h5,
    )

pub no_outer : (k : ℕ) → is_inner k ≡ true → IsNoOuter k
no_outer k inner =
    let h = none_of (kinds.begins_element k) (eqb k kinds.endel) (eqb k kinds.bgnstr) (eqb k kinds.endstr) (eqb k kinds.strname) (eqb k kinds.endlib) inner in
    record { begins = h.0; endel = h.1; bgnstr = h.2; endstr = h.3; strname = h.4; endlib = h.5 }

abbrev owning : ℕ → Record → ℕ
owning kind r = cond (kinds.begins_element r.kind) r.kind kind

owner_from : (rs : List Record) (kind : ℕ) → AreInner rs → fold owning kind rs ≡ kind
owner_from [] kind inner = refl
owner_from (r ∷ rs) kind inner =
    ap (λ (b : Bool). fold owning (cond b r.kind kind) rs) ((no_outer r.kind inner.0).begins) ∙ owner_from rs kind inner.1

pub owner-inner : (before rs : List Record) → AreInner rs → owner (before ++ rs) ≡ owner before
owner-inner before rs inner = fold-append owning 0 before rs ∙ owner_from rs (owner before) inner

names_of_inner : (rs : List Record) → AreInner rs → names rs ≡ []
names_of_inner [] inner = refl
names_of_inner (r ∷ rs) inner =
    ap (λ (b : Bool). map (λ (x : Record). name_of x.body) (cond b (r ∷ filter (λ (x : Record). eqb x.kind kinds.strname) rs)
    (filter (λ (x : Record). eqb x.kind kinds.strname) rs))) ((no_outer r.kind inner.0).strname) ∙ names_of_inner rs inner.1

pub names-append : (before rs : List Record) → names (before ++ rs) ≡ names before ++ names rs
names-append before rs =
    ap (map (λ (x : Record). name_of x.body)) (filter-append (λ (x : Record). eqb x.kind kinds.strname) before rs)
    ∙ map-append (λ (x : Record). name_of x.body) (filter (λ (x : Record). eqb x.kind kinds.strname) before) (filter (λ (x : Record). eqb x.kind kinds.strname) rs)

pub names-inner : (before rs : List Record) → AreInner rs → names (before ++ rs) ≡ names before
names-inner before rs inner = names-append before rs ∙ ap (λ (ns : List (List ℕ)). names before ++ ns) (names_of_inner rs inner) ∙ append-nil (names before)
