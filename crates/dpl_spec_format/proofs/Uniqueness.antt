-- A file holds one library, or has one first fault, and not both.
use Rattle.std.proofs.Common.{◌≡◌, ◌≢◌, ℕ, Bool, true, false, not, ◌&&◌, ◌⊎◌, inl, inr, List, [], ◌∷◌, ◌++◌, map, Option, Some, None}
use Rattle.std.proofs.Common.{Result, Ok, Err, refl, sym, subst, ap, ◌∙◌, append_assoc}
use Rattle.std.specs.Prelude.{IsTrue}
use Rattle.std.specs.List.{flat_map, AllByRecursion}
use Rattle.std.proofs.lemmas.List.{append-nil, map-append}
use Rattle.std.proofs.lemmas.List.Concat.{flat_map-cons}
use Rattle.std.proofs.lemmas.Bool.{eqb-true, eqb-false, eq-eqb}
use Rattle.dpl_spec_format.specs.Kinds as kinds
use Rattle.dpl_spec_format.specs.Faults.{Fault, unexpected}
use Rattle.dpl_spec_format.specs.Records.{Record, record_at, Lies}
use Rattle.dpl_spec_format.specs.Grammar as grammar
use Rattle.dpl_spec_format.specs.Grammar.{Grammar, one, both, either, maybe, many, Has, Begins, library}
use Rattle.dpl_spec_format.specs.Stream.{kinds_of, refusal}
use Rattle.dpl_spec_format.specs.Tree.{Library, library_of}
use Rattle.dpl_spec_format.specs.Layout.{IsSound, IsOpen, IsReadTo, IsWrong, no_record, not_here, refused, IsFirstFault, Holds}

-- ---- ENDLIB stands at the end alone

-- no record of the grammar has this type
abbrev lacking : Grammar → ℕ → Bool
lacking (one test) k = not (test k)
lacking (both g h) k = lacking g k && lacking h k
lacking (either g h) k = lacking g k && lacking h k
lacking (maybe g) k = lacking g k
lacking (many g) k = lacking g k

and_first : (a b : Bool) → a && b ≡ true → a ≡ true
and_first true b e = refl
and_first false b e = absurd cc

and_second : (a b : Bool) → a && b ≡ true → b ≡ true
and_second true b e = e
and_second false b e = absurd cc

untrue : (b : Bool) → not b ≡ true → b ≡ true → ⊥
untrue true e h = cc
untrue false e h = cc

abbrev None_of : ℕ → List ℕ → Type 0
None_of k [] = Unit {0}
None_of k (j ∷ ks) = (j ≢ k) × None_of k ks

none_append : (k : ℕ) (js ks : List ℕ) → None_of k js → None_of k ks → None_of k (js ++ ks)
none_append k [] ks left right = right
none_append k (j ∷ js) ks left right = (left.0, none_append k js ks left.1 right)

none_parts : (g : Grammar) (k : ℕ) → ((ks : List ℕ) → Has g ks → None_of k ks) → (parts : List (List ℕ)) → AllByRecursion (Has g) parts → None_of k (flat_map (λ part. part) parts)
none_parts g k each [] all = tt
none_parts g k each (part ∷ parts) all =
    subst (None_of k) (sym (flat_map-cons (λ p. p) part parts)) (none_append k part (flat_map (λ p. p) parts) (each part all.0) (none_parts g k each parts all.1))

lacks : (g : Grammar) (k : ℕ) → lacking g k ≡ true → (ks : List ℕ) → Has g ks → None_of k ks
lacks (one test) k n ks h = subst (None_of k) (sym h.1) (λ e. untrue (test k) n (subst (λ (j : ℕ). test j ≡ true) e h.2), tt)
lacks (both g h) k n ks p =
    subst (None_of k) (sym p.2) (none_append k p.0 p.1 (lacks g k (and_first (lacking g k) (lacking h k) n) p.0 p.3) (lacks h k (and_second (lacking g k) (lacking h k) n) p.1 p.4))
lacks (either g h) k n ks (inl p) = lacks g k (and_first (lacking g k) (lacking h k) n) ks p
lacks (either g h) k n ks (inr p) = lacks h k (and_second (lacking g k) (lacking h k) n) ks p
lacks (maybe g) k n ks (inl e) = subst (None_of k) (sym e) tt
lacks (maybe g) k n ks (inr p) = lacks g k n ks p
lacks (many g) k n ks p = subst (None_of k) (sym p.1) (none_parts g k (lacks g k n) p.0 p.2)

-- the list has this type at its end, and nowhere before
abbrev EndsIn : ℕ → List ℕ → Type 0
EndsIn k ks = (front : List ℕ) × (ks ≡ front ++ k ∷ []) × None_of k front

ends_one : (k : ℕ) (ks : List ℕ) → Has (grammar.a k) ks → EndsIn k ks
ends_one k ks h = ([], h.1 ∙ ap (λ (j : ℕ). j ∷ []) (eqb-true h.0 k h.2), tt)

ends_both : (g h : Grammar) (k : ℕ) → lacking g k ≡ true → ((ks : List ℕ) → Has h ks → EndsIn k ks) → (ks : List ℕ) → Has (both g h) ks → EndsIn k ks
ends_both g h k n ends ks p =
    let e = ends p.1 p.4 in
    (p.0 ++ e.0, p.2 ∙ ap (λ (x : List ℕ). p.0 ++ x) e.1 ∙ sym (append_assoc p.0 e.0 (k ∷ [])), none_append k p.0 e.0 (lacks g k n p.0 p.3) e.2)

library_ends : (ks : List ℕ) → Has library ks → EndsIn kinds.endlib ks
library_ends =
    let skips = many grammar.skip in
    let end = grammar.a kinds.endlib in
    let l8 = both (many grammar.structure) end in
    let l7 = both skips l8 in
    let l6 = both (grammar.a kinds.units) l7 in
    let l5 = both skips l6 in
    let l4 = both (grammar.a kinds.libname) l5 in
    let l3 = both skips l4 in
    let l2 = both (grammar.a kinds.bgnlib) l3 in
    ends_both (grammar.a kinds.header) l2 kinds.endlib refl
    (ends_both (grammar.a kinds.bgnlib) l3 kinds.endlib refl
    (ends_both skips l4 kinds.endlib refl
    (ends_both (grammar.a kinds.libname) l5 kinds.endlib refl
    (ends_both skips l6 kinds.endlib refl
    (ends_both (grammar.a kinds.units) l7 kinds.endlib refl
    (ends_both skips l8 kinds.endlib refl
    (ends_both (many grammar.structure) end kinds.endlib refl
    (ends_one kinds.endlib))))))))

-- ---- two lists from one place

data Compared (bytes : List ℕ) (from : ℕ) (rs : List Record) (at : ℕ) (qs : List Record) (to : ℕ) : Type 0 where
  alike : rs ≡ qs → at ≡ to → Compared bytes from rs at qs to
  first_ends : (r : Record) (more : List Record) → qs ≡ rs ++ r ∷ more → record_at bytes at ≡ Ok r → Compared bytes from rs at qs to
  second_ends : (r : Record) (more : List Record) → rs ≡ qs ++ r ∷ more → record_at bytes to ≡ Ok r → Compared bytes from rs at qs to

same_ok : (x : Result Record Fault) (r s : Record) → x ≡ Ok r → x ≡ Ok s → r ≡ s
same_ok x r s e h = cc

longer : (bytes : List ℕ) (from mid at to : ℕ) (r : Record) (rs qs : List Record) → Compared bytes mid rs at qs to → Compared bytes from (r ∷ rs) at (r ∷ qs) to
longer bytes from mid at to r rs qs (alike e f) = alike (ap (λ (x : List Record). r ∷ x) e) f
longer bytes from mid at to r rs qs (first_ends s more e f) = first_ends s more (ap (λ (x : List Record). r ∷ x) e) f
longer bytes from mid at to r rs qs (second_ends s more e f) = second_ends s more (ap (λ (x : List Record). r ∷ x) e) f

compare : (bytes : List ℕ) (from : ℕ) (rs : List Record) (at : ℕ) (qs : List Record) (to : ℕ) → Lies bytes from rs at → Lies bytes from qs to → Compared bytes from rs at qs to
compare bytes from [] at [] to p q = alike refl (sym p ∙ q)
compare bytes from [] at (r ∷ qs) to p q = first_ends r qs refl (ap (record_at bytes) (sym p) ∙ q.0)
compare bytes from (r ∷ rs) at [] to p q = second_ends r rs refl (ap (record_at bytes) (sym q) ∙ p.0)
compare bytes from (r ∷ rs) at (s ∷ qs) to p q =
    let same : s ≡ r = same_ok (record_at bytes from) s r q.0 p.0 in
    let q1 : Lies bytes r.next qs to = subst (λ (x : Record). Lies bytes x.next qs to) same q.1 in
    subst (λ (x : Record). Compared bytes from (r ∷ rs) at (x ∷ qs) to) (sym same) (longer bytes from r.next at to r rs qs (compare bytes r.next rs at qs to p.1 q1))

-- ---- what goes wrong

sound_at : (front rs : List Record) (r : Record) (more : List Record) → IsSound front (rs ++ r ∷ more) → refusal (front ++ rs) r ≡ None
sound_at front [] r more sound = subst (λ (x : List Record). refusal x r ≡ None) (sym (append-nil front)) sound.0
sound_at front (s ∷ rs) r more sound = subst (λ (x : List Record). refusal x r ≡ None) (append_assoc front (s ∷ []) rs) (sound_at (front ++ s ∷ []) rs r more sound.1)

kinds_split : (rs : List Record) (r : Record) (more : List Record) (ks : List ℕ) → kinds_of (rs ++ r ∷ more) ++ ks ≡ kinds_of (rs ++ r ∷ []) ++ (kinds_of more ++ ks)
kinds_split [] r more ks = refl
kinds_split (s ∷ rs) r more ks = ap (λ (x : List ℕ). s.kind ∷ x) (kinds_split rs r more ks)

begins_front : (rs : List Record) (r : Record) (more : List Record) → Begins library (kinds_of (rs ++ r ∷ more)) → Begins library (kinds_of (rs ++ r ∷ []))
begins_front rs r more b = (kinds_of more ++ b.0, subst (Has library) (kinds_split rs r more b.0) b.1)

not_wrong : (bytes : List ℕ) (rs : List Record) (at : ℕ) (r : Record) (f : Fault) → record_at bytes at ≡ Ok r
    → Begins library (kinds_of (rs ++ r ∷ [])) → refusal rs r ≡ None → IsWrong bytes rs at f → ⊥
not_wrong bytes rs at r f found begins fine (no_record g e) = cc
not_wrong bytes rs at r f found begins fine (not_here s e never) = never (subst (λ (x : Record). Begins library (kinds_of (rs ++ x ∷ [])))
    (same_ok (record_at bytes at) r s found e) begins)
not_wrong bytes rs at r f found begins fine (refused s g e b why) =
    let same : r ≡ s = same_ok (record_at bytes at) r s found e in
    let fine1 : refusal rs s ≡ None = subst (λ (x : Record). refusal rs x ≡ None) same fine in
    cc

open_lacks : (rs : List Record) → IsOpen rs → None_of kinds.endlib (kinds_of rs)
open_lacks [] goes = tt
open_lacks (r ∷ rs) goes = (goes.0, open_lacks rs goes.1)

none_has : (k : ℕ) (js ks : List ℕ) → None_of k (js ++ k ∷ ks) → ⊥
none_has k [] ks n = n.0 refl
none_has k (j ∷ js) ks n = none_has k js ks n.1

nil_isnt : (k : ℕ) (js ks : List ℕ) → [] ≡ js ++ k ∷ ks → ⊥
nil_isnt k [] ks e = cc
nil_isnt k (j ∷ js) ks e = cc

two_ends : (k j : ℕ) (more front other : List ℕ) → other ++ k ∷ [] ≡ front ++ k ∷ (j ∷ more) → None_of k other → ⊥
two_ends k j more [] [] e n = cc
two_ends k j more [] (x ∷ other) e n = (let s : x ≡ k = cc in n.0 s)
two_ends k j more (y ∷ front) [] e n = (let t : [] ≡ front ++ k ∷ (j ∷ more) = cc in nil_isnt k front (j ∷ more) t)
two_ends k j more (y ∷ front) (x ∷ other) e n = (let t : other ++ k ∷ [] ≡ front ++ k ∷ (j ∷ more) = cc in two_ends k j more front other t n.1)

no_two_ends : (k : ℕ) (js ks : List ℕ) (j : ℕ) (more : List ℕ) → EndsIn k js → EndsIn k ks → ks ≡ js ++ j ∷ more → ⊥
no_two_ends k js ks j more left right h =
    two_ends k j more left.0 right.0 (sym right.1 ∙ h ∙ ap (λ (x : List ℕ). x ++ j ∷ more) left.1 ∙ append_assoc left.0 (k ∷ []) (j ∷ more)) right.2

kinds_append : (rs qs : List Record) → kinds_of (rs ++ qs) ≡ kinds_of rs ++ kinds_of qs
kinds_append rs qs = map-append (λ (r : Record). r.kind) rs qs

no_longer : (rs qs : List Record) (r : Record) (more : List Record) → Has library (kinds_of rs) → Has library (kinds_of qs) → qs ≡ rs ++ r ∷ more → ⊥
no_longer rs qs r more left right e =
    no_two_ends kinds.endlib (kinds_of rs) (kinds_of qs) r.kind (kinds_of more) (library_ends (kinds_of rs) left)
    (library_ends (kinds_of qs) right) (ap kinds_of e ∙ kinds_append rs (r ∷ more))

open_never : (rs : List Record) (ks : List ℕ) → IsOpen rs → EndsIn kinds.endlib ks → (more : List ℕ) → kinds_of rs ≡ ks ++ more → ⊥
open_never rs ks goes ends more e =
    none_has kinds.endlib ends.0 more (subst (None_of kinds.endlib) (e ∙ ap (λ (x : List ℕ). x ++ more) ends.1 ∙ append_assoc ends.0 (kinds.endlib ∷ []) more) (open_lacks rs goes))

-- ---- the laws

one_of : (bytes : List ℕ) (l m : Library) (h : Holds bytes l) (i : Holds bytes m) → Compared bytes 0 h.records h.end i.records i.end → l ≡ m
one_of bytes l m h i (alike e f) = h.is ∙ ap (library_of bytes) e ∙ sym i.is
one_of bytes l m h i (first_ends r more e found) = absurd (no_longer h.records i.records r more h.has i.has e)
one_of bytes l m h i (second_ends r more e found) = absurd (no_longer i.records h.records r more i.has h.has e)

pub one_library : (bytes : List ℕ) (l m : Library) → Holds bytes l → Holds bytes m → l ≡ m
one_library bytes l m h i = one_of bytes l m h i (compare bytes 0 h.records h.end i.records i.end h.lies i.lies)

apart_of : (bytes : List ℕ) (l : Library) (f : Fault) (h : Holds bytes l) (rs : List Record) (at : ℕ) → IsReadTo bytes rs at
    → IsWrong bytes rs at f → Compared bytes 0 rs at h.records h.end → ⊥
apart_of bytes l f h rs at read wrong (alike e g) =
    open_never rs (kinds_of h.records) read.goes_on (library_ends (kinds_of h.records) h.has) [] (ap kinds_of e ∙ sym (append-nil (kinds_of h.records)))
apart_of bytes l f h rs at read wrong (first_ends r more e found) =
    not_wrong bytes rs at r f found
    (begins_front rs r more ([], subst (Has library) (ap kinds_of e ∙ sym (append-nil (kinds_of (rs ++ r ∷ more)))) h.has))
    (sound_at [] rs r more (subst (IsSound []) e h.sound)) wrong
apart_of bytes l f h rs at read wrong (second_ends r more e found) =
    open_never rs (kinds_of h.records) read.goes_on (library_ends (kinds_of h.records) h.has) (kinds_of (r ∷ more)) (ap kinds_of e ∙ kinds_append h.records (r ∷ more))

pub apart : (bytes : List ℕ) (l : Library) (f : Fault) → Holds bytes l → IsFirstFault bytes f → ⊥
apart bytes l f h first = apart_of bytes l f h first.0 first.1 first.2 first.3 (compare bytes 0 first.0 first.1 h.records h.end first.2.lies h.lies)

same_wrong : (bytes : List ℕ) (rs : List Record) (at : ℕ) (f g : Fault) → IsWrong bytes rs at f → IsWrong bytes rs at g → f ≡ g
same_wrong bytes rs at f g (no_record x e) (no_record y h) = cc
same_wrong bytes rs at f g (no_record x e) (not_here s h n) = absurd cc
same_wrong bytes rs at f g (no_record x e) (refused s y h b w) = absurd cc
same_wrong bytes rs at f g (not_here r e m) (no_record y h) = absurd cc
same_wrong bytes rs at f g (not_here r e m) (not_here s h n) = refl
same_wrong bytes rs at f g (not_here r e m) (refused s y h b w) =
    absurd (m (subst (λ (x : Record). Begins library (kinds_of (rs ++ x ∷ []))) (same_ok (record_at bytes at) s r h e) b))
same_wrong bytes rs at f g (refused r x e b w) (no_record y h) = absurd cc
same_wrong bytes rs at f g (refused r x e b w) (not_here s h n) =
    absurd (n (subst (λ (x : Record). Begins library (kinds_of (rs ++ x ∷ []))) (same_ok (record_at bytes at) r s e h) b))
same_wrong bytes rs at f g (refused r x e b w) (refused s y h c v) =
    let same : r ≡ s = same_ok (record_at bytes at) r s e h in
    let w1 : refusal rs s ≡ Some x = subst (λ (z : Record). refusal rs z ≡ Some x) same w in
    cc

fault_of : (bytes : List ℕ) (f g : Fault) (rs : List Record) (at : ℕ) (qs : List Record) (to : ℕ) → IsReadTo bytes rs at
    → IsWrong bytes rs at f → IsReadTo bytes qs to → IsWrong bytes qs to g → Compared bytes 0 rs at qs to → f ≡ g
fault_of bytes f g rs at qs to read wrong read2 wrong2 (alike e h) =
    same_wrong bytes rs at f g wrong (subst (λ (n : ℕ). IsWrong bytes rs n g) (sym h) (subst (λ (x : List Record). IsWrong bytes x to g) (sym e) wrong2))
fault_of bytes f g rs at qs to read wrong read2 wrong2 (first_ends r more e found) =
    absurd (not_wrong bytes rs at r f found
    (begins_front rs r more (subst (λ (x : List Record). Begins library (kinds_of x)) e read2.begins))
    (sound_at [] rs r more (subst (IsSound []) e read2.sound)) wrong)
fault_of bytes f g rs at qs to read wrong read2 wrong2 (second_ends r more e found) =
    absurd (not_wrong bytes qs to r g found
    (begins_front qs r more (subst (λ (x : List Record). Begins library (kinds_of x)) e read.begins))
    (sound_at [] qs r more (subst (IsSound []) e read.sound)) wrong2)

pub one_fault : (bytes : List ℕ) (f g : Fault) → IsFirstFault bytes f → IsFirstFault bytes g → f ≡ g
one_fault bytes f g a b = fault_of bytes f g a.0 a.1 b.0 b.1 a.2 a.3 b.2 b.3 (compare bytes 0 a.0 a.1 b.0 b.1 a.2.lies b.2.lies)
