-- Reading the structures of a library.
use Rattle.std.proofs.Common.{◌≡◌, ℕ, Bool, true, false, ◌||◌, inl, inr, cond, eqb, List, [], ◌∷◌, ◌++◌, map}
use Rattle.std.proofs.Common.{◌<◌, ◌≤◌, length, Some, Ok, Err, refl, sym, subst, ap, ◌∙◌, append_assoc}
use Rattle.std.specs.List.{list_any}
use Rattle.std.proofs.lemmas.List.{append-nil, map-append}
use Rattle.indexmap.specs.IndexMap.{insert_entry}
use Rattle.dpl_spec_format.specs.Kinds as kinds
use Rattle.dpl_spec_format.specs.Faults.{Fault}
use Rattle.dpl_spec_format.specs.Records.{Record, record_at}
use Rattle.dpl_spec_format.specs.Grammar.{many, a}
use Rattle.dpl_spec_format.specs.Grammar as grammar
use Rattle.dpl_spec_format.specs.Stream.{names}
use Rattle.dpl_spec_format.specs.Tree as tree
use Rattle.dpl_spec_format.specs.Tree.{structure_of}
use Rattle.dpl_spec_format.specs.Layout.{IsFirstFault}
use Rattle.dpl_syntax.specs.Reading as reading
use Rattle.dpl_syntax.specs.Reached.{Reached}
use Rattle.dpl_syntax.specs.Libraries.{Entries, structures_seen, known_names}
use Rattle.dpl_syntax.specs.Passing.{same, PassesNamed, FailsNamed, structure_then, structures_first, endlib_first, split_structures, IsNext, IsOther, IsStructure, AreStructures}
use Rattle.dpl_syntax.proofs.Languages.{takes_many, ends_many, exists_rest, exists_both, avoids_one}
use Rattle.dpl_syntax.proofs.Steps.{agreed, stops, stops_at}
use Rattle.dpl_syntax.proofs.Taking.{same_record, missed, if_some}
use Rattle.dpl_syntax.proofs.Slotting.{names-append}
use Rattle.dpl_syntax.proofs.Lists.{avoids_a}
use Rattle.dpl_syntax.proofs.WholeStructures.{some_structure, inside}

-- ---- the map

first : (x y : Bool) → x || y ≡ false → x ≡ false
first true y e = absurd cc
first false y e = refl

second : (x y : Bool) → x || y ≡ false → y ≡ false
second true y e = absurd cc
second false y e = e

-- a key that isn't there goes last
pub insert_new : {K V N : Type 0} (name : K → N) (eq : K → K → Bool) (q : N → Bool) (es : List (K × V)) (k : K) (v : V)
    → ((j : K) → eq k j ≡ q (name j)) → list_any q (map (λ (e : K × V). name e.0) es) ≡ false → insert_entry eq es k v ≡ es ++ (k, v) ∷ []
insert_new name eq q [] k v same_ none = refl
insert_new {K} {V} {N} name eq q (e ∷ es) k v same_ none =
    let here : eq k e.0 ≡ false = same_ e.0 ∙ first (q (name e.0)) (list_any q (map (λ (e : K × V). name e.0) es)) none in
    let there = insert_new name eq q es k v same_ (second (q (name e.0)) (list_any q (map (λ (e : K × V). name e.0) es)) none) in
    ap (λ (b : Bool). cond b ((e.0, v) ∷ es) (e ∷ insert_entry eq es k v)) here ∙ ap (λ (x : List (K × V)). e ∷ x) there

names_of_seen : (entries : Entries) → map (λ (s : tree.Structure). s.name) (structures_seen entries) ≡ known_names entries
names_of_seen [] = refl
names_of_seen (e ∷ entries) = ap (λ (x : List (List ℕ)). e.0.now ∷ x) (names_of_seen entries)

-- ---- what the records are

pub no_structures : (bytes : List ℕ) → AreStructures bytes [] []
no_structures bytes = record { each = []; split = λ more. refl; are = refl; named = refl }

structures_push : (bytes : List ℕ) (ss : List tree.Structure) (s : tree.Structure) (rs qs : List Record) → AreStructures bytes ss rs
    → IsStructure bytes s qs → AreStructures bytes (ss ++ s ∷ []) (rs ++ qs)
structures_push bytes ss s rs qs first second = record {
  each = first.each ++ second.each ∷ [];
  split = λ more. ap split_structures (append_assoc rs qs more) ∙ first.split (qs ++ more)
      ∙ ap (λ (x : List (Record × List Record)). first.each ++ x) (second.split more)
      ∙ sym (append_assoc first.each (second.each ∷ []) (split_structures more));
  are = map-append (structure_of bytes) first.each (second.each ∷ [])
      ∙ ap (λ (x : List tree.Structure). x ++ structure_of bytes second.each ∷ []) first.are
      ∙ ap (λ (x : tree.Structure). ss ++ x ∷ []) second.is;
  named = names-append rs qs ∙ ap (λ (x : List (List ℕ)). x ++ names qs) first.named
      ∙ ap (λ (x : List (List ℕ)). map (λ (t : tree.Structure). t.name) ss ++ x) second.named
      ∙ sym (map-append (λ (t : tree.Structure). t.name) ss (s ∷ []));
}

-- ---- reading on

-- a record that was taken was the next
pub is_next : (bytes : List ℕ) (kind at n : ℕ) (r : Record) → reading.take_if bytes kind at ≡ Ok (Some r, n) → r.at ≡ at → r.at < r.next
    → r.next ≤ length bytes → IsNext bytes at kind r
is_next bytes kind at n r e at_is after within =
    let s = if_some bytes kind at r n e in
    record { found = s.0; at_is = at_is; after = subst (λ (x : ℕ). x < r.next) at_is after; within = within; is = s.1 }

-- it stands at its offset
pub is_here : (bytes : List ℕ) (kind at : ℕ) (r : Record) → IsNext bytes at kind r → IsNext bytes r.at kind r
is_here bytes kind at r next = subst (λ (x : ℕ). IsNext bytes x kind r) (sym next.at_is) next

module _ (bytes : List ℕ) (from : ℕ) where
  pub no_structure : PassesNamed bytes [] structures_first structures_first (AreStructures bytes []) from from
  no_structure before rest named reached = ([], no_structures bytes, subst (λ (x : List Record). Reached bytes x (structures_first rest) from) (sym (append-nil before)) reached)

  module _ (at : ℕ) (entries : Entries) (so_far : PassesNamed bytes [] structures_first structures_first (AreStructures bytes (structures_seen entries)) from at) where
    known_so_far : (before rs : List Record) → names before ≡ [] → AreStructures bytes (structures_seen entries) rs → names (before ++ rs) ≡ known_names entries
    known_so_far before rs named are = names-append before rs ∙ ap (λ (x : List (List ℕ)). x ++ names rs) named ∙ are.named ∙ names_of_seen entries

    enters : (before : List Record) (h : Record) → IsNext bytes at kinds.bgnstr h
        → Reached bytes before (structures_first (a kinds.endlib)) at
        → Reached bytes before (structure_then (structures_first (a kinds.endlib))) at
    enters before h next reached =
        agreed bytes before at (structures_first (a kinds.endlib)) (structure_then (structures_first (a kinds.endlib))) reached
        (λ x found. takes_many grammar.structure (a kinds.endlib) x.kind
        (avoids_one (λ j. eqb j kinds.endlib) x.kind
        (ap (λ (k : ℕ). eqb k kinds.endlib) (ap (λ (y : Record). y.kind) (sym (same_record (record_at bytes at) h x next.found found))
        ∙ next.is))))
        (exists_both grammar.structure (structures_first (a kinds.endlib)) some_structure reached.some)

    pub structures_more : (n : ℕ) (h : Record) (s : tree.Structure) → IsNext bytes at kinds.bgnstr h
        → PassesNamed bytes (known_names entries) structure_then same (IsStructure bytes s) at n
        → PassesNamed bytes [] structures_first structures_first (AreStructures bytes (structures_seen entries ++ s ∷ [])) from n
    structures_more n h s next passes before rest named reached =
        let p = so_far before rest named reached in
        let q = passes (before ++ p.0) (structures_first (a kinds.endlib)) (known_so_far before p.0 named p.1) (enters (before ++ p.0) h next p.2) in (
          p.0 ++ q.0,
          structures_push bytes (structures_seen entries) s p.0 q.0 p.1 q.1,
          subst (λ (x : List Record). Reached bytes x (structures_first rest) n) (append_assoc before p.0 q.0) q.2,
        )

    pub structures_fail : (h : Record) (f : Fault) → IsNext bytes at kinds.bgnstr h
        → FailsNamed bytes (known_names entries) structure_then at f → FailsNamed bytes [] structures_first from f
    structures_fail h f next fails before rest named reached =
        let p = so_far before rest named reached in
        fails (before ++ p.0) (structures_first (a kinds.endlib)) (known_so_far before p.0 named p.1) (enters (before ++ p.0) h next p.2)

    pub structures_stop : (f : Fault) → record_at bytes at ≡ Err f → FailsNamed bytes [] structures_first from f
    structures_stop f e before rest named reached =
        let p = so_far before rest named reached in
        stops bytes (before ++ p.0) at (structures_first rest) f p.2 e

    pub structures_done : IsOther bytes at kinds.bgnstr → PassesNamed bytes [] structures_first endlib_first (AreStructures bytes (structures_seen entries)) from at
    structures_done other before rest named reached =
        let p = so_far before rest named reached in (
          p.0,
          p.1,
          agreed bytes (before ++ p.0) at (structures_first rest) (endlib_first rest) p.2
              (λ x found. ends_many grammar.structure (a kinds.endlib) x.kind
              (avoids_a kinds.bgnstr x.kind inside (subst (λ (y : Record). eqb y.kind kinds.bgnstr ≡ false)
              (same_record (record_at bytes at) other.0 x other.1 found) other.2)))
              (exists_rest (many grammar.structure) (a kinds.endlib) p.2.some),
        )

  -- behind the last structure is no ENDLIB
  pub no_endlib : (n : ℕ) (ss : List tree.Structure) (f : Fault) → PassesNamed bytes [] structures_first endlib_first (AreStructures bytes ss) from n
      → reading.take bytes kinds.endlib n ≡ Err f → FailsNamed bytes [] structures_first from f
  no_endlib n ss f passes e before rest named reached =
      let p = passes before rest named reached in
      elim (missed kinds.endlib n (record_at bytes n) f e) [
        | inl x ↦ stops bytes (before ++ p.0) n (a kinds.endlib) f p.2 x
        | inr m ↦ subst (IsFirstFault bytes) m.3 (stops_at bytes (before ++ p.0) n (a kinds.endlib) m.0 p.2 m.1
            (avoids_one (λ j. eqb j kinds.endlib) m.0.kind m.2))
      ]
