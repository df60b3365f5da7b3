-- Reading the elements of a structure.
use Rattle.std.proofs.Common.{◌≡◌, ℕ, Bool, true, false, not, ◌&&◌, inl, cond, eqb, List, [], ◌∷◌, ◌++◌, map}
use Rattle.std.proofs.Common.{Some, None, Ok, Err, refl, sym, subst, ap, ◌∙◌, append_assoc}
use Rattle.std.proofs.lemmas.Bool.{eqb-false, eq-eqb}
use Rattle.std.proofs.lemmas.List.{map-append}
use Rattle.dpl_spec_format.specs.Kinds as kinds
use Rattle.dpl_spec_format.specs.Faults.{Fault}
use Rattle.dpl_spec_format.specs.Records.{Record, record_at}
use Rattle.dpl_spec_format.specs.Grammar.{Grammar, both, many, maybe, a}
use Rattle.dpl_spec_format.specs.Grammar as grammar
use Rattle.dpl_spec_format.specs.Stream.{refusal_in}
use Rattle.dpl_spec_format.specs.Tree as tree
use Rattle.dpl_spec_format.specs.Tree.{parts, before, element_of}
use Rattle.dpl_syntax.specs.Reading as reading
use Rattle.dpl_syntax.specs.Reached.{Reached}
use Rattle.dpl_syntax.specs.Inner.{is_inner, AreInner}
use Rattle.dpl_syntax.specs.Passing.{Passes, Fails, same, element_then, IsElement, IsNextElement, IsNoElement, endstr_first, elements_first}
use Rattle.dpl_syntax.specs.Passing.{class_first, is_calm, AreCalm, AreElements}
use Rattle.dpl_syntax.proofs.Languages.{Avoids, Exists, Moves, moves_one, moves_agreed, takes_many, ends_many, exists_rest}
use Rattle.dpl_syntax.proofs.Languages.{exists_both, avoids_one, avoids_both, avoids_behind, avoids_many}
use Rattle.dpl_syntax.proofs.Steps.{agreed, moved, stops}
use Rattle.dpl_syntax.proofs.Taking.{same_record, if_some, if_none, if_fails}
use Rattle.dpl_syntax.proofs.Slotting.{no_outer}
use Rattle.dpl_syntax.proofs.Lists.{avoids_a}
use Rattle.dpl_syntax.proofs.Ends.{passes_none, passes_then, fails_then, IsNever, never, IsOne}
use Rattle.dpl_syntax.proofs.ElementBodies.{by_kind, tail, choice, avoids_choice, solid_choice}

-- ---- what the records are

abbrev split_elements : List Record → List (Record × List Record)
split_elements rs = parts kinds.begins_element kinds.endel rs

pub calm_append : (rs qs : List Record) → AreCalm rs → AreCalm qs → AreCalm (rs ++ qs)
calm_append [] qs one other = other
calm_append (r ∷ rs) qs one other = (one.0, calm_append rs qs one.1 other)

pub no_elements : AreElements [] []
no_elements = record { each = []; split = λ more. refl; are = refl; calm = tt }

pub elements_append : (es fs : List tree.Element) (rs qs : List Record) → AreElements es rs → AreElements fs qs → AreElements (es ++ fs) (rs ++ qs)
elements_append es fs rs qs one other = record {
  each = one.each ++ other.each;
  split = λ more. ap split_elements (append_assoc rs qs more) ∙ one.split (qs ++ more)
      ∙ ap (λ (x : List (Record × List Record)). one.each ++ x) (other.split more)
      ∙ sym (append_assoc one.each other.each (split_elements more));
  are = map-append element_of one.each other.each ∙ ap (λ (x : List tree.Element). x ++ map element_of other.each) one.are ∙ ap (λ (x : List tree.Element). es ++ x) other.are;
  calm = calm_append rs qs one.calm other.calm;
}

-- a record that begins nothing is passed over
parts_skip : (r : Record) (more : List Record) → kinds.begins_element r.kind ≡ false → split_elements (r ∷ more) ≡ split_elements more
unfolding parts
parts_skip r more e = ap (λ (b : Bool). cond b ((r, before kinds.endel more) ∷ split_elements more) (split_elements more)) e

parts_begin : (r : Record) (more : List Record) → kinds.begins_element r.kind ≡ true → split_elements (r ∷ more) ≡ (r, before kinds.endel more) ∷ split_elements more
unfolding parts
parts_begin r more e = ap (λ (b : Bool). cond b ((r, before kinds.endel more) ∷ split_elements more) (split_elements more)) e

parts_inner : (rs more : List Record) → AreInner rs → split_elements (rs ++ more) ≡ split_elements more
parts_inner [] more inner = refl
parts_inner (r ∷ rs) more inner = parts_skip r (rs ++ more) ((no_outer r.kind inner.0).begins) ∙ parts_inner rs more inner.1

before_inner : (rs more : List Record) (end : Record) → AreInner rs → end.kind ≡ kinds.endel → before kinds.endel (rs ++ end ∷ more) ≡ rs
before_inner [] more end inner e = ap (λ (b : Bool). cond b [] (end ∷ before kinds.endel more)) (eq-eqb end.kind kinds.endel e)
before_inner (r ∷ rs) more end inner e =
    ap (λ (b : Bool). cond b [] (r ∷ before kinds.endel (rs ++ end ∷ more))) ((no_outer r.kind inner.0).endel)
    ∙ ap (λ (x : List Record). r ∷ x) (before_inner rs more end inner.1 e)

calm_of : (a b c d : Bool) → a ≡ false → b ≡ false → c ≡ false → d ≡ false → not a && (not b && (not c && not d)) ≡ true
calm_of a b c d p q r s = rw (p, q, r, s) refl

calm_kind : (k : ℕ) → is_inner k ≡ true → is_calm k ≡ true
calm_kind k inner =
    let n = no_outer k inner in
    calm_of (eqb k kinds.bgnstr) (eqb k kinds.endstr) (eqb k kinds.strname) (eqb k kinds.endlib) n.bgnstr n.endstr n.strname n.endlib

calm_inner : (rs : List Record) → AreInner rs → AreCalm rs
calm_inner [] inner = tt
calm_inner (r ∷ rs) inner = (calm_kind r.kind inner.0, calm_inner rs inner.1)

calm_first : (k : ℕ) → kinds.begins_element k ≡ true → is_calm k ≡ true
calm_first = by_kind (λ k. is_calm k ≡ true) refl refl refl refl refl refl refl

pub element_is : (e : tree.Element) (rs : List Record) → IsElement e rs → AreElements (e ∷ []) rs
element_is e rs is =
    let whole : List Record = is.first ∷ (is.inner ++ is.endel ∷ []) in
    let no_begin : kinds.begins_element is.endel.kind ≡ false = ap kinds.begins_element is.ends in
    let split : (more : List Record) → split_elements (whole ++ more) ≡ (is.first, is.inner) ∷ split_elements more =
    λ more.
    parts_begin is.first ((is.inner ++ is.endel ∷ []) ++ more) is.begins
    ∙ ap (λ (x : List Record). (is.first, before kinds.endel x) ∷ split_elements x) (append_assoc is.inner (is.endel ∷ []) more)
    ∙ ap (λ (x : List Record). (is.first, x) ∷ split_elements (is.inner ++ is.endel ∷ more)) (before_inner is.inner more is.endel is.are is.ends)
    ∙ ap (λ (x : List (Record × List Record)). (is.first, is.inner) ∷ x) (parts_inner is.inner (is.endel ∷ more) is.are ∙ parts_skip is.endel more no_begin) in
    subst (AreElements (e ∷ [])) (sym is.split) (record {
      each = (is.first, is.inner) ∷ [];
      split = split;
      are = ap (λ (x : tree.Element). x ∷ []) (sym is.is);
      calm = (calm_first is.first.kind is.begins, calm_append is.inner (is.endel ∷ []) (calm_inner is.inner is.are) (ap is_calm is.ends, tt));
    })

class_is : (r : Record) (rs : List Record) → IsOne kinds.structure_class r rs → AreElements [] rs
class_is r rs one =
    subst (AreElements []) (sym one.split) (record {
      each = [];
      split = λ more. parts_skip r more (ap kinds.begins_element one.is);
      are = refl;
      calm = (ap is_calm one.is, tt);
    })

-- ---- the grammar of an element

pub avoids_element : (k : ℕ) → kinds.begins_element k ≡ false → Avoids grammar.element k
avoids_element k e = avoids_both choice tail k solid_choice (avoids_choice k e)

one_of : (kind : ℕ) → Exists (a kind)
one_of kind = (kind ∷ [], (kind, refl, eq-eqb kind kind refl))

none_of : (g : Grammar) → Exists (maybe g)
none_of g = ([], inl refl)

some_boundary : Exists grammar.boundary
some_boundary =
    exists_both (a kinds.boundary) (grammar.flags (both (a kinds.layer) (both (a kinds.datatype) (a kinds.xy)))) (one_of kinds.boundary)
    (exists_both (maybe (a kinds.elflags)) (both (maybe (a kinds.plex)) (both (a kinds.layer) (both (a kinds.datatype) (a kinds.xy)))) (none_of (a kinds.elflags))
    (exists_both (maybe (a kinds.plex)) (both (a kinds.layer) (both (a kinds.datatype) (a kinds.xy))) (none_of (a kinds.plex))
    (exists_both (a kinds.layer) (both (a kinds.datatype) (a kinds.xy)) (one_of kinds.layer)
    (exists_both (a kinds.datatype) (a kinds.xy) (one_of kinds.datatype) (one_of kinds.xy)))))

some_element : Exists grammar.element
some_element = exists_both choice tail (some_boundary.0, inl some_boundary.1) (kinds.endel ∷ [], ([], kinds.endel ∷ [], refl, ([], refl, tt), (kinds.endel, refl, refl)))

-- ---- records of the class

never_class : IsNever kinds.structure_class
unfolding refusal_in
never_class o known at body = refl

avoids_elements : (rest : Grammar) (k : ℕ) → kinds.begins_element k ≡ false → eqb k kinds.endstr ≡ false → Avoids (elements_first rest) k
avoids_elements rest k e f = avoids_behind (many grammar.element) (endstr_first rest) k (avoids_many grammar.element k (avoids_element k e)) (avoids_a kinds.endstr k rest f)

passes_class : (bytes : List ℕ) (at : ℕ) (r : Record) (n : ℕ) → reading.take_if bytes kinds.structure_class at ≡ Ok (Some r, n)
    → Passes bytes class_first class_first (IsOne kinds.structure_class r) at n
passes_class bytes at r n e before rest reached =
    let s = if_some bytes kinds.structure_class at r n e in
    let after : Grammar = class_first rest in
    let avoids : Avoids (elements_first rest) r.kind = subst (Avoids (elements_first rest)) (sym s.1) (avoids_elements rest kinds.structure_class refl refl) in
    let moves : Moves after r.kind after = moves_agreed after (both (a kinds.structure_class) after) after r.kind
    (takes_many (a kinds.structure_class) (elements_first rest) r.kind avoids) (moves_one (λ j. eqb j kinds.structure_class) after r.kind
    (eq-eqb r.kind kinds.structure_class s.1)) in
    let there = moved bytes before at after after r reached s.0 moves reached.some (never before r kinds.structure_class never_class s.1)
    (λ h. eqb-false kinds.structure_class kinds.endlib refl (sym s.1 ∙ h)) in
    (r ∷ [], record { split = refl; is = s.1 }, subst (λ (m : ℕ). Reached bytes (before ++ r ∷ []) after m) (sym s.2) there)

pub class_more : (bytes : List ℕ) (from at n : ℕ) (r : Record) → Passes bytes class_first class_first (AreElements []) from at
    → reading.take_if bytes kinds.structure_class at ≡ Ok (Some r, n) → Passes bytes class_first class_first (AreElements []) from n
class_more bytes from at n r so_far e =
    passes_then bytes class_first class_first class_first (AreElements []) (IsOne kinds.structure_class r) (AreElements []) from at n
    (λ rs qs p q. elements_append [] [] rs qs p (class_is r qs q)) so_far (passes_class bytes at r n e)

pub class_done : (bytes : List ℕ) (from at n : ℕ) → Passes bytes class_first class_first (AreElements []) from at
    → reading.take_if bytes kinds.structure_class at ≡ Ok (None, n) → Passes bytes class_first elements_first (AreElements []) from n
class_done bytes from at n so_far e before rest reached =
    let p = so_far before rest reached in
    let s = if_none bytes kinds.structure_class at n e in
    let there = agreed bytes (before ++ p.0) at (class_first rest) (elements_first rest) p.2
    (λ x found. ends_many (a kinds.structure_class) (elements_first rest) x.kind (avoids_one (λ j. eqb j kinds.structure_class) x.kind
    (subst (λ (y : Record). eqb y.kind kinds.structure_class ≡ false) (same_record (record_at bytes at) s.0 x s.1 found) s.2)))
    (exists_rest (many (a kinds.structure_class)) (elements_first rest) p.2.some) in
    (p.0, p.1, subst (λ (m : ℕ). Reached bytes (before ++ p.0) (elements_first rest) m) (sym s.3) there)

pub class_fails : (bytes : List ℕ) (from at : ℕ) (f : Fault) → Passes bytes class_first class_first (AreElements []) from at
    → reading.take_if bytes kinds.structure_class at ≡ Err f → Fails bytes class_first from f
class_fails bytes from at f so_far e = fails_then bytes class_first class_first (AreElements []) from at f so_far
    (λ before rest reached. stops bytes before at (class_first rest) f reached (if_fails bytes kinds.structure_class at f e))

-- ---- elements

no_endstr : (k : ℕ) → kinds.begins_element k ≡ true → eqb k kinds.endstr ≡ false
no_endstr = by_kind (λ k. eqb k kinds.endstr ≡ false) refl refl refl refl refl refl refl

enters_element : (bytes : List ℕ) (before : List Record) (rest : Grammar) (at : ℕ) (h : Record) → IsNextElement bytes at h
    → Reached bytes before (elements_first rest) at → Reached bytes before (element_then (elements_first rest)) at
enters_element bytes before rest at h next reached =
    agreed bytes before at (elements_first rest) (element_then (elements_first rest)) reached
    (λ x found. takes_many grammar.element (endstr_first rest) x.kind
    (avoids_a kinds.endstr x.kind rest
    (no_endstr x.kind (subst (λ (y : Record). kinds.begins_element y.kind ≡ true) (same_record (record_at bytes at) h x next.found found)
    next.begins))))
    (exists_both grammar.element (elements_first rest) some_element reached.some)

pub elements_more : (bytes : List ℕ) (from at n : ℕ) (es : List tree.Element) (e : tree.Element) (h : Record)
    → Passes bytes elements_first elements_first (AreElements es) from at → IsNextElement bytes at h
    → Passes bytes element_then same (IsElement e) at n
    → Passes bytes elements_first elements_first (AreElements (es ++ e ∷ [])) from n
elements_more bytes from at n es e h so_far next one =
    passes_then bytes elements_first elements_first elements_first (AreElements es) (IsElement e) (AreElements (es ++ e ∷ [])) from at n
    (λ rs qs p q. elements_append es (e ∷ []) rs qs p (element_is e qs q)) so_far
    (λ before rest reached. one before (elements_first rest) (enters_element bytes before rest at h next reached))

pub none_yet : (bytes : List ℕ) (at : ℕ) → Passes bytes elements_first elements_first (AreElements []) at at
none_yet bytes at = passes_none bytes elements_first (AreElements []) at no_elements

pub elements_done : (bytes : List ℕ) (from at : ℕ) (es : List tree.Element)
    → Passes bytes elements_first elements_first (AreElements es) from at → IsNoElement bytes at
    → Passes bytes elements_first endstr_first (AreElements es) from at
elements_done bytes from at es so_far none before rest reached =
    let p = so_far before rest reached in (
      p.0,
      p.1,
      agreed bytes (before ++ p.0) at (elements_first rest) (endstr_first rest) p.2
          (λ x found. ends_many grammar.element (endstr_first rest) x.kind
          (avoids_element x.kind (subst (λ (y : Record). kinds.begins_element y.kind ≡ false)
          (same_record (record_at bytes at) none.0 x none.1 found) none.2))) (exists_rest (many grammar.element) (endstr_first rest) p.2.some),
    )

pub elements_stop : (bytes : List ℕ) (from at : ℕ) (es : List tree.Element) (f : Fault)
    → Passes bytes elements_first elements_first (AreElements es) from at → record_at bytes at ≡ Err f → Fails bytes elements_first from f
elements_stop bytes from at es f so_far e = fails_then bytes elements_first elements_first (AreElements es) from at f so_far
    (λ before rest reached. stops bytes before at (elements_first rest) f reached e)

pub elements_fail : (bytes : List ℕ) (from at : ℕ) (es : List tree.Element) (h : Record) (f : Fault)
    → Passes bytes elements_first elements_first (AreElements es) from at → IsNextElement bytes at h → Fails bytes element_then at f
    → Fails bytes elements_first from f
elements_fail bytes from at es h f so_far next fails =
    fails_then bytes elements_first elements_first (AreElements es) from at f so_far
    (λ before rest reached. fails before (elements_first rest) (enters_element bytes before rest at h next reached))
