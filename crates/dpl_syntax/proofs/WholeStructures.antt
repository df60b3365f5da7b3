-- Reading a whole structure.
use Rattle.std.proofs.Common.{◌≡◌, ℕ, Bool, true, false, not, ◌&&◌, ◌⊎◌, inl, inr, cond, eqb, List, [], ◌∷◌, ◌++◌, map}
use Rattle.std.proofs.Common.{Option, Some, None, Result, Ok, Err, refl, sym, subst, ap, ◌∙◌, append_assoc}
use Rattle.std.specs.Prelude.{nat_eq, filter}
use Rattle.std.specs.List.{list_any}
use Rattle.std.specs.Cmp.Lexicographic.{pointwise}
use Rattle.std.proofs.lemmas.Bool.{eqb-false, eq-eqb}
use Rattle.std.proofs.lemmas.List.{append-nil}
use Rattle.dpl_spec_format.specs.Kinds as kinds
use Rattle.dpl_spec_format.specs.Faults.{Fault, bad_name, duplicate_structure}
use Rattle.dpl_spec_format.specs.Fields.{name_of}
use Rattle.dpl_spec_format.specs.Records.{Record, record_at}
use Rattle.dpl_spec_format.specs.Grammar.{Grammar, both, many, a}
use Rattle.dpl_spec_format.specs.Grammar as grammar
use Rattle.dpl_spec_format.specs.Stream.{owner, names, refusal, refusal_in, is_empty}
use Rattle.dpl_spec_format.specs.Tree as tree
use Rattle.dpl_spec_format.specs.Tree.{parts, before, first_of, data_or_none, element_of}
use Rattle.dpl_spec_format.specs.Layout.{IsFirstFault}
use Rattle.dpl_syntax.specs.Reading as reading
use Rattle.dpl_syntax.specs.Reached.{Reached}
use Rattle.dpl_syntax.specs.Passing.{Passes, Fails, same, endstr_first, elements_first, class_first, is_calm, AreCalm, AreElements, AreTakenElements}
use Rattle.dpl_syntax.specs.Passing.{PassesNamed, FailsNamed, structure_then, split_structures, IsStructure}
use Rattle.dpl_syntax.proofs.Languages.{Exists, Moves, moves_one, moves_agreed, agrees_regrouped, exists_rest, exists_both, regroups, regroups_back}
use Rattle.dpl_syntax.proofs.Steps.{moved}
use Rattle.dpl_syntax.proofs.Taking.{guard_not, guard_not_err, take_kind, take_ok, take_err, take_refused}
use Rattle.dpl_syntax.proofs.Items.{bind_ok, bind_err}
use Rattle.dpl_syntax.proofs.Slotting.{and_first, and_second, not_true, names-append}
use Rattle.dpl_syntax.proofs.Ends.{passes_then, fails_then, IsNever, never, passes_one, fails_one}
use Rattle.dpl_syntax.proofs.ElementLists.{elements_append}

-- ---- calm records

pub record IsStill (k : ℕ) : Type 0 where
  pub bgnstr : eqb k kinds.bgnstr ≡ false
  pub endstr : eqb k kinds.endstr ≡ false
  pub strname : eqb k kinds.strname ≡ false
  pub endlib : eqb k kinds.endlib ≡ false

none_of : (p q r s : Bool) → not p && (not q && (not r && not s)) ≡ true → (p ≡ false) × (q ≡ false) × (r ≡ false) × (s ≡ false)
none_of p q r s h =
    let h1 = and_second (not p) (not q && (not r && not s)) h in
    let h2 = and_second (not q) (not r && not s) h1 in (
      not_true p (and_first (not p) (not q && (not r && not s)) h),
      not_true q (and_first (not q) (not r && not s) h1),
      not_true r (and_first (not r) (not s) h2),
      not_true s (and_second (not r) (not s) h2),
    )

still : (k : ℕ) → is_calm k ≡ true → IsStill k
still k calm =
    let h = none_of (eqb k kinds.bgnstr) (eqb k kinds.endstr) (eqb k kinds.strname) (eqb k kinds.endlib) calm in
    record { bgnstr = h.0; endstr = h.1; strname = h.2; endlib = h.3 }

pub structures_skip : (r : Record) (more : List Record) → eqb r.kind kinds.bgnstr ≡ false → split_structures (r ∷ more) ≡ split_structures more
unfolding parts
structures_skip r more e = ap (λ (b : Bool). cond b ((r, before kinds.endstr more) ∷ split_structures more) (split_structures more)) e

structures_begin : (r : Record) (more : List Record) → eqb r.kind kinds.bgnstr ≡ true → split_structures (r ∷ more) ≡ (r, before kinds.endstr more) ∷ split_structures more
unfolding parts
structures_begin r more e = ap (λ (b : Bool). cond b ((r, before kinds.endstr more) ∷ split_structures more) (split_structures more)) e

structures_calm : (rs more : List Record) → AreCalm rs → split_structures (rs ++ more) ≡ split_structures more
structures_calm [] more calm = refl
structures_calm (r ∷ rs) more calm = structures_skip r (rs ++ more) ((still r.kind calm.0).bgnstr) ∙ structures_calm rs more calm.1

before_calm : (rs more : List Record) (end : Record) → AreCalm rs → end.kind ≡ kinds.endstr → before kinds.endstr (rs ++ end ∷ more) ≡ rs
before_calm [] more end calm e = ap (λ (b : Bool). cond b [] (end ∷ before kinds.endstr more)) (eq-eqb end.kind kinds.endstr e)
before_calm (r ∷ rs) more end calm e =
    ap (λ (b : Bool). cond b [] (r ∷ before kinds.endstr (rs ++ end ∷ more))) ((still r.kind calm.0).endstr) ∙ ap (λ (x : List Record). r ∷ x) (before_calm rs more end calm.1 e)

abbrev is_strname : Record → Bool
is_strname r = eqb r.kind kinds.strname

abbrev name_in : Record → List ℕ
name_in r = name_of r.body

pub names_other : (r : Record) (rs : List Record) → eqb r.kind kinds.strname ≡ false → names (r ∷ rs) ≡ names rs
names_other r rs e = ap (λ (b : Bool). map name_in (cond b (r ∷ filter is_strname rs) (filter is_strname rs))) e

names_one : (r : Record) (rs : List Record) → eqb r.kind kinds.strname ≡ true → names (r ∷ rs) ≡ name_of r.body ∷ names rs
names_one r rs e = ap (λ (b : Bool). map name_in (cond b (r ∷ filter is_strname rs) (filter is_strname rs))) e

names_calm : (rs : List Record) → AreCalm rs → names rs ≡ []
names_calm [] calm = refl
names_calm (r ∷ rs) calm = names_other r rs ((still r.kind calm.0).strname) ∙ names_calm rs calm.1

-- ---- what the records are

module _ (bytes : List ℕ) (h n end : Record) (rs : List Record) (es : List tree.Element) (h_is : h.kind ≡ kinds.bgnstr)
    (n_is : n.kind ≡ kinds.strname) (end_is : end.kind ≡ kinds.endstr) (are : AreElements es rs) where
  abbrev all : List Record
  all = h ∷ (n ∷ (rs ++ end ∷ []))

  abbrev made : tree.Structure
  made = record { at = h.at; bgnstr = tree.whole bytes h; strname = tree.whole bytes n; name = name_of n.body; elements = es }

  before_end : (more : List Record) → before kinds.endstr (n ∷ (rs ++ end ∷ more)) ≡ n ∷ rs
  before_end more =
      ap (λ (b : Bool). cond b [] (n ∷ before kinds.endstr (rs ++ end ∷ more))) (ap (λ (k : ℕ). eqb k kinds.endstr) n_is)
      ∙ ap (λ (x : List Record). n ∷ x) (before_calm rs more end are.calm end_is)

  elements_are : tree.elements_of (n ∷ rs) ≡ es
  unfolding parts
  elements_are =
      let skip : tree.elements_of (n ∷ rs) ≡ tree.elements_of rs = ap
      (λ (b : Bool). map element_of (cond b ((n, before kinds.endel rs) ∷ parts kinds.begins_element kinds.endel rs)
      (parts kinds.begins_element kinds.endel rs))) (ap kinds.begins_element n_is) in
      let whole : parts kinds.begins_element kinds.endel rs ≡ are.each = ap (parts kinds.begins_element kinds.endel) (sym (append-nil rs)) ∙ are.split [] ∙ append-nil are.each in
      skip ∙ ap (map element_of) whole ∙ are.are

  first_name : first_of kinds.strname (n ∷ rs) ≡ Some n
  first_name = ap (λ (b : Bool). cond b (Some n) (first_of kinds.strname rs)) (eq-eqb n.kind kinds.strname n_is)

  pub is_structure : IsStructure bytes made all
  is_structure = record {
    each = (h, n ∷ rs);
    split = λ more.
        structures_begin h (n ∷ ((rs ++ end ∷ []) ++ more)) (eq-eqb h.kind kinds.bgnstr h_is)
        ∙ ap (λ (x : List Record). (h, before kinds.endstr (n ∷ x)) ∷ split_structures (n ∷ x)) (append_assoc rs (end ∷ []) more)
        ∙ ap (λ (x : List Record). (h, x) ∷ split_structures (n ∷ (rs ++ end ∷ more))) (before_end more)
        ∙ ap (λ (x : List (Record × List Record)). (h, n ∷ rs) ∷ x)
        (structures_skip n (rs ++ end ∷ more) (ap (λ (k : ℕ). eqb k kinds.bgnstr) n_is) ∙ structures_calm rs (end ∷ more) are.calm
        ∙ structures_skip end more (ap (λ (k : ℕ). eqb k kinds.bgnstr) end_is));
    is = ap (λ (o : Option Record). record {
      at = h.at;
      bgnstr = tree.whole bytes h;
      strname = tree.whole_or_none bytes o;
      name = name_of
          (data_or_none o);
      elements = tree.elements_of (n ∷ rs);
    }) first_name
        ∙ ap (λ (x : List tree.Element). record { at = h.at; bgnstr = tree.whole bytes h; strname = tree.whole bytes n; name = name_of n.body; elements = x }) elements_are;
    named =
        names_other h (n ∷ (rs ++ end ∷ [])) (ap (λ (k : ℕ). eqb k kinds.strname) h_is)
        ∙ names_one n (rs ++ end ∷ []) (eq-eqb n.kind kinds.strname n_is)
        ∙ ap (λ (x : List (List ℕ)). name_of n.body ∷ x) (names-append rs (end ∷ []) ∙ ap (λ (x : List (List ℕ)). x ++ names (end ∷ []))
        (names_calm rs are.calm) ∙ names_other end [] (ap (λ (k : ℕ). eqb k kinds.strname) end_is));
  }

-- ---- the name

strname_refusal : (o : ℕ) (known : List (List ℕ)) (at : ℕ) (body : List ℕ) → refusal_in o known kinds.strname at body ≡ cond
    (is_empty (name_of body)) (Some (bad_name at)) (cond (list_any (pointwise nat_eq (name_of body)) known)
    (Some (duplicate_structure at)) None)
unfolding refusal_in
strname_refusal o known at body = refl

never_bgnstr : IsNever kinds.bgnstr
unfolding refusal_in
never_bgnstr o known at body = refl

never_endstr : IsNever kinds.endstr
unfolding refusal_in
never_endstr o known at body = refl

abbrev strname_first : Grammar → Grammar
strname_first rest = both (a kinds.strname) (class_first rest)

-- ---- the grammar

-- all but BGNSTR
abbrev pub inside : Grammar
inside = both (a kinds.strname) (both (many (a kinds.structure_class)) (both (many grammar.element) (a kinds.endstr)))

module _ (rest : Grammar) where
  in_rows : (ks : List ℕ) → grammar.Has (both inside rest) ks → grammar.Has (strname_first rest) ks
  in_rows ks p =
      let q = regroups (a kinds.strname) (both (many (a kinds.structure_class)) (both (many grammar.element) (a kinds.endstr))) rest ks p in
      let r = regroups (many (a kinds.structure_class)) (both (many grammar.element) (a kinds.endstr)) rest q.1 q.4 in
      (q.0, q.1, q.2, q.3, (r.0, r.1, r.2, r.3, regroups (many grammar.element) (a kinds.endstr) rest r.1 r.4))

  in_one : (ks : List ℕ) → grammar.Has (strname_first rest) ks → grammar.Has (both inside rest) ks
  in_one ks q =
      let r = q.4 in
      let s = regroups_back (many grammar.element) (a kinds.endstr) rest r.1 r.4 in
      let t = regroups_back (many (a kinds.structure_class)) (both (many grammar.element) (a kinds.endstr)) rest q.1 (r.0, r.1, r.2, r.3, s) in
      regroups_back (a kinds.strname) (both (many (a kinds.structure_class)) (both (many grammar.element) (a kinds.endstr))) rest ks (q.0, q.1, q.2, q.3, t)

  pub begins_structure : (k : ℕ) → k ≡ kinds.bgnstr → Moves (structure_then rest) k (strname_first rest)
  begins_structure k e =
      let m = moves_agreed (structure_then rest) (both (a kinds.bgnstr) (both inside rest)) (both inside rest) k
      (agrees_regrouped (a kinds.bgnstr) inside rest k) (moves_one (λ j. eqb j kinds.bgnstr) (both inside rest) k
      (eq-eqb k kinds.bgnstr e)) in
      record { on = λ ks p. in_rows ks (m.on ks p); back = λ ks p. m.back ks (in_one ks p) }

one_of : (kind : ℕ) → Exists (a kind)
one_of kind = (kind ∷ [], (kind, refl, eq-eqb kind kind refl))

none_many : (g : Grammar) → Exists (many g)
none_many g = ([], ([], refl, tt))

some_inside : (rest : Grammar) → Exists rest → Exists (strname_first rest)
some_inside rest some =
    exists_both (a kinds.strname) (class_first rest) (one_of kinds.strname)
    (exists_both (many (a kinds.structure_class)) (elements_first rest) (none_many (a kinds.structure_class))
    (exists_both (many grammar.element) (endstr_first rest) (none_many grammar.element) (exists_both (a kinds.endstr) rest (one_of kinds.endstr) some)))

pub some_structure : Exists grammar.structure
some_structure =
    exists_both (a kinds.bgnstr) inside (one_of kinds.bgnstr)
    (exists_both (a kinds.strname) (both (many (a kinds.structure_class)) (both (many grammar.element) (a kinds.endstr))) (one_of kinds.strname)
    (exists_both (many (a kinds.structure_class)) (both (many grammar.element) (a kinds.endstr)) (none_many (a kinds.structure_class))
    (exists_both (many grammar.element) (a kinds.endstr) (none_many grammar.element) (one_of kinds.endstr))))

-- ---- the elements, from behind the name on

module _ (bytes : List ℕ) (at n1 : ℕ) (classes : Passes bytes class_first elements_first (AreElements []) at n1) where
  pub elements_fail : (f : Fault) → Fails bytes elements_first n1 f → Fails bytes class_first at f
  elements_fail f fails = fails_then bytes class_first elements_first (AreElements []) at n1 f classes fails

  module _ (n2 : ℕ) (es : List tree.Element) (elements : Passes bytes elements_first endstr_first (AreElements es) n1 n2) where
    pub elements_end : Passes bytes class_first endstr_first (AreElements es) at n2
    elements_end = passes_then bytes class_first elements_first endstr_first (AreElements []) (AreElements es) (AreElements es) at n1 n2
        (λ rs qs p q. elements_append [] es rs qs p q) classes elements

    pub no_endstr : (f : Fault) → reading.take bytes kinds.endstr n2 ≡ Err f → Fails bytes class_first at f
    no_endstr f x = fails_then bytes class_first endstr_first (AreElements es) at n2 f elements_end (fails_one bytes n2 kinds.endstr same f x)

-- ---- reading on

module _ (bytes : List ℕ) (at : ℕ) (h : Record) (known : List (List ℕ)) (found : record_at bytes at ≡ Ok h) (h_is : h.kind ≡ kinds.bgnstr) where
  -- behind BGNSTR
  behind_head : (before : List Record) (rest : Grammar) → Reached bytes before (structure_then rest) at → Reached bytes (before ++ h ∷ []) (strname_first rest) h.next
  behind_head before rest reached =
      moved bytes before at (structure_then rest) (strname_first rest) h reached found (begins_structure rest h.kind h_is)
      (some_inside rest (exists_rest grammar.structure rest reached.some)) (never before h kinds.bgnstr never_bgnstr h_is)
      (λ e. eqb-false kinds.bgnstr kinds.endlib refl (sym h_is ∙ e))

  names_head : (before : List Record) → names before ≡ known → names (before ++ h ∷ []) ≡ known
  names_head before named = names-append before (h ∷ []) ∙ ap (λ (x : List (List ℕ)). names before ++ x)
      (names_other h [] (ap (λ (k : ℕ). eqb k kinds.strname) h_is)) ∙ append-nil (names before) ∙ named

  name_refusal : (before : List Record) (r : Record) → names before ≡ known → r.kind ≡ kinds.strname
      → refusal before r ≡ cond (is_empty (name_of r.body)) (Some (bad_name r.at)) (cond (list_any (pointwise nat_eq (name_of r.body)) known)
      (Some (duplicate_structure r.at)) None)
  name_refusal before r named e =
      ap (λ (k : ℕ). refusal_in (owner before) (names before) k r.at r.body) e
      ∙ ap (λ (x : List (List ℕ)). refusal_in (owner before) x kinds.strname r.at r.body) named
      ∙ strname_refusal (owner before) known r.at r.body

  first : (b : Bool) (f : Fault) (x : Result (Record × ℕ) Fault) (y : Record × ℕ) → cond b (Err f) x ≡ Ok y → (b ≡ false) × (x ≡ Ok y)
  first true f x y e = absurd cc
  first false f x y e = (refl, e)

  first_err : (b : Bool) (f g : Fault) (x : Result (Record × ℕ) Fault) → cond b (Err f) x ≡ Err g → ((b ≡ true) × (f ≡ g)) ⊎ ((b ≡ false) × (x ≡ Err g))
  first_err true f g x e = inl (refl, cc)
  first_err false f g x e = inr (refl, e)

  abbrev rest_of_name : Record × ℕ → Result (Record × ℕ) Fault
  rest_of_name r = cond (is_empty (name_of r.0.body)) (Err (bad_name r.0.at)) (cond (list_any (pointwise nat_eq (name_of r.0.body)) known)
      (Err (duplicate_structure r.0.at)) (Ok r))

  pub name_ok : (y : Record × ℕ) → reading.take_strname bytes known h.next ≡ Ok y → (before : List Record) (rest : Grammar)
      → names before ≡ known → Reached bytes before (structure_then rest) at
      → (y.0.kind ≡ kinds.strname) × Reached bytes ((before ++ h ∷ []) ++ y.0 ∷ []) (class_first rest) y.1
  name_ok y e before rest named reached =
      let b = bind_ok (reading.take bytes kinds.strname h.next) rest_of_name y e in
      let g = first (is_empty (name_of b.0.0.body)) (bad_name b.0.0.at) (cond (list_any (pointwise nat_eq (name_of b.0.0.body)) known)
      (Err (duplicate_structure b.0.0.at)) (Ok b.0)) y b.2 in
      let k = guard_not (list_any (pointwise nat_eq (name_of b.0.0.body)) known) (duplicate_structure b.0.0.at) b.0 y g.1 in
      let kind_is = take_kind bytes kinds.strname h.next b.0 b.1 in
      let why : refusal (before ++ h ∷ []) b.0.0 ≡ None =
      name_refusal (before ++ h ∷ []) b.0.0 (names_head before named) kind_is
      ∙ ap (λ (t : Bool). cond t (Some (bad_name b.0.0.at)) (cond (list_any (pointwise nat_eq (name_of b.0.0.body)) known) (Some (duplicate_structure b.0.0.at)) None)) g.0
      ∙ ap (λ (t : Bool). cond t (Some (duplicate_structure b.0.0.at)) None) k.0 in
      let t = take_ok bytes (before ++ h ∷ []) (class_first rest) h.next kinds.strname b.0 (behind_head before rest reached)
      (λ r s. subst (λ (x : Record). refusal (before ++ h ∷ []) x ≡ None) (sym s) why) (eqb-false kinds.strname kinds.endlib refl) b.1 in
      subst (λ (z : Record × ℕ). (z.0.kind ≡ kinds.strname) × Reached bytes ((before ++ h ∷ []) ++ z.0 ∷ []) (class_first rest) z.1) k.1 t

  pub name_err : (f : Fault) → reading.take_strname bytes known h.next ≡ Err f → FailsNamed bytes known structure_then at f
  name_err f e before rest named reached =
      elim (bind_err (reading.take bytes kinds.strname h.next) rest_of_name f e) [
        | inl x ↦ take_err bytes (before ++ h ∷ []) (class_first rest) h.next kinds.strname f (behind_head before rest reached) x
        | inr b ↦
            let kind_is = take_kind bytes kinds.strname h.next b.0 b.1 in
            let why = name_refusal (before ++ h ∷ []) b.0.0 (names_head before named) kind_is in
            elim (first_err (is_empty (name_of b.0.0.body)) (bad_name b.0.0.at) f
            (cond (list_any (pointwise nat_eq (name_of b.0.0.body)) known) (Err (duplicate_structure b.0.0.at)) (Ok b.0)) b.2) [
              | inl g ↦
                  let refused : refusal (before ++ h ∷ []) b.0.0 ≡ Some (bad_name b.0.0.at) = why
                  ∙ ap (λ (t : Bool). cond t (Some (bad_name b.0.0.at)) (cond (list_any (pointwise nat_eq (name_of b.0.0.body)) known)
                  (Some (duplicate_structure b.0.0.at)) None)) g.0 in
                  subst (IsFirstFault bytes) g.1 (take_refused bytes (before ++ h ∷ []) (class_first rest) h.next kinds.strname b.0
                  (bad_name b.0.0.at) (behind_head before rest reached) refused b.1)
              | inr g ↦
                  let k = guard_not_err (list_any (pointwise nat_eq (name_of b.0.0.body)) known) (duplicate_structure b.0.0.at) f b.0 g.1 in
                  let refused : refusal (before ++ h ∷ []) b.0.0 ≡ Some (duplicate_structure b.0.0.at) =
                  why
                  ∙ ap (λ (t : Bool). cond t (Some (bad_name b.0.0.at)) (cond (list_any (pointwise nat_eq (name_of b.0.0.body)) known)
                  (Some (duplicate_structure b.0.0.at)) None)) g.0
                  ∙ ap (λ (t : Bool). cond t (Some (duplicate_structure b.0.0.at)) None) k.0 in
                  subst (IsFirstFault bytes) k.1 (take_refused bytes (before ++ h ∷ []) (class_first rest) h.next kinds.strname b.0
                  (duplicate_structure b.0.0.at) (behind_head before rest reached) refused b.1)
            ]
      ]

  module _ (y : Record × ℕ) (e : reading.take_strname bytes known h.next ≡ Ok y) where
    pub fails_behind : (f : Fault) → Fails bytes class_first y.1 f → FailsNamed bytes known structure_then at f
    fails_behind f fails before rest named reached = fails ((before ++ h ∷ []) ++ y.0 ∷ []) rest ((name_ok y e before rest named reached).1)

    pub structure_ok : (n : ℕ) (es : List tree.Element) → AreTakenElements bytes es y.1 n
        → PassesNamed bytes known structure_then same
        (IsStructure bytes (record {
          at = h.at;
          bgnstr = tree.whole bytes h;
          strname = tree.whole bytes y.0;
          name = name_of y.0.body;
          elements = es;
        })) at n
    structure_ok n es taken before rest named reached =
        let named_ok = name_ok y e before rest named reached in
        let b = elements_end bytes y.1 taken.first taken.classes taken.end es taken.elements ((before ++ h ∷ []) ++ y.0 ∷ []) rest named_ok.1 in
        let t = passes_one bytes taken.end kinds.endstr same (taken.endstr, n) never_endstr refl taken.ends (((before ++ h ∷ []) ++ y.0 ∷ []) ++ b.0) rest b.2 in
        let grouped : (((before ++ h ∷ []) ++ y.0 ∷ []) ++ b.0) ++ t.0 ≡ before ++ (h ∷ (y.0 ∷ (b.0 ++ taken.endstr ∷ []))) =
        append_assoc ((before ++ h ∷ []) ++ y.0 ∷ []) b.0 t.0
        ∙ append_assoc (before ++ h ∷ []) (y.0 ∷ []) (b.0 ++ t.0)
        ∙ append_assoc before (h ∷ []) (y.0 ∷ (b.0 ++ t.0))
        ∙ ap (λ (q : List Record). before ++ (h ∷ (y.0 ∷ (b.0 ++ q)))) t.1.split in (
          h ∷ (y.0 ∷ (b.0 ++ taken.endstr ∷ [])),
          is_structure bytes h y.0 taken.endstr b.0 es h_is named_ok.0 t.1.is b.1,
          subst (λ (q : List Record). Reached bytes q rest n) grouped t.2,
        )
