-- Reading the end of an element.
use Rattle.std.proofs.Common.{◌≡◌, ℕ, true, false, eqb, List, [], ◌∷◌, ◌++◌, Some, None, Ok}
use Rattle.std.proofs.Common.{Err, refl, sym, subst, ap, ◌∙◌, append_assoc}
use Rattle.std.proofs.lemmas.Bool.{eqb-false, eq-eqb}
use Rattle.std.proofs.lemmas.List.{append-nil}
use Rattle.dpl_spec_format.specs.Kinds as kinds
use Rattle.dpl_spec_format.specs.Faults.{Fault}
use Rattle.dpl_spec_format.specs.Records.{Record, record_at}
use Rattle.dpl_spec_format.specs.Grammar.{Grammar, both, a}
use Rattle.dpl_spec_format.specs.Stream.{owner, names, refusal, refusal_in}
use Rattle.dpl_syntax.specs.Reading as reading
use Rattle.dpl_syntax.specs.Reached.{Reached}
use Rattle.dpl_syntax.specs.Passing.{Passes, Fails, same, is_property, AreProperties, properties, properties_end, property_first, endel_first, IsEnd}
use Rattle.dpl_syntax.proofs.Languages.{Avoids, Exists, Moves, Agrees, moves_one, moves_agreed, agrees_both, takes_many, ends_many}
use Rattle.dpl_syntax.proofs.Languages.{agrees_regrouped, exists_regrouped, exists_rest, exists_both}
use Rattle.dpl_syntax.proofs.Steps.{agreed, moved, stops}
use Rattle.dpl_syntax.proofs.Taking.{same_record, take_kind, take_ok, take_err, if_some, if_none, if_fails}
use Rattle.dpl_syntax.proofs.Lists.{avoids_a}

-- ---- any passing

pub passes_none : (bytes : List ℕ) (g : Grammar → Grammar) (Are : List Record → Type 0) (at : ℕ) → Are [] → Passes bytes g g Are at at
passes_none bytes g Are at none before rest reached = ([], none, subst (λ (x : List Record). Reached bytes x (g rest) at) (sym (append-nil before)) reached)

pub passes_then : (bytes : List ℕ) (f g h : Grammar → Grammar) (A B C : List Record → Type 0) (at middle end : ℕ)
    → ((rs qs : List Record) → A rs → B qs → C (rs ++ qs)) → Passes bytes f g A at middle → Passes bytes g h B middle end
    → Passes bytes f h C at end
passes_then bytes f g h A B C at middle end join first second before rest reached =
    let p = first before rest reached in
    let q = second (before ++ p.0) rest p.2 in
    (p.0 ++ q.0, join p.0 q.0 p.1 q.1, subst (λ (x : List Record). Reached bytes x (h rest) end) (append_assoc before p.0 q.0) q.2)

pub fails_then : (bytes : List ℕ) (f g : Grammar → Grammar) (A : List Record → Type 0) (at middle : ℕ) (fault : Fault)
    → Passes bytes f g A at middle → Fails bytes g middle fault → Fails bytes f at fault
fails_then bytes f g A at middle fault first fails before rest reached =
    let p = first before rest reached in
    fails (before ++ p.0) rest p.2

-- ---- one record of a type that is refused for nothing

abbrev pub IsNever : ℕ → Type 0
IsNever kind = (o : ℕ) (known : List (List ℕ)) (at : ℕ) (body : List ℕ) → refusal_in o known kind at body ≡ None

pub never : (before : List Record) (r : Record) (kind : ℕ) → IsNever kind → r.kind ≡ kind → refusal before r ≡ None
never before r kind plain e = ap (λ (k : ℕ). refusal_in (owner before) (names before) k r.at r.body) e ∙ plain (owner before) (names before) r.at r.body

-- the one record
pub record IsOne (kind : ℕ) (r : Record) (rs : List Record) : Type 0 where
  pub split : rs ≡ r ∷ []
  pub is : r.kind ≡ kind

pub passes_one : (bytes : List ℕ) (at kind : ℕ) (g : Grammar → Grammar) (y : Record × ℕ) → IsNever kind → eqb kind kinds.endlib ≡ false
    → reading.take bytes kind at ≡ Ok y → Passes bytes (λ rest. both (a kind) (g rest)) g (IsOne kind y.0) at y.1
passes_one bytes at kind g y plain ne e before rest reached =
    let kind_is : y.0.kind ≡ kind = (take_kind bytes kind at y e) in
    let t = take_ok bytes before (g rest) at kind y reached (λ r s. never before r kind plain (ap (λ (x : Record). x.kind) s ∙ kind_is)) (eqb-false kind kinds.endlib ne) e in
    (y.0 ∷ [], record { split = refl; is = t.0 }, t.1)

pub fails_one : (bytes : List ℕ) (at kind : ℕ) (g : Grammar → Grammar) (f : Fault) → reading.take bytes kind at ≡ Err f → Fails bytes (λ rest. both (a kind) (g rest)) at f
fails_one bytes at kind g f e before rest reached = take_err bytes before (g rest) at kind f reached e

-- ---- properties

never_propattr : IsNever kinds.propattr
unfolding refusal_in
never_propattr o known at body = refl

never_propvalue : IsNever kinds.propvalue
unfolding refusal_in
never_propvalue o known at body = refl

pub never_endel : IsNever kinds.endel
unfolding refusal_in
never_endel o known at body = refl

abbrev property : Grammar
property = both (a kinds.propattr) (a kinds.propvalue)

abbrev value_first : Grammar → Grammar
value_first rest = both (a kinds.propvalue) (property_first rest)

passes_attr : (bytes : List ℕ) (at : ℕ) (r : Record) (n : ℕ) → reading.take_if bytes kinds.propattr at ≡ Ok (Some r, n)
    → Passes bytes property_first value_first (IsOne kinds.propattr r) at n
passes_attr bytes at r n e before rest reached =
    let s = if_some bytes kinds.propattr at r n e in
    let after : Grammar = property_first rest in
    let avoids : Avoids (endel_first rest) r.kind = subst (Avoids (endel_first rest)) (sym s.1) (avoids_a kinds.endel kinds.propattr rest refl) in
    let agrees : Agrees after r.kind (both (a kinds.propattr) (value_first rest)) = agrees_both after (both property after)
    (both (a kinds.propattr) (value_first rest)) r.kind (takes_many property (endel_first rest) r.kind avoids)
    (agrees_regrouped (a kinds.propattr) (a kinds.propvalue) after r.kind) in
    let moves : Moves after r.kind (value_first rest) = moves_agreed after (both (a kinds.propattr) (value_first rest))
    (value_first rest) r.kind agrees (moves_one (λ j. eqb j kinds.propattr) (value_first rest) r.kind (eq-eqb r.kind kinds.propattr s.1))
    in
    let some : Exists (value_first rest) = exists_both (a kinds.propvalue) after (kinds.propvalue ∷ [], (kinds.propvalue, refl, refl)) reached.some in
    let there = moved bytes before at after (value_first rest) r reached s.0 moves some (never before r kinds.propattr never_propattr s.1)
    (λ h. eqb-false kinds.propattr kinds.endlib refl (sym s.1 ∙ h)) in
    (r ∷ [], record { split = refl; is = s.1 }, subst (λ (m : ℕ). Reached bytes (before ++ r ∷ []) (value_first rest) m) (sym s.2) there)

properties_append : (rs qs : List Record) → AreProperties rs → AreProperties qs → AreProperties (rs ++ qs)
properties_append [] qs one other = other
properties_append (r ∷ rs) qs one other = (one.0, properties_append rs qs one.1 other)

property_is : (kind : ℕ) (r : Record) (rs : List Record) → is_property kind ≡ true → IsOne kind r rs → AreProperties rs
property_is kind r rs yes_ one = subst AreProperties (sym one.split) (ap is_property one.is ∙ yes_, tt)

pub one_more : (bytes : List ℕ) (from at n : ℕ) (r : Record) (y : Record × ℕ)
    → Passes bytes property_first property_first AreProperties from at → reading.take_if bytes kinds.propattr at ≡ Ok (Some r, n)
    → reading.take bytes kinds.propvalue n ≡ Ok y
    → Passes bytes property_first property_first AreProperties from y.1
one_more bytes from at n r y so_far first second =
    passes_then bytes property_first property_first property_first AreProperties AreProperties AreProperties from at y.1 properties_append so_far
    (passes_then bytes property_first value_first property_first (IsOne kinds.propattr r) (IsOne kinds.propvalue y.0) AreProperties at n y.1
    (λ rs qs p q. properties_append rs qs (property_is kinds.propattr r rs refl p) (property_is kinds.propvalue y.0 qs refl q))
    (passes_attr bytes at r n first)
    (passes_one bytes n kinds.propvalue property_first y never_propvalue refl second))

pub no_attr : (bytes : List ℕ) (from at : ℕ) (f : Fault) → Passes bytes property_first property_first AreProperties from at
    → reading.take_if bytes kinds.propattr at ≡ Err f → Fails bytes property_first from f
no_attr bytes from at f so_far e = fails_then bytes property_first property_first AreProperties from at f so_far
    (λ before rest reached. stops bytes before at (property_first rest) f reached (if_fails bytes kinds.propattr at f e))

pub no_value : (bytes : List ℕ) (from at n : ℕ) (r : Record) (f : Fault) → Passes bytes property_first property_first AreProperties from at
    → reading.take_if bytes kinds.propattr at ≡ Ok (Some r, n) → reading.take bytes kinds.propvalue n ≡ Err f
    → Fails bytes property_first from f
no_value bytes from at n r f so_far first e =
    fails_then bytes property_first property_first AreProperties from at f so_far
    (fails_then bytes property_first value_first (IsOne kinds.propattr r) at n f (passes_attr bytes at r n first) (fails_one bytes n kinds.propvalue property_first f e))

pub no_more : (bytes : List ℕ) (from at n : ℕ) → Passes bytes property_first property_first AreProperties from at
    → reading.take_if bytes kinds.propattr at ≡ Ok (None, n) → Passes bytes property_first endel_first AreProperties from n
no_more bytes from at n so_far e before rest reached =
    let p = so_far before rest reached in
    let s = if_none bytes kinds.propattr at n e in
    let there = agreed bytes (before ++ p.0) at (property_first rest) (endel_first rest) p.2
    (λ x found. ends_many property (endel_first rest) x.kind (avoids_a kinds.propattr x.kind (a kinds.propvalue)
    (subst (λ (y : Record). eqb y.kind kinds.propattr ≡ false) (same_record (record_at bytes at) s.0 x s.1 found) s.2)))
    (exists_rest properties (endel_first rest) p.2.some) in
    (p.0, p.1, subst (λ (m : ℕ). Reached bytes (before ++ p.0) (endel_first rest) m) (sym s.3) there)

-- ---- the whole end

regroup_end : (bytes : List ℕ) (before : List Record) (rest : Grammar) (at : ℕ) → Reached bytes before (properties_end rest) at → Reached bytes before (property_first rest) at
regroup_end bytes before rest at reached = agreed bytes before at (properties_end rest) (property_first rest) reached
    (λ r found. agrees_regrouped properties (a kinds.endel) rest r.kind) (exists_regrouped properties (a kinds.endel) rest reached.some)

pub whole_end : (bytes : List ℕ) (from at : ℕ) (y : Record × ℕ) → Passes bytes property_first endel_first AreProperties from at
    → reading.take bytes kinds.endel at ≡ Ok y → Passes bytes properties_end same IsEnd from y.1
whole_end bytes from at y first e before rest reached =
    passes_then bytes property_first endel_first same AreProperties (IsOne kinds.endel y.0) IsEnd from at y.1
    (λ rs qs p q. record { properties = rs; endel = y.0; split = ap (λ (x : List Record). rs ++ x) q.split; are = p; is = q.is })
    first (passes_one bytes at kinds.endel same y never_endel refl e) before rest (regroup_end bytes before rest from reached)

pub no_properties : (bytes : List ℕ) (from : ℕ) (f : Fault) → Fails bytes property_first from f → Fails bytes properties_end from f
no_properties bytes from f fails before rest reached = fails before rest (regroup_end bytes before rest from reached)

pub no_endel : (bytes : List ℕ) (from at : ℕ) (f : Fault) → Passes bytes property_first endel_first AreProperties from at
    → reading.take bytes kinds.endel at ≡ Err f → Fails bytes properties_end from f
no_endel bytes from at f first e = no_properties bytes from f (fails_then bytes property_first endel_first AreProperties from at f first (fails_one bytes at kinds.endel same f e))

-- ENDEL without properties
pub bare_end : (bytes : List ℕ) (at n : ℕ) (r : Record) → reading.take_if bytes kinds.endel at ≡ Ok (Some r, n) → Passes bytes properties_end same IsEnd at n
bare_end bytes at n r e =
    let s = if_some bytes kinds.endel at r n e in
    let none : reading.take_if bytes kinds.propattr at ≡ Ok (None, at) = rw (s.0, s.1) refl in
    let found : reading.take bytes kinds.endel at ≡ Ok (r, n) = rw (s.0, s.1, s.2) refl in
    whole_end bytes at at (r, n) (no_more bytes at at at (passes_none bytes property_first AreProperties at tt) none) found

pub no_end : (bytes : List ℕ) (at : ℕ) (f : Fault) → reading.take_if bytes kinds.endel at ≡ Err f → Fails bytes properties_end at f
no_end bytes at f e before rest reached = stops bytes before at (properties_end rest) f reached (if_fails bytes kinds.endel at f e)
