-- Reading a whole element.
use Rattle.std.proofs.Common.{◌≡◌, ℕ, Bool, true, false, ◌⊎◌, inl, inr, cond, ◌||◌, eqb, List, [], ◌∷◌, ◌++◌, Some, None}
use Rattle.std.proofs.Common.{Ok, Err, refl, sym, subst, ap, ◌∙◌, append_assoc}
use Rattle.std.proofs.lemmas.Bool.{eqb-true}
use Rattle.dpl_spec_format.specs.Kinds as kinds
use Rattle.dpl_spec_format.specs.Faults.{Fault}
use Rattle.dpl_spec_format.specs.Records.{Record, record_at}
use Rattle.dpl_spec_format.specs.Tree.{Body, Finder, body_of, first_of}
use Rattle.dpl_syntax.specs.Reading.{body_at, or_else, pick}
use Rattle.dpl_syntax.specs.Reached.{Reached}
use Rattle.dpl_syntax.specs.Inner.{is_inner, AreInner}
use Rattle.dpl_syntax.specs.Passing.{Passes, Fails, same, is_property, AreProperties, properties_end, IsEnd, element_then, IsElement}
use Rattle.dpl_syntax.proofs.Slotting.{inner_append, first_of-append, or_none}
use Rattle.dpl_syntax.proofs.ElementBodies.{body_ok, body_err}

-- ---- the body doesn't depend on properties

abbrev masked : Finder → Finder
masked find k = cond (is_property k) None (find k)

masked_same : (f g : Finder) (k : ℕ) (b : Bool) → is_property k ≡ b → ((k : ℕ) → is_property k ≡ false → f k ≡ g k) → cond b None (f k) ≡ cond b None (g k)
masked_same f g k true e h = refl
masked_same f g k false e h = h k e

body_same : (kind : ℕ) (f g : Finder) → ((k : ℕ) → is_property k ≡ false → f k ≡ g k) → body_of kind f ≡ body_of kind g
body_same kind f g h =
    let at_each : (k : ℕ) → masked f k ≡ masked g k = λ k. masked_same f g k (is_property k) refl h in
    let whole : masked f ≡ masked g = λ i k. at_each k i in
    let one : body_of kind f ≡ body_of kind (masked f) = refl in
    let other : body_of kind (masked g) ≡ body_of kind g = refl in
    one ∙ ap (body_of kind) whole ∙ other

other_kind : (j k : ℕ) (b : Bool) → is_property j ≡ true → is_property k ≡ false → eqb j k ≡ b → b ≡ false
other_kind j k true p q e = (let s : j ≡ k = eqb-true j k e in let t : is_property k ≡ true = subst (λ (x : ℕ). is_property x ≡ true) s p in absurd cc)
other_kind j k false p q e = refl

first_of_properties : (k : ℕ) (rs : List Record) → AreProperties rs → is_property k ≡ false → first_of k rs ≡ None
first_of_properties k [] are q = refl
first_of_properties k (r ∷ rs) are q =
    ap (λ (b : Bool). cond b (Some r) (first_of k rs)) (other_kind r.kind k (eqb r.kind k) are.0 q refl) ∙ first_of_properties k rs are.1 q

or_true : (x y : Bool) → x || y ≡ true → (x ≡ true) ⊎ (y ≡ true)
or_true true y e = inl refl
or_true false y e = inr e

property_inner : (k : ℕ) → is_property k ≡ true → is_inner k ≡ true
property_inner k e =
    elim (or_true (eqb k kinds.propattr) (eqb k kinds.propvalue) e) [
      | inl t ↦ ap is_inner (eqb-true k kinds.propattr t)
      | inr t ↦ ap is_inner (eqb-true k kinds.propvalue t)
    ]

properties_inner : (rs : List Record) → AreProperties rs → AreInner rs
properties_inner [] are = tt
properties_inner (r ∷ rs) are = (property_inner r.kind are.0, properties_inner rs are.1)

-- ---- the whole

module _ (bytes : List ℕ) (at : ℕ) (h : Record) (found : record_at bytes at ≡ Ok h) (begins : kinds.begins_element h.kind ≡ true) where
  pub element_ok : (y : Body × ℕ) (next : ℕ) → body_at bytes h.kind h.next ≡ Ok y → Passes bytes properties_end same IsEnd y.1 next
      → Passes bytes element_then same (IsElement (record { at = h.at; body = y.0 })) at next
  element_ok y next e ends before rest reached =
      let b = body_ok bytes before rest at h reached found begins y e in
      let goes = b.2 in
      let p = ends ((before ++ h ∷ []) ++ goes.rs) rest goes.reached in
      let end = p.1 in
      let inner : List Record = goes.rs ++ end.properties in
      let find : (k : ℕ) → is_property k ≡ false → pick b.0 k ≡ first_of k inner =
      λ k q. sym (first_of-append k goes.rs end.properties ∙ ap (or_else (first_of k goes.rs))
      (first_of_properties k end.properties end.are q) ∙ or_none (first_of k goes.rs) ∙ goes.slotted k) in
      let body_is : y.0 ≡ body_of h.kind (λ k. first_of k inner) = b.1 ∙ body_same h.kind (pick b.0) (λ k. first_of k inner) find in
      let split : h ∷ (goes.rs ++ p.0) ≡ h ∷ (inner ++ end.endel ∷ []) = ap (λ (x : List Record). h ∷ (goes.rs ++ x)) end.split
      ∙ ap (λ (x : List Record). h ∷ x) (sym (append_assoc goes.rs end.properties (end.endel ∷ []))) in
      let grouped : ((before ++ h ∷ []) ++ goes.rs) ++ p.0 ≡ before ++ (h ∷ (goes.rs ++ p.0)) = append_assoc (before ++ h ∷ []) goes.rs p.0
      ∙ append_assoc before (h ∷ []) (goes.rs ++ p.0) in (
        h ∷ (goes.rs ++ p.0),
        record {
          first = h;
          inner = inner;
          endel = end.endel;
          split = split;
          begins = begins;
          are = inner_append goes.rs end.properties goes.inner (properties_inner end.properties end.are);
          ends = end.is;
          is = ap (λ (x : Body). record { at = h.at; body = x }) body_is;
        },
        subst (λ (x : List Record). Reached bytes x rest next) grouped p.2,
      )

  pub no_body : (f : Fault) → body_at bytes h.kind h.next ≡ Err f → Fails bytes element_then at f
  no_body f e before rest reached = body_err bytes before rest at h reached found begins f e

  pub no_end : (y : Body × ℕ) (f : Fault) → body_at bytes h.kind h.next ≡ Ok y → Fails bytes properties_end y.1 f → Fails bytes element_then at f
  no_end y f e fails before rest reached =
      let b = body_ok bytes before rest at h reached found begins y e in
      fails ((before ++ h ∷ []) ++ b.2.rs) rest b.2.reached
