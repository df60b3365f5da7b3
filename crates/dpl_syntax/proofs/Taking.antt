-- What reading one record gives.
use Rattle.std.proofs.Common.{◌≡◌, ◌≢◌, ℕ, Bool, true, false, ◌⊎◌, inl, inr, cond, eqb, List, [], ◌∷◌, ◌++◌, Option}
use Rattle.std.proofs.Common.{Some, None, Result, Ok, Err, refl, sym, subst, ap, ◌∙◌}
use Rattle.std.proofs.lemmas.Bool.{eqb-true, eq-eqb}
use Rattle.dpl_spec_format.specs.Kinds as kinds
use Rattle.dpl_spec_format.specs.Faults.{Fault, unexpected}
use Rattle.dpl_spec_format.specs.Records.{Record, record_at}
use Rattle.dpl_spec_format.specs.Grammar.{Grammar, both, a}
use Rattle.dpl_spec_format.specs.Stream.{refusal, refusal_in}
use Rattle.dpl_spec_format.specs.Layout.{IsFirstFault}
use Rattle.dpl_syntax.specs.Reading as reading
use Rattle.dpl_syntax.specs.Reading.{◌>>=◌}
use Rattle.dpl_syntax.specs.Reached.{Reached}
use Rattle.dpl_syntax.proofs.Languages.{avoids_one, solid_one, avoids_both}
use Rattle.dpl_syntax.proofs.Languages.{moves_one, exists_rest}
use Rattle.dpl_syntax.proofs.Steps.{moved, stops, stops_at, stops_for}

pub guard : {A : Type 0} (b : Bool) (f : Fault) (x y : A) → cond b (Ok x) (Err f) ≡ Ok y → (b ≡ true) × (x ≡ y)
guard true f x y e = (refl, cc)
guard false f x y e = absurd cc

pub guard_err : {A : Type 0} (b : Bool) (f g : Fault) (x : A) → cond b (Ok x) (Err f) ≡ Err g → (b ≡ false) × (f ≡ g)
guard_err true f g x e = absurd cc
guard_err false f g x e = (refl, cc)

pub guard_not : {A : Type 0} (b : Bool) (f : Fault) (x y : A) → cond b (Err f) (Ok x) ≡ Ok y → (b ≡ false) × (x ≡ y)
guard_not true f x y e = absurd cc
guard_not false f x y e = (refl, cc)

pub guard_not_err : {A : Type 0} (b : Bool) (f g : Fault) (x : A) → cond b (Err f) (Ok x) ≡ Err g → (b ≡ true) × (f ≡ g)
guard_not_err true f g x e = (refl, cc)
guard_not_err false f g x e = absurd cc

pub same_record : (x : Result Record Fault) (r s : Record) → x ≡ Ok r → x ≡ Ok s → r ≡ s
same_record x r s e h = cc

-- ---- one record of a type

abbrev pub taken : Record × ℕ → Result (Record × ℕ) Fault
taken x = Ok x

pub record Took (x : Result Record Fault) (kind : ℕ) (y : Record × ℕ) : Type 0 where
  pub found : x ≡ Ok y.0
  pub kind_is : y.0.kind ≡ kind
  pub next : y.1 ≡ y.0.next

pub took : (kind at : ℕ) (x : Result Record Fault) (y : Record × ℕ) → (x >>= λ r. cond (eqb r.kind kind) (taken (r, r.next)) (Err (unexpected at))) ≡ Ok y → Took x kind y
took kind at (Err f) y e = absurd cc
took kind at (Ok r) y e =
    let g = guard (eqb r.kind kind) (unexpected at) (r, r.next) y e in
    subst (λ (z : Record × ℕ). Took (Ok r) kind z) g.1 (record { found = refl; kind_is = eqb-true r.kind kind g.0; next = refl })

pub missed : (kind at : ℕ) (x : Result Record Fault) (f : Fault) → (x >>= λ r. cond (eqb r.kind kind) (taken (r, r.next)) (Err (unexpected at))) ≡ Err f
    → (x ≡ Err f) ⊎ ((r : Record) × (x ≡ Ok r) × (eqb r.kind kind ≡ false) × (unexpected at ≡ f))
missed kind at (Err g) f e = inl cc
missed kind at (Ok r) f e =
    let g = guard_err (eqb r.kind kind) (unexpected at) f (r, r.next) e in
    inr (r, refl, g.0, g.1)

pub choice : (b : Bool) (r : Record) (at : ℕ) (z : Option Record × ℕ) → cond b (reading.kept (Some r, r.next)) (reading.kept (None, at)) ≡ Ok z
    → ((b ≡ true) × ((Some r, r.next) ≡ z)) ⊎ ((b ≡ false) × ((None, at) ≡ z))
choice true r at z e = inl (refl, cc)
choice false r at z e = inr (refl, cc)

pub choice_err : (b : Bool) (r : Record) (at : ℕ) (f : Fault) → cond b (reading.kept (Some r, r.next)) (reading.kept (None, at)) ≡ Err f → ⊥
choice_err true r at f e = cc
choice_err false r at f e = cc

-- ---- where reading has come to

abbrev pub IsPlain : ℕ → ℕ → Type 0
IsPlain o kind = (known : List (List ℕ)) (at : ℕ) (body : List ℕ) → refusal_in o known kind at body ≡ None

module _ (bytes : List ℕ) (before : List Record) (rest : Grammar) (at kind : ℕ) where
  pub take_ok : (y : Record × ℕ) → Reached bytes before (both (a kind) rest) at → ((r : Record) → r ≡ y.0 → refusal before r ≡ None) → kind ≢ kinds.endlib
      → reading.take bytes kind at ≡ Ok y → (y.0.kind ≡ kind) × Reached bytes (before ++ y.0 ∷ []) rest y.1
  take_ok y reached fine ne e =
      let t = took kind at (record_at bytes at) y e in (
        t.kind_is,
        subst (λ (n : ℕ). Reached bytes (before ++ y.0 ∷ []) rest n) (sym t.next)
            (moved bytes before at (both (a kind) rest) rest y.0 reached t.found
            (moves_one (λ k. eqb k kind) rest y.0.kind (eq-eqb y.0.kind kind t.kind_is)) (exists_rest (a kind) rest reached.some)
            (fine y.0 refl) (λ h. ne (sym t.kind_is ∙ h))),
      )

  pub take_err : (f : Fault) → Reached bytes before (both (a kind) rest) at → reading.take bytes kind at ≡ Err f → IsFirstFault bytes f
  take_err f reached e =
      elim (missed kind at (record_at bytes at) f e) [
        | inl x ↦ stops bytes before at (both (a kind) rest) f reached x
        | inr m ↦ subst (IsFirstFault bytes) m.3 (stops_at bytes before at (both (a kind) rest) m.0 reached m.1
            (avoids_both (a kind) rest m.0.kind (solid_one (λ k. eqb k kind)) (avoids_one (λ k. eqb k kind) m.0.kind m.2)))
      ]

  -- a record of the type that is refused
  pub take_refused : (y : Record × ℕ) (f : Fault) → Reached bytes before (both (a kind) rest) at → refusal before y.0 ≡ Some f
      → reading.take bytes kind at ≡ Ok y → IsFirstFault bytes f
  take_refused y f reached why e =
      let t = took kind at (record_at bytes at) y e in
      stops_for bytes before at (both (a kind) rest) rest y.0 f reached t.found
      (moves_one (λ k. eqb k kind) rest y.0.kind (eq-eqb y.0.kind kind t.kind_is)) (exists_rest (a kind) rest reached.some) why

-- ---- one record, or none

found_in : (kind at : ℕ) (x : Result Record Fault) (z : Option Record × ℕ) → (x >>= λ r. cond (eqb r.kind kind) (reading.kept (Some r, r.next)) (reading.kept (None, at))) ≡ Ok z
    → (r : Record) × (x ≡ Ok r) × (((r.kind ≡ kind) × ((Some r, r.next) ≡ z)) ⊎ ((eqb r.kind kind ≡ false) × ((None, at) ≡ z)))
found_in kind at (Err f) z e = absurd cc
found_in kind at (Ok r) z e = (r, refl, elim (choice (eqb r.kind kind) r at z e) [ inl t ↦ inl (eqb-true r.kind kind t.0, t.1) | inr t ↦ inr t ])

fails_in : (kind at : ℕ) (x : Result Record Fault) (f : Fault) → (x >>= λ r. cond (eqb r.kind kind) (reading.kept (Some r, r.next)) (reading.kept (None, at))) ≡ Err f → x ≡ Err f
fails_in kind at (Err g) f e = cc
fails_in kind at (Ok r) f e = absurd (choice_err (eqb r.kind kind) r at f e)

module _ (bytes : List ℕ) (kind at : ℕ) where
  pub if_some : (r : Record) (n : ℕ) → reading.take_if bytes kind at ≡ Ok (Some r, n) → (record_at bytes at ≡ Ok r) × (r.kind ≡ kind) × (n ≡ r.next)
  if_some r n e =
      let f = found_in kind at (record_at bytes at) (Some r, n) e in
      elim f.2 [
        | inl t ↦
            let some : Some f.0 ≡ Some r = ap (λ (x : Option Record × ℕ). x.0) t.1 in
            let same : f.0 ≡ r = cc in
            (f.1 ∙ ap (λ (x : Record). Ok x) same, ap (λ (x : Record). x.kind) (sym same) ∙ t.0, sym (ap (λ (x : Option Record × ℕ). x.1) t.1) ∙ ap (λ (x : Record). x.next) same)
        | inr t ↦ (let other : None ≡ Some r = ap (λ (x : Option Record × ℕ). x.0) t.1 in absurd cc)
      ]

  pub if_none : (n : ℕ) → reading.take_if bytes kind at ≡ Ok (None, n) → (r : Record) × (record_at bytes at ≡ Ok r) × (eqb r.kind kind ≡ false) × (n ≡ at)
  if_none n e =
      let f = found_in kind at (record_at bytes at) (None, n) e in
      elim f.2 [
        | inl t ↦ (let other : Some f.0 ≡ None = ap (λ (x : Option Record × ℕ). x.0) t.1 in absurd cc)
        | inr t ↦ (f.0, f.1, t.0, sym (ap (λ (x : Option Record × ℕ). x.1) t.1))
      ]

  pub if_fails : (f : Fault) → reading.take_if bytes kind at ≡ Err f → record_at bytes at ≡ Err f
  if_fails f e = fails_in kind at (record_at bytes at) f e

pub take_kind : (bytes : List ℕ) (kind at : ℕ) (y : Record × ℕ) → reading.take bytes kind at ≡ Ok y → y.0.kind ≡ kind
take_kind bytes kind at y e = (took kind at (record_at bytes at) y e).kind_is
