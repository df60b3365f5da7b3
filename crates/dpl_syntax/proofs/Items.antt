-- Reading what an element has behind its first record.
use Rattle.std.proofs.Common.{◌≡◌, ◌≢◌, ℕ, true, false, ◌⊎◌, inl, inr, cond, eqb, List, [], ◌∷◌, ◌++◌}
use Rattle.std.proofs.Common.{Option, Some, None, Result, Ok, Err, refl, sym, subst, ap, ◌∙◌, append_assoc}
use Rattle.std.proofs.lemmas.Bool.{eqb-true, eqb-false, eq-eqb}
use Rattle.std.proofs.lemmas.List.{append-nil}
use Rattle.dpl_spec_format.specs.Kinds as kinds
use Rattle.dpl_spec_format.specs.Faults.{Fault}
use Rattle.dpl_spec_format.specs.Records.{Record, record_at}
use Rattle.dpl_spec_format.specs.Grammar.{Grammar, one, both, maybe, Has, a}
use Rattle.dpl_spec_format.specs.Grammar as grammar
use Rattle.dpl_spec_format.specs.Stream.{owner, names, refusal, refusal_in}
use Rattle.dpl_spec_format.specs.Layout.{IsFirstFault}
use Rattle.dpl_syntax.specs.Reading as reading
use Rattle.dpl_syntax.specs.Reading.{◌>>=◌, Slots, Item, must, may, transformed, named, points}
use Rattle.dpl_syntax.specs.Reached.{Reached}
use Rattle.dpl_syntax.specs.Inner.{is_inner, AreInner}
use Rattle.dpl_syntax.proofs.Languages.{Avoids, Exists, Moves, Agrees, avoids_one, solid_one, avoids_both, solid_both, avoids_behind}
use Rattle.dpl_syntax.proofs.Languages.{avoids_maybe, moves_one, moves_agreed, skips_maybe, takes_maybe, agrees_both, agrees_regrouped}
use Rattle.dpl_syntax.proofs.Languages.{exists_regrouped, exists_rest}
use Rattle.dpl_syntax.proofs.Steps.{agreed, moved, stops}
use Rattle.dpl_syntax.proofs.Slotting.{Slotted, slotted_append, slotted_one, slotted_none, inner_append, inner_one, no_outer, owner-inner}
use Rattle.dpl_syntax.proofs.Taking.{same_record, IsPlain, take_ok, choice, choice_err, took}

-- Records are read that fill these slots, and reading has come behind them.
pub record Goes (bytes : List ℕ) (before : List Record) (rest : Grammar) (y : Slots × ℕ) : Type 0 where
  pub rs : List Record
  pub slotted : Slotted rs y.0
  pub inner : AreInner rs
  pub reached : Reached bytes (before ++ rs) rest y.1

pub bind_ok : {A B : Type 0} (r : Result A Fault) (f : A → Result B Fault) (y : B) → (r >>= f) ≡ Ok y → (x : A) × (r ≡ Ok x) × (f x ≡ Ok y)
bind_ok (Ok x) f y e = (x, refl, e)
bind_ok (Err d) f y e = absurd cc

pub bind_err : {A B : Type 0} (r : Result A Fault) (f : A → Result B Fault) (g : Fault) → (r >>= f) ≡ Err g → (r ≡ Err g) ⊎ ((x : A) × (r ≡ Ok x) × (f x ≡ Err g))
bind_err (Ok x) f g e = inr (x, refl, e)
bind_err (Err d) f g e = inl cc

abbrev pub done : {A : Type 0} → A → Result A Fault
done x = Ok x

pub ok_is : {A : Type 0} (x y : A) → done x ≡ done y → x ≡ y
ok_is x y e = cc

pub not_ok : {A : Type 0} (x : A) (f : Fault) → done x ≡ Err f → ⊥
not_ok x f e = cc

-- a type that stands between an element's first record and its last, and is refused for nothing
pub record IsFine (o kind : ℕ) : Type 0 where
  pub plain : IsPlain o kind
  pub inner : is_inner kind ≡ true

-- what a transformation asks of what follows
pub record Transformable (o : ℕ) (rest : Grammar) : Type 0 where
  pub strans : IsFine o kinds.strans
  pub mag : IsFine o kinds.mag
  pub angle : IsFine o kinds.angle
  pub no_strans : Avoids rest kinds.strans
  pub no_mag : Avoids rest kinds.mag
  pub no_angle : Avoids rest kinds.angle

module _ (bytes : List ℕ) (o : ℕ) where
  fine : (before : List Record) (r : Record) (kind : ℕ) → owner before ≡ o → IsPlain o kind → r.kind ≡ kind → refusal before r ≡ None
  fine before r kind own plain e =
      ap (λ (k : ℕ). refusal_in (owner before) (names before) k r.at r.body) e ∙ ap (λ (p : ℕ). refusal_in p (names before) kind r.at r.body) own ∙ plain (names before) r.at r.body

  no_end : (kind : ℕ) → is_inner kind ≡ true → kind ≢ kinds.endlib
  no_end kind inner = eqb-false kind kinds.endlib ((no_outer kind inner).endlib)

  module _ (before : List Record) (rest : Grammar) (at : ℕ) (own : owner before ≡ o) where
    -- a record of a type, whatever it may be refused for
    pub one_ok : (kind : ℕ) → is_inner kind ≡ true → (y : Record × ℕ) → refusal before y.0 ≡ None → Reached bytes before (both (a kind) rest) at
        → reading.take bytes kind at ≡ Ok y → Goes bytes before rest ((kind, Some y.0) ∷ [], y.1)
    one_ok kind inner y why reached e =
        let t = take_ok bytes before rest at kind y reached (λ r same. subst (λ (s : Record). refusal before s ≡ None) (sym same) why) (no_end kind inner) e in
        record { rs = y.0 ∷ []; slotted = slotted_one kind y.0 t.0; inner = inner_one kind y.0 t.0 inner; reached = t.1 }

    pub kind_of : (kind : ℕ) (y : Record × ℕ) → reading.take bytes kind at ≡ Ok y → y.0.kind ≡ kind
    kind_of kind y e = (took kind at (record_at bytes at) y e).kind_is

    pub must_ok : (kind : ℕ) → IsFine o kind → (y : Record × ℕ) → Reached bytes before (both (a kind) rest) at
        → reading.take bytes kind at ≡ Ok y → Goes bytes before rest ((kind, Some y.0) ∷ [], y.1)
    must_ok kind f y reached e = one_ok kind f.inner y (fine before y.0 kind own f.plain (kind_of kind y e)) reached e

    pub if_ok : (kind : ℕ) → IsFine o kind → Avoids rest kind → (z : Option Record × ℕ) → Reached bytes before (both (maybe (a kind)) rest) at
        → reading.take_if bytes kind at ≡ Ok z → Goes bytes before rest ((kind, z.0) ∷ [], z.1)
    if_ok kind f avoids z reached e =
        let b = bind_ok (record_at bytes at) (λ r. cond (eqb r.kind kind) (reading.kept (Some r, r.next)) (reading.kept (None, at))) z e in
        let r = b.0 in
        elim (choice (eqb r.kind kind) r at z b.2) [
          | inl t ↦
              let same : r.kind ≡ kind = eqb-true r.kind kind t.0 in
              let there : Reached bytes (before ++ r ∷ []) rest r.next = moved bytes before at
              (both (maybe (a kind)) rest) rest r reached b.1 (moves_agreed (both (maybe (a kind)) rest) (both (a kind) rest) rest r.kind
              (takes_maybe (a kind) rest r.kind (subst (Avoids rest) (sym same) avoids)) (moves_one (λ k. eqb k kind) rest r.kind t.0))
              (exists_rest (maybe (a kind)) rest reached.some) (fine before r kind own f.plain same)
              (λ h. no_end kind f.inner (sym same ∙ h)) in
              subst (λ (x : Option Record × ℕ). Goes bytes before rest ((kind, x.0) ∷ [], x.1)) t.1
              (record { rs = r ∷ []; slotted = slotted_one kind r same; inner = inner_one kind r same f.inner; reached = there })
          | inr t ↦
              let there : Reached bytes before rest at = agreed bytes before at (both (maybe (a kind)) rest) rest reached
              (λ s found. skips_maybe (a kind) rest s.kind
              (avoids_one (λ k. eqb k kind) s.kind (subst (λ (x : Record). eqb x.kind kind ≡ false)
              (same_record (record_at bytes at) r s b.1 found) t.0)) (solid_one (λ k. eqb k kind)))
              (exists_rest (maybe (a kind)) rest reached.some) in
              subst (λ (x : Option Record × ℕ). Goes bytes before rest ((kind, x.0) ∷ [], x.1)) t.1
              (record {
                rs = [];
                slotted = slotted_none kind;
                inner = tt;
                reached = subst (λ (x : List Record). Reached bytes x rest at)
                    (sym (append-nil before)) there;
              })
        ]

    pub if_err : (kind : ℕ) (g : Grammar) (f : Fault) → Reached bytes before g at → reading.take_if bytes kind at ≡ Err f → IsFirstFault bytes f
    if_err kind g f reached e =
        elim (bind_err (record_at bytes at) (λ r. cond (eqb r.kind kind) (reading.kept (Some r, r.next)) (reading.kept (None, at))) f e) [
          | inl x ↦ stops bytes before at g f reached x
          | inr b ↦ absurd (choice_err (eqb b.0.kind kind) b.0 at f b.2)
        ]

  -- ---- a reference's transformation

  abbrev mag_angle : Grammar
  mag_angle = both (maybe (a kinds.mag)) (maybe (a kinds.angle))

  strans_on : (before : List Record) (rest : Grammar) (at : ℕ) (r : Record) → owner before ≡ o → IsFine o kinds.strans
      → Avoids rest kinds.strans → Reached bytes before (both (maybe grammar.strans) rest) at
      → record_at bytes at ≡ Ok r → r.kind ≡ kinds.strans → Reached bytes (before ++ r ∷ []) (both (maybe (a kinds.mag)) (both (maybe (a kinds.angle)) rest)) r.next
  strans_on before rest at r own f avoids reached found same =
      let k = r.kind in
      let agrees : Agrees (both (maybe grammar.strans) rest) k (both (a kinds.strans) (both mag_angle rest)) =
      agrees_both (both (maybe grammar.strans) rest) (both grammar.strans rest) (both (a kinds.strans) (both mag_angle rest)) k
      (takes_maybe grammar.strans rest k (subst (Avoids rest) (sym same) avoids)) (agrees_regrouped (a kinds.strans) mag_angle rest k) in
      let some : Exists (both mag_angle rest) = (let end = exists_rest (maybe grammar.strans) rest reached.some in
      (end.0, ([], end.0, refl, ([], [], refl, inl refl, inl refl), end.1))) in
      let moves : Moves (both (maybe grammar.strans) rest) k (both mag_angle rest) =
      moves_agreed (both (maybe grammar.strans) rest) (both (a kinds.strans) (both mag_angle rest)) (both mag_angle rest) k agrees
      (moves_one (λ j. eqb j kinds.strans) (both mag_angle rest) k (eq-eqb k kinds.strans same)) in
      let there : Reached bytes (before ++ r ∷ []) (both mag_angle rest) r.next =
      moved bytes before at (both (maybe grammar.strans) rest) (both mag_angle rest) r reached found moves some
      (fine before r kinds.strans own f.plain same) (λ h. no_end kinds.strans f.inner (sym same ∙ h)) in
      agreed bytes (before ++ r ∷ []) r.next (both mag_angle rest) (both (maybe (a kinds.mag)) (both (maybe (a kinds.angle)) rest)) there
      (λ s after. agrees_regrouped (maybe (a kinds.mag)) (maybe (a kinds.angle)) rest s.kind)
      (exists_regrouped (maybe (a kinds.mag)) (maybe (a kinds.angle)) rest some)

  strans_off : (before : List Record) (rest : Grammar) (at : ℕ) (r : Record) → Reached bytes before (both (maybe grammar.strans) rest) at
      → record_at bytes at ≡ Ok r → eqb r.kind kinds.strans ≡ false → Reached bytes before rest at
  strans_off before rest at r reached found other =
      agreed bytes before at (both (maybe grammar.strans) rest) rest reached
      (λ s after. skips_maybe grammar.strans rest s.kind
      (avoids_both (a kinds.strans) mag_angle s.kind (solid_one (λ j. eqb j kinds.strans))
      (avoids_one (λ j. eqb j kinds.strans) s.kind (subst (λ (x : Record). eqb x.kind kinds.strans ≡ false)
      (same_record (record_at bytes at) r s found after) other)))
      (solid_both (a kinds.strans) mag_angle (solid_one (λ j. eqb j kinds.strans))))
      (exists_rest (maybe grammar.strans) rest reached.some)

  pub goes_then : (before : List Record) (rest end : Grammar) (y z : Slots × ℕ) (first : Goes bytes before rest y)
      → Goes bytes (before ++ first.rs) end z → Goes bytes before end (y.0 ++ z.0, z.1)
  goes_then before rest end y z first second = record {
    rs = first.rs ++ second.rs;
    slotted = slotted_append first.rs second.rs y.0 z.0 first.slotted second.slotted;
    inner = inner_append first.rs second.rs first.inner second.inner;
    reached = subst (λ (x : List Record). Reached bytes x end z.1) (append_assoc before first.rs second.rs) second.reached;
  }

  pub own_then : (before rs : List Record) → AreInner rs → owner before ≡ o → owner (before ++ rs) ≡ o
  own_then before rs inner own = owner-inner before rs inner ∙ own

  avoids_mag : (rest : Grammar) → Avoids rest kinds.mag → Avoids (both (maybe (a kinds.angle)) rest) kinds.mag
  avoids_mag rest avoids = avoids_behind (maybe (a kinds.angle)) rest kinds.mag (avoids_maybe (a kinds.angle) kinds.mag (avoids_one (λ j. eqb j kinds.angle) kinds.mag refl)) avoids

  pub transformed_ok : (before : List Record) (rest : Grammar) (at : ℕ) → owner before ≡ o → Transformable o rest → (y : Slots × ℕ)
      → Reached bytes before (both (maybe grammar.strans) rest) at
      → reading.item_at bytes transformed at ≡ Ok y → Goes bytes before rest y
  transformed_ok before rest at own t y reached e =
      let z = bind_ok (reading.take_if bytes kinds.strans at) (reading.take_transformed bytes) y e in
      let b = bind_ok (record_at bytes at) (λ r. cond (eqb r.kind kinds.strans) (reading.kept (Some r, r.next)) (reading.kept (None, at))) z.0 z.1 in
      let r = b.0 in
      elim (choice (eqb r.kind kinds.strans) r at z.0 b.2) [
        | inl c ↦
            let same : r.kind ≡ kinds.strans = eqb-true r.kind kinds.strans c.0 in
            let there = strans_on before rest at r own t.strans t.no_strans reached b.1 same in
            let first : Goes bytes before (both (maybe (a kinds.mag)) (both (maybe (a kinds.angle)) rest)) ((kinds.strans, Some r) ∷ [], r.next) =
            record { rs = r ∷ []; slotted = slotted_one kinds.strans r same; inner = inner_one kinds.strans r same t.strans.inner; reached = there } in
            let e2 : reading.take_transformed bytes (Some r, r.next) ≡ Ok y = subst (λ (x : Option Record × ℕ). reading.take_transformed bytes x ≡ Ok y) (sym c.1) z.2 in
            let m = bind_ok (reading.take_if bytes kinds.mag r.next) (λ m. reading.take_if bytes kinds.angle m.1 >>= λ g. Ok
            ((kinds.strans, Some r) ∷ (kinds.mag, m.0) ∷ (kinds.angle, g.0) ∷ [], g.1)) y e2 in
            let own1 = own_then before (r ∷ []) first.inner own in
            let second = if_ok (before ++ r ∷ []) (both (maybe (a kinds.angle)) rest) r.next own1 kinds.mag t.mag (avoids_mag rest t.no_mag) m.0 there m.1 in
            let g = bind_ok (reading.take_if bytes kinds.angle m.0.1) (λ g. Ok ((kinds.strans, Some r) ∷ (kinds.mag, m.0.0) ∷ (kinds.angle, g.0) ∷ [], g.1)) y m.2 in
            let own2 = own_then (before ++ r ∷ []) second.rs second.inner own1 in
            let third = if_ok ((before ++ r ∷ []) ++ second.rs) rest m.0.1 own2 kinds.angle t.angle t.no_angle g.0 second.reached g.1 in
            let both2 = goes_then (before ++ r ∷ []) (both (maybe (a kinds.angle)) rest) rest ((kinds.mag, m.0.0) ∷ [], m.0.1) ((kinds.angle, g.0.0) ∷ [], g.0.1) second third in
            let all = goes_then before (both (maybe (a kinds.mag)) (both (maybe (a kinds.angle)) rest)) rest (
              (kinds.strans, Some r) ∷ [],
              r.next,
            ) ((kinds.mag, m.0.0) ∷ (kinds.angle, g.0.0) ∷ [], g.0.1) first both2 in
            subst (λ (x : Slots × ℕ). Goes bytes before rest x) (ok_is ((kinds.strans, Some r) ∷ (kinds.mag, m.0.0) ∷ (kinds.angle, g.0.0) ∷ [], g.0.1) y g.2) all
        | inr c ↦
            let e2 : reading.take_transformed bytes (None, at) ≡ Ok y = subst (λ (x : Option Record × ℕ). reading.take_transformed bytes x ≡ Ok y) (sym c.1) z.2 in
            let none : Slots × ℕ = ((kinds.strans, None) ∷ (kinds.mag, None) ∷ (kinds.angle, None) ∷ [], at) in
            let slots : Slotted [] ((kinds.strans, None) ∷ (kinds.mag, None) ∷ (kinds.angle, None) ∷ []) = slotted_append [] []
            ((kinds.strans, None) ∷ []) ((kinds.mag, None) ∷ (kinds.angle, None) ∷ []) (slotted_none kinds.strans)
            (slotted_append [] [] ((kinds.mag, None) ∷ []) ((kinds.angle, None) ∷ []) (slotted_none kinds.mag)
            (slotted_none kinds.angle)) in
            let there : Reached bytes (before ++ []) rest at = subst (λ (x : List Record). Reached bytes x rest at)
            (sym (append-nil before)) (strans_off before rest at r reached b.1 c.0) in
            subst (λ (x : Slots × ℕ). Goes bytes before rest x) (ok_is none y e2) (record { rs = []; slotted = slots; inner = tt; reached = there })
      ]

  pub transformed_err : (before : List Record) (rest : Grammar) (at : ℕ) → owner before ≡ o → Transformable o rest → (f : Fault)
      → Reached bytes before (both (maybe grammar.strans) rest) at
      → reading.item_at bytes transformed at ≡ Err f → IsFirstFault bytes f
  transformed_err before rest at own t f reached e =
      elim (bind_err (reading.take_if bytes kinds.strans at) (reading.take_transformed bytes) f e) [
        | inl x ↦ if_err before rest at own kinds.strans (both (maybe grammar.strans) rest) f reached x
        | inr z ↦
            let b = bind_ok (record_at bytes at) (λ r. cond (eqb r.kind kinds.strans) (reading.kept (Some r, r.next)) (reading.kept (None, at))) z.0 z.1 in
            let r = b.0 in
            elim (choice (eqb r.kind kinds.strans) r at z.0 b.2) [
              | inl c ↦
                  let same : r.kind ≡ kinds.strans = eqb-true r.kind kinds.strans c.0 in
                  let there = strans_on before rest at r own t.strans t.no_strans reached b.1 same in
                  let own1 = own_then before (r ∷ []) (inner_one kinds.strans r same t.strans.inner) own in
                  let e2 : reading.take_transformed bytes (Some r, r.next) ≡ Err f = subst (λ (x : Option Record × ℕ). reading.take_transformed bytes x ≡ Err f) (sym c.1) z.2 in
                  elim (bind_err (reading.take_if bytes kinds.mag r.next) (λ m. reading.take_if bytes kinds.angle m.1 >>= λ g. Ok
                  ((kinds.strans, Some r) ∷ (kinds.mag, m.0) ∷ (kinds.angle, g.0) ∷ [], g.1)) f e2) [
                    | inl x ↦ if_err (before ++ r ∷ []) (both (maybe (a kinds.angle)) rest) r.next own1 kinds.mag
                        (both (maybe (a kinds.mag)) (both (maybe (a kinds.angle)) rest)) f there x
                    | inr m ↦
                        let second = if_ok (before ++ r ∷ []) (both (maybe (a kinds.angle)) rest) r.next own1 kinds.mag t.mag (avoids_mag rest t.no_mag) m.0 there m.1 in
                        let own2 = own_then (before ++ r ∷ []) second.rs second.inner own1 in
                        elim (bind_err (reading.take_if bytes kinds.angle m.0.1) (λ g. Ok ((kinds.strans, Some r) ∷ (kinds.mag, m.0.0) ∷ (kinds.angle, g.0) ∷ [], g.1)) f m.2) [
                          | inl x ↦ if_err ((before ++ r ∷ []) ++ second.rs) rest m.0.1 own2 kinds.angle (both (maybe (a kinds.angle)) rest) f second.reached x
                          | inr g ↦ absurd (not_ok ((kinds.strans, Some r) ∷ (kinds.mag, m.0.0) ∷ (kinds.angle, g.0.0) ∷ [], g.0.1) f g.2)
                        ]
                  ]
              | inr c ↦
                  let e2 : reading.take_transformed bytes (None, at) ≡ Err f = subst (λ (x : Option Record × ℕ). reading.take_transformed bytes x ≡ Err f) (sym c.1) z.2 in
                  let none : Slots × ℕ = ((kinds.strans, None) ∷ (kinds.mag, None) ∷ (kinds.angle, None) ∷ [], at) in
                  absurd (not_ok none f e2)
            ]
      ]
