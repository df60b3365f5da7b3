-- Reading all that an element has behind its first record.
use Rattle.std.proofs.Common.{◌≡◌, ℕ, Bool, true, false, not, ◌||◌, inl, inr, cond, eqb, List, [], ◌∷◌, ◌++◌, length}
use Rattle.std.proofs.Common.{Some, None, Result, Ok, Err, refl, sym, subst, ap, ◌∙◌}
use Rattle.std.proofs.lemmas.List.{append-nil}
use Rattle.dpl_spec_format.specs.Kinds as kinds
use Rattle.dpl_spec_format.specs.Faults.{Fault, bad_size, bad_name}
use Rattle.dpl_spec_format.specs.Fields.{name_of}
use Rattle.dpl_spec_format.specs.Records.{Record}
use Rattle.dpl_spec_format.specs.Grammar.{Grammar, one, both, maybe, Has, a}
use Rattle.dpl_spec_format.specs.Grammar as grammar
use Rattle.dpl_spec_format.specs.Stream.{owner, names, refusal, refusal_in, is_empty, is_wrong_size}
use Rattle.dpl_spec_format.specs.Layout.{IsFirstFault}
use Rattle.dpl_syntax.specs.Reading as reading
use Rattle.dpl_syntax.specs.Reading.{◌>>=◌, Slots, Item, must, may, transformed, named, points}
use Rattle.dpl_syntax.specs.Reached.{Reached}
use Rattle.dpl_syntax.proofs.Languages.{Avoids, avoids_one, solid_one, avoids_both, avoids_behind, avoids_maybe}
use Rattle.dpl_syntax.proofs.Taking.{guard, guard_err, guard_not, guard_not_err, take_err, take_refused}
use Rattle.dpl_syntax.proofs.Items.{Goes, IsFine, Transformable, bind_ok, bind_err, ok_is, not_ok, one_ok, kind_of, must_ok, if_ok, if_err}
use Rattle.dpl_syntax.proofs.Items.{transformed_ok, transformed_err, goes_then, own_then}

abbrev pub grammar_of : Item → Grammar
grammar_of (must kind) = a kind
grammar_of (may kind) = maybe (a kind)
grammar_of transformed = maybe grammar.strans
grammar_of named = a kinds.sname
grammar_of (points len) = a kinds.xy

-- the items, and then the rest
abbrev pub behind : List Item → Grammar → Grammar
behind [] rest = rest
behind (i ∷ is) rest = both (grammar_of i) (behind is rest)

-- what an item asks of what follows, in an element of the type o
abbrev pub FitsIn : ℕ → Grammar → Item → Type 0
FitsIn o rest (must kind) = IsFine o kind
FitsIn o rest (may kind) = IsFine o kind × Avoids rest kind
FitsIn o rest transformed = Transformable o rest
FitsIn o rest named = Unit {0}
FitsIn o rest (points len) = (n : ℕ) → is_wrong_size o n ≡ not (eqb n len)

abbrev pub AllFit : ℕ → Grammar → List Item → Type 0
AllFit o rest [] = Unit {0}
AllFit o rest (i ∷ is) = FitsIn o (behind is rest) i × AllFit o rest is

-- ---- what the two are refused for

sname_refusal : (o : ℕ) (known : List (List ℕ)) (at : ℕ) (body : List ℕ) → refusal_in o known kinds.sname at body ≡ cond (is_empty (name_of body)) (Some (bad_name at)) None
unfolding refusal_in
sname_refusal o known at body = refl

xy_refusal : (o : ℕ) (known : List (List ℕ)) (at : ℕ) (body : List ℕ) → refusal_in o known kinds.xy at body ≡ cond (is_wrong_size o (length body)) (Some (bad_size at)) None
unfolding refusal_in
xy_refusal o known at body = refl

refusal_of : (before : List Record) (r : Record) (kind : ℕ) → r.kind ≡ kind → refusal before r ≡ refusal_in (owner before) (names before) kind r.at r.body
refusal_of before r kind e = ap (λ (k : ℕ). refusal_in (owner before) (names before) k r.at r.body) e

module _ (bytes : List ℕ) (o : ℕ) (before : List Record) (rest : Grammar) (at : ℕ) (own : owner before ≡ o) where
  slot_ok : (kind : ℕ) (x : Result (Record × ℕ) Fault) (y : Slots × ℕ) → reading.one_slot bytes kind x ≡ Ok y → (r : Record × ℕ) × (x ≡ Ok r) × (((kind, Some r.0) ∷ [], r.1) ≡ y)
  slot_ok kind (Ok r) y e = (r, refl, ok_is ((kind, Some r.0) ∷ [], r.1) y e)
  slot_ok kind (Err f) y e = absurd cc

  slot_err : (kind : ℕ) (x : Result (Record × ℕ) Fault) (f : Fault) → reading.one_slot bytes kind x ≡ Err f → x ≡ Err f
  slot_err kind (Ok r) f e = absurd (not_ok ((kind, Some r.0) ∷ [], r.1) f e)
  slot_err kind (Err g) f e = cc

  named_ok : (y : Record × ℕ) → Reached bytes before (both (a kinds.sname) rest) at → reading.take_name bytes at ≡ Ok y → Goes bytes before rest ((kinds.sname, Some y.0) ∷ [], y.1)
  named_ok y reached e =
      let b = bind_ok (reading.take bytes kinds.sname at) (λ r. cond (is_empty (name_of r.0.body)) (Err (bad_name r.0.at)) (Ok r)) y e in
      let g = guard_not (is_empty (name_of b.0.0.body)) (bad_name b.0.0.at) b.0 y b.2 in
      let why : refusal before b.0.0 ≡ None = refusal_of before b.0.0 kinds.sname (kind_of bytes o before rest at own kinds.sname b.0 b.1)
      ∙ sname_refusal (owner before) (names before) b.0.0.at b.0.0.body ∙ ap (λ (t : Bool). cond t (Some (bad_name b.0.0.at)) None) g.0 in
      subst (λ (x : Record × ℕ). Goes bytes before rest ((kinds.sname, Some x.0) ∷ [], x.1)) g.1 (one_ok bytes o before rest at own kinds.sname refl b.0 why reached b.1)

  named_err : (f : Fault) → Reached bytes before (both (a kinds.sname) rest) at → reading.take_name bytes at ≡ Err f → IsFirstFault bytes f
  named_err f reached e =
      elim (bind_err (reading.take bytes kinds.sname at) (λ r. cond (is_empty (name_of r.0.body)) (Err (bad_name r.0.at)) (Ok r)) f e) [
        | inl x ↦ take_err bytes before rest at kinds.sname f reached x
        | inr b ↦
            let g = guard_not_err (is_empty (name_of b.0.0.body)) (bad_name b.0.0.at) f b.0 b.2 in
            let why : refusal before b.0.0 ≡ Some (bad_name b.0.0.at) = refusal_of before b.0.0 kinds.sname
            (kind_of bytes o before rest at own kinds.sname b.0 b.1) ∙ sname_refusal (owner before) (names before) b.0.0.at b.0.0.body
            ∙ ap (λ (t : Bool). cond t (Some (bad_name b.0.0.at)) None) g.0 in
            subst (IsFirstFault bytes) g.1 (take_refused bytes before rest at kinds.sname b.0 (bad_name b.0.0.at) reached why b.1)
      ]

  size_of : (len : ℕ) → ((n : ℕ) → is_wrong_size o n ≡ not (eqb n len)) → (r : Record) (t : Bool) → r.kind ≡ kinds.xy
      → eqb (length r.body) len ≡ t → refusal before r ≡ cond (not t) (Some (bad_size r.at)) None
  size_of len wrong r t kind e =
      refusal_of before r kinds.xy kind ∙ xy_refusal (owner before) (names before) r.at r.body
      ∙ ap (λ (p : ℕ). cond (is_wrong_size p (length r.body)) (Some (bad_size r.at)) None) own
      ∙ ap (λ (w : Bool). cond w (Some (bad_size r.at)) None) (wrong (length r.body) ∙ ap not e)

  points_ok : (len : ℕ) → ((n : ℕ) → is_wrong_size o n ≡ not (eqb n len)) → (y : Record × ℕ)
      → Reached bytes before (both (a kinds.xy) rest) at → reading.take_points bytes len at ≡ Ok y
      → Goes bytes before rest ((kinds.xy, Some y.0) ∷ [], y.1)
  points_ok len wrong y reached e =
      let b = bind_ok (reading.take bytes kinds.xy at) (λ r. cond (eqb (length r.0.body) len) (Ok r) (Err (bad_size r.0.at))) y e in
      let g = guard (eqb (length b.0.0.body) len) (bad_size b.0.0.at) b.0 y b.2 in
      let why : refusal before b.0.0 ≡ None = size_of len wrong b.0.0 true (kind_of bytes o before rest at own kinds.xy b.0 b.1) g.0 in
      subst (λ (x : Record × ℕ). Goes bytes before rest ((kinds.xy, Some x.0) ∷ [], x.1)) g.1 (one_ok bytes o before rest at own kinds.xy refl b.0 why reached b.1)

  points_err : (len : ℕ) → ((n : ℕ) → is_wrong_size o n ≡ not (eqb n len)) → (f : Fault) → Reached bytes before (both (a kinds.xy) rest) at
      → reading.take_points bytes len at ≡ Err f → IsFirstFault bytes f
  points_err len wrong f reached e =
      elim (bind_err (reading.take bytes kinds.xy at) (λ r. cond (eqb (length r.0.body) len) (Ok r) (Err (bad_size r.0.at))) f e) [
        | inl x ↦ take_err bytes before rest at kinds.xy f reached x
        | inr b ↦
            let g = guard_err (eqb (length b.0.0.body) len) (bad_size b.0.0.at) f b.0 b.2 in
            let why : refusal before b.0.0 ≡ Some (bad_size b.0.0.at) = size_of len wrong b.0.0 false (kind_of bytes o before rest at own kinds.xy b.0 b.1) g.0 in
            subst (IsFirstFault bytes) g.1 (take_refused bytes before rest at kinds.xy b.0 (bad_size b.0.0.at) reached why b.1)
      ]

  item_ok : (i : Item) → FitsIn o rest i → (y : Slots × ℕ) → Reached bytes before (both (grammar_of i) rest) at → reading.item_at bytes i at ≡ Ok y → Goes bytes before rest y
  item_ok (must kind) fits y reached e =
      let s = slot_ok kind (reading.take bytes kind at) y e in
      subst (Goes bytes before rest) s.2 (must_ok bytes o before rest at own kind fits s.0 reached s.1)
  item_ok (may kind) fits y reached e =
      let b = bind_ok (reading.take_if bytes kind at) (λ z. Ok ((kind, z.0) ∷ [], z.1)) y e in
      subst (Goes bytes before rest) (ok_is ((kind, b.0.0) ∷ [], b.0.1) y b.2) (if_ok bytes o before rest at own kind fits.0 fits.1 b.0 reached b.1)
  item_ok transformed fits y reached e = transformed_ok bytes o before rest at own fits y reached e
  item_ok named fits y reached e =
      let s = slot_ok kinds.sname (reading.take_name bytes at) y e in
      subst (Goes bytes before rest) s.2 (named_ok s.0 reached s.1)
  item_ok (points len) fits y reached e =
      let s = slot_ok kinds.xy (reading.take_points bytes len at) y e in
      subst (Goes bytes before rest) s.2 (points_ok len fits s.0 reached s.1)

  item_err : (i : Item) → FitsIn o rest i → (f : Fault) → Reached bytes before (both (grammar_of i) rest) at → reading.item_at bytes i at ≡ Err f → IsFirstFault bytes f
  item_err (must kind) fits f reached e = take_err bytes before rest at kind f reached (slot_err kind (reading.take bytes kind at) f e)
  item_err (may kind) fits f reached e =
      elim (bind_err (reading.take_if bytes kind at) (λ z. Ok ((kind, z.0) ∷ [], z.1)) f e) [
        | inl x ↦ if_err bytes o before rest at own kind (both (maybe (a kind)) rest) f reached x
        | inr b ↦ absurd (not_ok ((kind, b.0.0) ∷ [], b.0.1) f b.2)
      ]
  item_err transformed fits f reached e = transformed_err bytes o before rest at own fits f reached e
  item_err named fits f reached e = named_err f reached (slot_err kinds.sname (reading.take_name bytes at) f e)
  item_err (points len) fits f reached e = points_err len fits f reached (slot_err kinds.xy (reading.take_points bytes len at) f e)

-- ---- all items

module _ (bytes : List ℕ) (o : ℕ) (rest : Grammar) where
  pub items_ok : (is : List Item) (before : List Record) (at : ℕ) → owner before ≡ o → AllFit o rest is → (y : Slots × ℕ)
      → Reached bytes before (behind is rest) at → reading.items_at bytes is at ≡ Ok y → Goes bytes before rest y
  unfolding reading.items_at
  items_ok [] before at own fit y reached e =
      subst (Goes bytes before rest) (ok_is ([], at) y e)
      (record {
        rs = [];
        slotted = λ k. refl;
        inner = tt;
        reached = subst (λ (x : List Record). Reached bytes x rest at)
            (sym (append-nil before)) reached;
      })
  items_ok (i ∷ is) before at own fit y reached e =
      let b = bind_ok (reading.item_at bytes i at) (λ first. reading.items_at bytes is first.1 >>= λ others. Ok (first.0 ++ others.0, others.1)) y e in
      let c = bind_ok (reading.items_at bytes is b.0.1) (λ others. Ok (b.0.0 ++ others.0, others.1)) y b.2 in
      let first = item_ok bytes o before (behind is rest) at own i fit.0 b.0 reached b.1 in
      let second = items_ok is (before ++ first.rs) b.0.1 (own_then bytes o before first.rs first.inner own) fit.1 c.0 first.reached c.1 in
      subst (Goes bytes before rest) (ok_is (b.0.0 ++ c.0.0, c.0.1) y c.2) (goes_then bytes o before (behind is rest) rest b.0 c.0 first second)

  pub items_err : (is : List Item) (before : List Record) (at : ℕ) → owner before ≡ o → AllFit o rest is → (f : Fault)
      → Reached bytes before (behind is rest) at → reading.items_at bytes is at ≡ Err f → IsFirstFault bytes f
  unfolding reading.items_at
  items_err [] before at own fit f reached e = (let none : Slots × ℕ = ([], at) in absurd (not_ok none f e))
  items_err (i ∷ is) before at own fit f reached e =
      elim (bind_err (reading.item_at bytes i at) (λ first. reading.items_at bytes is first.1 >>= λ others. Ok (first.0 ++ others.0, others.1)) f e) [
        | inl x ↦ item_err bytes o before (behind is rest) at own i fit.0 f reached x
        | inr b ↦
            let first = item_ok bytes o before (behind is rest) at own i fit.0 b.0 reached b.1 in
            elim (bind_err (reading.items_at bytes is b.0.1) (λ others. Ok (b.0.0 ++ others.0, others.1)) f b.2) [
              | inl x ↦ items_err is (before ++ first.rs) b.0.1 (own_then bytes o before first.rs first.inner own) fit.1 f first.reached x
              | inr c ↦ (let all : Slots × ℕ = (b.0.0 ++ c.0.0, c.0.1) in absurd (not_ok all f c.2))
            ]
      ]

-- ---- what items begin with

abbrev pub may_begin : List Item → ℕ → Bool
may_begin [] k = true
may_begin (must kind ∷ is) k = eqb k kind
may_begin (may kind ∷ is) k = eqb k kind || may_begin is k
may_begin (transformed ∷ is) k = eqb k kinds.strans || may_begin is k
may_begin (named ∷ is) k = eqb k kinds.sname
may_begin (points len ∷ is) k = eqb k kinds.xy

pub or_first : (x y : Bool) → x || y ≡ false → x ≡ false
or_first true y e = absurd cc
or_first false y e = refl

pub or_second : (x y : Bool) → x || y ≡ false → y ≡ false
or_second true y e = absurd cc
or_second false y e = e

pub avoids_a : (kind k : ℕ) (rest : Grammar) → eqb k kind ≡ false → Avoids (both (a kind) rest) k
avoids_a kind k rest e = avoids_both (a kind) rest k (solid_one (λ j. eqb j kind)) (avoids_one (λ j. eqb j kind) k e)

pub avoids_items : (is : List Item) (rest : Grammar) (k : ℕ) → may_begin is k ≡ false → Avoids (behind is rest) k
avoids_items [] rest k e = absurd cc
avoids_items (must kind ∷ is) rest k e = avoids_a kind k (behind is rest) e
avoids_items (may kind ∷ is) rest k e =
    avoids_behind (maybe (a kind)) (behind is rest) k
    (avoids_maybe (a kind) k (avoids_one (λ j. eqb j kind) k (or_first (eqb k kind) (may_begin is k) e)))
    (avoids_items is rest k (or_second (eqb k kind) (may_begin is k) e))
avoids_items (transformed ∷ is) rest k e =
    avoids_behind (maybe grammar.strans) (behind is rest) k
    (avoids_maybe grammar.strans k (avoids_a kinds.strans k (both (maybe (a kinds.mag)) (maybe (a kinds.angle)))
    (or_first (eqb k kinds.strans) (may_begin is k) e))) (avoids_items is rest k (or_second (eqb k kinds.strans) (may_begin is k) e))
avoids_items (named ∷ is) rest k e = avoids_a kinds.sname k (behind is rest) e
avoids_items (points len ∷ is) rest k e = avoids_a kinds.xy k (behind is rest) e
