-- Reading the head of a library.
use Rattle.std.proofs.Common.{◌≡◌, ℕ, Bool, true, false, ◌||◌, ◌⊎◌, inl, inr, eqb, List, [], ◌∷◌, ◌++◌, None}
use Rattle.std.proofs.Common.{Ok, Err, refl, sym, subst, ap, ◌∙◌, append_assoc}
use Rattle.std.proofs.lemmas.Bool.{eqb-true, eqb-false}
use Rattle.std.proofs.lemmas.List.{append-nil}
use Rattle.dpl_spec_format.specs.Kinds as kinds
use Rattle.dpl_spec_format.specs.Faults.{Fault}
use Rattle.dpl_spec_format.specs.Records.{Record, record_at}
use Rattle.dpl_spec_format.specs.Grammar.{Grammar, both, many, skip}
use Rattle.dpl_spec_format.specs.Stream.{refusal, refusal_in}
use Rattle.dpl_syntax.specs.Reading as reading
use Rattle.dpl_syntax.specs.Reached.{Reached}
use Rattle.dpl_syntax.specs.Passing.{AreSkipped, skips_then, PassesSkips, FailsSkips, same, part_then, PassesPart, is_part, IsNextSkipped, IsNoneSkipped}
use Rattle.dpl_syntax.proofs.Languages.{Moves, moves_one, moves_agreed, takes_many, ends_many, exists_rest, avoids_one}
use Rattle.dpl_syntax.proofs.Steps.{agreed, moved, stops}
use Rattle.dpl_syntax.proofs.Taking.{same_record, take_kind, take_ok, take_err}
use Rattle.dpl_syntax.proofs.Ends.{IsNever, never}

skipped_append : (rs qs : List Record) → AreSkipped rs → AreSkipped qs → AreSkipped (rs ++ qs)
skipped_append [] qs first second = second
skipped_append (r ∷ rs) qs first second = (first.0, skipped_append rs qs first.1 second)

-- a type that is passed over is none of these
or_false : (x y : Bool) → x ≡ false → y ≡ false → x || y ≡ false
or_false x y e f = rw (e, f) refl

skipped_other : (k j : ℕ) (b : Bool) → kinds.is_skipped k ≡ true → kinds.is_skipped j ≡ false → eqb k j ≡ b → b ≡ false
skipped_other k j true s n e = (let t : k ≡ j = eqb-true k j e in let u : kinds.is_skipped j ≡ true = subst (λ (x : ℕ). kinds.is_skipped x ≡ true) t s in absurd cc)
skipped_other k j false s n e = refl

pub skipped_isnt : (k j : ℕ) → kinds.is_skipped k ≡ true → kinds.is_skipped j ≡ false → eqb k j ≡ false
skipped_isnt k j s n = skipped_other k j (eqb k j) s n refl

-- a record that is passed over is refused for nothing
plain_if : (o : ℕ) (known : List (List ℕ)) (k at : ℕ) (body : List ℕ) → eqb k kinds.xy ≡ false → eqb k kinds.strname ≡ false
    → eqb k kinds.sname ≡ false → refusal_in o known k at body ≡ None
unfolding refusal_in
plain_if o known k at body x s n = rw (x, s, n) refl

skip_plain : (before : List Record) (r : Record) → kinds.is_skipped r.kind ≡ true → refusal before r ≡ None
skip_plain before r s = plain_if _ _ r.kind r.at r.body (skipped_isnt r.kind kinds.xy s refl) (skipped_isnt r.kind kinds.strname s refl) (skipped_isnt r.kind kinds.sname s refl)

module _ (bytes : List ℕ) (from : ℕ) where
  pub no_skips : PassesSkips bytes skips_then from from
  no_skips before rest none reached = ([], tt, subst (λ (x : List Record). Reached bytes x (skips_then rest) from) (sym (append-nil before)) reached)

  pub one_skip : (at : ℕ) (r : Record) → PassesSkips bytes skips_then from at → IsNextSkipped bytes at r → PassesSkips bytes skips_then from r.next
  one_skip at r so_far next before rest none reached =
      let p = so_far before rest none reached in
      let after = skips_then rest in
      let moves : Moves after r.kind after = moves_agreed after (both skip after) after r.kind
      (takes_many skip rest r.kind (none r.kind next.is)) (moves_one kinds.is_skipped after r.kind next.is) in
      let there = moved bytes (before ++ p.0) at after after r p.2 next.found moves p.2.some (skip_plain (before ++ p.0) r next.is)
      (λ e. eqb-false r.kind kinds.endlib (skipped_isnt r.kind kinds.endlib next.is refl) e) in
      (p.0 ++ r ∷ [], skipped_append p.0 (r ∷ []) p.1 (next.is, tt), subst (λ (x : List Record). Reached bytes x after r.next) (append_assoc before p.0 (r ∷ [])) there)

  pub skips_done : (at : ℕ) → PassesSkips bytes skips_then from at → IsNoneSkipped bytes at → PassesSkips bytes same from at
  skips_done at so_far end before rest none reached =
      let p = so_far before rest none reached in (
        p.0,
        p.1,
        agreed bytes (before ++ p.0) at (skips_then rest) rest p.2
            (λ x found. ends_many skip rest x.kind
            (avoids_one kinds.is_skipped x.kind (subst (λ (y : Record). kinds.is_skipped y.kind ≡ false)
            (same_record (record_at bytes at) end.0 x end.1 found) end.2))) (exists_rest (many skip) rest p.2.some),
      )

  pub skips_fail : (at : ℕ) (f : Fault) → PassesSkips bytes skips_then from at → record_at bytes at ≡ Err f → FailsSkips bytes skips_then from f
  skips_fail at f so_far e before rest none reached =
      let p = so_far before rest none reached in
      stops bytes (before ++ p.0) at (skips_then rest) f p.2 e

-- ---- a part

or_cases : (x y : Bool) → x || y ≡ true → (x ≡ true) ⊎ (y ≡ true)
or_cases true y e = inl refl
or_cases false y e = inr e

pub by_part : (P : ℕ → Type 0) → P kinds.bgnlib → P kinds.libname → P kinds.units → (k : ℕ) → is_part k ≡ true → P k
by_part P b l u k e =
    elim (or_cases (eqb k kinds.bgnlib) (eqb k kinds.libname || eqb k kinds.units) e) [
      | inl t ↦ subst P (sym (eqb-true k kinds.bgnlib t)) b
      | inr e1 ↦ elim (or_cases (eqb k kinds.libname) (eqb k kinds.units) e1) [
        | inl t ↦ subst P (sym (eqb-true k kinds.libname t)) l
        | inr t ↦ subst P (sym (eqb-true k kinds.units t)) u
      ]
    ]

part_never : (k : ℕ) → is_part k ≡ true → IsNever k
unfolding refusal_in
part_never k e o known at body = by_part (λ k. refusal_in o known k at body ≡ None) refl refl refl k e

part_open : (k : ℕ) → is_part k ≡ true → eqb k kinds.endlib ≡ false
part_open = by_part (λ k. eqb k kinds.endlib ≡ false) refl refl refl

module _ (bytes : List ℕ) (kind at : ℕ) (part : is_part kind ≡ true) where
  module _ (y : Record × ℕ) (e : reading.take bytes kind at ≡ Ok y) where
    begun : (before : List Record) (rest : Grammar) → Reached bytes before (part_then kind rest) at → (y.0.kind ≡ kind) × Reached bytes (before ++ y.0 ∷ []) (skips_then rest) y.1
    begun before rest reached =
        take_ok bytes before (skips_then rest) at kind y reached (λ r s. never before r kind (part_never kind part)
        (ap (λ (x : Record). x.kind) s ∙ take_kind bytes kind at y e)) (eqb-false kind kinds.endlib (part_open kind part)) e

    pub part_ok : (next : ℕ) → PassesSkips bytes same y.1 next → PassesPart bytes kind y.0 at next
    part_ok next skips before rest none reached =
        let t = begun before rest reached in
        let p = skips (before ++ y.0 ∷ []) rest none t.1 in
        (y.0 ∷ p.0, record { skipped = p.0; split = refl; is = t.0; are = p.1 }, subst (λ (x : List Record). Reached bytes x rest next) (append_assoc before (y.0 ∷ []) p.0) p.2)

    pub part_fails : (f : Fault) → FailsSkips bytes skips_then y.1 f → FailsSkips bytes (part_then kind) at f
    part_fails f fails before rest none reached = fails (before ++ y.0 ∷ []) rest none ((begun before rest reached).1)

  pub no_part : (f : Fault) → reading.take bytes kind at ≡ Err f → FailsSkips bytes (part_then kind) at f
  no_part f e before rest none reached = take_err bytes before (skips_then rest) at kind f reached e
