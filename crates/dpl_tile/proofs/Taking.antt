-- Lists of numbered kinds, which are taken from the last one on.
use Rattle.std.proofs.Common.{◌≡◌, ℕ, ◌+◌, ◌<◌, ◌≤◌, inl, inr, List, [], ◌∷◌, ◌++◌, length, get_or, refl, sym, ap, ◌∙◌, subst, arith}
use Rattle.std.specs.Prelude.{◌↔◌, Vec, Result, Ok, IfOk}
use Rattle.std.specs.Global.{Global}
use Rattle.std.specs.List.{Contains}
use Rattle.std.proofs.lemmas.Bool.{cases_eq}
use Rattle.std.proofs.lemmas.List.{get_or_append_left, get_or_at, length_push}
use Rattle.std.proofs.lemmas.List.Elements.{Contains-append_cases, Contains-append_left, Contains-append_right}

module _ {X E : Type 0} (Kind : ℕ → X → Type 0) where
  -- each list has what is of the kind of its number, where it was made
  abbrev pub AreMade : List (Result (Vec X Global) E) → Type 0
  AreMade lists = (k : ℕ) (d : Result (Vec X Global) E) → k < length lists → IfOk (get_or lists k d) (λ v. (x : X) → Contains v.items x ↔ Kind k x)

  -- the list has the elements of the last of n lists, but for those that are left
  pub record AreTaken (n : ℕ) (left : List (Result (Vec X Global) E)) (all : List X) : Type 0 where
    pub few : length left ≤ n
    pub made : AreMade left
    pub taken : (x : X) → Contains all x ↔ ((k : ℕ) × (length left ≤ k) × (k < n) × Kind k x)

  pub taken-none : (n : ℕ) (lists : List (Result (Vec X Global) E)) (all : List X) → length lists ≡ n → all ≡ [] → AreMade lists → AreTaken n lists all
  taken-none n lists all is none made = record {
    few = omega (arith, is);
    made = made;
    taken = λ x. (
      λ c. absurd (let (m, m_in, same) = subst (λ xs. Contains xs x) none c in omega (arith, m_in)),
      λ (k, l, m, h). absurd (let no : ⊥ = omega (arith, l, m, is) in no),
    );
  }

  pub taken-more : (n : ℕ) (lists left : List (Result (Vec X Global) E)) (last : Result (Vec X Global) E) (v : Vec X Global) (old new : List X)
      → lists ≡ left ++ last ∷ [] → last ≡ Ok v → new ≡ old ++ v.items → AreTaken n lists old → AreTaken n left new
  taken-more n lists left last v old new is ok more h =
      let size : length lists ≡ length left + 1 = ap length is ∙ length_push left last in
      let few = h.few in
      let own : (x : X) → Contains v.items x ↔ Kind (length left) x =
      subst (λ r. IfOk r (λ w. (x : X) → Contains w.items x ↔ Kind (length left) x)) (ap (λ l. get_or l (length left) last) is ∙ (get_or_at left last [] last (length left) refl ∙ ok))
      (h.made (length left) last (omega (arith, size))) in
      record {
        few = omega (arith, size, few);
        made = λ k d l. subst (λ r. IfOk r (λ w. (x : X) → Contains w.items x ↔ Kind k x)) (ap (λ xs. get_or xs k d) is ∙ get_or_append_left left (last ∷ []) d k l)
            (h.made k d (omega (arith, l, size)));
        taken = λ x. (
          λ c. elim (Contains-append_cases old v.items x (subst (λ xs. Contains xs x) more c)) [
            | inl a ↦ (let (k, l, m, kind) = (h.taken x).0 a in (k, omega (arith, l, size), m, kind))
            | inr a ↦ (length left, omega arith, omega (arith, size, few), (own x).0 a)
          ],
          λ (k, l, m, kind). subst (λ xs. Contains xs x) (sym more) (elim (cases_eq k (length left)) [
            | inl same ↦ Contains-append_right old v.items x ((own x).1 (subst (λ i. Kind i x) same kind))
            | inr ne ↦ Contains-append_left old v.items x ((h.taken x).1 (k, omega (arith, l, ne, size), m, kind))
          ]),
        );
      }

  pub taken-all : (n : ℕ) (left : List (Result (Vec X Global) E)) (all : List X) → length left ≡ 0 → AreTaken n left all
      → (x : X) → Contains all x ↔ ((k : ℕ) × (k < n) × Kind k x)
  taken-all n left all none h x = (
    λ c. (let (k, l, m, kind) = (h.taken x).0 c in (k, m, kind)),
    λ (k, m, kind). (h.taken x).1 (k, omega (arith, none), m, kind),
  )
