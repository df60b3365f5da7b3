-- Flips, root by root.
use Rattle.std.proofs.Common.{◌≡◌, ℕ, ◌+◌, ◌<◌, inl, inr, Bool, true, false, not, ltb, eqb, List, [], ◌∷◌, ◌++◌, length, get_or, sym, refl, ap, ◌∙◌, arith}
use Rattle.std.proofs.lemmas.Bool.{cases_lt, eqb-true}
use Rattle.std.proofs.lemmas.List.{get_or_append_left, get_or_push, length_push}
use Rattle.std.proofs.lemmas.List.Elements.{All-head, All-tail}
use Rattle.std.proofs.lemmas.List.Sums.{sum_by-cons}
use Rattle.dpl_spec_split.specs.Colours.{differ}
use Rattle.dpl_orient.specs.declared.crossing.Crossing.{Crossing}
use Rattle.dpl_orient.specs.Crossings.{GoUp, IsSplit, AreFlips, tally, is_flipped_by}
use Rattle.dpl_orient.proofs.Letters.{and-agree}
use Rattle.dpl_orient.proofs.Settling.{counts, unit}

module _ (fs gs : List Bool) (root : ℕ) (wanted : Bool) (same : (e : ℕ) → e < root → get_or fs e false ≡ get_or gs e false) where
  counts-agree : (x : Crossing) → x.earlier < x.later → counts fs root wanted x ≡ counts gs root wanted x
  counts-agree x up = and-agree (eqb x.later root) _ _ (λ mine.
      ap (λ b. not (differ wanted (differ x.odd b))) (same x.earlier (let e = eqb-true x.later root mine in omega (arith, e, up))))

  pub tally-agree : (xs : List Crossing) → GoUp xs → tally fs root wanted xs ≡ tally gs root wanted xs
  tally-agree [] up = refl
  tally-agree (x ∷ xs) up =
      sum_by-cons (λ c. unit (counts fs root wanted c)) x xs
      ∙ (ap (λ b. unit b + tally fs root wanted xs) (counts-agree x (All-head (λ c. c.earlier < c.later) x xs up))
      ∙ (ap (λ n. unit (counts gs root wanted x) + n) (tally-agree xs (All-tail (λ c. c.earlier < c.later) x xs up))
      ∙ sym (sum_by-cons (λ c. unit (counts gs root wanted c)) x xs)))

pub flipped-agree : (fs gs : List Bool) (root : ℕ) (xs : List Crossing) → GoUp xs
    → ((e : ℕ) → e < root → get_or fs e false ≡ get_or gs e false) → is_flipped_by fs root xs ≡ is_flipped_by gs root xs
flipped-agree fs gs root xs up same =
    ap (λ n. ltb n (tally fs root true xs)) (tally-agree fs gs root false same xs up)
    ∙ ap (λ n. ltb (tally gs root false xs) n) (tally-agree fs gs root true same xs up)

-- what is known when the components below root are settled, and the crossings of root begin at k
pub record AreSettled (xs : List Crossing) (fs : List Bool) (root k : ℕ) : Type 0 where
  pub len : length fs ≡ root
  pub flips : AreFlips xs fs
  pub split : IsSplit xs root k

pub settled-none : (xs : List Crossing) → AreSettled xs [] 0 0
settled-none xs = record {
  len = refl;
  flips = λ r l. absurd (omega (arith, l));
  split = record { within = omega arith; before = λ i d l. absurd (omega (arith, l)); after = λ i d l m. omega arith };
}

pub settled-more : (xs : List Crossing) (flips : List Bool) (root k next : ℕ) (b : Bool) → GoUp xs → AreSettled xs flips root k
    → IsSplit xs (root + 1) next → b ≡ is_flipped_by flips root xs → AreSettled xs (flips ++ b ∷ []) (root + 1) next
settled-more xs flips root k next b up h split is = record {
  len = length_push flips b ∙ ap (λ n. n + 1) h.len;
  flips = λ r l. (let len = length_push flips b in
      let known = h.len in
      let keeps : (e : ℕ) → e < r → get_or (flips ++ b ∷ []) e false ≡ get_or flips e false = λ e m. get_or_append_left flips (b ∷ []) false e (omega (arith, l, m, len)) in
      let flipped : is_flipped_by (flips ++ b ∷ []) r xs ≡ is_flipped_by flips r xs = flipped-agree (flips ++ b ∷ []) flips r xs up keeps in
      elim (cases_lt r root) [
        | inl below ↦ get_or_append_left flips (b ∷ []) false r (omega (arith, below, known)) ∙ (h.flips r (omega (arith, below, known)) ∙ sym flipped)
        | inr above ↦ (let same : root ≡ r = omega (arith, above, l, len, known) in
            get_or_push flips b false r (known ∙ same) ∙ (is ∙ (ap (λ q. is_flipped_by flips q xs) same ∙ sym flipped)))
      ]);
  split = split;
}
