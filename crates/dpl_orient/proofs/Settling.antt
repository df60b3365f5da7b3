-- A component is settled crossing by crossing.
use Rattle.std.proofs.Common.{◌≡◌, ◌≢◌, ℕ, ◌+◌, ◌<◌, ◌≤◌, inl, inr, Bool, true, false, not, ◌&&◌, eqb, ltb, cond, List, length, get_or, take, drop, sym, ap, ◌∙◌, subst, arith}
use Rattle.std.specs.List.{All}
use Rattle.std.proofs.lemmas.Bool.{and_left, ne_eqb, eq-eqb, cond-false, cases_lt, cases_eq}
use Rattle.std.proofs.lemmas.List.{get_or_default, get_or-take, get_or-drop, length-take-le, length-drop}
use Rattle.std.proofs.lemmas.List.Sums.{sum_by-le, sum_by-take-drop, count_by_more_yes, count_by_more_no}
use Rattle.dpl_spec_split.specs.Colours.{differ}
use Rattle.dpl_orient.specs.declared.crossing.Crossing.{Crossing}
use Rattle.dpl_orient.specs.Crossings.{AreGrouped, IsSplit, tally, is_flipped_by}

-- what counts for one
abbrev pub unit : Bool → ℕ
unit b = cond b 1 0

-- whether a crossing counts
abbrev pub counts : List Bool → ℕ → Bool → Crossing → Bool
counts flips root wanted c = eqb c.later root && not (differ wanted (differ c.odd (get_or flips c.earlier false)))

tally-none : (flips : List Bool) (root : ℕ) (wanted : Bool) (xs : List Crossing) → All (λ c. c.later ≢ root) xs → tally flips root wanted xs ≡ 0
tally-none flips root wanted xs other =
    let le = sum_by-le (λ c. unit (counts flips root wanted c)) 0 xs (λ k d l.
    (let e : unit (counts flips root wanted (get_or xs k d)) ≡ 0 = cond-false _ 1 0 (and_left _ _ (ne_eqb _ _ (other k d l))) in omega (arith, e))) in
    omega (arith, le)

-- what stands before place k has another later component
pub tally-before : (flips : List Bool) (root : ℕ) (wanted : Bool) (xs : List Crossing) (k : ℕ) → k ≤ length xs
    → ((i : ℕ) (d : Crossing) → i < k → (get_or xs i d).later ≢ root) → tally flips root wanted (take k xs) ≡ 0
tally-before flips root wanted xs k within other = tally-none flips root wanted (take k xs) (λ i d l.
    (let below : i < k = omega (arith, l, length-take-le k xs within) in
    subst (λ c. c.later ≢ root) (sym (get_or-take k xs i d below)) (other i d below)))

-- what stands from place k on has another later component
pub tally-after : (flips : List Bool) (root : ℕ) (wanted : Bool) (xs : List Crossing) (k : ℕ)
    → ((i : ℕ) (d : Crossing) → k ≤ i → i < length xs → (get_or xs i d).later ≢ root)
    → tally flips root wanted (take k xs) ≡ tally flips root wanted xs
tally-after flips root wanted xs k other =
    let none = tally-none flips root wanted (drop k xs) (λ i d l.
    (let e = length-drop k xs in
    subst (λ c. c.later ≢ root) (sym (get_or-drop k xs i d)) (other (k + i) d (omega arith) (omega (arith, l, e))))) in
    let whole = sum_by-take-drop (λ c. unit (counts flips root wanted c)) xs k in
    omega (arith, none, whole)

-- the counts of the crossings before place k
pub record IsSettling (xs : List Crossing) (flips : List Bool) (root k a b : ℕ) : Type 0 where
  pub before : (i : ℕ) (d : Crossing) → i < k → (get_or xs i d).later < root + 1
  pub agreeing : a ≡ tally flips root false (take k xs)
  pub differing : b ≡ tally flips root true (take k xs)
  pub bound : a + b ≤ k

pub settling-start : (xs : List Crossing) (flips : List Bool) (root k : ℕ) → IsSplit xs root k → IsSettling xs flips root k 0 0
settling-start xs flips root k split = record {
  before = λ i d l. (let m = split.before i d l in omega (arith, m));
  agreeing = sym (tally-before flips root false xs k split.within (λ i d l e. (let m = split.before i d l in omega (arith, m, e))));
  differing = sym (tally-before flips root true xs k split.within (λ i d l e. (let m = split.before i d l in omega (arith, m, e))));
  bound = omega arith;
}

module _ (xs : List Crossing) (flips : List Bool) (root k agreeing differing : ℕ) (x : Crossing) (within : k < length xs)
    (is : x ≡ get_or xs k x) (mine : x.later ≡ root) (h : IsSettling xs flips root k agreeing differing) where
  later-before : (i : ℕ) (d : Crossing) → i < k + 1 → (get_or xs i d).later < root + 1
  later-before i d l = elim (cases_lt i k) [
    | inl below ↦ h.before i d below
    | inr above ↦ (let same : k ≡ i = omega (arith, l, above) in
        let e : get_or xs i d ≡ x = ap (λ j. get_or xs j d) (sym same) ∙ (get_or_default xs k d x within ∙ sym is) in
        let g : (get_or xs i d).later ≡ x.later = ap (λ c. c.later) e in omega (arith, g, mine))
  ]

  counts-at : (wanted b : Bool) → not (differ wanted (differ x.odd (get_or flips x.earlier false))) ≡ b → counts flips root wanted (get_or xs k x) ≡ b
  counts-at wanted b e = subst (λ c. counts flips root wanted c ≡ b) is (rw (eq-eqb x.later root mine) e)

  pub settling-differs : differ x.odd (get_or flips x.earlier false) ≡ true → IsSettling xs flips root (k + 1) agreeing (differing + 1)
  settling-differs e = record {
    before = later-before;
    agreeing = h.agreeing ∙ sym (count_by_more_no (counts flips root false) xs k x within (counts-at false false (ap not e)));
    differing = ap (λ n. n + 1) h.differing ∙ sym (count_by_more_yes (counts flips root true) xs k x within (counts-at true true (ap (λ b. not (not b)) e)));
    bound = (let b = h.bound in omega arith);
  }

  pub settling-agrees : differ x.odd (get_or flips x.earlier false) ≡ false → IsSettling xs flips root (k + 1) (agreeing + 1) differing
  settling-agrees e = record {
    before = later-before;
    agreeing = ap (λ n. n + 1) h.agreeing ∙ sym (count_by_more_yes (counts flips root false) xs k x within (counts-at false true (ap not e)));
    differing = h.differing ∙ sym (count_by_more_no (counts flips root true) xs k x within (counts-at true false (ap (λ b. not (not b)) e)));
    bound = (let b = h.bound in omega arith);
  }

module _ (xs : List Crossing) (flips : List Bool) (root k agreeing differing : ℕ) (within : k ≤ length xs) (after : (i : ℕ) (d : Crossing)
    → k ≤ i → i < length xs → root + 1 ≤ (get_or xs i d).later) (h : IsSettling xs flips root k agreeing differing) where
  pub settled-split : IsSplit xs (root + 1) k
  settled-split = record { within = within; before = h.before; after = after }

  other-after : (i : ℕ) (d : Crossing) → k ≤ i → i < length xs → (get_or xs i d).later ≢ root
  other-after i d l m e = let a = after i d l m in omega (arith, a, e)

  pub settled-flip : ltb agreeing differing ≡ is_flipped_by flips root xs
  settled-flip =
      ap (λ n. ltb n differing) (h.agreeing ∙ tally-after flips root false xs k other-after)
      ∙ ap (λ n. ltb (tally flips root false xs) n) (h.differing ∙ tally-after flips root true xs k other-after)

-- where the crossings at and behind place k go on to a later component
pub after-stop : (xs : List Crossing) (root start k : ℕ) (x : Crossing) → AreGrouped xs → IsSplit xs root start → start ≤ k → k < length xs → x ≡ get_or xs k x → x.later ≢ root →
    (i : ℕ) (d : Crossing) → k ≤ i → i < length xs → root + 1 ≤ (get_or xs i d).later
after-stop xs root start k x grouped split from within is other i d l m =
    let e : x.later ≡ (get_or xs k d).later = ap (λ c. c.later) (is ∙ get_or_default xs k x d within) in
    let least = split.after k d from within in
    let up = grouped k i d l m in
    elim (cases_eq (get_or xs k d).later root) [
      | inl same ↦ absurd (other (e ∙ same))
      | inr apart ↦ omega (arith, least, up, apart)
    ]
