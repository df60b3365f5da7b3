-- Pieces that are numbered and sorted, and where each of them then is.
use Rattle.std.proofs.Common.{◌≡◌, ℕ, ◌+◌, ◌<◌, inl, inr, List, [], length, get_or, sym, ap, ◌∙◌, subst, arith}
use Rattle.std.specs.List.Sorted.{IsPermutation}
use Rattle.std.proofs.Math.ListN.{set}
use Rattle.std.proofs.lemmas.Bool.{cases_eq}
use Rattle.std.proofs.lemmas.List.{get_or_default, get_or-set_same, get_or-set_other, length-set}
use Rattle.std.proofs.lemmas.List.Elements.{Contains-get_or}
use Rattle.std.proofs.lemmas.List.Sorted.{Contains-permutation, IsPermutation-sym, length_permutation}
use Rattle.dpl_sides.specs.declared.piece.Piece.{Piece}
use Rattle.dpl_sides.specs.Noted.{piece_at, number_at, AreNumbered, AreRanksBelow, IsPlaced}
use Rattle.dpl_sides.specs.Pieces.{whole_piece}

-- one more place
pub ranks-next : (pieces : List Piece) (i : ℕ) (old new : List ℕ) → i < length pieces → number_at pieces i < length pieces → new ≡ set old (number_at pieces i) i
    → AreRanksBelow pieces i old → AreRanksBelow pieces (i + 1) new
ranks-next pieces i old new i_in known new_is h =
    let k : ℕ = number_at pieces i in
    rw new_is (record {
      each = length-set old k i ∙ h.each;
      ranked = λ j l. elim (cases_eq (number_at pieces j) k) [
        | inl e ↦ (
            let here : get_or (set old k i) (number_at pieces j) 0 ≡ i = ap (λ m. get_or (set old k i) m 0) e ∙ get_or-set_same old k i 0 (omega (arith, known, h.each)) in
            rw here (i_in, sym e))
        | inr ne ↦ (
            let there : get_or (set old k i) (number_at pieces j) 0 ≡ get_or old (number_at pieces j) 0 = get_or-set_other old k (number_at pieces j) i 0 ne in
            rw there (h.ranked j (elim (cases_eq j i) [ inl e ↦ absurd (ne (ap (number_at pieces) e)) | inr other ↦ omega (arith, l, other) ])))
      ];
    })

module _ (old numbered new : List Piece) (are : AreNumbered old numbered) (same : IsPermutation numbered new) where
  pub long : length new ≡ length old
  long = length_permutation numbered new same ∙ are.each

  number-of : (m : ℕ) → m < length old → number_at numbered m ≡ m
  number-of m m_in = ap (λ x. let u : Piece = x in u.number) (are.same m m_in)

  part-of : (m : ℕ) → m < length old → (piece_at numbered m).part ≡ (piece_at old m).part
  part-of m m_in = ap (λ x. let u : Piece = x in u.part) (are.same m m_in)

  -- a sorted piece has its former place for its number
  former : (i : ℕ) → i < length new → (m : ℕ) × (m < length old) × (piece_at numbered m ≡ piece_at new i) × (number_at new i ≡ m)
  former i i_in =
      let (m, m_in, is) = Contains-permutation new numbered (piece_at new i) (IsPermutation-sym numbered new same) (Contains-get_or new i (whole_piece 0 []) i_in) in
      let at : m < length old = omega (arith, m_in, are.each) in
      let e : piece_at numbered m ≡ piece_at new i = get_or_default numbered m (whole_piece 0 []) (piece_at new i) m_in ∙ is in
      (m, at, e, ap (λ x. let u : Piece = x in u.number) (sym e) ∙ number-of m at)

  pub numbers-known : (i : ℕ) → i < length new → number_at new i < length new
  numbers-known i i_in = (let (m, m_in, e, is) = former i i_in in omega (arith, m_in, is, long))

  -- where a piece is once they are sorted
  pub placed : (ranks : List ℕ) → AreRanksBelow new (length new) ranks → (a : ℕ) → a < length old → IsPlaced old new a (get_or ranks a 0)
  placed ranks h a a_in =
      let a_at : a < length numbered = omega (arith, a_in, are.each) in
      let (i, i_in, is) = Contains-permutation numbered new (piece_at numbered a) same (Contains-get_or numbered a (whole_piece 0 []) a_at) in
      let here : piece_at new i ≡ piece_at numbered a = get_or_default new i (whole_piece 0 []) (piece_at numbered a) i_in ∙ is in
      let number : number_at new i ≡ a = ap (λ x. let u : Piece = x in u.number) here ∙ number-of a a_in in
      let (k_in, k_is) = subst (λ q. (get_or ranks q 0 < length new) × (number_at new (get_or ranks q 0) ≡ q)) number (h.ranked i i_in) in
      let (m, m_in, e, m_is) = former (get_or ranks a 0) k_in in
      let back : m ≡ a = sym m_is ∙ k_is in
      (k_in, ap (λ x. let u : Piece = x in u.part) (sym e) ∙ (part-of m m_in ∙ ap (λ q. (piece_at old q).part) back))
