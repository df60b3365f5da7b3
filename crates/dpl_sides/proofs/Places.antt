-- Pieces numbered one by one, and places taken in pairs one by one.
use Rattle.std.proofs.Common.{◌≡◌, ℕ, ◌+◌, ◌≤◌, ◌<◌, inl, inr, List, [], ◌∷◌, ◌++◌, length, get_or, sym, ap, ◌∙◌, arith}
use Rattle.std.proofs.Math.ListN.{set}
use Rattle.std.proofs.lemmas.Bool.{cases_eq}
use Rattle.std.proofs.lemmas.List.{get_or_append_left, get_or_push, get_or-set_same, get_or-set_other, length-append, length-set}
use Rattle.dpl_sides.specs.declared.piece.Piece.{Piece}
use Rattle.dpl_sides.specs.Noted.{piece_at, AreNumbered, AreRanked}
use Rattle.dpl_sides.specs.Pieces.{whole_piece}

abbrev pub numbered : Piece → ℕ → Piece
numbered x i = record { part = x.part; owner = x.owner; origin = x.origin; number = i }

-- the first n pieces have their places for their numbers, and the others are as they were
pub record AreNumberedBelow (n : ℕ) (old new : List Piece) : Type 0 where
  pub each : length new ≡ length old
  pub same : (i : ℕ) → i < n → piece_at new i ≡ numbered (piece_at old i) i
  pub kept : (i : ℕ) → n ≤ i → piece_at new i ≡ piece_at old i

pub numbers-next : (i : ℕ) (y : Piece) (old mid new : List Piece) → i < length mid → new ≡ set mid i y → y ≡ numbered (piece_at mid i) i
    → AreNumberedBelow i old mid → AreNumberedBelow (i + 1) old new
numbers-next i y old mid new i_in new_is y_is h =
    rw new_is (record {
      each = length-set mid i y ∙ h.each;
      same = λ j l. elim (cases_eq j i) [
        | inl e ↦ (
            let here : piece_at (set mid i y) j ≡ y = ap (λ k. piece_at (set mid i y) k) e ∙ get_or-set_same mid i y (whole_piece 0 []) i_in in
            let was : piece_at mid i ≡ piece_at old i = h.kept i (omega arith) in
            here ∙ (y_is ∙ (ap (λ x. numbered x i) was ∙ ap (λ k. numbered (piece_at old k) k) (sym e))))
        | inr ne ↦ get_or-set_other mid i j y (whole_piece 0 []) ne ∙ h.same j (omega (arith, l, ne))
      ];
      kept = λ j l. get_or-set_other mid i j y (whole_piece 0 []) (λ e. omega (arith, l, e)) ∙ h.kept j (omega (arith, l));
    })

pub numbers-all : (n : ℕ) (old new : List Piece) → n ≡ length old → AreNumberedBelow n old new → AreNumbered old new
numbers-all n old new all h = record { each = h.each; same = λ i i_in. h.same i (omega (arith, all, i_in)) }

-- the ranks of the first n pairs
pub record AreRankedBelow (n : ℕ) (ranks firsts seconds : List ℕ) (sides : List (ℕ × ℕ)) : Type 0 where
  pub each : length sides ≡ n
  pub ranked : (i : ℕ) → i < n → get_or sides i (0, 0) ≡ (get_or ranks (get_or firsts i 0) 0, get_or ranks (get_or seconds i 0) 0)

pub ranked-next : (n : ℕ) (ranks firsts seconds : List ℕ) (side : ℕ × ℕ) (old new : List (ℕ × ℕ)) → new ≡ old ++ side ∷ []
    → side ≡ (get_or ranks (get_or firsts n 0) 0, get_or ranks (get_or seconds n 0) 0) → AreRankedBelow n ranks firsts seconds old
    → AreRankedBelow (n + 1) ranks firsts seconds new
ranked-next n ranks firsts seconds side old new new_is side_is h =
    rw new_is (record {
      each = omega (arith, h.each, length-append old (side ∷ []));
      ranked = λ i l. elim (cases_eq i n) [
        | inl e ↦ get_or_push old side (0, 0) i (omega (arith, h.each, e))
            ∙ (side_is ∙ ap (λ k. (get_or ranks (get_or firsts k 0) 0, get_or ranks (get_or seconds k 0) 0)) (sym e))
        | inr ne ↦ get_or_append_left old (side ∷ []) (0, 0) i (omega (arith, l, ne, h.each)) ∙ h.ranked i (omega (arith, l, ne))
      ];
    })

pub ranked-all : (n : ℕ) (ranks firsts seconds : List ℕ) (sides : List (ℕ × ℕ)) → n ≡ length firsts → AreRankedBelow n ranks firsts seconds sides
    → AreRanked ranks firsts seconds sides
ranked-all n ranks firsts seconds sides all h = record { each = h.each ∙ all; ranked = λ i i_in. h.ranked i (omega (arith, all, i_in)) }
