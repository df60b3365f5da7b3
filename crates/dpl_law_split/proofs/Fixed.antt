-- A marked square is on the mask that it is fixed to, and on that one alone.
use Rattle.std.proofs.Common.{◌≡◌, ◌≢◌, ℕ, ◌+◌, ◌<◌, inl, inr, Bool, true, false, length, sym, refl, ap, ◌∙◌, arith}
use Rattle.std.specs.Prelude.{Some}
use Rattle.dpl_spec_split.specs.declared.Spacing.{Spacing}
use Rattle.dpl_spec_split.specs.declared.Pt.{Pt}
use Rattle.dpl_spec_split.specs.Squares.{Region, Covers}
use Rattle.dpl_spec_split.specs.Zones.{part_at}
use Rattle.dpl_spec_split.specs.Pieces.{without}
use Rattle.dpl_spec_split.specs.Colours.{colour_at, on_mask}
use Rattle.dpl_spec_split.specs.Marks.{Marks, MarkEdge, letters_by, marked_by, up, anchors, fixed_to_a, fixed_to_b}
use Rattle.dpl_spec_split.specs.Decomposition.{Cut, IsCut, Masks}
use Rattle.dpl_law_split.specs.Letters.{AreLettered, AreSound}
use Rattle.dpl_law_split.proofs.Parts.{part-of, part-same, zoned_or_not}
use Rattle.dpl_law_split.proofs.Apart.{letter-at}

other-letter : (b : Bool) → b ≢ true → b ≡ false
other-letter false ne = refl
other-letter true ne = absurd (ne refl)

other-of-false : (b : Bool) → b ≢ false → b ≡ true
other-of-false false ne = absurd (ne refl)
other-of-false true ne = refl

module _ (m : Marks) (spacing : Spacing) (overlap : ℕ) (layer : Region) (c : Cut) (masks : Masks) (cut : IsCut (Some m) spacing overlap layer c)
    (are : AreLettered (Some m) c masks) (sound : AreSound (Some m) spacing c are.colours) where
  -- anchor A has letter A
  anchor-a : colour_at are.colours 0 ≡ false
  anchor-a = sound.anchored

  apart : (u v : ℕ) → u < length c.pieces + 2 → v < length c.pieces + 2 → MarkEdge m c.pieces u v → colour_at are.colours u ≢ colour_at are.colours v
  apart u v u_in v_in e same = sound.apart u v u_in v_in (up e) same

  -- anchor B has letter B
  anchor-b : colour_at are.colours 1 ≡ true
  anchor-b = other-of-false _ (λ e. apart 0 1 (omega arith) (omega arith) (anchors refl refl) (anchor-a ∙ sym e))

  letter-a : (k : ℕ) (p : Pt) → k < length c.pieces → part_at c.pieces k p → Covers m.a p → colour_at (letters_by (Some m) are.colours) k ≡ false
  letter-a k p l has in_a =
      letter-at (Some m) are.colours k ∙ other-letter _ (λ e. apart 1 (k + 2) (omega (arith, l)) (omega (arith, l)) (fixed_to_a k l (p, has, in_a) refl refl) (anchor-b ∙ sym e))

  letter-b : (k : ℕ) (p : Pt) → k < length c.pieces → part_at c.pieces k p → Covers m.b p → colour_at (letters_by (Some m) are.colours) k ≡ true
  letter-b k p l has in_b =
      letter-at (Some m) are.colours k ∙ other-of-false _ (λ e. apart 0 (k + 2) (omega (arith, l)) (omega (arith, l)) (fixed_to_b k l (p, has, in_b) refl refl) (anchor-a ∙ sym e))

  -- a marked square lies in a piece
  piece-of : (p : Pt) → layer p → marked_by (Some m) p → (k : ℕ) × (k < length c.pieces) × part_at c.pieces k p
  piece-of p in_layer marked = elim (zoned_or_not c.zones p) [
    | inl (k, z, l, is, has) ↦ absurd (((cut.zones.exactly z).0 (k, l, is)).1 p has marked)
    | inr none ↦ part-of (without layer c.zones) c.pieces p cut.pieces.components (in_layer, none)
  ]

  -- what is marked has no letter but that of its piece
  one-letter : (k : ℕ) (p : Pt) (letter : Bool) → part_at c.pieces k p → marked_by (Some m) p → on_mask c.pieces c.zones c.sides
      (letters_by (Some m) are.colours) letter p → colour_at (letters_by (Some m) are.colours) k ≡ letter
  one-letter k p letter has marked (inl (j, j_in, j_is, in_j)) = ap (λ n. colour_at (letters_by (Some m) are.colours) n) (part-same _ c.pieces k j p cut.pieces.components has in_j) ∙ j_is
  one-letter k p letter has marked (inr (j, z, side, l, z_is, side_is, letter_is, in_z)) = absurd (((cut.zones.exactly z).0 (j, l, z_is)).1 p in_z marked)

  pub fixed-on-a : (p : Pt) → layer p → Covers m.a p → Covers masks.a p × (Covers masks.b p → ⊥)
  fixed-on-a p in_layer in_a =
      let (k, l, has) = piece-of p in_layer (inl in_a) in
      let is = letter-a k p l has in_a in
      ((are.a.covers p).1 (inl (k, l, is, has)), λ b. (let e : false ≡ true = sym is ∙ one-letter k p true has (inl in_a) ((are.b.covers p).0 b) in cc))

  pub fixed-on-b : (p : Pt) → layer p → Covers m.b p → Covers masks.b p × (Covers masks.a p → ⊥)
  fixed-on-b p in_layer in_b =
      let (k, l, has) = piece-of p in_layer (inr in_b) in
      let is = letter-b k p l has in_b in
      ((are.b.covers p).1 (inl (k, l, is, has)), λ a. (let e : true ≡ false = sym is ∙ one-letter k p false has (inr in_b) ((are.a.covers p).0 a) in cc))
