-- On which masks features lie.
use Rattle.std.proofs.Common.{◌≡◌, ℕ, ◌+◌, ◌<◌, inl, inr, List, Bool, false, length, get_or, set, refl, sym, ap, ◌∙◌, subst, get_or-set_other, get_or-set_same, arith}
use Rattle.std.proofs.lemmas.Bool.{cases_eq}
use Rattle.std.proofs.lemmas.Grind.{elements}
use Rattle.std.proofs.Math.ListN.{replicate}
use Rattle.std.proofs.lemmas.List.{get_or_default, get_or-replicate, length-replicate}
use Rattle.dpl_spec_split.specs.Colours.{colour_at}
use Rattle.dpl_orient.specs.declared.mask.Mask.{Mask}
use Rattle.dpl_orient.specs.declared.mask.Mask.TheVariants.{A, B}
use Rattle.dpl_orient.specs.Masks.{is_second}
use Rattle.dpl_piece.specs.declared.piece.Whole.{Whole}
use Rattle.dpl_masks.specs.declared.ink.Ink.{Ink}
use Rattle.dpl_masks.specs.declared.ink.Ink.TheVariants.{Uncut, Blank, One, Both}
use Rattle.dpl_masks.specs.Inks.{AreInksTo, AreNotedTo, IsInk, ink_after, ink_at}

pub noted-none : (wholes : List Whole) (inks : List Ink) (count : ℕ) → inks ≡ replicate count Uncut → AreNotedTo 0 wholes inks
noted-none wholes inks count is f f_in =
    let f_count : f < count = omega (arith, f_in, ap length is, length-replicate count Uncut) in
    inr (ap (λ l. get_or l f Uncut) is ∙ get_or-replicate count f Uncut Uncut f_count, λ k w l. absurd (omega (arith, l)))

-- one more feature is noted
pub noted-more : (wholes : List Whole) (inks : List Ink) (k : ℕ) (w : Whole) → k < length wholes → w ≡ get_or wholes k w
    → w.feature < length inks → AreNotedTo k wholes inks → AreNotedTo (k + 1) wholes (set inks w.feature Blank)
noted-more wholes inks k w k_in w_is f_in before g g_in =
    let len : length (set inks w.feature Blank) ≡ length inks = grind (arith, elements) in
    elim (cases_eq g w.feature) [
      | inl e ↦ inl (rw e (let at : w.feature < length inks = f_in in rw get_or-set_same refl), (w, (k, k_in, sym w_is), sym e))
      | inr ne ↦
          (let other : ink_at (set inks w.feature Blank) g ≡ ink_at inks g = get_or-set_other inks w.feature g Blank Uncut ne in
          elim (before g (omega (arith, len, g_in))) [
            | inl (blank, has) ↦ inl (other ∙ blank, has)
            | inr (uncut, none) ↦ inr (
              other ∙ uncut,
              λ i v l i_in v_is e. elim (cases_eq i k) [
                | inl same ↦ ne (sym e ∙ ap (λ (x : Whole). x.feature) (sym v_is ∙ (ap (λ j. get_or wholes j v) same ∙ (get_or_default wholes k v w k_in ∙ sym w_is))))
                | inr differ ↦ none i v (omega (arith, l, differ)) i_in v_is e
              ],
            )
          ])
    ]

pub inks-noted : (count : ℕ) (owners : List ℕ) (colours : List Bool) (wholes : List Whole) (inks : List Ink) → length inks ≡ count
    → AreNotedTo (length wholes) wholes inks → AreInksTo 0 count owners colours wholes inks
inks-noted count owners colours wholes inks each noted = record {
  each = each;
  is = λ f f_in. elim (noted f (omega (arith, each, f_in))) [
    | inl (blank, has) ↦ subst (IsInk 0 owners colours wholes f) (sym blank) (has, λ k l. absurd (omega (arith, l)))
    | inr (uncut, none) ↦ subst (IsInk 0 owners colours wholes f) (sym uncut) (λ (w, (k, k_in, is), e). none k w k_in k_in is e)
  ];
}

module _ (owners : List ℕ) (colours : List Bool) (wholes : List Whole) (k : ℕ) where
  -- a piece of another feature
  ink-other : (f : ℕ) (i : Ink) → (get_or owners k 0 ≡ f → ⊥) → IsInk k owners colours wholes f i → IsInk (k + 1) owners colours wholes f i
  ink-other f Uncut ne h = h
  ink-other f Blank ne h = (h.0, λ j l e. elim (cases_eq j k) [ inl same ↦ ne (ap (λ m. get_or owners m 0) (sym same) ∙ e) | inr differ ↦ h.1 j (omega (arith, l, differ)) e ])
  ink-other f (One letter) ne h = (
    h.0,
    λ j l e. elim (cases_eq j k) [
      | inl same ↦ absurd (ne (ap (λ m. get_or owners m 0) (sym same) ∙ e))
      | inr differ ↦ h.1 j (omega (arith, l, differ)) e
    ],
  )
  ink-other f Both ne h = tt

  have-more : (f : ℕ) (letter : Bool) → colour_at colours k ≡ letter
      → ((j : ℕ) → j < k → get_or owners j 0 ≡ f → colour_at colours j ≡ letter) → (j : ℕ) → j < k + 1 → get_or owners j 0 ≡ f
      → colour_at colours j ≡ letter
  have-more f letter c h j l e = elim (cases_eq j k) [ inl same ↦ ap (λ m. colour_at colours m) same ∙ c | inr differ ↦ h j (omega (arith, l, differ)) e ]

  -- a piece of the feature
  ink-more : (f : ℕ) (i : Ink) (letter : Mask) → colour_at colours k ≡ is_second letter → IsInk k owners colours wholes f i
      → IsInk (k + 1) owners colours wholes f (ink_after i letter)
  ink-more f Uncut letter c h = h
  ink-more f Blank letter c h = (h.0, have-more f (is_second letter) c (λ j l e. absurd (h.1 j l e)))
  ink-more f (One A) A c h = (h.0, have-more f false c h.1)
  ink-more f (One A) B c h = tt
  ink-more f (One B) A c h = tt
  ink-more f (One B) B c h = (h.0, have-more f _ c h.1)
  ink-more f Both letter c h = tt

  pub inked-more : (count : ℕ) (inks : List Ink) (f : ℕ) (letter : Mask) → f ≡ get_or owners k 0 → f < length inks
      → colour_at colours k ≡ is_second letter → AreInksTo k count owners colours wholes inks → AreInksTo (k + 1) count owners colours wholes
      (set inks f (ink_after (ink_at inks f) letter))
  inked-more count inks f letter f_is f_in c h = record {
    each = (let len : length (set inks f (ink_after (ink_at inks f) letter)) ≡ length inks = grind (arith, elements) in len ∙ h.each);
    is = λ g g_in. elim (cases_eq g f) [
      | inl e ↦
          (let here : ink_at (set inks f (ink_after (ink_at inks f) letter)) f ≡ ink_after (ink_at inks f) letter = rw get_or-set_same refl in
          let all : (n : ℕ) → n < count → IsInk k owners colours wholes n (ink_at inks n) = h.is in
          subst (λ n. IsInk (k + 1) owners colours wholes n (ink_at (set inks f (ink_after (ink_at inks f) letter)) n)) (sym e)
          (subst (IsInk (k + 1) owners colours wholes f) (sym here) (ink-more f (ink_at inks f) letter c (all f (let each = h.each in omega (arith, each, f_in))))))
      | inr ne ↦
          (let other : ink_at (set inks f (ink_after (ink_at inks f) letter)) g ≡ ink_at inks g = get_or-set_other inks f g _ Uncut ne in
          subst (IsInk (k + 1) owners colours wholes g) (sym other) (ink-other g (ink_at inks g) (λ e. ne (sym e ∙ sym f_is)) (h.is g g_in)))
    ];
  }
