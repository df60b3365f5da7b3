-- Where letters lead to.
use Rattle.std.proofs.Common.{◌≡◌, ℕ, ◌≤◌, Bool, true, false, eqb, List, length, refl, ap, ◌∙◌, subst, arith}
use Rattle.std.specs.Prelude.{Option}
use Rattle.dpl_spec_split.specs.Colours.{differ, colour_at}
use Rattle.dpl_spec_split.proofs.ColourLaws.{colours-unique}
use Rattle.dpl_spec_fewer.specs.Fewer.{stitch_count, flipped, Gains, LeadsTo, stay, flip, AreFewerColours}
use Rattle.dpl_spec_fewer.specs.Laws.{IsKeptOrFlipped}
use Rattle.dpl_spec_fewer.proofs.Flips.{length-flipped, colour-flipped}

module _ (roots : List ℕ) (fixed : Option ℕ) (sides : List (ℕ × ℕ)) where
  pub one-end : (colours a b : List Bool) → LeadsTo roots fixed sides colours a → LeadsTo roots fixed sides colours b → a ≡ b
  one-end colours a b (stay none) (stay more) = refl
  one-end colours a b (stay none) (flip root is rest) = absurd (none root is.gains)
  one-end colours a b (flip root is rest) (stay none) = absurd (none root is.gains)
  one-end colours a b (flip root is rest) (flip other least more) =
      let up = is.least other least.gains in
      let down = least.least root is.gains in
      let same : other ≡ root = omega (arith, up, down) in
      one-end (flipped roots root colours) a b rest (subst (λ r. LeadsTo roots fixed sides (flipped roots r colours) b) same more)

  pub none-gains : (colours last : List Bool) → LeadsTo roots fixed sides colours last → (root : ℕ) → Gains roots fixed sides last root → ⊥
  none-gains colours last (stay none) = none
  none-gains colours last (flip root is rest) = none-gains (flipped roots root colours) last rest

  pub no-more : (colours last : List Bool) → LeadsTo roots fixed sides colours last → stitch_count sides last ≤ stitch_count sides colours
  no-more colours last (stay none) = omega arith
  no-more colours last (flip root is rest) =
      let less = is.gains.fewer in
      let le = no-more (flipped roots root colours) last rest in
      omega (arith, less, le)

  pub length-last : (colours last : List Bool) → length colours ≡ length roots → LeadsTo roots fixed sides colours last → length last ≡ length roots
  length-last colours last same (stay none) = same
  length-last colours last same (flip root is rest) = length-last (flipped roots root colours) last (length-flipped roots root colours same ∙ same) rest

  once-more : (a b c : Bool) → differ a (differ b c) ≡ differ (differ a b) c
  once-more false b c = refl
  once-more true false c = refl
  once-more true true false = refl
  once-more true true true = refl

  pub kept : (colours last : List Bool) → length colours ≡ length roots → LeadsTo roots fixed sides colours last → (root : ℕ)
      → IsKeptOrFlipped roots colours last root
  kept colours last same (stay none) root = (false, λ v l e. refl)
  kept colours last same (flip other is rest) root =
      let before = kept (flipped roots other colours) last (length-flipped roots other colours same ∙ same) rest root in (
        differ before.0 (eqb root other),
        λ v l e. before.1 v l e
            ∙ (ap (differ before.0) (colour-flipped roots other colours v same l ∙ ap (λ r. differ (eqb r other) (colour_at colours v)) e)
            ∙ once-more before.0 (eqb root other) (colour_at colours v)),
      )

pub one-fewer : (roots : List ℕ) (odds : List Bool) (sides : List (ℕ × ℕ)) (fixed : Option ℕ) (a b : List Bool) → AreFewerColours roots odds sides fixed a
    → AreFewerColours roots odds sides fixed b → a ≡ b
one-fewer roots odds sides fixed a b x y =
    let same : y.first ≡ x.first = colours-unique roots odds sides y.first x.first y.coloured x.coloured in
    one-end roots fixed sides x.first a b x.led (subst (λ c. LeadsTo roots fixed sides c b) same y.led)
