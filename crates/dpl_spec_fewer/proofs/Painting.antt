-- Masks, with the wish for fewer stitches or without it.
use Rattle.std.proofs.Common.{◌≡◌, ℕ, Bool, true, false, List, length, sym, ap, ◌∙◌, subst}
use Rattle.std.specs.Prelude.{◌↔◌, Option}
use Rattle.dpl_spec_split.specs.declared.Spacing.{Spacing}
use Rattle.dpl_spec_split.specs.declared.Rect.{Rect}
use Rattle.dpl_spec_split.specs.Slabs.{AreSlabsOf}
use Rattle.dpl_spec_split.specs.Marks.{Marks, vertex, sides_by, letters_by}
use Rattle.dpl_spec_split.specs.Colours.{AreStitches, on_mask}
use Rattle.dpl_spec_split.specs.Decomposition.{AreMasks, Cut, Masks, cut_graph}
use Rattle.dpl_spec_split.proofs.ColourLaws.{colours-unique}
use Rattle.dpl_spec_split.proofs.Uniqueness.{roots-unique, stitches-unique}
use Rattle.dpl_spec_split.proofs.WholeLaws.{slabs-unique}
use Rattle.dpl_spec_fewer.specs.Masks.{AreColoursBy, AreMasksBy, fixed_by}
use Rattle.dpl_spec_fewer.proofs.Ends.{one-fewer}

pub plain-masks : (marks : Option Marks) (spacing : Spacing) (c : Cut) (m : Masks) → AreMasksBy false marks spacing c m ↔ AreMasks marks spacing c m
plain-masks marks spacing c m = (
  λ by. record { roots = by.roots; odds = by.odds; colours = by.colours; rooted = by.rooted; coloured = by.coloured; a = by.a; b = by.b; stitches = by.stitches },
  λ are. record { roots = are.roots; odds = are.odds; colours = are.colours; rooted = are.rooted; coloured = are.coloured; a = are.a; b = are.b; stitches = are.stitches },
)

one-colouring : (fewer : Bool) (marks : Option Marks) (roots : List ℕ) (odds : List Bool) (sides : List (ℕ × ℕ)) (a b : List Bool)
    → AreColoursBy fewer marks roots odds sides a → AreColoursBy fewer marks roots odds sides b → a ≡ b
one-colouring false marks roots odds sides a b x y = colours-unique roots odds sides a b x y
one-colouring true marks roots odds sides a b x y = one-fewer roots odds sides (fixed_by marks) a b x y

pub colours-one : (fewer : Bool) (marks : Option Marks) (spacing : Spacing) (c : Cut) (m n : Masks) (a : AreMasksBy fewer marks spacing c m)
    (b : AreMasksBy fewer marks spacing c n) → a.colours ≡ b.colours
colours-one fewer marks spacing c m n a b =
    let sides = sides_by marks c.sides in
    let rooted = roots-unique (cut_graph marks spacing c) (vertex marks (length c.pieces)) a.roots b.roots a.odds b.odds a.rooted b.rooted in
    let mine : AreColoursBy fewer marks b.roots b.odds sides a.colours = subst (λ o. AreColoursBy fewer marks b.roots o sides a.colours) rooted.1
    (subst (λ r. AreColoursBy fewer marks r a.odds sides a.colours) rooted.0 a.coloured) in
    one-colouring fewer marks b.roots b.odds sides a.colours b.colours mine b.coloured

same-masks : (m n : Masks) → m.a ≡ n.a → m.b ≡ n.b → m.stitches ≡ n.stitches → m ≡ n
same-masks m n a b c =
    let of_parts : List (Rect) → List (Rect) → List ℕ → Masks = λ x y z. record { a = x; b = y; stitches = z } in
    ap (λ x. of_parts x m.b m.stitches) a ∙ (ap (λ y. of_parts n.a y m.stitches) b ∙ ap (λ z. of_parts n.a n.b z) c)

pub masks-one : (fewer : Bool) (marks : Option Marks) (spacing : Spacing) (c : Cut) (m n : Masks) → (a : AreMasksBy fewer marks spacing c m)
    → (b : AreMasksBy fewer marks spacing c n) → (a.colours ≡ b.colours) × (m ≡ n)
masks-one fewer marks spacing c m n a b =
    let same : b.colours ≡ a.colours = sym (colours-one fewer marks spacing c m n a b) in
    let first : AreSlabsOf (on_mask c.pieces c.zones c.sides (letters_by marks a.colours) false) n.a =
    subst (λ ls. AreSlabsOf (on_mask c.pieces c.zones c.sides (letters_by marks ls) false) n.a) same b.a in
    let second : AreSlabsOf (on_mask c.pieces c.zones c.sides (letters_by marks a.colours) true) n.b =
    subst (λ ls. AreSlabsOf (on_mask c.pieces c.zones c.sides (letters_by marks ls) true) n.b) same b.b in
    let differing : AreStitches c.sides (letters_by marks a.colours) n.stitches = subst (λ ls. AreStitches c.sides (letters_by marks ls) n.stitches) same b.stitches in (
      sym same,
      same-masks m n (slabs-unique _ m.a n.a a.a first) (slabs-unique _ m.b n.b a.b second)
          (stitches-unique c.sides (letters_by marks a.colours) m.stitches n.stitches a.stitches differing),
    )
