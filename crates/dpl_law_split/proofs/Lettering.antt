-- The letters of a cut's masks: joined vertices have different ones, with the wish for fewer stitches or without it.
use Rattle.std.proofs.Common.{◌≡◌, ◌≢◌, ℕ, ◌<◌, ◌%◌, Bool, true, false, eqb, List, [], ◌∷◌, length, get_or, sym, refl, ap, ◌∙◌, subst, arith}
use Rattle.std.specs.Prelude.{Option, Some, None, ◌==◌, ◌&&◌, count_by, slice_get}
use Rattle.std.proofs.lemmas.Bool.{le-ltb, ne_eqb}
use Rattle.std.proofs.lemmas.List.Recursion.{is_count_by}
use Rattle.dpl_spec_split.specs.declared.Spacing.{Spacing}
use Rattle.dpl_spec_split.specs.Graphs.{stay, IsDistance}
use Rattle.dpl_spec_split.specs.Summary.{HasOddCycle}
use Rattle.dpl_spec_split.specs.Colours.{differ, colour_at, crosses, is_flipped, zones_across, AreColours, AreRoots}
use Rattle.dpl_spec_split.specs.Marks.{Marks, sides_by, vertex}
use Rattle.dpl_spec_split.specs.Decomposition.{Cut, cut_graph, Masks}
use Rattle.dpl_spec_fewer.specs.Fewer.{LeadsTo, flipped, flip, stay as ends}
use Rattle.dpl_spec_fewer.specs.Masks.{AreColoursBy, AreMasksBy, fixed_by}
use Rattle.dpl_spec_fewer.proofs.Flips.{colour-flipped, length-flipped}
use Rattle.dpl_spec_fewer.proofs.Ends.{kept, length-last}
use Rattle.dpl_law_split.specs.Letters.{AreLettered, AreSound, IsAnchored}
use Rattle.dpl_law_split.proofs.Apart.{graph-undirected, letters-differ}

-- ---- the component of 0

-- no component precedes that of 0
first-crosses : (roots : List ℕ) (u v : ℕ) (b : Bool) → (crosses roots 0 u v && b) ≡ false
first-crosses roots u v b = rw (le-ltb (get_or roots v 0) 0 (omega arith)) (no-and (get_or roots u 0 == 0) b)
  where
    no-and : (a c : Bool) → ((a && false) && c) ≡ false
    no-and false c = refl
    no-and true c = refl

none-counted : {A : Type 0} (P : A → Bool) → ((x : A) → P x ≡ false) → (xs : List A) → count_by P xs ≡ 0
none-counted P never xs = sym (is_count_by (λ _. 0) P refl (λ x rest. rw (never x) refl) xs)

first-across : (roots : List ℕ) (odds colours : List Bool) (wanted : Bool) (sides : List (ℕ × ℕ)) → zones_across roots odds colours 0 wanted sides ≡ 0
first-across roots odds colours wanted sides = none-counted _ (λ side. rw (first-crosses roots side.0 side.1 _, first-crosses roots side.1 side.0 _) refl) sides

-- the component of 0 isn't flipped
first-unflipped : (roots : List ℕ) (odds colours : List Bool) (sides : List (ℕ × ℕ)) → is_flipped roots odds colours sides 0 ≡ false
first-unflipped roots odds colours sides = le-ltb _ _ (rw (first-across roots odds colours true sides) (omega arith))

unheld : (roots : List ℕ) (root : ℕ) → 0 < length roots → slice_get roots 0 ≢ Some root → eqb (get_or roots 0 0) root ≡ false
unheld [] root some ne = absurd (omega (arith, some))
unheld (r ∷ rs) root some ne = ne_eqb r root (λ e. ne (ap (λ (x : ℕ). Some x) e))

-- nor is it where it stays as it is
held : (roots : List ℕ) (sides : List (ℕ × ℕ)) (colours last : List Bool) → 0 < length roots → length colours ≡ length roots
    → LeadsTo roots (Some 0) sides colours last → colour_at last 0 ≡ colour_at colours 0
held roots sides colours last some many (ends none) = refl
held roots sides colours last some many (flip root is rest) =
    held roots sides (flipped roots root colours) last some (length-flipped roots root colours many ∙ many) rest
    ∙ (colour-flipped roots root colours 0 many some ∙ ap (λ b. differ b (colour_at colours 0)) (unheld roots root some is.gains.free))

-- ---- letters by components

-- Each vertex has its parity's letter, or the other one where its component is flipped.
record AreByComponents (roots : List ℕ) (odds colours : List Bool) : Type 0 where
  each : length colours ≡ length roots
  flips : ℕ → Bool
  colour : (v : ℕ) → v < length roots → colour_at colours v ≡ differ (get_or odds v false) (flips (get_or roots v 0))

swapped : (a b c : Bool) → differ a (differ b c) ≡ differ b (differ a c)
swapped false b c = refl
swapped true false c = refl
swapped true true c = refl

by-components : (fewer : Bool) (marks : Option Marks) (roots : List ℕ) (odds : List Bool) (sides : List (ℕ × ℕ)) (colours : List Bool)
    → AreColoursBy fewer marks roots odds sides colours → AreByComponents roots odds colours
by-components false marks roots odds sides colours coloured =
    record { each = coloured.each; flips = is_flipped roots odds colours sides; colour = coloured.colour }
by-components true marks roots odds sides colours are =
    let first = are.first in
    let coloured = are.coloured in
    let stays = kept roots (fixed_by marks) sides first colours coloured.each are.led in
    record {
      each = length-last roots (fixed_by marks) sides first colours coloured.each are.led;
      flips = λ root. differ (stays root).0 (is_flipped roots odds first sides root);
      colour = λ v l. (let root = get_or roots v 0 in
          (stays root).1 v l refl ∙ (ap (differ (stays root).0) (coloured.colour v l)
          ∙ swapped (stays root).0 (get_or odds v false) (is_flipped roots odds first sides root)));
    }

-- ---- masks

pub as_many : (fewer : Bool) (marks : Option Marks) (spacing : Spacing) (c : Cut) (m : Masks) (are : AreMasksBy fewer marks spacing c m)
    → length are.colours ≡ vertex marks (length c.pieces)
as_many fewer marks spacing c m are =
    (by-components fewer marks are.roots are.odds (sides_by marks c.sides) are.colours are.coloured).each ∙ are.rooted.lengths.0

abbrev pub lettered : (fewer : Bool) (marks : Option Marks) (spacing : Spacing) (c : Cut) (m : Masks) → AreMasksBy fewer marks spacing c m → AreLettered marks c m
lettered fewer marks spacing c m are =
    record { colours = are.colours; each = as_many fewer marks spacing c m are; a = are.a; b = are.b; stitches = are.stitches }

module _ (m : Marks) (spacing : Spacing) (c : Cut) (roots : List ℕ) (odds : List Bool)
    (rooted : AreRoots (cut_graph (Some m) spacing c) (vertex (Some m) (length c.pieces)) roots odds) where
  pub first-root : get_or roots 0 0 ≡ 0
  first-root =
      let (root, n, distance, odd) = rooted.stars 0 (omega arith) in
      let least = root.least 0 (0, stay) in omega (arith, least)

  first-even : get_or odds 0 false ≡ false
  first-even =
      let (root, n, distance, odd) = rooted.stars 0 (omega arith) in
      let here : IsDistance (cut_graph (Some m) spacing c) 0 0 n = subst (λ r. IsDistance (cut_graph (Some m) spacing c) r 0 n) first-root distance in
      let least = here.least 0 stay in
      let none : n ≡ 0 = omega (arith, least) in
      odd ∙ ap (λ k. k % 2 == 1) none

  some-roots : 0 < length roots
  some-roots = (let many = rooted.lengths.0 in omega (arith, many))

  -- anchor A has letter A
  plain-anchor : (colours : List Bool) → AreColours roots odds (sides_by (Some m) c.sides) colours → colour_at colours 0 ≡ false
  plain-anchor colours coloured =
      let unflipped : is_flipped roots odds colours (sides_by (Some m) c.sides) (get_or roots 0 0) ≡ false =
      rw first-root (first-unflipped roots odds colours (sides_by (Some m) c.sides)) in
      coloured.colour 0 some-roots ∙ rw (first-even, unflipped) refl

  anchor-a : (fewer : Bool) (colours : List Bool) → AreColoursBy fewer (Some m) roots odds (sides_by (Some m) c.sides) colours → colour_at colours 0 ≡ false
  anchor-a false colours coloured = plain-anchor colours coloured
  anchor-a true colours are = held roots (sides_by (Some m) c.sides) are.first colours some-roots are.coloured.each are.led ∙ plain-anchor are.first are.coloured

anchored-by : (fewer : Bool) (marks : Option Marks) (spacing : Spacing) (c : Cut) (roots : List ℕ) (odds colours : List Bool)
    → AreRoots (cut_graph marks spacing c) (vertex marks (length c.pieces)) roots odds
    → AreColoursBy fewer marks roots odds (sides_by marks c.sides) colours → IsAnchored marks colours
anchored-by fewer None spacing c roots odds colours rooted coloured = tt
anchored-by fewer (Some m) spacing c roots odds colours rooted coloured = anchor-a m spacing c roots odds rooted fewer colours coloured

pub sound : (fewer : Bool) (marks : Option Marks) (spacing : Spacing) (c : Cut) (m : Masks) (are : AreMasksBy fewer marks spacing c m)
    → (HasOddCycle (cut_graph marks spacing c) → ⊥) → AreSound marks spacing c are.colours
sound fewer marks spacing c m are even =
    let by = by-components fewer marks are.roots are.odds (sides_by marks c.sides) are.colours are.coloured in
    let many = are.rooted.lengths.0 in
    record {
      apart = λ u v u_in v_in e same. letters-differ (cut_graph marks spacing c) (graph-undirected marks spacing c) (vertex marks (length c.pieces)) are.roots are.odds are.rooted
          by.flips are.colours (λ w l. by.colour w (omega (arith, l, many))) even u v u_in v_in e same;
      anchored = anchored-by fewer marks spacing c are.roots are.odds are.colours are.rooted are.coloured;
    }
