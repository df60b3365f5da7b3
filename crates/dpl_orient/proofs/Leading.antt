-- The colours with fewer stitches of a graph, from those of its summary's rows.
use Rattle.std.proofs.Common.{◌≡◌, ℕ, ◌≤◌, Bool, true, false, List, length, sym, ap, ◌∙◌, subst}
use Rattle.std.specs.Prelude.{map, Option}
use Rattle.dpl_spec_split.specs.Graphs.{graph_of}
use Rattle.dpl_spec_split.specs.Summary.{AreStars}
use Rattle.dpl_spec_split.specs.Colours.{AreRoots, AreColours}
use Rattle.dpl_spec_split.proofs.Uniqueness.{roots-unique}
use Rattle.dpl_spec_fewer.specs.Fewer.{stitch_count, LeadsTo}
use Rattle.dpl_spec_fewer.proofs.Ends.{length-last, no-more}
use Rattle.dpl_stars.specs.declared.list.Star.{Star}
use Rattle.dpl_stars.specs.declared.joined.Joined.{Joined}
use Rattle.dpl_stars.specs.declared.joined.Joined.TheVariants.{Stars, Odd}
use Rattle.dpl_stars.specs.Sums.{row_of}
use Rattle.dpl_orient.specs.declared.chart.Rooted.{Rooted}
use Rattle.dpl_orient.specs.declared.mask.Mask.{Mask}
use Rattle.dpl_orient.specs.Masks.{is_second}
use Rattle.dpl_orient.specs.Links.{letters_of}
use Rattle.dpl_orient.specs.Chart.{IsChart, roots_in, odds_in}
use Rattle.dpl_orient.specs.Oriented.{AreColoursOf, AreColoursOfRows, ColoursWhatSums}
use Rattle.dpl_orient.specs.Fewer.{AreLed, AreLedByRows, ColoursBy, FewerOfWhatSums, IsFewerColouring}
use Rattle.dpl_orient.proofs.Across.{chart-rooted}
use Rattle.dpl_orient.proofs.Roots.{roots-from-rows, graph-mutual}

-- what the letters lead to, step by step
pub led-from-chart : (rows : List Star) (n : ℕ) (sides : List (ℕ × ℕ)) (fixed : Option ℕ) (chart c b : List Rooted) (ms ks : List Mask)
    (flips f colours last : List Bool)
    → IsChart rows n chart → c ≡ chart → map is_second ms ≡ colours
    → LeadsTo (roots_in c) fixed sides (map is_second ms) (letters_of c (map is_second ms) flips) → b ≡ chart → map is_second ks ≡ colours → f ≡ flips
    → last ≡ letters_of b (map is_second ks) f → AreLedByRows rows n sides fixed colours last
led-from-chart rows n sides fixed chart c b ms ks flips f colours last h c_is ms_is led b_is ks_is f_is last_is =
    let end : last ≡ letters_of chart colours flips = last_is
    ∙ (ap (λ r. letters_of r (map is_second ks) f) b_is ∙ (ap (λ x. letters_of chart x f) ks_is ∙ ap (letters_of chart colours) f_is)) in
    let way : LeadsTo (roots_in chart) fixed sides colours (letters_of chart colours flips) =
    subst (λ x. LeadsTo (roots_in chart) fixed sides x (letters_of chart x flips)) ms_is
    (subst (λ r. LeadsTo (roots_in r) fixed sides (map is_second ms) (letters_of r (map is_second ms) flips)) c_is led) in
    record {
      roots = roots_in chart;
      odds = odds_in chart;
      rooted = chart-rooted rows n chart h;
      led = subst (λ x. LeadsTo (roots_in chart) fixed sides colours x) (sym end) way;
    }

pub fewer-no-more : (rows : List Star) (n : ℕ) (sides : List (ℕ × ℕ)) (fixed : Option ℕ) (colours last : List Bool)
    → AreLedByRows rows n sides fixed colours last
    → stitch_count sides last ≤ stitch_count sides colours
fewer-no-more rows n sides fixed colours last h = no-more h.roots fixed sides colours last h.led

-- a graph has the colours with fewer stitches that the rows of its summary give
pub fewer-of-graph : (edges : List (ℕ × ℕ)) (rows : List Star) (n : ℕ) (sides : List (ℕ × ℕ)) (fixed : Option ℕ) (colours last : List Bool)
    → AreColoursOfRows rows n sides colours → AreLedByRows rows n sides fixed colours last → AreStars (graph_of edges) (map row_of rows)
    → IsFewerColouring (graph_of edges) n sides fixed last
fewer-of-graph edges rows n sides fixed colours last known h stars =
    let mine : AreRoots (graph_of edges) n h.roots h.odds = roots-from-rows (graph_of edges) (graph-mutual edges) rows n h.roots h.odds stars h.rooted in
    let theirs : AreRoots (graph_of edges) n known.roots known.odds = roots-from-rows (graph_of edges)
    (graph-mutual edges) rows n known.roots known.odds stars known.rooted in
    let same : (known.roots ≡ h.roots) × (known.odds ≡ h.odds) = roots-unique (graph_of edges) n known.roots h.roots known.odds h.odds theirs mine in
    record {
      roots = h.roots;
      odds = h.odds;
      rooted = mine;
      coloured = record {
        first = colours;
        coloured = subst (λ o. AreColours h.roots o sides colours) same.1 (subst (λ r. AreColours r known.odds sides colours) same.0 known.coloured);
        led = h.led;
      };
    }

-- ---- where fewer stitches are asked for, and where they aren't

pub reduced : (reduce : Bool) (fixed : Option ℕ) (joined : Joined) (n : ℕ) (sides : List (ℕ × ℕ)) (colours : List Bool) → reduce ≡ true
    → FewerOfWhatSums joined n sides fixed colours → ColoursBy reduce fixed joined n sides colours
reduced true fixed joined n sides colours e h = h
reduced false fixed joined n sides colours e h = absurd (let no : ⊥ = cc in no)

pub unreduced : (reduce : Bool) (fixed : Option ℕ) (joined : Joined) (n : ℕ) (sides : List (ℕ × ℕ)) (colours : List Bool) → reduce ≡ false
    → ColoursWhatSums joined n sides colours → ColoursBy reduce fixed joined n sides colours
unreduced false fixed joined n sides colours e h = h
unreduced true fixed joined n sides colours e h = absurd (let no : ⊥ = cc in no)

-- there are as many colours as pieces, plain ones or those that they lead to
pub many-first : (joined : Joined) (n : ℕ) (sides : List (ℕ × ℕ)) (colours : List Bool) → AreColoursOf joined n sides colours → length colours ≡ n
many-first (Stars rows) n sides colours h = h.coloured.each ∙ h.rooted.as_many_roots
many-first Odd n sides colours h = absurd h

pub many-last : (joined : Joined) (n : ℕ) (sides : List (ℕ × ℕ)) (fixed : Option ℕ) (first last : List Bool) → AreColoursOf joined n sides first
    → AreLed joined n sides fixed first last → length last ≡ n
many-last (Stars rows) n sides fixed first last h led =
    length-last led.roots fixed sides first last (many-first (Stars rows) n sides first h ∙ sym led.rooted.as_many_roots) led.led ∙ led.rooted.as_many_roots
many-last Odd n sides fixed first last h led = absurd h
