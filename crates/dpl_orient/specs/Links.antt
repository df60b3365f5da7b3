-- Stitch zones between two components, as seen from each of the two.
use Rattle.std.specs.Prelude.{ℕ, ◌<◌, Bool, false, not, ◌&&◌, ◌==◌, List, [], ◌∷◌, count_by, map, slice_index_or, slice_get, Option, Some, None, if◌then◌else◌}
use Rattle.std.specs.List.{All, flat_map, zip}
use Rattle.dpl_spec_split.specs.Colours.{differ, colour_at}
use Rattle.dpl_orient.specs.declared.chart.Rooted.{Rooted}
use Rattle.dpl_orient.specs.declared.links.Link.{Link}
use Rattle.dpl_orient.specs.Chart.{rooted_at, roots_in}
use Rattle.dpl_orient.specs.Crossings.{is_across}

-- of a zone between these pieces, from the component of the first
abbrev pub link_of : List Rooted → List Bool → ℕ → ℕ → Link
link_of chart colours u v =
    record { from = (rooted_at chart u).root; to = (rooted_at chart v).root; odd = differ (colour_at colours u) (colour_at colours v) }

-- of the zones with these sides, both of each
abbrev pub links_of : List Rooted → List Bool → List (ℕ × ℕ) → List Link
links_of chart colours sides =
    flat_map (λ side. if is_across chart side then link_of chart colours side.0 side.1 ∷ (link_of chart colours side.1 side.0 ∷ []) else []) sides

-- between components below n
abbrev pub AreLinksBelow : ℕ → List Link → Type 0
AreLinksBelow n links = All (λ (l : Link). (l.from < n) × (l.to < n)) links

-- whether the sides of the zone differ, where these components are flipped
abbrev pub differs_by : List Bool → Link → Bool
differs_by flips l = differ l.odd (differ (slice_index_or flips l.from false) (slice_index_or flips l.to false))

-- how many zones between the component of root and others have sides that differ, or agree
abbrev pub count_from : List Bool → ℕ → Bool → List Link → ℕ
count_from flips root wanted links = count_by (λ l. l.from == root && not (differ wanted (differs_by flips l))) links

-- the component that isn't flipped, if there is one
abbrev pub held_root : List Rooted → Option ℕ → Option ℕ
held_root chart None = None
held_root chart (Some fixed) = slice_get (roots_in chart) fixed

-- each piece's letter, where these components are flipped
abbrev pub letters_of : List Rooted → List Bool → List Bool → List Bool
letters_of chart colours flips = map (λ (v : Rooted × Bool). differ (slice_index_or flips v.0.root false) v.1) (zip chart colours)
