-- A list of edges has one summary.
use Rattle.std.proofs.Common.{◌≡◌, List, [], ◌∷◌, map, sym, refl, ap, ◌∙◌}
use Rattle.dpl_spec_split.specs.Graphs.{graph_of}
use Rattle.dpl_spec_split.specs.Summary as summary
use Rattle.dpl_spec_split.proofs.Uniqueness.{summary-unique}
use Rattle.dpl_stars.specs.declared.list.Star.{Star}
use Rattle.dpl_stars.specs.declared.joined.Joined.{Joined}
use Rattle.dpl_stars.specs.declared.joined.Joined.TheVariants.{Stars, Odd}
use Rattle.dpl_stars.specs.Sums.{row_of, summary_of, IsOneSummary}

abbrev star_from : summary.Row → Star
star_from r = record { piece = r.vertex; root = r.root; odd = r.odd }

same_rows : (rows : List Star) → map star_from (map row_of rows) ≡ rows
same_rows [] = refl
same_rows (r ∷ rows) = ap (λ rs. r ∷ rs) (same_rows rows)

abbrev joined_from : summary.Joined → Joined
joined_from (summary.Stars rows) = Stars (map star_from rows)
joined_from summary.Odd = Odd

same_joined : (j : Joined) → joined_from (summary_of j) ≡ j
same_joined (Stars rows) = ap Stars (same_rows rows)
same_joined Odd = refl

pub one-summary : IsOneSummary
one-summary es j k a b = sym (same_joined j) ∙ (ap joined_from (summary-unique (graph_of es) (summary_of j) (summary_of k) a b) ∙ same_joined k)
