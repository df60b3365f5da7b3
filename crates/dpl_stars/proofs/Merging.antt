-- The summary of the links of two summaries is the summary of both edge lists.
use Rattle.std.proofs.Common.{◌≡◌, ℕ, ◌<◌, List, ◌++◌, map, refl}
use Rattle.std.proofs.lemmas.List.Elements.{All-append}
use Rattle.dpl_spec_split.specs.Graphs.{graph_of}
use Rattle.dpl_spec_split.specs.Summary.{AreStars, HasOddCycle}
use Rattle.dpl_stars.specs.declared.list.Star.{Star}
use Rattle.dpl_stars.specs.declared.joined.Joined.{Joined}
use Rattle.dpl_stars.specs.declared.joined.Joined.TheVariants.{Stars, Odd}
use Rattle.dpl_stars.specs.Stars.{IsStarList}
use Rattle.dpl_stars.specs.Sums.{AreEdgePairs, row_of, summary_of, Sums, SumsBoth, IsTheSummaryOfBoth}
use Rattle.dpl_stars.specs.Links.{AreLinks}
use Rattle.dpl_stars.proofs.SameSums.{same-sums, carries-append, cycle-more, more-left, more-right}
use Rattle.dpl_stars.proofs.OneSummary.{one-summary}
use Rattle.dpl_stars.proofs.LinkLaws.{links-carried, graph-carried}

pub merged : (es fs ls ms : List (ℕ × ℕ)) (rows others : List Star) (j : Joined) → IsStarList rows → IsStarList others
    → AreLinks rows rows ls → AreLinks others others ms → Sums (ls ++ ms) j →
    AreEdgePairs es → AreEdgePairs fs → AreStars (graph_of es) (map row_of rows) → AreStars (graph_of fs) (map row_of others) → Sums (es ++ fs) j
merged es fs ls ms rows others j first second l m sums e_pairs f_pairs e_stars f_stars =
    same-sums (es ++ fs) (ls ++ ms)
    (All-append (λ (e : ℕ × ℕ). e.0 < e.1) es fs e_pairs f_pairs)
    (All-append (λ (e : ℕ × ℕ). e.0 < e.1) ls ms l.pairs m.pairs)
    (carries-append es fs ls ms (graph-carried es e_pairs rows e_stars first ls l) (graph-carried fs f_pairs others f_stars second ms m))
    (carries-append ls ms es fs (links-carried es e_pairs rows e_stars first ls l) (links-carried fs f_pairs others f_stars second ms m))
    (summary_of j) sums

pub odd-first : (es fs : List (ℕ × ℕ)) → HasOddCycle (graph_of es) → HasOddCycle (graph_of (es ++ fs))
odd-first es fs odd = cycle-more (graph_of es) (graph_of (es ++ fs)) (more-left es fs) odd

pub odd-second : (es fs : List (ℕ × ℕ)) → HasOddCycle (graph_of fs) → HasOddCycle (graph_of (es ++ fs))
odd-second es fs odd = cycle-more (graph_of fs) (graph_of (es ++ fs)) (more-right es fs) odd

-- what isn't rows says that there is an odd cycle
pub odd-otherwise : (es : List (ℕ × ℕ)) (j : Joined) → ((rows : List Star) → j ≡ Stars rows → ⊥) → Sums es j → HasOddCycle (graph_of es)
odd-otherwise es (Stars rows) none sums = absurd (none rows refl)
odd-otherwise es Odd none sums = sums

-- what sums up both is the summary of both
pub only-summary : (j k both : Joined) → SumsBoth j k both → IsTheSummaryOfBoth j k both
only-summary j k both sums es fs all e_pairs f_pairs first second whole = one-summary (es ++ fs) both all (sums es fs e_pairs f_pairs first second) whole
