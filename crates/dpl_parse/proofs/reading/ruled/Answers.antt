use Rattle.std.proofs.Common.{◌≡◌, ◌≢◌, ℕ, List, ◌∷◌, ◌++◌, Option, Some, sym, ap, subst}
use Rattle.dpl_cert.specs.declared.cert.Version.{Version}
use Rattle.dpl_parse.specs.declared.heads.Counts.{Counts}
use Rattle.dpl_cert.specs.declared.cert.Head.{Head}
use Rattle.dpl_cert.specs.Lines.{line, lines}
use Rattle.dpl_cert.specs.Grammar.{opening, count_words, stitches_words, IsRule, IsNumber}
use Rattle.dpl_parse.specs.Heads.{counts_words, stitches_left, AreCounts, IsCornerOf, IsOfVersion, IsGainedBy, gains_left}
use Rattle.dpl_parse.specs.Reading.{IsFirstBad}
use Rattle.dpl_parse.proofs.Openings.{ruled_counts}
use Rattle.dpl_parse.proofs.Shapes.{gains_missing}
use Rattle.dpl_parse.proofs.reading.ruled.Goals as goal

pub returns-in_default : goal.returns-in_default
returns-in_default c = ruled_counts c.args.version c.args.rule c.args.overlap c.args.corner c.requires.rule c.requires.overlap c.requires.corner c.requires.version
    (lines c.args.bytes.now) (λ x t f g e. c.in_default.ensures.none x t f g e)

-- what is refused behind the counts is refused behind the lines up to them
behind : (a b : List ℕ) (count : List ℕ) (ls rest : List (List ℕ)) → ls ≡ count ∷ rest → IsFirstBad (a ∷ b ∷ count ∷ rest) 4 → IsFirstBad (a ∷ b ∷ ls) 4
behind a b count ls rest e h = subst (λ (x : List (List ℕ)). IsFirstBad (a ∷ b ∷ x) 4) (sym e) h

no_gains : (v : Version) (rule overlap corner : ℕ) (counts : Counts) (k : ℕ) (ls rest : List (List ℕ)) → IsRule rule → IsRule overlap → IsCornerOf rule (Some corner)
    → IsOfVersion v rule corner → AreCounts counts → counts.stitches ≡ Some k → ls ≡ line (counts_words 0 counts) ∷ rest
    → ((o : Option ℕ) (t : List (List ℕ)) → IsGainedBy v o → rest ≢ gains_left o ++ t) → IsFirstBad (opening v rule overlap corner ++ ls) 4
no_gains v rule overlap corner counts k ls rest ir im ic iv are some e none =
    let h : Head = record {
      rule = rule;
      overlap = overlap;
      corner = corner;
      features = counts.features;
      pieces = counts.pieces;
      zones = counts.zones;
    } in
    let number : IsNumber k = let s = are.stitches in rw some at s in
    let bad = gains_missing v h k (record { rule = ir; overlap = im; corner = ic; features = are.features; pieces = are.pieces; zones = are.zones }) iv number rest none in
    let words : line (counts_words 0 counts) ≡ line (count_words h (stitches_words k)) =
    ap (λ (o : Option ℕ). line (count_words h (stitches_left o))) some in
    behind _ _ (line (count_words h (stitches_words k))) ls rest (rw words at e) bad

pub returns-in_default-gain_count : goal.returns-in_default-gain_count
returns-in_default-gain_count c =
    let found = c.in-Some.ensures.found in
    no_gains c.args.version c.args.rule c.args.overlap c.args.corner c.in-Some.counts c.in-Some-stitches.stitches (lines c.args.bytes.now) (lines c.in-Some.rest.now)
    c.requires.rule c.requires.overlap c.requires.corner c.requires.version found.0 c.in-Some-stitches.is found.2 (λ o t is e. c.in_default-gain_count.ensures.none o t is e)
