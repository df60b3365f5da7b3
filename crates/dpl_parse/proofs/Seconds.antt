-- Lines of heads are known by their words.
use Rattle.std.proofs.Common.{◌≡◌, ℕ, List, [], ◌∷◌, drop, get_or, Option, Some, None, refl, sym, ap, ◌∙◌, arith, lit<}
use Rattle.std.specs.Fmt.{decimal}
use Rattle.std.proofs.lemmas.Fmt.{decimal_injective}
use Rattle.dpl_cert.specs.declared.cert.Version.{Version}
use Rattle.dpl_parse.specs.declared.heads.Counts.{Counts}
use Rattle.dpl_parse.specs.declared.heads.Second.{Second}
use Rattle.dpl_parse.specs.declared.heads.Second.TheVariants.{Rule, Refused}
use Rattle.dpl_cert.specs.Lines.{line}
use Rattle.dpl_cert.specs.Grammar.{corner_words, fault_words, rule_words, IsRule}
use Rattle.dpl_parse.specs.Heads.{second_words, IsSecond, Follows, IsCornerOf, counts_words, stitches_left, AreCounts, AreCountsOf}
use Rattle.dpl_parse.specs.SpelledHeads.{second_proper, counts_proper}
use Rattle.dpl_cert.proofs.Naming.{name_same}
use Rattle.dpl_parse.proofs.Texts.{line_injective}
use Rattle.dpl_parse.proofs.Versions.{counts_of_masks}
use Rattle.dpl_parse.proofs.Shapes.{rule_is_no_fault}

corner_same : (r : ℕ) (o p : Option ℕ) → IsRule r → IsCornerOf r o → IsCornerOf r p → corner_words o ≡ corner_words p → o ≡ p
corner_same r None None is f g e = refl
corner_same r None (Some c) is f g e = absurd cc
corner_same r (Some b) None is f g e = absurd cc
corner_same r (Some b) (Some c) is f g e =
    let digits : decimal b ≡ decimal c = cc in ap (λ (x : ℕ). let o : Option ℕ = Some x in o) (decimal_injective b c (omega (arith, is, f)) (omega (arith, is, g)) digits)

rule_same : (r m : ℕ) (o : Option ℕ) (s n : ℕ) (p : Option ℕ) → IsSecond (Rule r m o) → IsSecond (Rule s n p) → rule_words r m o ≡ rule_words s n p
    → Rule r m o ≡ Rule s n p
rule_same r m o s n p f g e =
    let first : decimal r ≡ decimal s = cc in
    let second : decimal m ≡ decimal n = cc in
    let rule : r ≡ s = decimal_injective r s (omega (arith, f.0)) (omega (arith, g.0)) first in
    let overlap : m ≡ n = decimal_injective m n (omega (arith, f.1)) (omega (arith, g.1)) second in
    let corner : o ≡ p = corner_same s o p g.0 (rw (← rule) f.2) g.2 (ap (drop 4) e) in
    λ i. Rule (rule i) (overlap i) (corner i)

pub second_same : (s t : Second) → IsSecond s → IsSecond t → line (second_words 0 s) ≡ line (second_words 0 t) → s ≡ t
second_same (Rule r m o) (Rule s n p) f g e =
    rule_same r m o s n p f g (line_injective _ _ (second_proper 0 (Rule r m o) (lit< tt) f) (second_proper 0 (Rule s n p) (lit< tt) g) e)
second_same (Rule r m o) (Refused name at) f g e = absurd (rule_is_no_fault r m o name at e)
second_same (Refused name at) (Rule r m o) f g e = absurd (rule_is_no_fault r m o name at (sym e))
second_same (Refused name at) (Refused name' at') f g e =
    let words : fault_words name at ≡ fault_words name' at' = line_injective _ _ (second_proper 0 (Refused name at) (lit< tt) f)
    (second_proper 0 (Refused name' at') (lit< tt) g) e in
    let n = name_same name name' cc in
    let a = decimal_injective at at' f g cc in
    λ i. Refused (n i) (a i)

-- a second line that was read, and that no text of the version has, is none of those that one has
pub other_second : (v : Version) (ls rest : List (List ℕ)) (read : Second) → IsSecond read → ls ≡ line (second_words 0 read) ∷ rest → ¬ Follows v read
    → (x : Second) (t : List (List ℕ)) → IsSecond x → Follows v x → ls ≡ line (second_words 0 x) ∷ t → ⊥
other_second v ls rest read is e bad x t f follows g =
    let first : line (second_words 0 read) ≡ line (second_words 0 x) = ap (λ (l : List (List ℕ)). get_or l 0 []) (sym e ∙ g) in
    let same = second_same read x is f first in
    bad (rw same follows)

stitches_kind : (v : Version) (o p : Option ℕ) → stitches_left o ≡ stitches_left p → AreCountsOf v p → AreCountsOf v o
stitches_kind v None None e k = k
stitches_kind v None (Some n) e k = absurd cc
stitches_kind v (Some m) p e k = counts_of_masks v m

-- the same for counts
pub other_counts_line : (v : Version) (ls rest : List (List ℕ)) (read : Counts) → AreCounts read → ls ≡ line (counts_words 0 read) ∷ rest
    → ¬ AreCountsOf v read.stitches → (x : Counts) (t : List (List ℕ)) → AreCounts x → AreCountsOf v x.stitches → ls ≡ line (counts_words 0 x) ∷ t → ⊥
other_counts_line v ls rest read is e bad x t f kind g =
    let first : line (counts_words 0 read) ≡ line (counts_words 0 x) = ap (λ (l : List (List ℕ)). get_or l 0 []) (sym e ∙ g) in
    let words : counts_words 0 read ≡ counts_words 0 x = line_injective _ _ (counts_proper 0 read (lit< tt) is) (counts_proper 0 x (lit< tt) f) first in
    bad (stitches_kind v read.stitches x.stitches (ap (drop 6) words) kind)
