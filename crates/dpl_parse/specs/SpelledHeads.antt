-- The words of the lines before the rows, and of the last one, have no space and no line feed.
use Rattle.std.specs.Prelude.{ℕ, ◌^◌, ◌<◌, ◌≤◌, Option, Some, None, codes, ◌∷◌}
use Rattle.std.specs.Fmt.{decimal}
use Rattle.std.proofs.Common.{refl, arith}
use Rattle.dpl_cert.specs.declared.name.Name.{Name}
use Rattle.dpl_cert.specs.declared.name.Name.TheVariants.{TooLarge, Truncated, BadLength, UnknownRecord, BadDataType, BadSize, Unexpected}
use Rattle.dpl_cert.specs.declared.name.Name.TheVariants.{BadName, DuplicateStructure, NoTop, ManyTops, MissingStructure, Recursion}
use Rattle.dpl_cert.specs.declared.name.Name.TheVariants.{AbsoluteTransform, Magnified, AngleNotRight, BadArray, SlantedBoundary, RoundPath}
use Rattle.dpl_cert.specs.declared.name.Name.TheVariants.{BadPathType, OddWidth, SlantedPath, PathTurnsBack, NegativeExtension}
use Rattle.dpl_cert.specs.declared.name.Name.TheVariants.{TooManyPoints, OutOfRange}
use Rattle.dpl_cert.specs.declared.cert.Version.{Version}
use Rattle.dpl_cert.specs.declared.cert.Version.TheVariants.{One, Two, Three}
use Rattle.dpl_parse.specs.declared.heads.End.{End}
use Rattle.dpl_parse.specs.declared.heads.Second.{Second}
use Rattle.dpl_parse.specs.declared.heads.Second.TheVariants.{Rule, Refused}
use Rattle.dpl_parse.specs.declared.heads.Counts.{Counts}
use Rattle.dpl_parse.specs.declared.heads.CycleCount.{CycleCount}
use Rattle.dpl_parse.specs.declared.heads.GainCount.{GainCount}
use Rattle.dpl_cert.specs.Names.{spelling}
use Rattle.dpl_cert.specs.Lines.{IsWord, AreWords}
use Rattle.dpl_cert.specs.Grammar.{version_words, corner_words, end_words, IsRule, IsNumber}
use Rattle.dpl_parse.specs.Heads.{second_words, IsSecond, counts_words, AreCounts, cycle_count_words, IsCycleCount, stitches_left, AreStitches, IsCornerOf}
use Rattle.dpl_parse.specs.Heads.{gain_count_words, IsGainCount}
use Rattle.dpl_parse.specs.Spelled.{decimal_word}

pub version_proper : (n : ℕ) (v : Version) → n < 2 ^ 64 → Unit {0} → AreWords (version_words v)
version_proper n One h f = (refl, refl)
version_proper n Two h f = (refl, refl)
version_proper n Three h f = (refl, refl)

pub end_proper : (n : ℕ) (v : End) → n < 2 ^ 64 → Unit {0} → AreWords end_words
end_proper n v h f = refl

pub name_word : (n : Name) → IsWord (spelling n)
name_word TooLarge = refl
name_word Truncated = refl
name_word BadLength = refl
name_word UnknownRecord = refl
name_word BadDataType = refl
name_word BadSize = refl
name_word Unexpected = refl
name_word BadName = refl
name_word DuplicateStructure = refl
name_word NoTop = refl
name_word ManyTops = refl
name_word MissingStructure = refl
name_word Recursion = refl
name_word AbsoluteTransform = refl
name_word Magnified = refl
name_word AngleNotRight = refl
name_word BadArray = refl
name_word SlantedBoundary = refl
name_word RoundPath = refl
name_word BadPathType = refl
name_word OddWidth = refl
name_word SlantedPath = refl
name_word PathTurnsBack = refl
name_word NegativeExtension = refl
name_word TooManyPoints = refl
name_word OutOfRange = refl

rule_word : (n : ℕ) → IsRule n → n < 2 ^ 64
rule_word n h = omega (arith, h)

rule_rest : (r m : ℕ) (o : Option ℕ) → IsRule r → IsRule m → IsCornerOf r o → AreWords (codes "overlap" ∷ decimal m ∷ corner_words o)
rule_rest r m None h f k = (refl, decimal_word m (rule_word m f))
rule_rest r m (Some c) h f k = (refl, (decimal_word m (rule_word m f), (refl, decimal_word c (omega (arith, h, k)))))

pub second_proper : (n : ℕ) (s : Second) → n < 2 ^ 64 → IsSecond s → AreWords (second_words n s)
second_proper n (Rule r m corner) h f = (refl, (decimal_word r (rule_word r f.0), rule_rest r m corner f.0 f.1 f.2))
second_proper n (Refused name at) h f = (refl, (name_word name, decimal_word at f))

counts_rest : (zones : ℕ) (o : Option ℕ) → IsNumber zones → AreStitches o → AreWords (codes "zones" ∷ decimal zones ∷ stitches_left o)
counts_rest zones None h k = (refl, decimal_word zones h)
counts_rest zones (Some n) h k = (refl, (decimal_word zones h, (refl, decimal_word n k)))

pub counts_proper : (n : ℕ) (c : Counts) → n < 2 ^ 64 → AreCounts c → AreWords (counts_words n c)
counts_proper n c h f = (refl, (decimal_word c.features f.features, (refl, (decimal_word c.pieces f.pieces, counts_rest c.zones c.stitches f.zones f.stitches))))

pub cycle_proper : (n : ℕ) (c : CycleCount) → n < 2 ^ 64 → IsCycleCount c → AreWords (cycle_count_words n c)
cycle_proper n c h f = (refl, decimal_word c.len f.fits)

pub gains_proper : (n : ℕ) (c : GainCount) → n < 2 ^ 64 → IsGainCount c → AreWords (gain_count_words n c)
gains_proper n c h f = (refl, decimal_word c.len f)
