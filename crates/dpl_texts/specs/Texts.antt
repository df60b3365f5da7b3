-- The lines that are said.
use Rattle.std.specs.Prelude.{ℕ, List, [], ◌∷◌, ◌++◌, codes, length, Some, None}
use Rattle.std.specs.Fmt.{decimal, signed_decimal}
use Rattle.dpl_spec_split.specs.declared.Pt.{Pt}
use Rattle.dpl_cert.specs.declared.cert.Cert.{Cert}
use Rattle.dpl_cert.specs.declared.cert.Cert.TheVariants.{Masks, Conflict, Fault}
use Rattle.dpl_spec_verdict.specs.declared.Verdict.{Verdict}
use Rattle.dpl_spec_verdict.specs.declared.Verdict.TheVariants.{Valid, Rules, WasFault, Counts, Cover, Overlap, SpacingA, SpacingB, Marked, Stitch, Piece, Gain, Cycle}
use Rattle.dpl_cert.specs.declared.name.Name.{Name}
use Rattle.dpl_cert.specs.declared.cert.Head.{Head}
use Rattle.dpl_cert.specs.Names.{spelling}
use Rattle.dpl_cert.specs.Lines.{line}
use Rattle.dpl_cert.specs.Grammar.{count_words, cycle_words, stitches_words}
use Rattle.dpl_texts.specs.declared.texts.NamedFile.{NamedFile}
use Rattle.dpl_texts.specs.declared.texts.NamedFile.TheVariants.{Layout, Certificate, Masks as MasksFile, Edits}

-- how the command line is written
abbrev pub usage_line : List ℕ
usage_line =
    codes "usage: dpl split --layer N --rule N --overlap N [--corner N] [--datatype N] [--top NAME] [--a N] [--b N] [--mark-a N] [--mark-b N] [--tile N] [--workers N] [--fewer] IN OUT CERT\n"
    ++ (codes "       dpl check --layer N --rule N --overlap N [--corner N] [--datatype N] [--top NAME] [--a N] [--b N] [--mark-a N] [--mark-b N] IN OUT CERT\n"
    ++ (codes "       dpl demo --seed N --rows N [--tile N] [--workers N]\n"
    ++ (codes "       dpl batch --rule N --overlap N [--corner N] [--datatype N] [--top NAME] [--a N] [--b N] [--tile N] [--workers N] IN PREFIX LAYER...\n"
    ++ codes "       dpl edit --layer N --rule N --overlap N [--corner N] [--datatype N] [--top NAME] [--a N] [--b N] [--tile N] IN EDITS OUT CERT\n")))

-- the counts, and the numbers of slabs of both masks
abbrev pub counts_line : List ℕ → Head → ℕ → ℕ → ℕ → List ℕ
counts_line word head stitches na nb = line (word ∷ count_words head (stitches_words stitches ++ (codes "a" ∷ decimal na ∷ codes "b" ∷ decimal nb ∷ [])))

abbrev pub done_line : Head → ℕ → ℕ → ℕ → List ℕ
done_line head stitches na nb = counts_line (codes "done") head stitches na nb

abbrev pub demo_line : Head → ℕ → ℕ → ℕ → List ℕ
demo_line head stitches na nb = counts_line (codes "demo") head stitches na nb

abbrev pub conflict_line : ℕ → List ℕ
conflict_line n = line (codes "conflict" ∷ cycle_words n)

abbrev pub refused_line : Name → ℕ → List ℕ
refused_line name at = line (codes "refused" ∷ spelling name ∷ decimal at ∷ [])

-- a layer's line begins with its number
abbrev pub layer_line : ℕ → List ℕ → List ℕ
layer_line layer line = codes "layer " ++ (decimal layer ++ (codes " " ++ line))

-- how a line names a file
abbrev pub file_word : NamedFile → List ℕ
file_word Layout = codes "in"
file_word Certificate = codes "cert"
file_word MasksFile = codes "out"
file_word Edits = codes "edits"

-- the fault of a file, by what the file is
abbrev pub refused_file_line : List ℕ → Name → ℕ → List ℕ
refused_file_line file name at = line (codes "refused" ∷ file ∷ spelling name ∷ decimal at ∷ [])

-- the first bad line of a text, by what the file is
abbrev pub bad_line_line : List ℕ → ℕ → List ℕ
bad_line_line file n = line (codes "refused" ∷ file ∷ codes "Line" ∷ decimal n ∷ [])

-- what a certificate that is kept says
abbrev pub valid_line : Cert → List ℕ
valid_line (Masks head pieces stitches gains) = line (codes "valid" ∷ codes "masks" ∷ stitches_words (length stitches))
valid_line (Conflict head cycle near) = line (codes "valid" ∷ codes "conflict" ∷ cycle_words (length cycle))
valid_line (Fault name at) = []

abbrev pub point_words : Pt → List (List ℕ)
point_words p = signed_decimal p.x ∷ signed_decimal p.y ∷ []

-- the property that is broken, and what shows it
abbrev pub broken_words : Verdict → List (List ℕ)
broken_words Valid = []
broken_words (Rules rule overlap None) = codes "Rules" ∷ decimal rule ∷ decimal overlap ∷ []
broken_words (Rules rule overlap (Some corner)) = codes "Rules" ∷ decimal rule ∷ decimal overlap ∷ decimal corner ∷ []
broken_words (WasFault name at) = codes "WasFault" ∷ spelling name ∷ decimal at ∷ []
broken_words (Counts features pieces zones) = codes "Counts" ∷ decimal features ∷ decimal pieces ∷ decimal zones ∷ []
broken_words (Cover at) = codes "Cover" ∷ point_words at
broken_words (Overlap at) = codes "Overlap" ∷ point_words at
broken_words (SpacingA first second) = codes "SpacingA" ∷ (point_words first ++ point_words second)
broken_words (SpacingB first second) = codes "SpacingB" ∷ (point_words first ++ point_words second)
broken_words (Marked at) = codes "Marked" ∷ point_words at
broken_words (Stitch index) = codes "Stitch" ∷ decimal index ∷ []
broken_words (Piece index) = codes "Piece" ∷ decimal index ∷ []
broken_words (Gain index) = codes "Gain" ∷ decimal index ∷ []
broken_words (Cycle place) = codes "Cycle" ∷ decimal place ∷ []

abbrev pub broken_line : Verdict → List ℕ
broken_line verdict = line (codes "no" ∷ broken_words verdict)

abbrev pub verdict_line : Cert → Verdict → List ℕ
verdict_line cert Valid = valid_line cert
verdict_line cert verdict = broken_line verdict
