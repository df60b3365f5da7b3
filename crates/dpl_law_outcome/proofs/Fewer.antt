-- A file has no more stitches where fewer are asked for.
use Rattle.std.proofs.Common.{◌≡◌, ℕ, Bool, true, false, List, length, sym, ap, ◌∙◌, subst, arith}
use Rattle.std.specs.Prelude.{Option}
use Rattle.std.proofs.lemmas.List.{length-map}
use Rattle.dpl_spec_split.specs.declared.Spacing.{Spacing}
use Rattle.dpl_spec_split.specs.declared.Rect.{Rect}
use Rattle.dpl_spec_split.specs.Squares.{Covers}
use Rattle.dpl_spec_split.specs.Decomposition.{Cut}
use Rattle.dpl_spec_split.specs.Marks.{Marks, sides_by}
use Rattle.dpl_spec_fewer.specs.Masks.{fixed_by}
use Rattle.dpl_spec_fewer.proofs.Ends.{none-gains}
use Rattle.dpl_spec_verdict.proofs.GainLaws.{one-cut}
use Rattle.dpl_law_split.proofs.Counted.{no-more-stitches}
use Rattle.dpl_law_verdict.specs.Own.{stitch_line}
use Rattle.dpl_words.specs.Meaning.{SplitValues}
use Rattle.dpl_answer.specs.Flat.{Clashes, Flat, IsFlat, IsFlatCut, IsPaintedCut, Painted, Paints}
use Rattle.dpl_layer.specs.Marked.{MarkedLayer}
use Rattle.dpl_decide.specs.Deciding.{Decides, IsDecision, marks_for}
use Rattle.dpl_run.specs.Split.{split_marked, split_spacing}
use Rattle.dpl_law_outcome.specs.Fewer.{FewerTellNoMore, HasNoMore, NoFlipIsLeft}
use Rattle.dpl_law_outcome.proofs.Flats.{clash-same}
use Rattle.dpl_law_outcome.proofs.Outcomes.{flat-moved}
use Rattle.dpl_law_outcome.proofs.Readings.{marked-same}

-- as many lines as stitches
many-lines : (fewer : Bool) (marks : Option Marks) (spacing : Spacing) (overlap : ℕ) (c : Cut) (p : Painted) (a : IsPaintedCut fewer marks spacing overlap c p)
    → length p.stitches ≡ length a.masks.stitches
many-lines fewer marks spacing overlap c p a = ap (λ (x : Painted). length x.stitches) a.is ∙ length-map a.masks.stitches (stitch_line c.zones c.sides)

cut-fewer : (marks : Option Marks) (spacing : Spacing) (overlap : ℕ) (c : Cut) (few plain : Flat) → IsFlatCut true marks spacing overlap c few
    → IsFlatCut false marks spacing overlap c plain → HasNoMore few plain
cut-fewer marks spacing overlap c (Paints p) (Paints q) a b =
    let few = many-lines true marks spacing overlap c p a in
    let plain = many-lines false marks spacing overlap c q b in
    let most = no-more-stitches marks spacing c a.masks b.masks a.are_masks b.are_masks in
    omega (arith, few, plain, most)
cut-fewer marks spacing overlap c (Paints p) (Clashes y) a b = a.even b.odd
cut-fewer marks spacing overlap c (Clashes x) (Paints q) a b = b.even a.odd
cut-fewer marks spacing overlap c (Clashes x) (Clashes y) a b = clash-same marks spacing overlap c x y a b

flat-fewer : (marks : Option Marks) (spacing : Spacing) (overlap : ℕ) (layer : List Rect) (few plain : Flat) → IsFlat true marks spacing overlap layer few
    → IsFlat false marks spacing overlap layer plain → HasNoMore few plain
flat-fewer marks spacing overlap layer few plain (c, is_c, a) (d, is_d, b) =
    let same : c ≡ d = one-cut marks spacing overlap (Covers layer) c d is_c is_d in
    cut-fewer marks spacing overlap c few plain a (subst (λ e. IsFlatCut false marks spacing overlap e plain) (sym same) b)

decided-fewer : (v : SplitValues) (bytes front other : List ℕ) (few plain : Flat) → IsDecision true (split_marked v) (split_spacing v) v.overlap bytes (Decides front few)
    → IsDecision false (split_marked v) (split_spacing v) v.overlap bytes (Decides other plain) → HasNoMore few plain
decided-fewer v bytes front other few plain (r, a, b, x, is_few) (s, c, d, y, is_plain) =
    let same = marked-same (split_marked v) bytes (MarkedLayer front r a b) (MarkedLayer other s c d) x y in
    flat-fewer (marks_for (split_marked v) a b) (split_spacing v) v.overlap r few plain is_few
    (flat-moved false (split_marked v) (split_spacing v) v.overlap front other r a b s c d plain same is_plain)

pub fewer-no-more : FewerTellNoMore
fewer-no-more v o front other few plain (bytes, found, decided) (others, again, decided_too) =
    let same : others ≡ bytes = cc in
    decided-fewer v bytes front other few plain decided
    (subst (λ (b : List ℕ). IsDecision false (split_marked v) (split_spacing v) v.overlap b (Decides other plain)) same decided_too)

pub no-flip-left : NoFlipIsLeft
no-flip-left marks spacing overlap cut p painted =
    let are = painted.are_masks in
    none-gains are.roots (fixed_by marks) (sides_by marks cut.sides) are.coloured.first are.colours are.coloured.led
