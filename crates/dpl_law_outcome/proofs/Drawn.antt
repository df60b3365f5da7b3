-- An edited layer is decomposed as one that is drawn so.
use Rattle.std.proofs.Common.{◌≡◌, ℕ, inl, inr, false, List, [], Option, Some, None, refl, sym, ap, ◌∙◌, subst, arith}
use Rattle.dpl_host.specs.Outside.{Outside, file_of}
use Rattle.dpl_spec_split.specs.declared.Rect.{Rect}
use Rattle.dpl_spec_split.specs.Squares.{Covers, SameSquares}
use Rattle.dpl_spec_split.specs.Slabs.{IsCanonical}
use Rattle.dpl_spec_split.proofs.SquareLaws.{SameSquares-refl}
use Rattle.dpl_spec_edits.specs.declared.Edit.{Edit}
use Rattle.dpl_spec_edits.specs.Edits.{edited}
use Rattle.dpl_spec_edits.specs.Text.{IsListed}
use Rattle.dpl_words.specs.Meaning.{EditValues}
use Rattle.clap.specs.Walk.{Text}
use Rattle.dpl_layer.specs.Reading.{Choice, Faulty, IsLayout, IsReading, Layer, Reading}
use Rattle.dpl_layer.specs.Marked.{FaultyMarked, IsMarkedLayout, IsMarkedReading, MarkedLayer, MarkedReading}
use Rattle.dpl_answer.specs.Flat.{Flat, IsFlat}
use Rattle.dpl_decide.specs.Deciding.{Decides, Refuses}
use Rattle.dpl_run.specs.Edit.{IsEditOf, IsEditOfReading, IsEditedBy, edit_choice, split_by}
use Rattle.dpl_run.specs.Outcome.{Outcome}
use Rattle.dpl_run.specs.Split.{IsSplit, IsSplitOf, plan_of, refusal, split_marked, split_spacing}
use Rattle.dpl_law_outcome.specs.Drawn.{EditsAreAsDrawn, IsDrawnAs, NoEditsAreNone}
use Rattle.dpl_law_outcome.proofs.Isolated.{plan-renamed}
use Rattle.dpl_law_outcome.proofs.Outcomes.{edit-same}
use Rattle.dpl_law_outcome.proofs.Readings.{marked-same}
use Rattle.dpl_law_outcome.proofs.TextSizes.{text-small}

-- ---- what is read of a layer without markers

abbrev unmarked : Reading → MarkedReading
unmarked (Faulty name at) = FaultyMarked name at
unmarked (Layer copied layer) = MarkedLayer copied layer [] []

layout-unmarked : (v : EditValues) (bytes : List ℕ) (r : Reading) → IsLayout (edit_choice v) bytes r → IsMarkedLayout (split_marked (split_by v)) bytes (unmarked r)
layout-unmarked v bytes (Faulty name at) (inl early) = inl early
layout-unmarked v bytes (Faulty name at) (inr (lib, holds, fault)) = inr (lib, holds, inl fault)
layout-unmarked v bytes (Layer copied layer) (lib, holds, is) = (lib, holds, record { layer = is; faultless_a = tt; faultless_b = tt; marked_a = refl; marked_b = refl })

reading-unmarked : (v : EditValues) (bytes : List ℕ) (r : Reading) → IsReading (edit_choice v) bytes r → IsMarkedReading (split_marked (split_by v)) bytes (unmarked r)
reading-unmarked v bytes r (inl (large, is)) = inl (large, ap unmarked is)
reading-unmarked v bytes r (inr (small, read)) = inr (small, layout-unmarked v bytes r read)

layer-canonical : (v : Choice) (bytes copied : List ℕ) (layer : List Rect) → IsReading v bytes (Layer copied layer) → IsCanonical layer
layer-canonical v bytes copied layer (inl (large, is)) = absurd (cc)
layer-canonical v bytes copied layer (inr (small, (lib, holds, l))) = l.squares.canonical

-- ---- what `split` makes of it

abbrev IsSplitOfReading : EditValues → Reading → Outcome → Type 0
IsSplitOfReading v (Faulty name at) y = y ≡ refusal (split_by v) name at
IsSplitOfReading v (Layer copied layer) y =
    (flat : Flat) × IsFlat false None (split_spacing (split_by v)) v.overlap layer flat × (y ≡ plan_of (split_by v) (Decides copied flat))

split-reading : (v : EditValues) (bytes : List ℕ) (r : Reading) (y : Outcome) → IsReading (edit_choice v) bytes r → IsSplit (split_by v) bytes y → IsSplitOfReading v r y
split-reading v bytes (Faulty m i) y read (Refuses n j, is, y_is) =
    let same : FaultyMarked n j ≡ FaultyMarked m i =
    marked-same (split_marked (split_by v)) bytes (FaultyMarked n j) (FaultyMarked m i) is (reading-unmarked v bytes (Faulty m i) read) in
    let names : n ≡ m = cc in
    let places : j ≡ i = cc in
    y_is ∙ (ap (λ k. refusal (split_by v) k j) names ∙ ap (λ k. refusal (split_by v) m k) places)
split-reading v bytes (Faulty m i) y read (Decides q g, (s, c, d, is, is_g), y_is) =
    let same : MarkedLayer q s c d ≡ FaultyMarked m i =
    marked-same (split_marked (split_by v)) bytes (MarkedLayer q s c d) (FaultyMarked m i) is (reading-unmarked v bytes (Faulty m i) read) in
    absurd cc
split-reading v bytes (Layer copied layer) y read (Refuses n j, is, y_is) =
    let same : FaultyMarked n j ≡ MarkedLayer copied layer [] [] =
    marked-same (split_marked (split_by v)) bytes (FaultyMarked n j) (MarkedLayer copied layer [] []) is (reading-unmarked v bytes (Layer copied layer) read) in
    absurd cc
split-reading v bytes (Layer copied layer) y read (Decides q g, (s, c, d, is, is_g), y_is) =
    let same : MarkedLayer q s c d ≡ MarkedLayer copied layer [] [] =
    marked-same (split_marked (split_by v)) bytes (MarkedLayer q s c d) (MarkedLayer copied layer [] []) is (reading-unmarked v bytes (Layer copied layer) read) in
    let fronts : q ≡ copied = cc in
    let slabs : s ≡ layer = cc in
    (g, subst (λ l. IsFlat false None (split_spacing (split_by v)) v.overlap l g) slabs is_g, y_is ∙ ap (λ k. plan_of (split_by v) (Decides k g)) fronts)

-- ---- what `split` makes of the drawn layer is what `edit` makes of the edited one

edited-drawn : (v : EditValues) (copied : List ℕ) (layer drawn : List Rect) (es : List Edit) (y : Outcome) → IsCanonical drawn
    → SameSquares (Covers drawn) (edited (Covers layer) es) → IsSplitOfReading v (Layer copied drawn) y → IsEditedBy v copied layer es y
edited-drawn v copied layer drawn es y canonical squares (flat, is_flat, y_is) = (drawn, record { canonical = canonical; covers = squares }, flat, is_flat, y_is)

edit-drawn : (v : EditValues) (o p : Outside) (input : Text) (y : Outcome) (d : IsDrawnAs v o p input) → IsSplit (split_by v) d.others y → IsEditOf v (Some d.bytes) (Some d.text) y
edit-drawn v o p input y d split =
    let canonical = layer-canonical (edit_choice v) d.others d.copied d.drawn d.is_drawn in
    let made = split-reading v d.others (Layer d.copied d.drawn) y d.is_drawn split in
    let edit = edited-drawn v d.copied d.layer d.drawn d.edits y canonical d.squares made in
    (Layer d.copied d.layer, d.is_layer, inr (text-small d.edits d.text d.listed, inl (d.edits, d.listed, edit)))

-- another name of the file read changes nothing
split-renamed : (v : EditValues) (input : Text) (bytes : List ℕ) (y : Outcome) → IsSplit (record (split_by v) { input = input }) bytes y → IsSplit (split_by v) bytes y
split-renamed v input bytes y (d, is_d, y_is) = (d, is_d, y_is ∙ plan-renamed (split_by v) input d)

pub edits-drawn : EditsAreAsDrawn
edits-drawn v input o p x y d a b =
    let there = subst (λ k. IsSplitOf (record (split_by v) { input = input }) k y) d.other b in
    let drawn = edit-drawn v o p input y d (split-renamed v input d.others y there) in
    let read = subst (λ k. IsEditOf v k (file_of o v.edits) x) d.read a in
    edit-same v v.tile (Some d.bytes) (Some d.text) x y (subst (λ k. IsEditOf v (Some d.bytes) k x) d.told read) drawn

-- ---- no edits

none-listed : IsListed [] []
none-listed = record { each = tt; few = omega arith; is = refl }

unedited-reading : (v : EditValues) (bytes : List ℕ) (r : Reading) (x y : Outcome) → IsReading (edit_choice v) bytes r → IsEditOfReading v (Some []) r x → IsSplitOfReading v r y → x ≡ y
unedited-reading v bytes (Faulty name at) x y is p q = p ∙ sym q
unedited-reading v bytes (Layer copied layer) x y is p q =
    let canonical = layer-canonical (edit_choice v) bytes copied layer is in
    let edit = edited-drawn v copied layer layer [] y canonical (SameSquares-refl (Covers layer)) q in
    edit-same v v.tile (Some bytes) (Some []) x y (Layer copied layer, is, p) (Layer copied layer, is, inr (omega arith, inl ([], none-listed, edit)))

unedited-file : (v : EditValues) (file : Option (List ℕ)) (x y : Outcome) → IsEditOf v file (Some []) x → IsSplitOf (split_by v) file y → x ≡ y
unedited-file v None x y p q = p ∙ sym q
unedited-file v (Some bytes) x y (r, is, p) q = unedited-reading v bytes r x y is p (split-reading v bytes r y is q)

pub no-edits : NoEditsAreNone
no-edits v o x y none a b = unedited-file v (file_of o v.input) x y (subst (λ k. IsEditOf v (file_of o v.input) k x) none a) b
