-- A layer of a batch is decomposed as by itself, and of a file nothing shows in it but that layer.
use Rattle.std.proofs.Common.{◌≡◌, ℕ, Bool, inl, inr, List, [], ◌∷◌, Option, Some, None, refl, sym, ap, ◌∙◌, subst, arith}
use Rattle.std.specs.List.{All, AllZip, zip}
use Rattle.std.proofs.lemmas.List.Elements.{All-cons, All-contains, All-nil}
use Rattle.clap.specs.Walk.{Text}
use Rattle.dpl_host.specs.Outside.{Outside, file_of}
use Rattle.dpl_spec_split.specs.declared.Spacing.{Spacing}
use Rattle.dpl_spec_split.specs.declared.Rect.{Rect}
use Rattle.dpl_spec_split.specs.Slabs.{IsCanonical, IsSolid}
use Rattle.dpl_spec_split.proofs.SlabLaws.{canonical-unique}
use Rattle.dpl_spec_format.specs.Tree.{Library}
use Rattle.dpl_words.specs.Meaning.{AsksSplit, BatchValues, SplitValues}
use Rattle.dpl_answer.specs.Flat.{Clashes, Paints}
use Rattle.dpl_layer.specs.Marked.{AreMarked, FaultyMarked, IsMarkedReading, MarkedChoice, MarkedLayer, MarkedReading}
use Rattle.dpl_run.specs.Batch.{IsBatchOf, split_of, together}
use Rattle.dpl_run.specs.Outcome.{Outcome}
use Rattle.dpl_run.specs.Program.{IsPlan}
use Rattle.dpl_decide.specs.Deciding.{Decides, Decision, IsDecision, Refuses}
use Rattle.dpl_run.specs.Split.{IsSplit, IsSplitOf, plan_of, split_marked, split_spacing}
use Rattle.dpl_law_outcome.specs.Alone.{AgreeFor, AgreeingBatchesAreOne, AgreeingFilesAreOne, AreAlike, EachLayerIsAlone, IsPartOf}
use Rattle.dpl_law_outcome.proofs.Outcomes.{decision-same}
use Rattle.dpl_law_outcome.proofs.Readings.{marked-same}

of-file : (v : BatchValues) (bytes : List ℕ) (x : Outcome) (file : Option (List ℕ)) → file ≡ Some bytes → IsBatchOf v file x
    → (each : List Outcome) × AllZip (λ layer y. IsSplitOf (split_of v layer) file y) v.layers each × (x ≡ together v.layers each)
of-file v bytes x None is plan = absurd (cc)
of-file v bytes x (Some _) is plan = plan

pub alone : EachLayerIsAlone
alone v o bytes x is plan = of-file v bytes x (file_of o v.input) is plan

-- ---- readings that agree are equal

none-canonical : IsCanonical []
none-canonical = record { solid = All-nil IsSolid; follow = λ i j d before within. absurd (omega (arith, within)) }

marked-canonical : (lib : Library) (top : ℕ) (mark : Option ℕ) (layer set : List Rect) → AreMarked lib top mark layer set → IsCanonical set
marked-canonical lib top None layer set is = subst (λ k. IsCanonical k) (sym is) none-canonical
marked-canonical lib top (Some n) layer set are = are.canonical

reading-canonical : (v : MarkedChoice) (bytes p : List ℕ) (r a b : List Rect) → IsMarkedReading v bytes (MarkedLayer p r a b) → IsCanonical r × IsCanonical a × IsCanonical b
reading-canonical v bytes p r a b (inl (large, is)) = absurd (cc)
reading-canonical v bytes p r a b (inr read) =
    let (lib, holds, m) = read.1 in
    (m.layer.squares.canonical, marked-canonical lib m.layer.top v.mark_a r a m.marked_a, marked-canonical lib m.layer.top v.mark_b r b m.marked_b)

alike-same : (v : MarkedChoice) (bytes others : List ℕ) (x y : MarkedReading) → IsMarkedReading v bytes x → IsMarkedReading v others y → AreAlike x y → x ≡ y
alike-same v bytes others (FaultyMarked m i) (FaultyMarked n j) f g (names, places) = ap (λ k. FaultyMarked k i) names ∙ ap (λ k. FaultyMarked n k) places
alike-same v bytes others (FaultyMarked m i) (MarkedLayer q s c d) f g alike = absurd alike
alike-same v bytes others (MarkedLayer p r a b) (FaultyMarked n j) f g alike = absurd alike
alike-same v bytes others (MarkedLayer p r a b) (MarkedLayer q s c d) f g (fronts, squares, on_a, on_b) =
    let (r_is, a_is, b_is) = reading-canonical v bytes p r a b f in
    let (s_is, c_is, d_is) = reading-canonical v others q s c d g in
    let slabs : r ≡ s = canonical-unique r s r_is s_is squares in
    let firsts : a ≡ c = canonical-unique a c a_is c_is on_a in
    let seconds : b ≡ d = canonical-unique b d b_is d_is on_b in
    ap (λ k. MarkedLayer k r a b) fronts ∙ (ap (λ k. MarkedLayer q k a b) slabs ∙ (ap (λ k. MarkedLayer q s k b) firsts ∙ ap (λ k. MarkedLayer q s c k) seconds))

-- ---- files that agree

-- what is decided of a file is decided of one with the same reading
decision-moved : (fewer : Bool) (v : MarkedChoice) (spacing : Spacing) (overlap : ℕ) (bytes others : List ℕ) (r : MarkedReading) (d : Decision)
    → IsMarkedReading v bytes r → IsMarkedReading v others r → IsDecision fewer v spacing overlap others d → IsDecision fewer v spacing overlap bytes d
decision-moved fewer v spacing overlap bytes others r (Refuses n j) mine theirs is =
    subst (λ k. IsMarkedReading v bytes k) (marked-same v others r (FaultyMarked n j) theirs is) mine
decision-moved fewer v spacing overlap bytes others r (Decides q g) mine theirs (s, c, d, is, flat) =
    (s, c, d, subst (λ k. IsMarkedReading v bytes k) (marked-same v others r (MarkedLayer q s c d) theirs is) mine, flat)

-- another name of the file read plans alike
pub plan-renamed : (v : SplitValues) (input : Text) (d : Decision) → plan_of (record v { input = input }) d ≡ plan_of v d
plan-renamed v input (Refuses m i) = refl
plan-renamed v input (Decides p (Paints q)) = refl
plan-renamed v input (Decides p (Clashes q)) = refl

split-one : (v : SplitValues) (input : Text) (bytes others : List ℕ) (x y : Outcome) → AgreeFor v bytes others
    → IsSplit v bytes x → IsSplit (record v { input = input }) others y → x ≡ y
split-one v input bytes others x y (r, s, mine, theirs, alike) (d, is_d, x_is) (e, is_e, y_is) =
    let same : r ≡ s = alike-same (split_marked v) bytes others r s mine theirs alike in
    let moved : IsMarkedReading (split_marked v) others r = subst (λ k. IsMarkedReading (split_marked v) others k) (sym same) theirs in
    let is : IsDecision v.fewer (split_marked v) (split_spacing v) v.overlap bytes e =
    decision-moved v.fewer (split_marked v) (split_spacing v) v.overlap bytes others r e mine moved is_e in
    let decisions : d ≡ e = decision-same v.fewer (split_marked v) (split_spacing v) v.overlap bytes d e is_d is in
    x_is ∙ (ap (λ k. plan_of v k) decisions ∙ (sym (plan-renamed v input e) ∙ sym y_is))

pub files-one : AgreeingFilesAreOne
files-one v input o p x y (bytes, others, bytes_are, others_are, agree) a b =
    split-one v input bytes others x y agree (subst (λ k. IsSplitOf v k x) bytes_are a) (subst (λ k. IsSplitOf (record v { input = input }) k y) others_are b)

-- ---- parts of batches

all-zipped : {A B : Type 0} (R : A → B → Type 0) (xs : List A) (ys : List B) → AllZip R xs ys → All (λ (q : A × B). R q.0 q.1) (zip xs ys)
all-zipped R [] [] h = All-nil (λ q. R q.0 q.1)
all-zipped R [] (y ∷ ys) h = absurd h
all-zipped R (x ∷ xs) [] h = absurd h
all-zipped R (x ∷ xs) (y ∷ ys) h = All-cons (λ q. R q.0 q.1) (x, y) (zip xs ys) h.0 (all-zipped R xs ys h.1)

part-alone : (v : BatchValues) (o : Outside) (x : Outcome) (layer : ℕ) (part : Outcome) → IsPartOf v o x layer part → IsPlan (Some (AsksSplit (split_of v layer))) o.files part
part-alone v o x layer part (each, are, is, within) =
    All-contains (λ (q : ℕ × Outcome). IsPlan (Some (AsksSplit (split_of v q.0))) o.files q.1) (zip v.layers each) (layer, part)
    (all-zipped (λ l y. IsPlan (Some (AsksSplit (split_of v l))) o.files y) v.layers each are) within

pub batches-one : AgreeingBatchesAreOne
batches-one v input layers o p x y layer a b agree first second =
    files-one (split_of v layer) input o p a b agree (part-alone v o x layer a first) (part-alone (record v { input = input; layers = layers }) p y layer b second)
