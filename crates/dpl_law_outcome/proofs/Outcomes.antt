-- The same files have one outcome, whatever the tiles and the workers.
use Rattle.std.proofs.Common.{◌≡◌, ℕ, inl, inr, Bool, false, List, [], ◌∷◌, Option, Some, None, refl, sym, ap, ap₂, ◌∙◌, subst, arith, codes}
use Rattle.std.specs.List.{AllZip}
use Rattle.std.specs.FinMap as map
use Rattle.std.proofs.lemmas.Bool.{cases_order}
use Rattle.dpl_spec_split.specs.declared.Spacing.{Spacing}
use Rattle.dpl_spec_split.specs.declared.Rect.{Rect}
use Rattle.dpl_spec_split.specs.Squares.{Covers, uniform}
use Rattle.dpl_spec_split.proofs.WholeLaws.{slabs-unique}
use Rattle.dpl_spec_edits.specs.declared.Edit.{Edit}
use Rattle.dpl_spec_edits.specs.Edits.{edited}
use Rattle.dpl_spec_edits.proofs.Lists.{good_or_bad, one_first_bad, one_list}
use Rattle.dpl_cert.specs.declared.name.Name.{Name}
use Rattle.dpl_cert.specs.declared.cert.Cert.{Cert}
use Rattle.dpl_cert.specs.declared.cert.Cert.TheVariants.{Masks, Conflict, Fault}
use Rattle.dpl_cert.specs.Lines.{lines}
use Rattle.dpl_cert.specs.Grammar.{IsText}
use Rattle.dpl_parse.specs.Reading.{IsBadLine}
use Rattle.dpl_parse.proofs.Whole.{lines-text}
use Rattle.dpl_parse.proofs.Unique.{cert_same}
use Rattle.dpl_spec_verdict.proofs.OrderLaws.{conflict-unique, masks-unique}
use Rattle.dpl_words.specs.Meaning.{AsksBatch, AsksCheck, AsksDemo, AsksEdit, AsksSplit, BatchValues, CheckValues, DemoValues, EditValues, SplitValues}
use Rattle.dpl_demo.specs.Demo.{demo_file}
use Rattle.dpl_answer.specs.Flat.{Paints, Clashes, Flat, IsFlat}
use Rattle.dpl_run.specs.Outcome.{Outcome, says}
use Rattle.dpl_layer.specs.Reading.{Choice, Faulty, Layer, Reading}
use Rattle.dpl_decide.specs.Deciding.{Decides, Decision, IsDecision, Refuses, marks_for}
use Rattle.dpl_run.specs.Split.{IsSplit, IsSplitOf, plan_of, split_marked, split_spacing}
use Rattle.dpl_run.specs.Batch.{IsBatchOf, split_of, together}
use Rattle.dpl_run.specs.Edit.{IsEditOf, IsEditOfFile, IsEditOfReading, IsEditOfText, IsEditedBy, edit_choice, split_by}
use Rattle.dpl_run.specs.Demo.{IsDemo, demo_marked, demo_plan}
use Rattle.dpl_run.specs.Check.{IsCheck, IsCheckOfCert, IsCheckOfFile, IsCheckOfMasks, IsCheckOfText, IsJudged, WithFile, WithLayer, WithMarkedLayer}
use Rattle.dpl_run.specs.Check.{check_marked, check_spacing, mask_choice, refusal_of, verdict_outcome}
use Rattle.dpl_texts.specs.Texts.{bad_line_line}
use Rattle.dpl_run.specs.declared.status.Status.TheVariants.{Refused}
use Rattle.dpl_law_outcome.specs.Laws.{OneOutcome}
use Rattle.dpl_law_outcome.proofs.Flats.{flat-same}
use Rattle.dpl_law_outcome.proofs.Readings.{marked-same, reading-same}
use Rattle.dpl_spec_split.specs.Marks.{Marks}
use Rattle.dpl_layer.specs.Marked.{FaultyMarked, MarkedChoice, MarkedLayer}

-- what one layer has, the same layer has
pub flat-moved : (fewer : Bool) (v : MarkedChoice) (spacing : Spacing) (overlap : ℕ) (p q : List ℕ) (r a b s c d : List Rect) (g : Flat)
    → MarkedLayer p r a b ≡ MarkedLayer q s c d → IsFlat fewer (marks_for v c d) spacing overlap s g → IsFlat fewer (marks_for v a b) spacing overlap r g
flat-moved fewer v spacing overlap p q r a b s c d g same is_g =
    let slabs : s ≡ r = cc in
    let firsts : c ≡ a = cc in
    let seconds : d ≡ b = cc in
    let on_layer = subst (λ l. IsFlat fewer (marks_for v c d) spacing overlap l g) slabs is_g in
    let on_a = subst (λ k. IsFlat fewer (marks_for v k d) spacing overlap r g) firsts on_layer in
    subst (λ k. IsFlat fewer (marks_for v a k) spacing overlap r g) seconds on_a

pub decision-same : (fewer : Bool) (v : MarkedChoice) (spacing : Spacing) (overlap : ℕ) (bytes : List ℕ) (d e : Decision)
    → IsDecision fewer v spacing overlap bytes d → IsDecision fewer v spacing overlap bytes e → d ≡ e
decision-same fewer v spacing overlap bytes (Refuses m i) (Refuses n j) x y = (let same : FaultyMarked m i ≡ FaultyMarked n j = marked-same v bytes (FaultyMarked m i) (FaultyMarked n j) x y in cc)
decision-same fewer v spacing overlap bytes (Refuses m i) (Decides q g) x (s, c, d, y, is) =
    (let same : FaultyMarked m i ≡ MarkedLayer q s c d = marked-same v bytes (FaultyMarked m i) (MarkedLayer q s c d) x y in absurd cc)
decision-same fewer v spacing overlap bytes (Decides p f) (Refuses n j) (r, a, b, x, is) y =
    (let same : FaultyMarked n j ≡ MarkedLayer p r a b = marked-same v bytes (FaultyMarked n j) (MarkedLayer p r a b) y x in absurd cc)
decision-same fewer v spacing overlap bytes (Decides p f) (Decides q g) (r, a, b, x, is_f) (s, c, d, y, is_g) =
    let same : MarkedLayer p r a b ≡ MarkedLayer q s c d = marked-same v bytes (MarkedLayer p r a b) (MarkedLayer q s c d) x y in
    let fronts : p ≡ q = cc in
    let moved = flat-moved fewer v spacing overlap p q r a b s c d g same is_g in
    let flats : f ≡ g = flat-same fewer (marks_for v a b) spacing overlap r f g is_f moved in
    ap (λ k. Decides k f) fronts ∙ ap (λ k. Decides q k) flats

-- other tiles and workers plan alike
plan-retiled : (v : SplitValues) (tile workers : ℕ) (d : Decision) → plan_of (record v { tile = tile; workers = workers }) d ≡ plan_of v d
plan-retiled v tile workers (Refuses m i) = refl
plan-retiled v tile workers (Decides p (Paints q)) = refl
plan-retiled v tile workers (Decides p (Clashes q)) = refl

pub split-same : (v : SplitValues) (tile workers : ℕ) (bytes : List ℕ) (x y : Outcome) → IsSplit v bytes x → IsSplit (record v { tile = tile; workers = workers }) bytes y → x ≡ y
split-same v tile workers bytes x y (d, is_d, a) (e, is_e, b) =
    a ∙ (ap (λ z. plan_of v z) (decision-same v.fewer (split_marked v) (split_spacing v) v.overlap bytes d e is_d is_e) ∙ (sym (plan-retiled v tile workers e) ∙ sym b))

split-of-same : (v : SplitValues) (tile workers : ℕ) (file : Option (List ℕ)) (x y : Outcome) → IsSplitOf v file x
    → IsSplitOf (record v { tile = tile; workers = workers }) file y → x ≡ y
split-of-same v tile workers None x y a b = a ∙ sym b
split-of-same v tile workers (Some bytes) x y a b = split-same v tile workers bytes x y a b

demo-same : (v : DemoValues) (tile workers : ℕ) (x y : Outcome) → IsDemo v x → IsDemo (record v { tile = tile; workers = workers }) y → x ≡ y
demo-same v tile workers x y (d, is_d, a) (e, is_e, b) = a ∙ (ap demo_plan (decision-same false demo_marked (uniform 30) 10 (demo_file v.seed v.rows) d e is_d is_e) ∙ sym b)

-- ---- the files of `check`

faults-same : (file : List ℕ) (m n : Name) (i j : ℕ) → Faulty m i ≡ Faulty n j → refusal_of file m i ≡ refusal_of file n j
faults-same file m n i j e =
    let names : m ≡ n = cc in
    let ats : i ≡ j = cc in
    ap (λ k. refusal_of file k i) names ∙ ap (λ k. refusal_of file n k) ats

-- what follows a reading is one, where what follows each layer is
module _ (file : List ℕ) (choice : Choice) (bytes : List ℕ) (next : List Rect → Outcome → Type 0)
    (each : (layer : List Rect) (x y : Outcome) → next layer x → next layer y → x ≡ y) where
  layer-same : (x y : Outcome) → WithLayer file choice bytes next x → WithLayer file choice bytes next y → x ≡ y
  layer-same x y (Faulty m i, a, p) (Faulty n j, b, q) = p ∙ faults-same file m n i j (reading-same choice bytes (Faulty m i) (Faulty n j) a b) ∙ sym q
  layer-same x y (Faulty m i, a, p) (Layer f r, b, q) = (let same : Faulty m i ≡ Layer f r = reading-same choice bytes (Faulty m i) (Layer f r) a b in absurd cc)
  layer-same x y (Layer f r, a, p) (Faulty n j, b, q) = (let same : Faulty n j ≡ Layer f r = reading-same choice bytes (Faulty n j) (Layer f r) b a in absurd cc)
  layer-same x y (Layer f r, a, p) (Layer g s, b, q) =
      let same : Layer f r ≡ Layer g s = reading-same choice bytes (Layer f r) (Layer g s) a b in
      let slabs : s ≡ r = cc in
      each r x y p (subst (λ l. next l y) slabs q)

-- and so it is with what follows a reading with markers
module _ (file : List ℕ) (choice : MarkedChoice) (bytes : List ℕ) (next : List Rect → List Rect → List Rect → Outcome → Type 0)
    (each : (layer a b : List Rect) (x y : Outcome) → next layer a b x → next layer a b y → x ≡ y) where
  marked_layer-same : (x y : Outcome) → WithMarkedLayer file choice bytes next x → WithMarkedLayer file choice bytes next y → x ≡ y
  marked_layer-same x y (FaultyMarked m i, r, p) (FaultyMarked n j, s, q) =
      let same : FaultyMarked m i ≡ FaultyMarked n j = marked-same choice bytes (FaultyMarked m i) (FaultyMarked n j) r s in
      let names : m ≡ n = cc in
      let places : i ≡ j = cc in
      p ∙ (ap (λ k. refusal_of file k i) names ∙ (ap (λ k. refusal_of file n k) places ∙ sym q))
  marked_layer-same x y (FaultyMarked m i, r, p) (MarkedLayer g k c d, s, q) =
      (let same : FaultyMarked m i ≡ MarkedLayer g k c d = marked-same choice bytes (FaultyMarked m i) (MarkedLayer g k c d) r s in absurd cc)
  marked_layer-same x y (MarkedLayer f l a b, r, p) (FaultyMarked n j, s, q) =
      (let same : FaultyMarked n j ≡ MarkedLayer f l a b = marked-same choice bytes (FaultyMarked n j) (MarkedLayer f l a b) s r in absurd cc)
  marked_layer-same x y (MarkedLayer f l a b, r, p) (MarkedLayer g k c d, s, q) =
      let same : MarkedLayer f l a b ≡ MarkedLayer g k c d = marked-same choice bytes (MarkedLayer f l a b) (MarkedLayer g k c d) r s in
      let slabs : k ≡ l = cc in
      let firsts : c ≡ a = cc in
      let seconds : d ≡ b = cc in
      each l a b x y p (subst (λ z. next l a z y) seconds (subst (λ z. next l z d y) firsts (subst (λ z. next z c d y) slabs q)))

judged-same : (v : CheckValues) (marks : Option Marks) (layer : List Rect) (cert : Cert) (a b : List Rect) (x y : Outcome)
    → IsJudged v marks layer cert a b x → IsJudged v marks layer cert a b y → x ≡ y
judged-same v marks layer cert a b x y (w, is_w, p) (u, is_u, q) = p ∙ (ap (verdict_outcome cert) (masks-unique marks (check_spacing v) v.overlap layer a b cert w u is_w is_u) ∙ sym q)

masks-same : (v : CheckValues) (marks : Option Marks) (layer : List Rect) (cert : Cert) (bytes : List ℕ) (x y : Outcome) → IsCheckOfMasks v marks layer cert bytes x
    → IsCheckOfMasks v marks layer cert bytes y → x ≡ y
masks-same v marks layer cert bytes x y =
    layer-same (codes "out") (mask_choice v.a) bytes (λ a. WithLayer (codes "out") (mask_choice v.b) bytes (IsJudged v marks layer cert a))
    (λ a. layer-same (codes "out") (mask_choice v.b) bytes (IsJudged v marks layer cert a) (λ b. judged-same v marks layer cert a b)) x y

cert-same : (v : CheckValues) (marks : Option Marks) (layer : List Rect) (out : Option (List ℕ)) (cert : Cert) (x y : Outcome) → IsCheckOfCert v marks layer out cert x
    → IsCheckOfCert v marks layer out cert y → x ≡ y
cert-same v marks layer None (Masks h ps ss gs) x y p q = p ∙ sym q
cert-same v marks layer (Some bytes) (Masks h ps ss gs) x y p q = masks-same v marks layer (Masks h ps ss gs) bytes x y p q
cert-same v marks layer out (Conflict h cs ns) x y (w, is_w, p) (u, is_u, q) =
    p ∙ (ap (verdict_outcome (Conflict h cs ns)) (conflict-unique marks (check_spacing v) v.overlap layer (Conflict h cs ns) w u is_w is_u) ∙ sym q)
cert-same v marks layer out (Fault name at) x y p q = p ∙ sym q

texts-same : (c d : Cert) (text : List ℕ) → IsText c text → IsText d text → c ≡ d
texts-same c d text t u = cert_same c d t.0 u.0 (sym (lines-text c t.0) ∙ ap lines (sym t.1 ∙ u.1) ∙ lines-text d u.0)

bad-lines-same : (text : List ℕ) (m n : ℕ) → IsBadLine text m → IsBadLine text n → m ≡ n
bad-lines-same text m n a b = elim (cases_order m n) [
  | inl e ↦ e
  | inr other ↦ elim other [
    | inl l ↦ absurd (a.bad (b.good m l))
    | inr l ↦ absurd (b.bad (a.good n l))
  ]
]

text-same : (v : CheckValues) (marks : Option Marks) (layer : List Rect) (out : Option (List ℕ)) (text : List ℕ) (x y : Outcome)
    → IsCheckOfText v marks layer out text x → IsCheckOfText v marks layer out text y → x ≡ y
text-same v marks layer out text x y (inl (c, t, p)) (inl (d, u, q)) = cert-same v marks layer out c x y p (subst (λ k. IsCheckOfCert v marks layer out k y) (sym (texts-same c d text t u)) q)
text-same v marks layer out text x y (inl (c, t, p)) (inr (n, bad, q)) = absurd (bad.bad (c, text, t, refl))
text-same v marks layer out text x y (inr (m, bad, p)) (inl (d, u, q)) = absurd (bad.bad (d, text, u, refl))
text-same v marks layer out text x y (inr (m, bad, p)) (inr (n, other, q)) = p ∙ (ap (λ k. says Refused (bad_line_line (codes "cert") k)) (bad-lines-same text m n bad other) ∙ sym q)

file-same : (v : CheckValues) (marks : Option Marks) (layer : List Rect) (cert out : Option (List ℕ)) (x y : Outcome)
    → WithFile cert (IsCheckOfFile v marks layer out) x → WithFile cert (IsCheckOfFile v marks layer out) y → x ≡ y
file-same v marks layer None out x y p q = p ∙ sym q
file-same v marks layer (Some text) out x y (inl (large, p)) (inl (again, q)) = p ∙ sym q
file-same v marks layer (Some text) out x y (inl (large, p)) (inr (small, q)) = absurd (omega (arith, large, small))
file-same v marks layer (Some text) out x y (inr (small, p)) (inl (large, q)) = absurd (omega (arith, large, small))
file-same v marks layer (Some text) out x y (inr (small, p)) (inr (again, q)) = text-same v marks layer out text x y p q

check-same : (v : CheckValues) (layout cert out : Option (List ℕ)) (x y : Outcome) → IsCheck v layout cert out x → IsCheck v layout cert out y → x ≡ y
check-same v None cert out x y p q = p ∙ sym q
check-same v (Some bytes) cert out x y p q =
    marked_layer-same (codes "in") (check_marked v) bytes (λ layer a b. WithFile cert (IsCheckOfFile v (marks_for (check_marked v) a b) layer out))
    (λ layer a b. file-same v (marks_for (check_marked v) a b) layer cert out) x y p q

batch-same : (v : BatchValues) (tile workers : ℕ) (bytes : List ℕ) (layers : List ℕ) (xs ys : List Outcome)
    → AllZip (λ layer x. IsSplit (split_of v layer) bytes x) layers xs → AllZip (λ layer y. IsSplit (split_of (record v { tile = tile; workers = workers }) layer) bytes y) layers ys
    → xs ≡ ys
batch-same v tile workers bytes [] [] [] p q = refl
batch-same v tile workers bytes [] [] (y ∷ ys) p q = absurd q
batch-same v tile workers bytes [] (x ∷ xs) ys p q = absurd p
batch-same v tile workers bytes (l ∷ ls) [] ys p q = absurd p
batch-same v tile workers bytes (l ∷ ls) (x ∷ xs) [] p q = absurd q
batch-same v tile workers bytes (l ∷ ls) (x ∷ xs) (y ∷ ys) p q =
    ap₂ (λ (z : Outcome) (zs : List Outcome). z ∷ zs) (split-of-same (split_of v l) tile workers (Some bytes) x y p.0 q.0) (batch-same v tile workers bytes ls xs ys p.1 q.1)

batch-of-same : (v : BatchValues) (tile workers : ℕ) (file : Option (List ℕ)) (x y : Outcome) → IsBatchOf v file x → IsBatchOf (record v { tile = tile; workers = workers }) file y → x ≡ y
batch-of-same v tile workers None x y p q = p ∙ sym q
batch-of-same v tile workers (Some bytes) x y (xs, each, is) (ys, other, are) =
    is ∙ ap (together v.layers) (batch-same v tile workers bytes v.layers xs ys each other) ∙ sym are

-- ---- edits

edited-same : (v : EditValues) (tile : ℕ) (copied : List ℕ) (layer : List Rect) (es : List Edit) (x y : Outcome) → IsEditedBy v copied layer es x
    → IsEditedBy (record v { tile = tile }) copied layer es y → x ≡ y
edited-same v tile copied layer es x y (after, squares, f, is_f, p) (other, again, g, is_g, q) =
    let slabs : other ≡ after = slabs-unique (edited (Covers layer) es) other after again squares in
    let moved : IsFlat false None (split_spacing (split_by v)) v.overlap after g = subst (λ l. IsFlat false None (split_spacing (split_by v)) v.overlap l g) slabs is_g in
    let flats : f ≡ g = flat-same false None (split_spacing (split_by v)) v.overlap after f g is_f moved in
    p ∙ (ap (λ k. plan_of (split_by v) (Decides copied k)) flats ∙ (sym (plan-retiled (split_by v) tile 1 (Decides copied g)) ∙ sym q))

edits-same : (v : EditValues) (tile : ℕ) (copied : List ℕ) (layer : List Rect) (text : List ℕ) (x y : Outcome) → IsEditOfText v copied layer text x
    → IsEditOfText (record v { tile = tile }) copied layer text y → x ≡ y
edits-same v tile copied layer text x y (inl (es, listed, p)) (inl (fs, again, q)) =
    edited-same v tile copied layer es x y p (subst (λ k. IsEditedBy (record v { tile = tile }) copied layer k y) (one_list fs es text again listed) q)
edits-same v tile copied layer text x y (inl (es, listed, p)) (inr (n, bad, q)) = absurd (good_or_bad es text n listed bad)
edits-same v tile copied layer text x y (inr (m, bad, p)) (inl (fs, listed, q)) = absurd (good_or_bad fs text m listed bad)
edits-same v tile copied layer text x y (inr (m, bad, p)) (inr (n, other, q)) =
    p ∙ (ap (λ k. says Refused (bad_line_line (codes "edits") k)) (one_first_bad text m n bad other) ∙ sym q)

edits-file-same : (v : EditValues) (tile : ℕ) (copied : List ℕ) (layer : List Rect) (file : Option (List ℕ)) (x y : Outcome)
    → WithFile file (IsEditOfFile v copied layer) x → WithFile file (IsEditOfFile (record v { tile = tile }) copied layer) y → x ≡ y
edits-file-same v tile copied layer None x y p q = p ∙ sym q
edits-file-same v tile copied layer (Some text) x y (inl (large, p)) (inl (again, q)) = p ∙ sym q
edits-file-same v tile copied layer (Some text) x y (inl (large, p)) (inr (small, q)) = absurd (omega (arith, large, small))
edits-file-same v tile copied layer (Some text) x y (inr (small, p)) (inl (large, q)) = absurd (omega (arith, large, small))
edits-file-same v tile copied layer (Some text) x y (inr (small, p)) (inr (again, q)) = edits-same v tile copied layer text x y p q

edit-reading-same : (v : EditValues) (tile : ℕ) (text : Option (List ℕ)) (reading : Reading) (x y : Outcome) → IsEditOfReading v text reading x
    → IsEditOfReading (record v { tile = tile }) text reading y → x ≡ y
edit-reading-same v tile text (Faulty name at) x y p q = p ∙ sym q
edit-reading-same v tile text (Layer copied layer) x y p q = edits-file-same v tile copied layer text x y p q

pub edit-same : (v : EditValues) (tile : ℕ) (layout text : Option (List ℕ)) (x y : Outcome) → IsEditOf v layout text x → IsEditOf (record v { tile = tile }) layout text y → x ≡ y
edit-same v tile None text x y p q = p ∙ sym q
edit-same v tile (Some bytes) text x y (r, is_r, p) (s, is_s, q) =
    edit-reading-same v tile text r x y p
    (subst (λ k. IsEditOfReading (record v { tile = tile }) text k y) (reading-same (edit_choice v) bytes s r is_s is_r) q)

pub outcome-same : OneOutcome
outcome-same (AsksSplit v) tile workers files x y a b = split-of-same v tile workers (map.get files v.input) x y a b
outcome-same (AsksCheck v) tile workers files x y a b = check-same v (map.get files v.input) (map.get files v.certificate) (map.get files v.output) x y a b
outcome-same (AsksDemo v) tile workers files x y a b = demo-same v tile workers x y a b
outcome-same (AsksBatch v) tile workers files x y a b = batch-of-same v tile workers (map.get files v.input) x y a b
outcome-same (AsksEdit v) tile workers files x y a b = edit-same v tile (map.get files v.input) (map.get files v.edits) x y a b
