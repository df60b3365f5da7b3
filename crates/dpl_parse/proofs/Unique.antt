-- A certificate is known by its lines.
use Rattle.std.proofs.Common.{◌≡◌, ℕ, ◌+◌, ◌^◌, ◌<◌, ◌≤◌, Bool, true, false, List, [], ◌∷◌, ◌++◌, length, take, drop, get_or, Option, Some, None}
use Rattle.std.proofs.Common.{Result, Ok, Err, refl, sym, ap, ◌∙◌, subst, arith, inl, inr, lit<}
use Rattle.std.specs.Prelude.{◌⊎◌}
use Rattle.std.specs.List.{AllByRecursion}
use Rattle.std.proofs.lemmas.Fmt.{decimal_injective}
use Rattle.dpl_cert.specs.declared.cert.Head.{Head}
use Rattle.dpl_cert.specs.declared.cert.PieceLine.{PieceLine}
use Rattle.dpl_cert.specs.declared.cert.StitchLine.{StitchLine}
use Rattle.dpl_spec_split.specs.declared.Pt.{Pt}
use Rattle.dpl_cert.specs.declared.name.Name.{Name}
use Rattle.dpl_cert.specs.declared.name.Name.TheVariants.{TooLarge}
use Rattle.dpl_cert.specs.declared.cert.Gain.{Gain}
use Rattle.dpl_cert.specs.declared.cert.PlaceLine.{PlaceLine}
use Rattle.dpl_cert.specs.declared.cert.PlaceLine.TheVariants.{Piece, Anchor}
use Rattle.dpl_cert.specs.declared.cert.NearLine.{NearLine}
use Rattle.dpl_cert.specs.declared.cert.NearLine.TheVariants.{Pair, Mark, Anchors}
use Rattle.dpl_cert.specs.declared.cert.Version.{Version}
use Rattle.dpl_cert.specs.declared.cert.Version.TheVariants.{One, Two, Three}
use Rattle.dpl_parse.specs.declared.heads.Second.{Second}
use Rattle.dpl_cert.specs.declared.cert.Cert.{Cert}
use Rattle.dpl_cert.specs.declared.cert.Cert.TheVariants.{Masks, Conflict, Fault}
use Rattle.dpl_parse.specs.declared.fault.CertFault.{CertFault}
use Rattle.dpl_parse.specs.declared.fault.CertFault.TheVariants.{NoMemory, BadLine}
use Rattle.dpl_parse.specs.declared.heads.Second.TheVariants.{Rule, Refused}
use Rattle.dpl_cert.specs.Lines.{line, lines}
use Rattle.dpl_cert.specs.Grammar.{rows, letter, lines_of, opening, version, named_corner, gain_words, gain_rows, AreRising, AreGains}
use Rattle.dpl_parse.specs.Heads.{IsOfVersion, IsGainedBy, AreAsMany}
use Rattle.dpl_cert.specs.Grammar.{rule_words, count_words, stitches_words, cycle_words, IsCycleLength}
use Rattle.dpl_cert.specs.Grammar.{piece_words, stitch_words, place_words, near_words, IsCert, IsText, IsHead, IsPiece, IsStitch, IsPlace}
use Rattle.dpl_cert.specs.Grammar.{IsNear}
use Rattle.dpl_parse.specs.SpelledHeads.{cycle_proper}
use Rattle.dpl_parse.specs.Spelled.{piece_proper, stitch_proper, place_proper, near_proper}
use Rattle.dpl_parse.specs.Reading.{Answers}
use Rattle.dpl_parse.proofs.Texts.{line_injective}
use Rattle.dpl_parse.proofs.Numerals.{coordinate_same}
use Rattle.dpl_parse.proofs.Prefixes.{rows_same}
use Rattle.dpl_parse.proofs.Rising.{gain_same}
use Rattle.dpl_parse.proofs.Versions.{version_same, is_version, third_has_gains, gains_split, second_fits}
use Rattle.dpl_parse.proofs.Seconds.{second_same}
use Rattle.dpl_parse.proofs.Shapes.{line_at, masks_tail, gains_counted, masks_counts_words, conflict_counts_words, rule_is_no_fault, other_counts}
use Rattle.dpl_parse.proofs.Whole.{lines-text}

first_letter : (m n : ℕ) {xs ys : List ℕ} → m ∷ xs ≡ n ∷ ys → (m ≡ n → ⊥) → ⊥
first_letter m n e other = other (ap (λ (l : List ℕ). get_or l 0 0) e)

some_injective : (c d : ℕ) → Some c ≡ Some d → c ≡ d
some_injective c d e = cc

letter_same : (a b : Bool) → letter a ≡ letter b → a ≡ b
letter_same false false e = refl
letter_same false true e = let n : ◌≡◌ {A = ℕ} 65 66 = ap (λ (l : List ℕ). get_or l 0 0) e in absurd (omega (arith, n))
letter_same true false e = let n : ◌≡◌ {A = ℕ} 66 65 = ap (λ (l : List ℕ). get_or l 0 0) e in absurd (omega (arith, n))
letter_same true true e = refl

piece_same : (n : ℕ) (p q : PieceLine) → n < 2 ^ 64 → IsPiece p → IsPiece q → line (piece_words n p) ≡ line (piece_words n q) → p ≡ q
piece_same n p q h f g e =
    let words : piece_words n p ≡ piece_words n q = line_injective _ _ (piece_proper n p h f) (piece_proper n q h g) e in
    let b = letter_same p.b q.b cc in
    let x = coordinate_same p.key.x q.key.x f.x g.x cc in
    let y = coordinate_same p.key.y q.key.y f.y g.y cc in
    λ i. record { b = b i; key = record { x = x i; y = y i } }

stitch_same : (n : ℕ) (p q : StitchLine) → n < 2 ^ 64 → IsStitch p → IsStitch q → line (stitch_words n p) ≡ line (stitch_words n q) → p ≡ q
stitch_same n p q h f g e =
    let words : stitch_words n p ≡ stitch_words n q = line_injective _ _ (stitch_proper n p h f) (stitch_proper n q h g) e in
    let x0 = coordinate_same p.rect.x0 q.rect.x0 f.rect.x0 g.rect.x0 cc in
    let y0 = coordinate_same p.rect.y0 q.rect.y0 f.rect.y0 g.rect.y0 cc in
    let x1 = coordinate_same p.rect.x1 q.rect.x1 f.rect.x1 g.rect.x1 cc in
    let y1 = coordinate_same p.rect.y1 q.rect.y1 f.rect.y1 g.rect.y1 cc in
    let a = decimal_injective p.p q.p f.p g.p cc in
    let b = decimal_injective p.q q.q f.q g.q cc in
    λ i. record { rect = record { x0 = x0 i; y0 = y0 i; x1 = x1 i; y1 = y1 i }; p = a i; q = b i }

place_same : (n : ℕ) (p q : PlaceLine) → n < 2 ^ 64 → IsPlace p → IsPlace q → line (place_words n p) ≡ line (place_words n q) → p ≡ q
place_same n (Piece k key) (Piece m other) h f g e =
    let words : place_words n (Piece k key) ≡ place_words n (Piece m other) = line_injective _ _ (place_proper n (Piece k key) h f) (place_proper n (Piece m other) h g) e in
    let a = decimal_injective k m f.0 g.0 cc in
    let x = coordinate_same key.x other.x f.1.x g.1.x cc in
    let y = coordinate_same key.y other.y f.1.y g.1.y cc in
    λ i. Piece (a i) (record { x = x i; y = y i })
place_same n (Piece k key) (Anchor b) h f g e = absurd (first_letter 112 97 e (λ n. omega (arith, n)))
place_same n (Anchor a) (Piece m other) h f g e = absurd (first_letter 97 112 e (λ n. omega (arith, n)))
place_same n (Anchor a) (Anchor b) h f g e =
    let words : place_words n (Anchor a) ≡ place_words n (Anchor b) = line_injective _ _ (place_proper n (Anchor a) h f) (place_proper n (Anchor b) h g) e in
    let same = letter_same a b (ap (λ (l : List (List ℕ)). get_or l 1 []) words) in λ i. Anchor (same i)

pair_same : (n : ℕ) (a b c d : Pt) → n < 2 ^ 64 → IsNear (Pair a b) → IsNear (Pair c d) → line (near_words n (Pair a b)) ≡ line (near_words n (Pair c d))
    → Pair a b ≡ Pair c d
pair_same n a b c d h f g e =
    let words : near_words n (Pair a b) ≡ near_words n (Pair c d) = line_injective _ _ (near_proper n (Pair a b) h f) (near_proper n (Pair c d) h g) e in
    let x = coordinate_same a.x c.x f.0.x g.0.x cc in
    let y = coordinate_same a.y c.y f.0.y g.0.y cc in
    let u = coordinate_same b.x d.x f.1.x g.1.x cc in
    let v = coordinate_same b.y d.y f.1.y g.1.y cc in
    λ i. Pair (record { x = x i; y = y i }) (record { x = u i; y = v i })

near_same : (n : ℕ) (p q : NearLine) → n < 2 ^ 64 → IsNear p → IsNear q → line (near_words n p) ≡ line (near_words n q) → p ≡ q
near_same n (Pair a b) (Pair c d) h f g e = pair_same n a b c d h f g e
near_same n (Mark a) (Mark b) h f g e =
    let words : near_words n (Mark a) ≡ near_words n (Mark b) = line_injective _ _ (near_proper n (Mark a) h f) (near_proper n (Mark b) h g) e in
    let x = coordinate_same a.x b.x f.x g.x cc in
    let y = coordinate_same a.y b.y f.y g.y cc in
    λ i. Mark (record { x = x i; y = y i })
near_same n Anchors Anchors h f g e = refl
near_same n (Pair a b) (Mark c) h f g e = absurd (first_letter 110 109 e (λ n. omega (arith, n)))
near_same n (Pair a b) Anchors h f g e = absurd (first_letter 110 97 e (λ n. omega (arith, n)))
near_same n (Mark c) (Pair a b) h f g e = absurd (first_letter 109 110 e (λ n. omega (arith, n)))
near_same n (Mark c) Anchors h f g e = absurd (first_letter 109 97 e (λ n. omega (arith, n)))
near_same n Anchors (Pair a b) h f g e = absurd (first_letter 97 110 e (λ n. omega (arith, n)))
near_same n Anchors (Mark c) h f g e = absurd (first_letter 97 109 e (λ n. omega (arith, n)))

rising_same : (n least : ℕ) (xs ys : List Gain) (a b : List (List ℕ)) → AreRising least xs → AreRising least ys → length xs ≡ length ys
    → rows gain_words n xs ++ a ≡ rows gain_words n ys ++ b → xs ≡ ys
rising_same n least [] [] a b f g len e = refl
rising_same n least [] (y ∷ ys) a b f g len e = absurd (omega (arith, len))
rising_same n least (x ∷ xs) [] a b f g len e = absurd (omega (arith, len))
rising_same n least (x ∷ xs) (y ∷ ys) a b f g len e =
    let first : line (gain_words 0 x) ≡ line (gain_words 0 y) = ap (λ (ls : List (List ℕ)). get_or ls 0 []) e in
    let head = gain_same 0 x y (lit< tt) f.0 g.0 first in
    let tail = rising_same (n + 1) (y.piece + 1) xs ys a b (subst (λ (z : Gain). AreRising (z.piece + 1) xs) head f.2) g.2 (omega (arith, len)) (ap (drop 1) e) in
    λ i. head i ∷ tail i

gains_same : (g : Option ℕ) (gs hs : Option (List Gain)) (a b : List (List ℕ)) → AreAsMany g gs → AreAsMany g hs → AreGains gs → AreGains hs
    → gain_rows gs ++ a ≡ gain_rows hs ++ b → gs ≡ hs
gains_same None None None a b m n f k e = refl
gains_same None None (Some hs) a b m n f k e = absurd n
gains_same None (Some gs) hs a b m n f k e = absurd m
gains_same (Some c) None hs a b m n f k e = absurd m
gains_same (Some c) (Some gs) None a b m n f k e = absurd n
gains_same (Some c) (Some gs) (Some hs) a b m n f k e =
    ap (λ (l : List Gain). let o : Option (List Gain) = Some l in o) (rising_same 0 0 gs hs a b f.1 k.1 (m ∙ sym n) e)

-- how many gains there are
counted : Option (List Gain) → Option ℕ
counted None = None
counted (Some gs) = Some (length gs)

counted_many : (gs : Option (List Gain)) → AreAsMany (counted gs) gs
unfolding counted
counted_many None = tt
counted_many (Some gs) = refl

counted_gained : (h : Head) (gs : Option (List Gain)) → AreGains gs → IsGainedBy (version h gs) (counted gs)
unfolding counted
counted_gained h (Some gs) fit = fit.0
counted_gained h None fit = none (version h None) (third_has_gains h)
  where
    none : (v : Version) → (v ≡ Three → ⊥) → IsGainedBy v None
    none One not = refl
    none Two not = refl
    none Three not = absurd (not refl)

rows_injective : {A : Type 0} (w : ℕ → A → List (List ℕ)) (P : A → Type 0) → ((n : ℕ) (x y : A) → n < 2 ^ 64 → P x → P y → line (w n x) ≡ line (w n y) → x ≡ y)
    → (n : ℕ) (xs ys : List A) (a b : List (List ℕ)) → n + length xs ≤ 2 ^ 64 → AllByRecursion P xs → AllByRecursion P ys
    → length xs ≡ length ys → rows w n xs ++ a ≡ rows w n ys ++ b → xs ≡ ys
rows_injective w P same n [] [] a b room f g len e = refl
rows_injective w P same n [] (y ∷ ys) a b room f g len e = absurd (omega (arith, len))
rows_injective w P same n (x ∷ xs) [] a b room f g len e = absurd (omega (arith, len))
rows_injective w P same n (x ∷ xs) (y ∷ ys) a b room f g len e =
    let first : line (w n x) ≡ line (w n y) = ap (λ (ls : List (List ℕ)). get_or ls 0 []) e in
    let head = same n x y (omega (arith, room)) f.0 g.0 first in
    let tail = rows_injective w P same (n + 1) xs ys a b (omega (arith, room)) f.1 g.1 (omega (arith, len)) (ap (drop 1) e) in
    λ i. head i ∷ tail i

cycle_same : (m n : ℕ) → IsCycleLength m → IsCycleLength n → line (cycle_words m) ≡ line (cycle_words n) → m ≡ n
cycle_same m n f g e =
    let words : cycle_words m ≡ cycle_words n = line_injective _ _ (cycle_proper 0 (record { len = m }) (lit< tt) f) (cycle_proper 0 (record { len = n }) (lit< tt) g) e in
    decimal_injective m n f.fits g.fits cc

pub record SameRule (h h' : Head) : Type 0 where
  pub rule : h.rule ≡ h'.rule
  pub overlap : h.overlap ≡ h'.overlap
  pub corner : h.corner ≡ h'.corner

-- what a second line names
rule_of : Second → ℕ
rule_of (Rule r m o) = r
rule_of (Refused name at) = 0

overlap_of : Second → ℕ
overlap_of (Rule r m o) = m
overlap_of (Refused name at) = 0

corner_of : Second → Option ℕ
corner_of (Rule r m o) = o
corner_of (Refused name at) = None

corner_known : (v : Version) (r c s d : ℕ) → IsOfVersion v r c → IsOfVersion v s d → r ≡ s → named_corner v c ≡ named_corner v d → c ≡ d
corner_known One r c s d f g rule e = f ∙ rule ∙ sym g
corner_known Two r c s d f g rule e = some_injective c d e
corner_known Three r c s d f g rule e = some_injective c d e

-- the head of two texts with the same version and the same second line
rules_same : (v : Version) (h h' : Head) → IsHead h → IsHead h' → IsOfVersion v h.rule h.corner → IsOfVersion v h'.rule h'.corner
    → line (rule_words h.rule h.overlap (named_corner v h.corner)) ≡ line (rule_words h'.rule h'.overlap (named_corner v h'.corner)) → SameRule h h'
unfolding rule_of overlap_of corner_of
rules_same v h h' f g is is' e =
    let same = second_same (Rule h.rule h.overlap (named_corner v h.corner)) (Rule h'.rule h'.overlap (named_corner v h'.corner))
    (second_fits v h f is).0 (second_fits v h' g is').0 e in
    let rule : h.rule ≡ h'.rule = ap rule_of same in
    record { rule = rule; overlap = ap overlap_of same; corner = corner_known v h.rule h.corner h'.rule h'.corner is is' rule (ap corner_of same) }

opening_same : (h h' : Head) (gs gs' : Option (List Gain)) (a b : List (List ℕ)) → IsHead h → IsHead h'
    → opening (version h gs) h.rule h.overlap h.corner ++ a ≡ opening (version h' gs') h'.rule h'.overlap h'.corner ++ b → SameRule h h'
opening_same h h' gs gs' a b f g e =
    let v = version_same (version h gs) (version h' gs') (line_at 0 _ _ e) in
    let second = line_at 1 _ _ e in
    rules_same (version h' gs') h h' f g (subst (λ (w : Version). IsOfVersion w h.rule h.corner) v (is_version h gs f)) (is_version h' gs' g)
    (subst (λ (w : Version). line (rule_words h.rule h.overlap (named_corner w h.corner)) ≡ line (rule_words h'.rule h'.overlap (named_corner (version h' gs') h'.corner)))
    v second)

head_same : (h h' : Head) → SameRule h h' → h.features ≡ h'.features → h.pieces ≡ h'.pieces → h.zones ≡ h'.zones → h ≡ h'
head_same h h' r f p z = λ i. record { rule = r.rule i; overlap = r.overlap i; corner = r.corner i; features = f i; pieces = p i; zones = z i }

counts_same : (h h' : Head) (more more' : List (List ℕ)) → IsHead h → IsHead h' → SameRule h h' → count_words h more ≡ count_words h' more' → h ≡ h'
counts_same h h' more more' f g r e =
    head_same h h' r (decimal_injective h.features h'.features f.features g.features cc)
    (decimal_injective h.pieces h'.pieces f.pieces g.pieces cc) (decimal_injective h.zones h'.zones f.zones g.zones cc)

faulted : Second → Cert
faulted (Rule r m o) = Fault TooLarge 0
faulted (Refused name at) = Fault name at

fault_same : (name : Name) (at : ℕ) (name' : Name) (at' : ℕ) → Refused name at ≡ Refused name' at' → Fault name at ≡ Fault name' at'
unfolding faulted
fault_same name at name' at' e = ap faulted e

pub cert_same : (c d : Cert) → IsCert c → IsCert d → lines_of c ≡ lines_of d → c ≡ d
cert_same (Masks h ps ss gs) (Masks h' qs ts hs) f g e =
    let rule = opening_same h h' gs hs _ _ f.0 g.0 e in
    let words : count_words h (stitches_words (length ss)) ≡ count_words h' (stitches_words (length ts)) = line_injective _ _
    (masks_counts_words h (length ss) f.0 f.3) (masks_counts_words h' (length ts) g.0 g.3) (line_at 2 _ _ e) in
    let head = counts_same h h' (stitches_words (length ss)) (stitches_words (length ts)) f.0 g.0 rule words in
    let slen = decimal_injective (length ss) (length ts) f.3 g.3 cc in
    let plen : length ps ≡ length qs = f.1 ∙ ap (λ (x : Head). x.pieces) head ∙ sym g.1 in
    let count : Option ℕ = counted hs in
    let many = counted_many hs in
    let split = gains_split (version h' hs) count h gs _ _ (version_same (version h gs) (version h' hs) (line_at 0 _ _ e)) (counted_gained h' hs g.5) f.5
    (ap (drop 3) e ∙ ap (λ (x : List (List ℕ)). x ++ masks_tail qs ts hs) (gains_counted count hs many)) in
    let rest = rows_same piece_words 0 ps qs _ _ plen split.1 in
    let pieces = rows_injective piece_words IsPiece piece_same 0 ps qs _ _ (omega (arith, f.1, f.0.pieces)) f.2 g.2 plen split.1 in
    let stitches = rows_injective stitch_words IsStitch stitch_same 0 ss ts _ _ (omega (arith, f.3)) f.4 g.4 slen rest in
    let gains = gains_same count gs hs _ _ split.0 many f.5 g.5 (rows_same stitch_words 0 ss ts _ _ slen rest) in
    λ i. Masks (head i) (pieces i) (stitches i) (gains i)
cert_same (Conflict h cs ns) (Conflict h' ds ms) f g e =
    let rule = opening_same h h' None None _ _ f.0 g.0 e in
    let words : count_words h [] ≡ count_words h' [] = line_injective _ _ (conflict_counts_words h f.0) (conflict_counts_words h' g.0) (line_at 2 _ _ e) in
    let head = counts_same h h' [] [] f.0 g.0 rule words in
    let clen = cycle_same (length cs) (length ds) f.1 g.1 (line_at 3 _ _ e) in
    let nlen : length ns ≡ length ms = f.3 ∙ clen ∙ sym g.3 in
    let body = ap (drop 4) e in
    let rest = rows_same place_words 0 cs ds _ _ clen body in
    let places = rows_injective place_words IsPlace place_same 0 cs ds _ _ (omega (arith, f.1.fits)) f.2 g.2 clen body in
    let nears = rows_injective near_words IsNear near_same 0 ns ms _ _ (omega (arith, f.3, f.1.fits)) f.4 g.4 nlen rest in
    λ i. Conflict (head i) (places i) (nears i)
cert_same (Fault name at) (Fault name' at') f g e = fault_same name at name' at' (second_same (Refused name at) (Refused name' at') f g (line_at 1 _ _ e))
cert_same (Masks h ps ss gs) (Conflict h' cs ns) f g e = absurd (other_counts h h' (length ss) f.0 g.0 f.3 (line_at 2 _ _ e))
cert_same (Conflict h' cs ns) (Masks h ps ss gs) f g e = absurd (other_counts h h' (length ss) g.0 f.0 g.3 (sym (line_at 2 _ _ e)))
cert_same (Masks h ps ss gs) (Fault name at) f g e =
    absurd (rule_is_no_fault h.rule h.overlap (named_corner (version h gs) h.corner) name at (line_at 1 _ _ e))
cert_same (Fault name at) (Masks h ps ss gs) f g e =
    absurd (rule_is_no_fault h.rule h.overlap (named_corner (version h gs) h.corner) name at (sym (line_at 1 _ _ e)))
cert_same (Conflict h cs ns) (Fault name at) f g e =
    absurd (rule_is_no_fault h.rule h.overlap (named_corner (version h None) h.corner) name at (line_at 1 _ _ e))
cert_same (Fault name at) (Conflict h cs ns) f g e =
    absurd (rule_is_no_fault h.rule h.overlap (named_corner (version h None) h.corner) name at (sym (line_at 1 _ _ e)))

abbrev outcome : Type 0
outcome = Result Cert CertFault

-- what is written is read back
pub read_back : (bytes : List ℕ) (r : Result Cert CertFault) → Answers (lines bytes) r → (c : Cert) → IsText c bytes → (r ≡ Ok c) ⊎ (r ≡ Err NoMemory)
read_back bytes (Ok d) a c (is, e) =
    let same : lines_of d ≡ lines_of c = sym a.1 ∙ ap lines e ∙ lines-text c is in
    inl (ap (λ (x : Cert). let r : outcome = Ok x in r) (cert_same d c a.0 is same))
read_back bytes (Err NoMemory) a c t = inr refl
read_back bytes (Err (BadLine n)) a c (is, e) = absurd (a.bad (c, is, ap (take n) (ap lines e ∙ lines-text c is)))
