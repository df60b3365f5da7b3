-- What certificates of masks with these first lines look like.
use Rattle.std.proofs.Common.{◌≡◌, ◌≢◌, ℕ, pos, ◌+◌, false, List, [], ◌∷◌, ◌++◌, length, get_or, take, drop, Option, Some, None, Err, refl, sym, ap}
use Rattle.std.proofs.Common.{◌∙◌, append_assoc, arith, replicate, lit<}
use Rattle.std.proofs.lemmas.Int.{ints}
use Rattle.std.proofs.lemmas.Fmt.{decimal_injective}
use Rattle.std.specs.Fmt.{decimal}
use Rattle.std.specs.List.{AllByRecursion}
use Rattle.dpl_spec_split.specs.declared.Pt.{Pt}
use Rattle.dpl_cert.specs.declared.name.Name.{Name}
use Rattle.dpl_cert.specs.declared.cert.Head.{Head}
use Rattle.dpl_cert.specs.declared.cert.Gain.{Gain}
use Rattle.dpl_cert.specs.declared.cert.PieceLine.{PieceLine}
use Rattle.dpl_cert.specs.declared.cert.StitchLine.{StitchLine}
use Rattle.dpl_cert.specs.declared.cert.Cert.{Cert}
use Rattle.dpl_cert.specs.declared.cert.Cert.TheVariants.{Masks, Conflict, Fault}
use Rattle.dpl_cert.specs.declared.cert.Version.{Version}
use Rattle.dpl_cert.specs.declared.cert.Version.TheVariants.{One, Two, Three}
use Rattle.dpl_parse.specs.declared.fault.CertFault.{CertFault}
use Rattle.dpl_parse.specs.declared.fault.CertFault.TheVariants.{NoMemory, BadLine}
use Rattle.dpl_cert.specs.Lines.{line, AreWords}
use Rattle.dpl_cert.specs.Grammar.{rows, lines_of, opening, version, named_corner, rule_words, fault_words, count_words, stitches_words, gains_words, gain_count, gain_rows}
use Rattle.dpl_cert.specs.Grammar.{piece_words, stitch_words, gain_words, end_words, IsCert, IsHead, IsNumber, IsPoint, IsPiece, IsStitch, AreRising, AreGains}
use Rattle.dpl_parse.specs.SpelledHeads.{counts_proper}
use Rattle.dpl_parse.specs.Reading.{StopsAt, StopsGains, EndsAt, FailsAs, IsFirstBad}
use Rattle.dpl_parse.specs.Heads.{masks_head, IsOfVersion, IsGainedBy, gains_left, AreAsMany, number}
use Rattle.dpl_parse.proofs.Texts.{line_injective}
use Rattle.dpl_parse.proofs.Prefixes.{fails, first_is, stage, end_stage, rows_same, length-rows, fits_replicate, length-fill}
use Rattle.dpl_parse.proofs.Rising.{rising_stage, some_gains, some_gains_fit, some_gains_many}
use Rattle.dpl_parse.proofs.Versions.{version_same, version_is, gains_split, gained_fits, third_has_gains}
use Rattle.std.proofs.lemmas.List.{length-append}

pub no_point : Pt
no_point = record { x = pos 0; y = pos 0 }

pub no_point_fits : IsPoint no_point
unfolding no_point
no_point_fits = record { x = (omega (arith, ints), omega (arith, ints)); y = (omega (arith, ints), omega (arith, ints)) }

abbrev piece0 : PieceLine
piece0 = record { b = false; key = no_point }

stitch0 : StitchLine
stitch0 = record { rect = record { x0 = pos 0; y0 = pos 0; x1 = pos 1; y1 = pos 1 }; p = 0; q = 0 }

stitch0_fits : IsStitch stitch0
unfolding stitch0
stitch0_fits = record {
  rect = record {
    x0 = (omega (arith, ints), omega (arith, ints));
    y0 = (omega (arith, ints), omega (arith, ints));
    x1 = (
      omega
          (arith, ints),
      omega (arith, ints),
    );
    y1 = (omega (arith, ints), omega (arith, ints));
    wide = omega (arith, ints);
    high = omega
        (arith, ints);
  };
  p = lit< tt;
  q = lit< tt;
}

-- the line at n of two lists that are one
pub line_at : (n : ℕ) (xs ys : List (List ℕ)) → xs ≡ ys → get_or xs n [] ≡ get_or ys n []
line_at n xs ys e = ap (λ (ls : List (List ℕ)). get_or ls n []) e

-- ---- the lines of counts

pub masks_counts_words : (h : Head) (k : ℕ) → IsHead h → IsNumber k → AreWords (count_words h (stitches_words k))
masks_counts_words h k ih ik = counts_proper 0 (record { features = h.features; pieces = h.pieces; zones = h.zones; stitches = Some k })
    (lit< tt) (record { features = ih.features; pieces = ih.pieces; zones = ih.zones; stitches = ik })

pub conflict_counts_words : (h : Head) → IsHead h → AreWords (count_words h [])
conflict_counts_words h ih = counts_proper 0 (record { features = h.features; pieces = h.pieces; zones = h.zones; stitches = None })
    (lit< tt) (record { features = ih.features; pieces = ih.pieces; zones = ih.zones; stitches = tt })

pub record SameCounts (h h' : Head) (k k' : ℕ) : Type 0 where
  pub pieces : h.pieces ≡ h'.pieces
  pub stitches : k ≡ k'

same_counts : (h h' : Head) (k k' : ℕ) → IsHead h → IsHead h' → IsNumber k → IsNumber k' → line (count_words h (stitches_words k)) ≡ line
    (count_words h' (stitches_words k')) → SameCounts h h' k k'
same_counts h h' k k' ih ih' ik ik' e =
    let words : count_words h (stitches_words k) ≡ count_words h' (stitches_words k') = line_injective _ _ (masks_counts_words h k ih ik) (masks_counts_words h' k' ih' ik') e in
    let p : decimal h.pieces ≡ decimal h'.pieces = cc in
    let s : decimal k ≡ decimal k' = cc in
    record { pieces = decimal_injective h.pieces h'.pieces ih.pieces ih'.pieces p; stitches = decimal_injective k k' ik ik' s }

pub other_counts : (h h' : Head) (k : ℕ) → IsHead h → IsHead h' → IsNumber k → line (count_words h (stitches_words k)) ≡ line (count_words h' []) → ⊥
other_counts h h' k ih ih' ik e =
    let words : count_words h (stitches_words k) ≡ count_words h' [] = line_injective _ _ (masks_counts_words h k ih ik) (conflict_counts_words h' ih') e in absurd cc

pub rule_is_no_fault : (r m : ℕ) (o : Option ℕ) (name : Name) (at : ℕ) → line (rule_words r m o) ≡ line (fault_words name at) → ⊥
rule_is_no_fault r m o name at e = let first : ◌≡◌ {A = ℕ} 114 102 = ap (λ (l : List ℕ). get_or l 0 0) e in omega (arith, first)

-- ---- masks

abbrev pub masks_tail : List PieceLine → List StitchLine → Option (List Gain) → List (List ℕ)
masks_tail ps ss gs = rows piece_words 0 ps ++ (rows stitch_words 0 ss ++ (gain_rows gs ++ (line end_words ∷ [])))

pub record MasksRest (pieces k : ℕ) (g : Option ℕ) (t : List (List ℕ)) : Type 0 where
  pub ps : List PieceLine
  pub ss : List StitchLine
  pub gs : Option (List Gain)
  pub ps_len : length ps ≡ pieces
  pub ps_fit : AllByRecursion IsPiece ps
  pub ss_len : length ss ≡ k
  pub ss_fit : AllByRecursion IsStitch ss
  pub gs_many : AreAsMany g gs
  pub gs_fit : AreGains gs
  pub rest : t ≡ masks_tail ps ss gs

-- what is told of the head before the lines of masks
pub record IsBegun (v : Version) (h : Head) (k : ℕ) (g : Option ℕ) : Type 0 where
  pub head : IsHead h
  pub version : IsOfVersion v h.rule h.corner
  pub stitches : IsNumber k
  pub gains : IsGainedBy v g

pub masks_shape : (v : Version) (h : Head) (k : ℕ) (g : Option ℕ) → IsBegun v h k g → (c : Cert) → IsCert c → (t : List (List ℕ))
    → lines_of c ≡ masks_head v h k g ++ t → MasksRest h.pieces k g t
masks_shape v h k g b (Masks h' ps ss gs) is t e =
    let third : line (count_words h' (stitches_words (length ss))) ≡ line (count_words h (stitches_words k)) = line_at 2 _ _ e in
    let same = same_counts h' h (length ss) k is.0 b.head is.3 b.stitches third in
    let ver = version_same (version h' gs) v (line_at 0 _ _ e) in
    let split = gains_split v g h' gs (masks_tail ps ss gs) t ver b.gains is.5 (ap (drop 3) e) in
    record {
      ps = ps;
      ss = ss;
      gs = gs;
      ps_len = is.1 ∙ same.pieces;
      ps_fit = is.2;
      ss_len = same.stitches;
      ss_fit = is.4;
      gs_many = split.0;
      gs_fit = is.5;
      rest = sym split.1;
    }
masks_shape v h k g b (Conflict h' cs ns) is t e =
    let third : line (count_words h' []) ≡ line (count_words h (stitches_words k)) = line_at 2 _ _ e in
    absurd (other_counts h h' k b.head is.0 b.stitches (sym third))
masks_shape v h k g b (Fault name at) is t e = absurd (rule_is_no_fault h.rule h.overlap (named_corner v h.corner) name at (sym (line_at 1 _ _ e)))

pub gains_counted : (g : Option ℕ) (gs : Option (List Gain)) → AreAsMany g gs → gain_count gs ≡ gains_left g
gains_counted None None many = refl
gains_counted None (Some gs) many = absurd many
gains_counted (Some n) None many = absurd many
gains_counted (Some n) (Some gs) many = ap (λ (m : ℕ). line (gains_words m) ∷ []) many

pub masks_lines : (v : Version) (h : Head) (k : ℕ) (g : Option ℕ) (ps : List PieceLine) (ss : List StitchLine) (gs : Option (List Gain)) → IsBegun v h k g
    → length ss ≡ k → AreAsMany g gs → lines_of (Masks h ps ss gs) ≡ masks_head v h k g ++ masks_tail ps ss gs
masks_lines v h k g ps ss gs b len many =
    ap (λ (w : Version). opening w h.rule h.overlap h.corner ++ (line (count_words h (stitches_words (length ss))) ∷ (gain_count gs ++ masks_tail ps ss gs)))
    (version_is v h b.version g b.gains gs many)
    ∙ ap (λ (n : ℕ). opening v h.rule h.overlap h.corner ++ (line (count_words h (stitches_words n)) ∷ (gain_count gs ++ masks_tail ps ss gs))) len
    ∙ ap (λ (x : List (List ℕ)). opening v h.rule h.overlap h.corner ++ (line (count_words h (stitches_words k)) ∷ (x ++ masks_tail ps ss gs)))
    (gains_counted g gs many)

length-head : (v : Version) (h : Head) (k : ℕ) (g : Option ℕ) → length (masks_head v h k g) ≡ 3 + length (gains_left g)
length-head v h k g = omega arith

pub masks_pieces : (v : Version) (h : Head) (k : ℕ) (g : Option ℕ) → IsBegun v h k g → (ls : List (List ℕ)) (at : ℕ) (f : CertFault)
    → at ≡ 4 + length (gains_left g) → StopsAt piece_words IsPiece h.pieces at ls f → FailsAs (masks_head v h k g ++ ls) f
masks_pieces v h k g b ls at f start s =
    let ss = replicate k stitch0 in
    let len : length ss ≡ k = length-fill k stitch0 in
    let gs = some_gains g in
    let many = some_gains_many g in
    stage piece_words IsPiece (masks_head v h k g) ls h.pieces at f (omega (arith, start, length-head v h k g))
    (λ xs fit xlen. (
      Masks h xs ss gs,
      (b.head, xlen, fit, omega (arith, len, b.stitches), fits_replicate IsStitch k stitch0 stitch0_fits, some_gains_fit g (gained_fits v g b.gains)),
      rows stitch_words 0 ss ++ (gain_rows gs ++ (line end_words ∷ [])),
      masks_lines v h k g xs ss gs b len many,
    ))
    (λ c is t e. let m = masks_shape v h k g b c is t e in
    (m.ps, m.ps_fit, m.ps_len, rows stitch_words 0 m.ss ++ (gain_rows m.gs ++ (line end_words ∷ [])), m.rest))
    piece0 no_point_fits s

abbrev pub masks_prefix : Version → Head → ℕ → Option ℕ → List PieceLine → List (List ℕ)
masks_prefix v h k g ps = masks_head v h k g ++ rows piece_words 0 ps

pub masks_stitches : (v : Version) (h : Head) (k : ℕ) (g : Option ℕ) (ps : List PieceLine) → IsBegun v h k g → length ps ≡ h.pieces → AllByRecursion IsPiece ps
    → (ls : List (List ℕ)) (at : ℕ) (f : CertFault) → at ≡ 4 + length (gains_left g) + h.pieces
    → StopsAt stitch_words IsStitch k at ls f → FailsAs (masks_prefix v h k g ps ++ ls) f
masks_stitches v h k g ps b plen pfit ls at f start s =
    let gs = some_gains g in
    let many = some_gains_many g in
    stage stitch_words IsStitch (masks_prefix v h k g ps) ls k at f
    (omega (arith, start, plen, length-append (masks_head v h k g) (rows piece_words 0 ps), length-head v h k g, length-rows piece_words 0 ps))
    (λ xs fit xlen. (
      Masks h ps xs gs,
      (b.head, plen, pfit, omega (arith, xlen, b.stitches), fit, some_gains_fit g (gained_fits v g b.gains)),
      gain_rows gs ++ (line end_words ∷ []),
      masks_lines v h k g ps xs gs b xlen many
          ∙ sym (append_assoc (masks_head v h k g) (rows piece_words 0 ps) (rows stitch_words 0 xs ++ (gain_rows gs ++ (line end_words ∷ [])))),
    ))
    (λ c is t e. let m = masks_shape v h k g b c is (rows piece_words 0 ps ++ t) (e ∙ append_assoc (masks_head v h k g) (rows piece_words 0 ps) t) in (
      m.ss,
      m.ss_fit,
      m.ss_len,
      gain_rows m.gs ++ (line end_words ∷ []),
      rows_same piece_words 0 ps m.ps t (rows stitch_words 0 m.ss ++ (gain_rows m.gs ++ (line end_words ∷ []))) (plen ∙ sym m.ps_len) m.rest,
    ))
    stitch0 stitch0_fits s

-- the lines up to those of the gains
abbrev pub masks_before : Version → Head → ℕ → Option ℕ → List PieceLine → List StitchLine → List (List ℕ)
masks_before v h k g ps ss = masks_prefix v h k g ps ++ rows stitch_words 0 ss

length-before : (v : Version) (h : Head) (k : ℕ) (g : Option ℕ) (ps : List PieceLine) (ss : List StitchLine)
    → length (masks_before v h k g ps ss) ≡ 3 + length (gains_left g) + length ps + length ss
length-before v h k g ps ss = omega (
  arith,
  length-append (masks_prefix v h k g ps) (rows stitch_words 0 ss),
  length-append (masks_head v h k g) (rows piece_words 0 ps),
  length-head v h k g,
  length-rows piece_words 0 ps,
  length-rows stitch_words 0 ss,
)

before_lines : (v : Version) (h : Head) (k : ℕ) (g : Option ℕ) (ps : List PieceLine) (ss : List StitchLine) (t : List (List ℕ))
    → masks_head v h k g ++ (rows piece_words 0 ps ++ (rows stitch_words 0 ss ++ t)) ≡ masks_before v h k g ps ss ++ t
before_lines v h k g ps ss t =
    sym (append_assoc (masks_head v h k g) (rows piece_words 0 ps) (rows stitch_words 0 ss ++ t)) ∙ sym (append_assoc (masks_prefix v h k g ps) (rows stitch_words 0 ss) t)

-- the gains behind the stitches
pub record GainsRest (g : Option ℕ) (t : List (List ℕ)) : Type 0 where
  pub gs : Option (List Gain)
  pub many : AreAsMany g gs
  pub fit : AreGains gs
  pub rest : t ≡ gain_rows gs ++ (line end_words ∷ [])

gains_shape : (v : Version) (h : Head) (k : ℕ) (g : Option ℕ) (ps : List PieceLine) (ss : List StitchLine) → IsBegun v h k g → length ps ≡ h.pieces → length ss ≡ k
    → (c : Cert) → IsCert c → (t : List (List ℕ)) → lines_of c ≡ masks_before v h k g ps ss ++ t → GainsRest g t
gains_shape v h k g ps ss b plen slen c is t e =
    let m = masks_shape v h k g b c is (rows piece_words 0 ps ++ (rows stitch_words 0 ss ++ t)) (e ∙ sym (before_lines v h k g ps ss t)) in
    let one = rows_same piece_words 0 ps m.ps (rows stitch_words 0 ss ++ t) (rows stitch_words 0 m.ss ++ (gain_rows m.gs ++ (line end_words ∷ []))) (plen ∙ sym m.ps_len) m.rest in
    record {
      gs = m.gs;
      many = m.gs_many;
      fit = m.gs_fit;
      rest = rows_same stitch_words 0 ss m.ss t (gain_rows m.gs ++ (line end_words ∷ [])) (slen ∙ sym m.ss_len) one;
    }

some_listed : (count : ℕ) {t : List (List ℕ)} (gs : Option (List Gain)) → AreAsMany (Some count) gs → AreGains gs → t ≡ gain_rows gs ++ (line end_words ∷ [])
    → (gs : List Gain) × AreRising 0 gs × (length gs ≡ count) × (u : List (List ℕ)) × (t ≡ rows gain_words 0 gs ++ u)
some_listed count None many fit rest = absurd many
some_listed count (Some gs) many fit rest = (gs, fit.1, many, line end_words ∷ [], rest)

pub masks_gains : (v : Version) (h : Head) (k : ℕ) (g : Option ℕ) (ps : List PieceLine) (ss : List StitchLine) → IsBegun v h k g → length ps ≡ h.pieces
    → AllByRecursion IsPiece ps → length ss ≡ k → AllByRecursion IsStitch ss → (ls : List (List ℕ)) (at : ℕ) (f : CertFault)
    → at ≡ 4 + length (gains_left g) + h.pieces + k → StopsGains g at ls f → FailsAs (masks_before v h k g ps ss ++ ls) f
masks_gains v h k None ps ss b plen pfit slen sfit ls at NoMemory start s = tt
masks_gains v h k None ps ss b plen pfit slen sfit ls at (BadLine n) start s = absurd s
masks_gains v h k (Some count) ps ss b plen pfit slen sfit ls at f start s =
    rising_stage (masks_before v h k (Some count) ps ss) ls count at f (omega (arith, start, plen, slen, length-before v h k (Some count) ps ss))
    (λ gs rises glen. (
      Masks h ps ss (Some gs),
      (b.head, plen, pfit, omega (arith, slen, b.stitches), sfit, (omega (arith, glen, gained_fits v (Some count) b.gains), rises)),
      line end_words ∷ [],
      masks_lines v h k (Some count) ps ss (Some gs) b slen glen ∙ before_lines v h k (Some count) ps ss (rows gain_words 0 gs ++ (line end_words ∷ [])),
    ))
    (λ c is t e. let m = gains_shape v h k (Some count) ps ss b plen slen c is t e in some_listed count m.gs m.many m.fit m.rest)
    s

gains_tail : (g : Option ℕ) (gs hs : Option (List Gain)) (a b : List (List ℕ)) → AreAsMany g gs → AreAsMany g hs → gain_rows gs ++ a ≡ gain_rows hs ++ b → a ≡ b
gains_tail None None None a b m n e = e
gains_tail None None (Some hs) a b m n e = absurd n
gains_tail None (Some gs) hs a b m n e = absurd m
gains_tail (Some k) None hs a b m n e = absurd m
gains_tail (Some k) (Some gs) None a b m n e = absurd n
gains_tail (Some k) (Some gs) (Some hs) a b m n e = rows_same gain_words 0 gs hs a b (m ∙ sym n) e

length-gains : (g : Option ℕ) (gs : Option (List Gain)) → AreAsMany g gs → length (gain_rows gs) ≡ number g
length-gains None None m = refl
length-gains None (Some gs) m = absurd m
length-gains (Some k) None m = absurd m
length-gains (Some k) (Some gs) m = length-rows gain_words 0 gs ∙ m

pub masks_end : (v : Version) (h : Head) (k : ℕ) (g : Option ℕ) (ps : List PieceLine) (ss : List StitchLine) (gs : Option (List Gain)) → IsBegun v h k g
    → length ps ≡ h.pieces → AllByRecursion IsPiece ps → length ss ≡ k → AllByRecursion IsStitch ss → AreAsMany g gs → AreGains gs
    → (ls : List (List ℕ)) (at : ℕ) (f : CertFault) → at ≡ 4 + length (gains_left g) + h.pieces + k + number g → EndsAt at ls (Err f)
    → FailsAs ((masks_before v h k g ps ss ++ gain_rows gs) ++ ls) f
masks_end v h k g ps ss gs b plen pfit slen sfit many gfit ls at f start s =
    let before = masks_before v h k g ps ss in
    end_stage (before ++ gain_rows gs) ls at f (Masks h ps ss gs)
    (omega (arith, start, plen, slen, length-append before (gain_rows gs), length-before v h k g ps ss, length-gains g gs many))
    (b.head, plen, pfit, omega (arith, slen, b.stitches), sfit, gfit)
    (masks_lines v h k g ps ss gs b slen many ∙ before_lines v h k g ps ss (gain_rows gs ++ (line end_words ∷ []))
    ∙ sym (append_assoc before (gain_rows gs) (line end_words ∷ [])))
    (λ c is t e.
    let m = gains_shape v h k g ps ss b plen slen c is (gain_rows gs ++ t) (e ∙ append_assoc before (gain_rows gs) t) in
    gains_tail g gs m.gs t (line end_words ∷ []) many m.many m.rest)
    s

-- all lines of masks
pub masks_all : (v : Version) (h : Head) (k : ℕ) (g : Option ℕ) (ps : List PieceLine) (ss : List StitchLine) (gs : Option (List Gain)) → IsBegun v h k g
    → length ps ≡ h.pieces → AllByRecursion IsPiece ps → length ss ≡ k → AllByRecursion IsStitch ss → AreAsMany g gs → AreGains gs
    → (l0 l1 l2 l3 : List (List ℕ)) → l0 ≡ rows piece_words 0 ps ++ l1 → l1 ≡ rows stitch_words 0 ss ++ l2 → l2 ≡ gain_rows gs ++ l3 → l3 ≡ line end_words ∷ []
    → IsCert (Masks h ps ss gs) × (masks_head v h k g ++ l0 ≡ lines_of (Masks h ps ss gs))
masks_all v h k g ps ss gs b plen pfit slen sfit many gfit l0 l1 l2 l3 e0 e1 e2 e3 = (
  (b.head, plen, pfit, omega (arith, slen, b.stitches), sfit, gfit),
  ap (λ (x : List (List ℕ)). masks_head v h k g ++ x) (e0 ∙ ap (λ (x : List (List ℕ)). rows piece_words 0 ps ++ x)
      (e1 ∙ ap (λ (x : List (List ℕ)). rows stitch_words 0 ss ++ x) (e2 ∙ ap (λ (x : List (List ℕ)). gain_rows gs ++ x) e3)))
      ∙ sym (masks_lines v h k g ps ss gs b slen many),
)

-- where lines stand that were read
pub masks_at_stitches : (v : Version) (h : Head) (k : ℕ) (g : Option ℕ) (ps : List PieceLine) (l0 l1 : List (List ℕ)) → l0 ≡ rows piece_words 0 ps ++ l1
    → masks_head v h k g ++ l0 ≡ masks_prefix v h k g ps ++ l1
masks_at_stitches v h k g ps l0 l1 e0 =
    ap (λ (x : List (List ℕ)). masks_head v h k g ++ x) e0 ∙ sym (append_assoc (masks_head v h k g) (rows piece_words 0 ps) l1)

pub masks_at_gains : (v : Version) (h : Head) (k : ℕ) (g : Option ℕ) (ps : List PieceLine) (ss : List StitchLine) (l0 l1 l2 : List (List ℕ))
    → l0 ≡ rows piece_words 0 ps ++ l1 → l1 ≡ rows stitch_words 0 ss ++ l2 → masks_head v h k g ++ l0 ≡ masks_before v h k g ps ss ++ l2
masks_at_gains v h k g ps ss l0 l1 l2 e0 e1 =
    ap (λ (x : List (List ℕ)). masks_head v h k g ++ x) (e0 ∙ ap (λ (x : List (List ℕ)). rows piece_words 0 ps ++ x) e1) ∙ before_lines v h k g ps ss l2

pub masks_at_end : (v : Version) (h : Head) (k : ℕ) (g : Option ℕ) (ps : List PieceLine) (ss : List StitchLine) (gs : Option (List Gain)) (l0 l1 l2 l3 : List (List ℕ))
    → l0 ≡ rows piece_words 0 ps ++ l1 → l1 ≡ rows stitch_words 0 ss ++ l2 → l2 ≡ gain_rows gs ++ l3
    → masks_head v h k g ++ l0 ≡ (masks_before v h k g ps ss ++ gain_rows gs) ++ l3
masks_at_end v h k g ps ss gs l0 l1 l2 l3 e0 e1 e2 =
    masks_at_gains v h k g ps ss l0 l1 l2 e0 e1 ∙ ap (λ (x : List (List ℕ)). masks_before v h k g ps ss ++ x) e2
    ∙ sym (append_assoc (masks_before v h k g ps ss) (gain_rows gs) l3)

-- the line that counts the gains is missing
pub gains_missing : (v : Version) (h : Head) (k : ℕ) → IsHead h → IsOfVersion v h.rule h.corner → IsNumber k → (ls : List (List ℕ))
    → ((o : Option ℕ) (t : List (List ℕ)) → IsGainedBy v o → ls ≢ gains_left o ++ t) → IsFirstBad (masks_head v h k None ++ ls) 4
gains_missing One h k ih is ik ls none = absurd (none None ls refl refl)
gains_missing Two h k ih is ik ls none = absurd (none None ls refl refl)
gains_missing Three h k ih is ik ls none =
    let ps = replicate h.pieces piece0 in
    let ss = replicate k stitch0 in
    let slen : length ss ≡ k = length-fill k stitch0 in
    let begun : IsBegun Three h k (Some 0) = record { head = ih; version = tt; stitches = ik; gains = lit< tt } in
    fails (masks_head Three h k None) ls (line (gains_words 0) ∷ masks_tail ps ss (Some [])) (Masks h ps ss (Some []))
    (ih, length-fill h.pieces piece0, fits_replicate IsPiece h.pieces piece0 no_point_fits, omega (arith, slen, ik), fits_replicate IsStitch k stitch0 stitch0_fits, (lit< tt, tt))
    (masks_lines Three h k (Some 0) ps ss (Some []) begun slen refl) (gains_refused h k ih ik ls none)
  where
    gains_refused : (h : Head) (k : ℕ) → IsHead h → IsNumber k → (ls : List (List ℕ))
        → ((o : Option ℕ) (t : List (List ℕ)) → IsGainedBy Three o → ls ≢ gains_left o ++ t)
        → (c : Cert) → IsCert c → (t : List (List ℕ)) → lines_of c ≡ masks_head Three h k None ++ t → take 1 ls ≡ take 1 t → ⊥
    gains_refused h k ih ik ls none (Masks h' ps ss None) is t e first = third_has_gains h' (version_same (version h' None) Three (line_at 0 _ _ e))
    gains_refused h k ih ik ls none (Masks h' ps ss (Some gs)) is t e first =
        let n = length gs in
        let q = first_is ls (line (gains_words n)) (masks_tail ps ss (Some gs)) (first ∙ ap (take 1) (sym (ap (drop 3) e))) in
        none (Some n) q.0 is.5.0 q.1
    gains_refused h k ih ik ls none (Conflict h' cs ns) is t e first =
        let third : line (count_words h' []) ≡ line (count_words h (stitches_words k)) = line_at 2 _ _ e in
        other_counts h h' k ih is.0 ik (sym third)
    gains_refused h k ih ik ls none (Fault name at) is t e first =
        rule_is_no_fault h.rule h.overlap (named_corner Three h.corner) name at (sym (line_at 1 _ _ e))
