-- What certificates of conflicts with these first lines look like.
use Rattle.std.proofs.Common.{◌≡◌, ◌≢◌, ℕ, ◌+◌, List, [], ◌∷◌, ◌++◌, length, take, drop, None, Err, refl, sym, ap}
use Rattle.std.proofs.Common.{subst, ◌∙◌, append_assoc, arith, replicate, lit<, lit≤}
use Rattle.std.proofs.lemmas.Fmt.{decimal_injective}
use Rattle.std.specs.Fmt.{decimal}
use Rattle.std.specs.List.{AllByRecursion}
use Rattle.dpl_cert.specs.declared.cert.Head.{Head}
use Rattle.dpl_cert.specs.declared.cert.PlaceLine.{PlaceLine}
use Rattle.dpl_cert.specs.declared.cert.PlaceLine.TheVariants.{Piece}
use Rattle.dpl_cert.specs.declared.cert.NearLine.{NearLine}
use Rattle.dpl_cert.specs.declared.cert.NearLine.TheVariants.{Pair}
use Rattle.dpl_cert.specs.declared.cert.Cert.{Cert}
use Rattle.dpl_cert.specs.declared.cert.Cert.TheVariants.{Masks, Conflict, Fault}
use Rattle.dpl_cert.specs.declared.cert.Version.{Version}
use Rattle.dpl_parse.specs.declared.heads.CycleCount.{CycleCount}
use Rattle.dpl_parse.specs.declared.fault.CertFault.{CertFault}
use Rattle.dpl_cert.specs.Lines.{line}
use Rattle.dpl_cert.specs.Grammar.{rows, lines_of, opening, named_corner, count_words, stitches_words, cycle_words, place_words, near_words, end_words}
use Rattle.dpl_cert.specs.Grammar.{IsCert, IsHead, IsPlace, IsNear, IsCycleLength}
use Rattle.dpl_parse.specs.SpelledHeads.{cycle_proper}
use Rattle.dpl_parse.specs.Reading.{StopsAt, EndsAt, FailsAs, IsFirstBad}
use Rattle.dpl_parse.specs.Heads.{conflict_counts, IsOfVersion, AreCountsOf}
use Rattle.dpl_parse.proofs.Texts.{line_injective}
use Rattle.dpl_parse.proofs.Prefixes.{fails, first_is, stage, end_stage, rows_same, length-rows, fits_replicate, length-fill}
use Rattle.dpl_parse.proofs.Versions.{version_is, ungained}
use Rattle.dpl_parse.proofs.Shapes.{no_point, no_point_fits, line_at, other_counts, rule_is_no_fault}
use Rattle.std.proofs.lemmas.List.{length-append}

abbrev place0 : PlaceLine
place0 = Piece 0 no_point

abbrev near0 : NearLine
near0 = Pair no_point no_point

-- what is told of the head before the lines of a conflict
pub record IsPlain (v : Version) (h : Head) : Type 0 where
  pub head : IsHead h
  pub version : IsOfVersion v h.rule h.corner
  pub kind : AreCountsOf v None

abbrev pub conflict_head : Version → Head → ℕ → List (List ℕ)
conflict_head v h n = conflict_counts v h ++ (line (cycle_words n) ∷ [])

-- a cycle's length, and what follows it
pub record CycleRest (t : List (List ℕ)) : Type 0 where
  pub cs : List PlaceLine
  pub ns : List NearLine
  pub fits : IsCycleLength (length cs)
  pub cs_fit : AllByRecursion IsPlace cs
  pub ns_len : length ns ≡ length cs
  pub ns_fit : AllByRecursion IsNear ns
  pub rest : t ≡ line (cycle_words (length cs)) ∷ (rows place_words 0 cs ++ (rows near_words 0 ns ++ (line end_words ∷ [])))

pub cycle_shape : (v : Version) (h : Head) → IsPlain v h → (c : Cert) → IsCert c → (t : List (List ℕ)) → lines_of c ≡ conflict_counts v h ++ t → CycleRest t
cycle_shape v h ih (Masks h' ps ss gs) is t e =
    let third : line (count_words h' (stitches_words (length ss))) ≡ line (count_words h []) = line_at 2 _ _ e in
    absurd (other_counts h' h (length ss) is.0 ih.head is.3 third)
cycle_shape v h ih (Conflict h' cs ns) is t e =
    record { cs = cs; ns = ns; fits = is.1; cs_fit = is.2; ns_len = is.3; ns_fit = is.4; rest = sym (ap (drop 3) e) }
cycle_shape v h ih (Fault name at) is t e = absurd (rule_is_no_fault h.rule h.overlap (named_corner v h.corner) name at (sym (line_at 1 _ _ e)))

pub record ConflictRest (n : ℕ) (t : List (List ℕ)) : Type 0 where
  pub cs : List PlaceLine
  pub ns : List NearLine
  pub cs_len : length cs ≡ n
  pub cs_fit : AllByRecursion IsPlace cs
  pub ns_len : length ns ≡ n
  pub ns_fit : AllByRecursion IsNear ns
  pub rest : t ≡ rows place_words 0 cs ++ (rows near_words 0 ns ++ (line end_words ∷ []))

conflict_shape : (v : Version) (h : Head) (n : ℕ) → IsPlain v h → IsCycleLength n → (c : Cert) → IsCert c → (t : List (List ℕ)) → lines_of c ≡ conflict_head v h n ++ t → ConflictRest n t
conflict_shape v h n ih len c is t e =
    let s = cycle_shape v h ih c is (line (cycle_words n) ∷ t) e in
    let rest = s.rest in
    let m = length s.cs in
    let same_line : line (cycle_words n) ≡ line (cycle_words m) = cc in
    let words : cycle_words n ≡ cycle_words m = line_injective _ _ (cycle_proper 0 (record { len = n }) (lit< tt) len)
    (cycle_proper 0 (record { len = m }) (lit< tt) s.fits) same_line in
    let number : decimal n ≡ decimal m = cc in
    let same : n ≡ m = decimal_injective n m len.fits s.fits.fits number in
    record { cs = s.cs; ns = s.ns; cs_len = sym same; cs_fit = s.cs_fit; ns_len = s.ns_len ∙ sym same; ns_fit = s.ns_fit; rest = ap (drop 1) rest }

conflict_lines : (v : Version) (h : Head) (n : ℕ) (cs : List PlaceLine) (ns : List NearLine) → IsPlain v h → length cs ≡ n
    → lines_of (Conflict h cs ns) ≡ conflict_head v h n ++ (rows place_words 0 cs ++ (rows near_words 0 ns ++ (line end_words ∷ [])))
conflict_lines v h n cs ns ih e =
    ap (λ (w : Version). opening w h.rule h.overlap h.corner ++ (line (count_words h []) ∷ line (cycle_words (length cs))
    ∷ (rows place_words 0 cs ++ (rows near_words 0 ns ++ (line end_words ∷ []))))) (version_is v h ih.version None (ungained v ih.kind) None tt)
    ∙ ap (λ (m : ℕ). opening v h.rule h.overlap h.corner ++ (line (count_words h []) ∷ line (cycle_words m)
    ∷ (rows place_words 0 cs ++ (rows near_words 0 ns ++ (line end_words ∷ []))))) e

is_conflict : (v : Version) (h : Head) (n : ℕ) (cs : List PlaceLine) (ns : List NearLine) → IsPlain v h → IsCycleLength n → length cs ≡ n
    → AllByRecursion IsPlace cs → length ns ≡ n → AllByRecursion IsNear ns → IsCert (Conflict h cs ns)
is_conflict v h n cs ns ih len clen cfit nlen nfit = (ih.head, subst IsCycleLength (sym clen) len, cfit, nlen ∙ sym clen, nfit)

place0_fits : IsPlace place0
place0_fits = (lit< tt, no_point_fits)

near0_fits : IsNear near0
near0_fits = (no_point_fits, no_point_fits)

three : IsCycleLength 3
three = record { long = lit≤ tt; odd = (1, refl); fits = lit< tt }

-- the cycle's line is missing
pub conflict_cycle : (v : Version) (h : Head) → IsPlain v h → (ls : List (List ℕ)) → ((x : CycleCount) (t : List (List ℕ)) → IsCycleLength x.len
    → ls ≢ line (cycle_words x.len) ∷ t) → IsFirstBad (conflict_counts v h ++ ls) 4
conflict_cycle v h ih ls none =
    let cs = replicate 3 place0 in
    let ns = replicate 3 near0 in
    fails (conflict_counts v h) ls (line (cycle_words 3) ∷ (rows place_words 0 cs ++ (rows near_words 0 ns ++ (line end_words ∷ [])))) (Conflict h cs ns)
    (is_conflict v h 3 cs ns ih three refl (fits_replicate IsPlace 3 place0 place0_fits) refl (fits_replicate IsNear 3 near0 near0_fits))
    (conflict_lines v h 3 cs ns ih refl)
    (λ c is t e first.
    let s = cycle_shape v h ih c is t e in
    let q = first_is ls (line (cycle_words (length s.cs))) (rows place_words 0 s.cs ++ (rows near_words 0 s.ns ++ (line end_words ∷ []))) (first ∙ ap (take 1) s.rest) in
    none (record { len = length s.cs }) q.0 s.fits q.1)

pub conflict_places : (v : Version) (h : Head) (n : ℕ) → IsPlain v h → IsCycleLength n → (ls : List (List ℕ)) (f : CertFault)
    → StopsAt place_words IsPlace n 5 ls f → FailsAs (conflict_head v h n ++ ls) f
conflict_places v h n ih len ls f s =
    let ns = replicate n near0 in
    let nlen : length ns ≡ n = length-fill n near0 in
    stage place_words IsPlace (conflict_head v h n) ls n 5 f refl
    (λ xs fit xlen. (
      Conflict h xs ns,
      is_conflict v h n xs ns ih len xlen fit nlen (fits_replicate IsNear n near0 near0_fits),
      rows near_words 0 ns ++ (line end_words ∷ []),
      conflict_lines v h n xs ns ih xlen,
    ))
    (λ c is t e. let m = conflict_shape v h n ih len c is t e in (m.cs, m.cs_fit, m.cs_len, rows near_words 0 m.ns ++ (line end_words ∷ []), m.rest))
    place0 place0_fits s

abbrev pub conflict_prefix : Version → Head → ℕ → List PlaceLine → List (List ℕ)
conflict_prefix v h n cs = conflict_head v h n ++ rows place_words 0 cs

pub conflict_nears : (v : Version) (h : Head) (n : ℕ) (cs : List PlaceLine) → IsPlain v h → IsCycleLength n → length cs ≡ n → AllByRecursion IsPlace cs
    → (ls : List (List ℕ)) (at : ℕ) (f : CertFault) → at ≡ 5 + n
    → StopsAt near_words IsNear n at ls f → FailsAs (conflict_prefix v h n cs ++ ls) f
conflict_nears v h n cs ih len clen cfit ls at f start s =
    stage near_words IsNear (conflict_prefix v h n cs) ls n at f (omega (arith, start, clen, length-rows place_words 0 cs))
    (λ xs fit xlen. (
      Conflict h cs xs,
      is_conflict v h n cs xs ih len clen cfit xlen fit,
      line end_words ∷ [],
      conflict_lines v h n cs xs ih clen
          ∙ sym (append_assoc (conflict_head v h n) (rows place_words 0 cs) (rows near_words 0 xs ++ (line end_words ∷ []))),
    ))
    (λ c is t e. let m = conflict_shape v h n ih len c is (rows place_words 0 cs ++ t) (e ∙ append_assoc (conflict_head v h n) (rows place_words 0 cs) t) in
    (m.ns, m.ns_fit, m.ns_len, line end_words ∷ [], rows_same place_words 0 cs m.cs t (rows near_words 0 m.ns ++ (line end_words ∷ [])) (clen ∙ sym m.cs_len) m.rest))
    near0 near0_fits s

pub conflict_end : (v : Version) (h : Head) (n : ℕ) (cs : List PlaceLine) (ns : List NearLine) → IsPlain v h → IsCycleLength n → length cs ≡ n
    → AllByRecursion IsPlace cs → length ns ≡ n → AllByRecursion IsNear ns
    → (ls : List (List ℕ)) (at : ℕ) (f : CertFault) → at ≡ 5 + n + n → EndsAt at ls (Err f) → FailsAs ((conflict_prefix v h n cs ++ rows near_words 0 ns) ++ ls) f
conflict_end v h n cs ns ih len clen cfit nlen nfit ls at f start s =
    let done = conflict_prefix v h n cs ++ rows near_words 0 ns in
    end_stage done ls at f (Conflict h cs ns)
    (omega (
      arith,
      start,
      clen,
      nlen,
      length-append (conflict_prefix v h n cs) (rows near_words 0 ns),
      length-rows place_words 0 cs,
      length-rows near_words 0 ns,
    ))
    (is_conflict v h n cs ns ih len clen cfit nlen nfit)
    (conflict_lines v h n cs ns ih clen
    ∙ sym (append_assoc (conflict_head v h n) (rows place_words 0 cs) (rows near_words 0 ns ++ (line end_words ∷ [])))
    ∙ sym (append_assoc (conflict_prefix v h n cs) (rows near_words 0 ns) (line end_words ∷ [])))
    (λ c is t e.
    let m = conflict_shape v h n ih len c is (rows place_words 0 cs ++ (rows near_words 0 ns ++ t))
    (e ∙ append_assoc (conflict_prefix v h n cs) (rows near_words 0 ns) t ∙ append_assoc (conflict_head v h n) (rows place_words 0 cs)
    (rows near_words 0 ns ++ t)) in
    let one = rows_same place_words 0 cs m.cs (rows near_words 0 ns ++ t) (rows near_words 0 m.ns ++ (line end_words ∷ [])) (clen ∙ sym m.cs_len) m.rest in
    rows_same near_words 0 ns m.ns t (line end_words ∷ []) (nlen ∙ sym m.ns_len) one)
    s

-- all lines of a conflict
pub conflict_all : (v : Version) (h : Head) (n : ℕ) (cs : List PlaceLine) (ns : List NearLine) → IsPlain v h → IsCycleLength n → length cs ≡ n
    → AllByRecursion IsPlace cs → length ns ≡ n → AllByRecursion IsNear ns
    → (l0 l1 l2 l3 : List (List ℕ)) → l0 ≡ line (cycle_words n) ∷ l1 → l1 ≡ rows place_words 0 cs ++ l2 → l2 ≡ rows near_words 0 ns ++ l3 → l3 ≡ line end_words ∷ []
    → IsCert (Conflict h cs ns) × (conflict_counts v h ++ l0 ≡ lines_of (Conflict h cs ns))
conflict_all v h n cs ns ih len clen cfit nlen nfit l0 l1 l2 l3 e0 e1 e2 e3 = (
  is_conflict v h n cs ns ih len clen cfit nlen nfit,
  ap (λ (x : List (List ℕ)). conflict_counts v h ++ x) (e0 ∙ ap (λ (x : List (List ℕ)). line (cycle_words n) ∷ x)
      (e1 ∙ ap (λ (x : List (List ℕ)). rows place_words 0 cs ++ x) (e2 ∙ ap (λ (x : List (List ℕ)). rows near_words 0 ns ++ x) e3)))
      ∙ sym (conflict_lines v h n cs ns ih clen),
)
