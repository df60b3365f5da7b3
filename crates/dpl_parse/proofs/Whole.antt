-- Whole texts and their lines.
use Rattle.std.proofs.Common.{◌≡◌, ℕ, ◌+◌, ◌^◌, ◌<◌, ◌≤◌, eqb, List, [], ◌∷◌, ◌++◌, length, take, Option, Some, None, Result, Ok, Err, refl, sym, ap, ◌∙◌, append_assoc, arith, inl, inr, lit<}
use Rattle.std.specs.Prelude.{IfOk, IfErr}
use Rattle.std.specs.List.{AllByRecursion, onto_first, join_with_byte, concat}
use Rattle.std.proofs.lemmas.Bool.{cases_Bool, eqb-true}
use Rattle.dpl_cert.specs.declared.cert.Head.{Head}
use Rattle.dpl_cert.specs.declared.cert.Cert.{Cert}
use Rattle.dpl_cert.specs.declared.cert.Cert.TheVariants.{Masks, Conflict, Fault}
use Rattle.dpl_parse.specs.declared.fault.CertFault.{CertFault}
use Rattle.dpl_parse.specs.declared.fault.CertFault.TheVariants.{NoMemory, BadLine}
use Rattle.dpl_cert.specs.declared.cert.Gain.{Gain}
use Rattle.dpl_cert.specs.declared.cert.Version.{Version}
use Rattle.dpl_cert.specs.declared.cert.Version.TheVariants.{One}
use Rattle.dpl_parse.specs.declared.heads.Second.TheVariants.{Rule, Refused}
use Rattle.dpl_cert.specs.Lines.{line, lines, text, AreWords}
use Rattle.dpl_cert.specs.Grammar.{rows, lines_of, opening, version, version_words, named_corner, rule_words, fault_words, count_words, stitches_words}
use Rattle.dpl_cert.specs.Grammar.{cycle_words, gains_words, gain_words, gain_count, gain_rows, IsGain, AreGains, AreRising}
use Rattle.dpl_parse.specs.Heads.{IsOfVersion}
use Rattle.dpl_cert.specs.Grammar.{piece_words, stitch_words, place_words, near_words, end_words, IsCert, IsText, IsHead, IsPiece, IsStitch}
use Rattle.dpl_cert.specs.Grammar.{IsPlace, IsNear}
use Rattle.dpl_parse.specs.SpelledHeads.{version_proper, second_proper, cycle_proper, gains_proper}
use Rattle.dpl_parse.specs.Spelled.{piece_proper, stitch_proper, place_proper, near_proper, gain_proper}
use Rattle.dpl_parse.specs.Reading.{Answers, FailsAs, BeginsLike, Begins, IsRefusal}
use Rattle.dpl_parse.proofs.Texts.{lines_at, joined_lacks}
use Rattle.dpl_parse.proofs.Versions.{is_version, second_fits}
use Rattle.dpl_parse.proofs.Shapes.{masks_counts_words, conflict_counts_words}

concat-onto : (b : ℕ) (ls : List (List ℕ)) → concat (onto_first b ls) ≡ b ∷ concat ls
concat-onto b [] = refl
concat-onto b (l ∷ ls) = refl

-- a text is its lines, one after another
pub text-lines : (bytes : List ℕ) → text (lines bytes) ≡ bytes
text-lines [] = refl
text-lines (b ∷ bs) =
    elim (cases_Bool (eqb b 10)) [
      | inl y ↦ let same : b ≡ 10 = eqb-true b 10 y in rw y (ap (λ (t : List ℕ). 10 ∷ t) (text-lines bs) ∙ ap (λ (x : ℕ). x ∷ bs) (sym same))
      | inr n ↦ rw n (concat-onto b (lines bs) ∙ ap (λ (t : List ℕ). b ∷ t) (text-lines bs))
    ]

abbrev IsLine : List ℕ → Type 0
IsLine l = (ws : List (List ℕ)) × AreWords ws × (l ≡ line ws)

line_first : (l rest : List ℕ) → IsLine l → lines (l ++ rest) ≡ l ∷ lines rest
line_first l rest (ws, are, e) =
    let joined = join_with_byte 32 ws in
    ap (λ (x : List ℕ). lines (x ++ rest)) e ∙ ap lines (append_assoc joined (10 ∷ []) rest) ∙ lines_at joined rest (joined_lacks ws are)
    ∙ ap (λ (x : List ℕ). x ∷ lines rest) (sym e)

lines-concat : (ls : List (List ℕ)) → AllByRecursion IsLine ls → lines (concat ls) ≡ ls
lines-concat [] h = refl
lines-concat (l ∷ ls) h = line_first l (concat ls) h.0 ∙ ap (λ (x : List (List ℕ)). l ∷ x) (lines-concat ls h.1)

is_line : (ws : List (List ℕ)) → AreWords ws → IsLine (line ws)
is_line ws h = (ws, h, refl)

rows_lines : {A : Type 0} (w : ℕ → A → List (List ℕ)) (P : A → Type 0) → ((n : ℕ) (x : A) → n < 2 ^ 64 → P x → AreWords (w n x))
    → (n : ℕ) (xs : List A) (tail : List (List ℕ)) → n + length xs ≤ 2 ^ 64 → AllByRecursion P xs → AllByRecursion IsLine tail
    → AllByRecursion IsLine (rows w n xs ++ tail)
rows_lines w P proper n [] tail room fit more = more
rows_lines w P proper n (x ∷ xs) tail room fit more = (
  is_line (w n x) (proper n x (omega (arith, room)) fit.0),
  rows_lines w P proper (n + 1) xs tail (omega (arith, room)) fit.1 more,
)

end_line : AllByRecursion IsLine (line end_words ∷ [])
end_line = ((end_words, refl, refl), tt)

-- the first two lines
opening_lines : (v : Version) (h : Head) (tail : List (List ℕ)) → IsHead h → IsOfVersion v h.rule h.corner → AllByRecursion IsLine tail
    → AllByRecursion IsLine (opening v h.rule h.overlap h.corner ++ tail)
opening_lines v h tail ih is more = (
  is_line (version_words v) (version_proper 0 v (lit< tt) tt),
  (
    is_line (rule_words h.rule h.overlap (named_corner v h.corner))
        (second_proper 0 (Rule h.rule h.overlap (named_corner v h.corner)) (lit< tt) (second_fits v h ih is).0),
    more,
  ),
)

gain_count_lines : (gs : Option (List Gain)) (tail : List (List ℕ)) → AreGains gs → AllByRecursion IsLine tail → AllByRecursion IsLine (gain_count gs ++ tail)
gain_count_lines None tail fit more = more
gain_count_lines (Some gs) tail fit more = (is_line (gains_words (length gs)) (gains_proper 0 (record { len = length gs }) (lit< tt) fit.0), more)

rising_fit : (least : ℕ) (gs : List Gain) → AreRising least gs → AllByRecursion IsGain gs
rising_fit least [] h = tt
rising_fit least (g ∷ gs) h = (h.0, rising_fit (g.piece + 1) gs h.2)

gain_lines : (gs : Option (List Gain)) (tail : List (List ℕ)) → AreGains gs → AllByRecursion IsLine tail → AllByRecursion IsLine (gain_rows gs ++ tail)
gain_lines None tail fit more = more
gain_lines (Some gs) tail fit more = rows_lines gain_words IsGain gain_proper 0 gs tail (omega (arith, fit.0)) (rising_fit 0 gs fit.1) more

cert_lines : (c : Cert) → IsCert c → AllByRecursion IsLine (lines_of c)
cert_lines (Masks h ps ss gs) is =
    opening_lines (version h gs) h (line (count_words h (stitches_words (length ss))) ∷ (gain_count gs
    ++ (rows piece_words 0 ps ++ (rows stitch_words 0 ss ++ (gain_rows gs ++ (line end_words ∷ [])))))) is.0 (is_version h gs is.0) (
      is_line (count_words h (stitches_words (length ss))) (masks_counts_words h (length ss) is.0 is.3),
      gain_count_lines gs _ is.5 (rows_lines piece_words IsPiece piece_proper 0 ps _ (omega (arith, is.1, is.0.pieces)) is.2
          (rows_lines stitch_words IsStitch stitch_proper 0 ss _ (omega (arith, is.3)) is.4 (gain_lines gs _ is.5 end_line))),
    )
cert_lines (Conflict h cs ns) is =
    opening_lines (version h None) h (line (count_words h []) ∷ line (cycle_words (length cs))
    ∷ (rows place_words 0 cs ++ (rows near_words 0 ns ++ (line end_words ∷ [])))) is.0 (is_version h None is.0) (
      is_line (count_words h []) (conflict_counts_words h is.0),
      (
        is_line (cycle_words (length cs)) (cycle_proper 0 (record { len = length cs }) (lit< tt) is.1),
        rows_lines place_words IsPlace place_proper 0 cs _ (omega (arith, is.1.fits)) is.2
            (rows_lines near_words IsNear near_proper 0 ns _ (omega (arith, is.3, is.1.fits)) is.4 end_line),
      ),
    )
cert_lines (Fault name at) is = (
  is_line (version_words One) (refl, refl),
  (is_line (fault_words name at) (second_proper 0 (Refused name at) (lit< tt) is), end_line),
)

-- the lines of a certificate's text are its lines
pub lines-text : (c : Cert) → IsCert c → lines (text (lines_of c)) ≡ lines_of c
lines-text c is = lines-concat (lines_of c) (cert_lines c is)

pub is_found : (bytes : List ℕ) (r : Result Cert CertFault) → Answers (lines bytes) r → IfOk r (λ c. IsText c bytes)
is_found bytes (Ok c) a = (a.0, sym (text-lines bytes) ∙ ap text a.1)
is_found bytes (Err e) a = tt

begins : (bytes : List ℕ) (n : ℕ) → BeginsLike (lines bytes) n → Begins bytes n
begins bytes n (c, is, e) = (c, text (lines_of c), (is, refl), e ∙ ap (take n) (sym (lines-text c is)))

begins_like : (bytes : List ℕ) (n : ℕ) → Begins bytes n → BeginsLike (lines bytes) n
begins_like bytes n (c, other, (is, e), same) = (c, is, same ∙ ap (take n) (ap lines e ∙ lines-text c is))

is_refusal : (bytes : List ℕ) (e : CertFault) → FailsAs (lines bytes) e → IsRefusal bytes e
is_refusal bytes NoMemory h = tt
is_refusal bytes (BadLine n) h = record { bad = λ b. h.bad (begins_like bytes n b); good = λ k lt. begins bytes k (h.good k lt) }

pub is_line_fault : (bytes : List ℕ) (r : Result Cert CertFault) → Answers (lines bytes) r → IfErr r (λ e. IsRefusal bytes e)
is_line_fault bytes (Ok c) a = tt
is_line_fault bytes (Err e) a = is_refusal bytes e a
