-- Certificates of faults, and where the first lines fail.
use Rattle.std.proofs.Common.{◌≡◌, ◌≢◌, ℕ, List, [], ◌∷◌, ◌++◌, length, take, drop, Option, Some, None, Err, refl, sym, ap, ◌∙◌, lit<, lit≤}
use Rattle.dpl_cert.specs.declared.name.Name.{Name}
use Rattle.dpl_cert.specs.declared.name.Name.TheVariants.{TooLarge}
use Rattle.dpl_cert.specs.declared.cert.Head.{Head}
use Rattle.dpl_cert.specs.declared.cert.Cert.{Cert}
use Rattle.dpl_cert.specs.declared.cert.Cert.TheVariants.{Masks, Conflict, Fault}
use Rattle.dpl_cert.specs.declared.cert.Version.{Version}
use Rattle.dpl_cert.specs.declared.cert.Version.TheVariants.{One, Two, Three}
use Rattle.dpl_parse.specs.declared.heads.Second.{Second}
use Rattle.dpl_parse.specs.declared.heads.Second.TheVariants.{Rule, Refused}
use Rattle.dpl_parse.specs.declared.heads.Counts.{Counts}
use Rattle.dpl_parse.specs.declared.fault.CertFault.{CertFault}
use Rattle.dpl_cert.specs.Lines.{line}
use Rattle.dpl_cert.specs.Grammar.{lines_of, version, version_words, opening, named_corner, rule_words, fault_words, end_words}
use Rattle.dpl_cert.specs.Grammar.{IsCert, IsHead, IsNumber, IsRule}
use Rattle.dpl_parse.specs.Reading.{EndsAt, FailsAs, IsFirstBad}
use Rattle.dpl_parse.specs.Heads.{masks_head, counts_words, AreCounts, AreCountsOf, second_words, IsSecond, Follows, IsOfVersion, IsCornerOf, IsGainedBy}
use Rattle.dpl_parse.proofs.Prefixes.{fails, first_is, end_stage}
use Rattle.dpl_parse.proofs.Rising.{some_gains, some_gains_fit, some_gains_many}
use Rattle.dpl_parse.proofs.Versions.{version_same, is_version, counts_of_conflict, counts_of_masks, gained_fits, second_fits}
use Rattle.dpl_parse.proofs.Shapes.{line_at, rule_is_no_fault, masks_lines, masks_tail, IsBegun}

abbrev pub fault_head : Name → ℕ → List (List ℕ)
fault_head name at = line (version_words One) ∷ line (fault_words name at) ∷ []

pub fault_end : (name : Name) (at : ℕ) → IsNumber at → (ls : List (List ℕ)) (f : CertFault) → EndsAt 3 ls (Err f) → FailsAs (fault_head name at ++ ls) f
fault_end name at is ls f s = end_stage (fault_head name at) ls 3 f (Fault name at) refl is refl (ends name at) s
  where
    ends : (name : Name) (at : ℕ) (c : Cert) → IsCert c → (t : List (List ℕ)) → lines_of c ≡ fault_head name at ++ t → t ≡ line end_words ∷ []
    ends name at (Masks h ps ss gs) is t e = absurd (rule_is_no_fault h.rule h.overlap (named_corner (version h gs) h.corner) name at (line_at 1 _ _ e))
    ends name at (Conflict h cs ns) is t e = absurd (rule_is_no_fault h.rule h.overlap (named_corner (version h None) h.corner) name at (line_at 1 _ _ e))
    ends name at (Fault name' at') is t e = sym (ap (drop 2) e)

-- a head that counts nothing
abbrev pub empty_head : ℕ → ℕ → ℕ → Head
empty_head r m c = record { rule = r; overlap = m; corner = c; features = 0; pieces = 0; zones = 0 }

some_count : Version → Option ℕ
some_count One = None
some_count Two = None
some_count Three = Some 0

some_count_fits : (v : Version) → IsGainedBy v (some_count v)
unfolding some_count
some_count_fits One = refl
some_count_fits Two = refl
some_count_fits Three = lit< tt

some_head : (r m c : ℕ) → IsRule r → IsRule m → IsCornerOf r (Some c) → IsHead (empty_head r m c)
some_head r m c ir im ic = record { rule = ir; overlap = im; corner = ic; features = lit< tt; pieces = lit< tt; zones = lit< tt }

begun : (v : Version) (r m c : ℕ) → IsRule r → IsRule m → IsCornerOf r (Some c) → IsOfVersion v r c → IsBegun v (empty_head r m c) 0 (some_count v)
begun v r m c ir im ic iv = record { head = some_head r m c ir im ic; version = iv; stitches = lit< tt; gains = some_count_fits v }

-- masks of nothing
some_masks : Version → Head → Cert
some_masks v h = Masks h [] [] (some_gains (some_count v))

some_fits : (v : Version) (r m c : ℕ) → IsRule r → IsRule m → IsCornerOf r (Some c) → IsOfVersion v r c → IsCert (some_masks v (empty_head r m c))
unfolding some_masks
some_fits v r m c ir im ic iv = (
  some_head r m c ir im ic,
  refl,
  tt,
  lit< tt,
  tt,
  some_gains_fit (some_count v) (gained_fits v (some_count v) (some_count_fits v)),
)

some_lines : (v : Version) (r m c : ℕ) → IsRule r → IsRule m → IsCornerOf r (Some c) → IsOfVersion v r c
    → lines_of (some_masks v (empty_head r m c)) ≡ masks_head v (empty_head r m c) 0 (some_count v) ++ masks_tail [] [] (some_gains (some_count v))
unfolding some_masks
some_lines v r m c ir im ic iv =
    masks_lines v (empty_head r m c) 0 (some_count v) [] [] (some_gains (some_count v)) (begun v r m c ir im ic iv) refl (some_gains_many (some_count v))

counts_none : (v : Version) (r m c : ℕ) (ls : List (List ℕ)) → ((x : Counts) (t : List (List ℕ)) → AreCounts x → AreCountsOf v x.stitches → ls ≢ line (counts_words 0 x) ∷ t)
    → (d : Cert) → IsCert d → (t : List (List ℕ)) → lines_of d ≡ opening v r m c ++ t → take 1 ls ≡ take 1 t → ⊥
counts_none v r m c ls none (Masks h ps ss gs) is t e first =
    let x : Counts = record { features = h.features; pieces = h.pieces; zones = h.zones; stitches = Some (length ss) } in
    let q = first_is ls (line (counts_words 0 x)) (drop 3 (lines_of (Masks h ps ss gs))) (first ∙ ap (take 1) (sym (ap (drop 2) e))) in
    none x q.0 (record { features = is.0.features; pieces = is.0.pieces; zones = is.0.zones; stitches = is.3 }) (counts_of_masks v (length ss)) q.1
counts_none v r m c ls none (Conflict h cs ns) is t e first =
    let x : Counts = record { features = h.features; pieces = h.pieces; zones = h.zones; stitches = None } in
    let q = first_is ls (line (counts_words 0 x)) (drop 3 (lines_of (Conflict h cs ns))) (first ∙ ap (take 1) (sym (ap (drop 2) e))) in
    none x q.0 (record { features = is.0.features; pieces = is.0.pieces; zones = is.0.zones; stitches = tt })
    (counts_of_conflict v h (version_same (version h None) v (line_at 0 _ _ e))) q.1
counts_none v r m c ls none (Fault name at) is t e first = rule_is_no_fault r m (named_corner v c) name at (sym (line_at 1 _ _ e))

pub ruled_counts : (v : Version) (r m c : ℕ) → IsRule r → IsRule m → IsCornerOf r (Some c) → IsOfVersion v r c → (ls : List (List ℕ))
    → ((x : Counts) (t : List (List ℕ)) → AreCounts x → AreCountsOf v x.stitches → ls ≢ line (counts_words 0 x) ∷ t) → IsFirstBad (opening v r m c ++ ls) 3
ruled_counts v r m c ir im ic iv ls none =
    fails (opening v r m c) ls (drop 2 (masks_head v (empty_head r m c) 0 (some_count v)) ++ masks_tail [] [] (some_gains (some_count v)))
    (some_masks v (empty_head r m c)) (some_fits v r m c ir im ic iv) (some_lines v r m c ir im ic iv) (counts_none v r m c ls none)

second_refused : (v : Version) (ls : List (List ℕ)) → ((x : Second) (t : List (List ℕ)) → IsSecond x → Follows v x → ls ≢ line (second_words 0 x) ∷ t)
    → (h : Head) → IsHead h → (w : Version) → w ≡ v → IsOfVersion w h.rule h.corner → (t : List (List ℕ))
    → take 1 ls ≡ take 1 (line (rule_words h.rule h.overlap (named_corner w h.corner)) ∷ t) → ⊥
second_refused v ls none h ih w same is t first =
    let x : Second = Rule h.rule h.overlap (named_corner w h.corner) in
    let fits = second_fits w h ih is in
    let q = first_is ls (line (second_words 0 x)) t first in
    none x q.0 fits.0 (rw (← same) fits.1) q.1

fault_follows : (v : Version) (name : Name) (at : ℕ) → One ≡ v → Follows v (Refused name at)
fault_follows One name at e = tt
fault_follows Two name at e = absurd cc
fault_follows Three name at e = absurd cc

second_none : (v : Version) (ls : List (List ℕ)) → ((x : Second) (t : List (List ℕ)) → IsSecond x → Follows v x → ls ≢ line (second_words 0 x) ∷ t)
    → (c : Cert) → IsCert c → (t : List (List ℕ)) → lines_of c ≡ line (version_words v) ∷ t → take 1 ls ≡ take 1 t → ⊥
second_none v ls none (Masks h ps ss gs) is t e first = second_refused v ls none h is.0 (version h gs) (version_same (version h gs) v (line_at 0 _ _ e))
    (is_version h gs is.0) (drop 2 (lines_of (Masks h ps ss gs))) (first ∙ ap (take 1) (sym (ap (drop 1) e)))
second_none v ls none (Conflict h cs ns) is t e first = second_refused v ls none h is.0 (version h None) (version_same (version h None) v (line_at 0 _ _ e))
    (is_version h None is.0) (drop 2 (lines_of (Conflict h cs ns))) (first ∙ ap (take 1) (sym (ap (drop 1) e)))
second_none v ls none (Fault name at) is t e first =
    let q = first_is ls (line (fault_words name at)) (line end_words ∷ []) (first ∙ ap (take 1) (sym (ap (drop 1) e))) in
    none (Refused name at) q.0 is (fault_follows v name at (version_same One v (line_at 0 _ _ e))) q.1

some_fault : Cert
some_fault = Fault TooLarge 0

pub no_second : (v : Version) (ls : List (List ℕ)) → ((x : Second) (t : List (List ℕ)) → IsSecond x → Follows v x → ls ≢ line (second_words 0 x) ∷ t)
    → IsFirstBad (line (version_words v) ∷ ls) 2
unfolding some_fault
no_second One ls none = fails (line (version_words One) ∷ []) ls (drop 1 (lines_of some_fault)) some_fault (lit< tt) refl (second_none One ls none)
no_second Two ls none =
    let masks = some_masks Two (empty_head 2 1 1) in
    let r : IsRule 2 = (lit≤ tt, lit≤ tt) in
    let m : IsRule 1 = (lit≤ tt, lit≤ tt) in
    let lines = some_lines Two 2 1 1 r m (lit≤ tt, lit≤ tt) (lit< tt) in
    fails (line (version_words Two) ∷ []) ls (drop 1 (lines_of masks)) masks (some_fits Two 2 1 1 r m (lit≤ tt, lit≤ tt) (lit< tt))
    (lines ∙ ap (λ (ls : List (List ℕ)). line (version_words Two) ∷ drop 1 ls) (sym lines)) (second_none Two ls none)
no_second Three ls none =
    let masks = some_masks Three (empty_head 1 1 1) in
    let r : IsRule 1 = (lit≤ tt, lit≤ tt) in
    let lines = some_lines Three 1 1 1 r r (lit≤ tt, lit≤ tt) tt in
    fails (line (version_words Three) ∷ []) ls (drop 1 (lines_of masks)) masks (some_fits Three 1 1 1 r r (lit≤ tt, lit≤ tt) tt)
    (lines ∙ ap (λ (ls : List (List ℕ)). line (version_words Three) ∷ drop 1 ls) (sym lines)) (second_none Three ls none)

first_line : (c : Cert) → (v : Version) × (t : List (List ℕ)) × (lines_of c ≡ line (version_words v) ∷ t)
first_line (Masks h ps ss gs) = (version h gs, drop 1 (lines_of (Masks h ps ss gs)), refl)
first_line (Conflict h cs ns) = (version h None, drop 1 (lines_of (Conflict h cs ns)), refl)
first_line (Fault name at) = (One, drop 1 (lines_of (Fault name at)), refl)

pub no_version : (ls : List (List ℕ)) → ((v : Version) (t : List (List ℕ)) → ls ≢ line (version_words v) ∷ t) → IsFirstBad ls 1
unfolding some_fault
no_version ls none = fails [] ls (lines_of some_fault) some_fault (lit< tt) refl (λ c is t e first.
    let l = first_line c in
    let q = first_is ls (line (version_words l.0)) l.1 (first ∙ ap (take 1) (sym e ∙ l.2)) in none l.0 q.0 q.1)
