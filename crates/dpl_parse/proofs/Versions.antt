-- Which version a certificate has.
use Rattle.std.proofs.Common.{◌≡◌, ℕ, ◌<◌, eqb, true, false, List, [], ◌++◌, length, get_or, drop, Option, Some, None, refl, ap, arith, lit<, inl, inr}
use Rattle.std.proofs.lemmas.Bool.{eqb-false, eqb-true, cases_Bool}
use Rattle.std.proofs.lemmas.Bool.Decides.{eqb_tells}
use Rattle.std.proofs.lemmas.Fmt.{decimal_injective}
use Rattle.dpl_cert.specs.declared.cert.Head.{Head}
use Rattle.dpl_cert.specs.declared.cert.Gain.{Gain}
use Rattle.dpl_cert.specs.declared.cert.Version.{Version}
use Rattle.dpl_cert.specs.declared.cert.Version.TheVariants.{One, Two, Three}
use Rattle.dpl_parse.specs.declared.heads.Second.TheVariants.{Rule, Refused}
use Rattle.dpl_cert.specs.Lines.{line}
use Rattle.dpl_cert.specs.Grammar.{version, version_words, digit, named_corner, gain_count, gains_words, rule_words, IsHead, IsRule, IsNumber, AreGains}
use Rattle.dpl_parse.specs.Heads.{IsSecond, Follows, IsOfVersion, IsCornerOf, corner_or, AreCountsOf, IsGainedBy, AreAsMany, AreStitches, gains_left}
use Rattle.dpl_parse.specs.SpelledHeads.{version_proper, gains_proper}
use Rattle.dpl_parse.proofs.Texts.{line_injective}

digit_same : (v w : Version) → digit v ≡ digit w → v ≡ w
digit_same One One e = refl
digit_same Two Two e = refl
digit_same Three Three e = refl
digit_same One Two e = let n : ◌≡◌ {A = ℕ} 49 50 = ap (λ (l : List ℕ). get_or l 0 0) e in absurd (omega (arith, n))
digit_same One Three e = let n : ◌≡◌ {A = ℕ} 49 51 = ap (λ (l : List ℕ). get_or l 0 0) e in absurd (omega (arith, n))
digit_same Two One e = let n : ◌≡◌ {A = ℕ} 50 49 = ap (λ (l : List ℕ). get_or l 0 0) e in absurd (omega (arith, n))
digit_same Two Three e = let n : ◌≡◌ {A = ℕ} 50 51 = ap (λ (l : List ℕ). get_or l 0 0) e in absurd (omega (arith, n))
digit_same Three One e = let n : ◌≡◌ {A = ℕ} 51 49 = ap (λ (l : List ℕ). get_or l 0 0) e in absurd (omega (arith, n))
digit_same Three Two e = let n : ◌≡◌ {A = ℕ} 51 50 = ap (λ (l : List ℕ). get_or l 0 0) e in absurd (omega (arith, n))

pub version_same : (v w : Version) → line (version_words v) ≡ line (version_words w) → v ≡ w
version_same v w e =
    let words : version_words v ≡ version_words w = line_injective _ _ (version_proper 0 v (lit< tt) tt) (version_proper 0 w (lit< tt) tt) e in
    digit_same v w (ap (λ (l : List (List ℕ)). get_or l 1 []) words)

-- a certificate's version is one of its head
pub is_version : (h : Head) (gs : Option (List Gain)) → IsHead h → IsOfVersion (version h gs) h.rule h.corner
is_version h (Some gs) ih = tt
is_version h None ih =
    elim (cases_Bool (eqb h.corner h.rule)) [
      | inl y ↦ rw y (eqb-true h.corner h.rule y)
      | inr n ↦ rw n (let other = eqb-false h.corner h.rule n in let c = ih.corner in omega (arith, other, c))
    ]

equal_test : (a b : ℕ) → a ≡ b → eqb a b ≡ true
equal_test a b e = elim (eqb_tells a b) [ inl t ↦ t.0 | inr f ↦ absurd (f.1 e) ]

differ_test : (a b : ℕ) → a < b → eqb a b ≡ false
differ_test a b h = elim (eqb_tells a b) [ inl t ↦ absurd (omega (arith, h, t.1)) | inr f ↦ f.0 ]

pub version_is : (v : Version) (h : Head) → IsOfVersion v h.rule h.corner → (g : Option ℕ) → IsGainedBy v g → (gs : Option (List Gain)) → AreAsMany g gs → version h gs ≡ v
version_is One h is None gained None many = rw (equal_test h.corner h.rule is) refl
version_is One h is None gained (Some gs) many = absurd many
version_is One h is (Some n) gained gs many = absurd cc
version_is Two h is None gained None many = rw (differ_test h.corner h.rule is) refl
version_is Two h is None gained (Some gs) many = absurd many
version_is Two h is (Some n) gained gs many = absurd cc
version_is Three h is None gained gs many = absurd gained
version_is Three h is (Some n) gained None many = absurd many
version_is Three h is (Some n) gained (Some gs) many = refl

-- without gains it isn't version 3
pub third_has_gains : (h : Head) → version h None ≡ Three → ⊥
third_has_gains h e =
    elim (cases_Bool (eqb h.corner h.rule)) [
      | inl y ↦ let same : One ≡ Three = rw y at e in absurd cc
      | inr n ↦ let same : Two ≡ Three = rw n at e in absurd cc
    ]

pub counts_of_conflict : (v : Version) (h : Head) → version h None ≡ v → AreCountsOf v None
counts_of_conflict One h e = tt
counts_of_conflict Two h e = tt
counts_of_conflict Three h e = absurd (third_has_gains h e)

pub counts_of_masks : (v : Version) (k : ℕ) → AreCountsOf v (Some k)
counts_of_masks One k = tt
counts_of_masks Two k = tt
counts_of_masks Three k = tt

pub ungained : (v : Version) → AreCountsOf v None → IsGainedBy v None
ungained One h = refl
ungained Two h = refl
ungained Three h = absurd h

pub gained_fits : (v : Version) (g : Option ℕ) → IsGainedBy v g → AreStitches g
gained_fits v None h = tt
gained_fits One (Some n) h = absurd cc
gained_fits Two (Some n) h = absurd cc
gained_fits Three (Some n) h = h

gains_same : (m n : ℕ) → IsNumber m → IsNumber n → line (gains_words m) ≡ line (gains_words n) → m ≡ n
gains_same m n f g e =
    let words : gains_words m ≡ gains_words n = line_injective _ _ (gains_proper 0 (record { len = m }) (lit< tt) f)
    (gains_proper 0 (record { len = n }) (lit< tt) g) e in
    decimal_injective m n f g cc

-- how many gains there are, by the lines before the pieces
pub gains_split : (v : Version) (g : Option ℕ) (h : Head) (gs : Option (List Gain)) (rest t : List (List ℕ)) → version h gs ≡ v → IsGainedBy v g → AreGains gs
    → gain_count gs ++ rest ≡ gains_left g ++ t → AreAsMany g gs × (rest ≡ t)
gains_split One None h None rest t is gained fit e = (tt, e)
gains_split Two None h None rest t is gained fit e = (tt, e)
gains_split One None h (Some gs) rest t is gained fit e = absurd cc
gains_split Two None h (Some gs) rest t is gained fit e = absurd cc
gains_split One (Some n) h gs rest t is gained fit e = absurd cc
gains_split Two (Some n) h gs rest t is gained fit e = absurd cc
gains_split Three None h gs rest t is gained fit e = absurd gained
gains_split Three (Some n) h None rest t is gained fit e = absurd (third_has_gains h is)
gains_split Three (Some n) h (Some gs) rest t is gained fit e =
    (gains_same (length gs) n fit.0 gained (ap (λ (ls : List (List ℕ)). get_or ls 0 []) e), ap (drop 1) e)

-- the second line of a version
pub second_fits : (v : Version) (h : Head) → IsHead h → IsOfVersion v h.rule h.corner
    → IsSecond (Rule h.rule h.overlap (named_corner v h.corner)) × Follows v (Rule h.rule h.overlap (named_corner v h.corner))
second_fits One h ih is = ((ih.rule, ih.overlap, tt), tt)
second_fits Two h ih is = ((ih.rule, ih.overlap, ih.corner), is)
second_fits Three h ih is = ((ih.rule, ih.overlap, ih.corner), tt)

pub opened : (v : Version) (r m : ℕ) (o : Option ℕ) → Follows v (Rule r m o) → rule_words r m o ≡ rule_words r m (named_corner v (corner_or r o))
opened One r m None is = refl
opened One r m (Some c) is = absurd is
opened Two r m None is = absurd is
opened Two r m (Some c) is = refl
opened Three r m None is = absurd is
opened Three r m (Some c) is = refl

pub opened_version : (v : Version) (r m : ℕ) (o : Option ℕ) → Follows v (Rule r m o) → IsOfVersion v r (corner_or r o)
opened_version One r m None is = refl
opened_version One r m (Some c) is = absurd is
opened_version Two r m None is = absurd is
opened_version Two r m (Some c) is = is
opened_version Three r m None is = absurd is
opened_version Three r m (Some c) is = tt

pub opened_corner : (r : ℕ) (o : Option ℕ) → IsRule r → IsCornerOf r o → IsCornerOf r (Some (corner_or r o))
opened_corner r None is f = (is.0, omega arith)
opened_corner r (Some c) is f = f

pub of_fault : (v : Version) (name : _) (at : ℕ) → Follows v (Refused name at) → v ≡ One
of_fault One name at is = refl
of_fault Two name at is = absurd is
of_fault Three name at is = absurd is
