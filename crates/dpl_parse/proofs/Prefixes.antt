-- Where a text that is no certificate fails.
use Rattle.std.proofs.Common.{◌≡◌, ℕ, zero, suc, ◌+◌, ◌-◌, ◌<◌, List, [], ◌∷◌, ◌++◌, length, take, drop, Result, Ok, Err, refl, sym, ap}
use Rattle.std.proofs.Common.{subst, ◌∙◌, append_assoc, arith, inl, inr, add-zero, replicate}
use Rattle.std.proofs.lemmas.List.{take-append-drop, take-append-le, length-take, length-append, drop_all, append-nil}
use Rattle.std.proofs.Math.Seq.{take-append-add}
use Rattle.std.specs.Result.{IsErrAnd}
use Rattle.std.specs.List.{AllByRecursion}
use Rattle.dpl_cert.specs.declared.cert.Cert.{Cert}
use Rattle.dpl_parse.specs.declared.fault.CertFault.{CertFault}
use Rattle.dpl_parse.specs.declared.fault.CertFault.TheVariants.{NoMemory, BadLine}
use Rattle.dpl_cert.specs.Lines.{line}
use Rattle.dpl_cert.specs.Grammar.{rows, lines_of, end_words, IsCert}
use Rattle.dpl_parse.specs.Reading.{IsFirstBad, BeginsLike, FailsAs, Answers, StopsAt, EndsAt}
use Rattle.dpl_cert.proofs.Listing.{rows-append}

pub handed : (ls : List (List ℕ)) (r : Result Cert CertFault) (f : CertFault) → IsErrAnd r (λ e. e ≡ f) → FailsAs ls f → Answers ls r
handed ls (Ok c) f h k = absurd h
handed ls (Err e) f h k = subst (FailsAs ls) (sym h) k

pub first_is : (ls : List (List ℕ)) (l : List ℕ) (t : List (List ℕ)) → take 1 ls ≡ take 1 (l ∷ t) → (u : List (List ℕ)) × (ls ≡ l ∷ u)
first_is [] l t e = absurd cc
first_is (x ∷ ls) l t e = let same : x ≡ l = cc in (ls, ap (λ (y : List ℕ). y ∷ ls) same)

first_same : (ls more : List (List ℕ)) → (length ls ≡ 0 → more ≡ []) → take 1 ls ≡ take 1 (take 1 ls ++ more)
first_same [] more h = sym (ap (take 1) (h refl))
first_same (l ∷ ls) more h = refl

fails_bad : (done ls : List (List ℕ)) → ((c : Cert) → IsCert c → (t : List (List ℕ)) → lines_of c ≡ done ++ t → take 1 ls ≡ take 1 t → ⊥)
    → BeginsLike (done ++ ls) (length done + 1) → ⊥
fails_bad done ls none (c, is, e) =
    let all = lines_of c in
    let more = drop (length done + 1) all in
    let whole : all ≡ done ++ (take 1 ls ++ more) = sym (take-append-drop (length done + 1) all) ∙ ap (λ (x : List (List ℕ)). x ++ more)
    (sym e ∙ take-append-add done ls 1) ∙ append_assoc done (take 1 ls) more in
    let len = ap length e in
    let ended : length ls ≡ 0 → more ≡ [] = λ z. drop_all (length done + 1) all
    (omega (arith, len, z, length-take (length done + 1) (done ++ ls), length-take (length done + 1) all, length-append done ls)) in
    none c is (take 1 ls ++ more) whole (first_same ls more ended)

-- the lines up to done are those of a certificate, and no certificate has the next one after them
pub fails : (done ls t0 : List (List ℕ)) (c0 : Cert) → IsCert c0 → lines_of c0 ≡ done ++ t0
    → ((c : Cert) → IsCert c → (t : List (List ℕ)) → lines_of c ≡ done ++ t → take 1 ls ≡ take 1 t → ⊥) → IsFirstBad (done ++ ls) (length done + 1)
fails done ls t0 c0 is0 e0 none = record {
  bad = fails_bad done ls none;
  good = λ k lt. (c0, is0, take-append-le k done ls (omega arith) ∙ sym (ap (take k) e0 ∙ take-append-le k done t0 (omega arith)));
}

pub length-rows : {A : Type 0} (w : ℕ → A → List (List ℕ)) (n : ℕ) (xs : List A) → length (rows w n xs) ≡ length xs
length-rows w n [] = refl
length-rows w n (x ∷ xs) = ap suc (length-rows w (n + 1) xs)

-- the row after some rows
pub rows_after : {A : Type 0} (w : ℕ → A → List (List ℕ)) (P : A → Type 0) (n : ℕ) (prefix xs : List A) (tail t : List (List ℕ)) → length prefix < length xs → AllByRecursion P xs
    → rows w n xs ++ tail ≡ rows w n prefix ++ t → (x : A) × P x × (u : List (List ℕ)) × (t ≡ line (w (n + length prefix) x) ∷ u)
rows_after w P n [] [] tail t lt f e = absurd (omega arith)
rows_after w P n [] (x ∷ xs) tail t lt f e = (x, f.0, rows w (n + 1) xs ++ tail, sym e ∙ ap (λ (k : ℕ). line (w k x) ∷ (rows w (n + 1) xs ++ tail)) (sym (add-zero n)))
rows_after w P n (y ∷ prefix) [] tail t lt f e = absurd (omega arith)
rows_after w P n (y ∷ prefix) (x ∷ xs) tail t lt f e =
    let r = rows_after w P (n + 1) prefix xs tail t (omega arith) f.1 (ap (drop 1) e) in
    let same : n + 1 + length prefix ≡ n + suc (length prefix) = omega arith in
    (r.0, r.1, r.2, r.3 ∙ ap (λ (k : ℕ). line (w k r.0) ∷ r.2) same)

pub rows_same : {A : Type 0} (w : ℕ → A → List (List ℕ)) (n : ℕ) (xs ys : List A) (a b : List (List ℕ)) → length xs ≡ length ys → rows w n xs ++ a ≡ rows w n ys ++ b → a ≡ b
rows_same w n [] [] a b h e = e
rows_same w n [] (y ∷ ys) a b h e = absurd (omega (arith, h))
rows_same w n (x ∷ xs) [] a b h e = absurd (omega (arith, h))
rows_same w n (x ∷ xs) (y ∷ ys) a b h e = rows_same w (n + 1) xs ys a b (omega (arith, h)) (ap (drop 1) e)

pub fits_append : {A : Type 0} (P : A → Type 0) (xs ys : List A) → AllByRecursion P xs → AllByRecursion P ys → AllByRecursion P (xs ++ ys)
fits_append P [] ys h k = k
fits_append P (x ∷ xs) ys h k = (h.0, fits_append P xs ys h.1 k)

pub fits_replicate : {A : Type 0} (P : A → Type 0) (n : ℕ) (x : A) → P x → AllByRecursion P (replicate n x)
fits_replicate P zero x h = tt
fits_replicate P (suc n) x h = (h, fits_replicate P n x h)

pub length-fill : {A : Type 0} (n : ℕ) (x : A) → length (replicate n x) ≡ n
length-fill zero x = refl
length-fill (suc n) x = ap suc (length-fill n x)

-- some rows are missing
pub stage : {A : Type 0} (w : ℕ → A → List (List ℕ)) (P : A → Type 0) (done ls : List (List ℕ)) (count at : ℕ) (f : CertFault) → at ≡ length done + 1
    → ((xs : List A) → AllByRecursion P xs → length xs ≡ count → (c : Cert) × IsCert c × (t : List (List ℕ)) × (lines_of c ≡ done ++ (rows w 0 xs ++ t)))
    → ((c : Cert) → IsCert c → (t : List (List ℕ)) → lines_of c ≡ done ++ t → (xs : List A) × AllByRecursion P xs × (length xs ≡ count)
    × (u : List (List ℕ)) × (t ≡ rows w 0 xs ++ u))
    → (d : A) → P d → StopsAt w P count at ls f → FailsAs (done ++ ls) f
stage w P done ls count at NoMemory start wit shape d pd s = tt
stage {A} w P done ls count at (BadLine n) start wit shape d pd (prefix, rest, fit, lt, n-is, is, none) =
    let fill = replicate (count - length prefix) d in
    let filled : length (prefix ++ fill) ≡ count = omega (arith, length-append prefix fill, length-fill (count - length prefix) d) in
    let c0 = wit (prefix ++ fill) (fits_append P prefix fill fit (fits_replicate P (count - length prefix) d pd)) filled in
    let now = done ++ rows w 0 prefix in
    let e0 : lines_of c0.0 ≡ now ++ (rows w (0 + length prefix) fill ++ c0.2) =
    c0.3 ∙ ap (λ (x : List (List ℕ)). done ++ (x ++ c0.2)) (rows-append w 0 prefix fill) ∙ ap (λ (x : List (List ℕ)). done ++ x)
    (append_assoc (rows w 0 prefix) (rows w (0 + length prefix) fill) c0.2)
    ∙ sym (append_assoc done (rows w 0 prefix) (rows w (0 + length prefix) fill ++ c0.2)) in
    let refuse : (c : Cert) → IsCert c → (t : List (List ℕ)) → lines_of c ≡ now ++ t → take 1 rest ≡ take 1 t → ⊥ = λ c isc t e first.
    let s = shape c isc (rows w 0 prefix ++ t) (e ∙ append_assoc done (rows w 0 prefix) t) in
    let r = rows_after w P 0 prefix s.0 s.3 t (omega (arith, s.2, lt)) s.1 (sym s.4) in
    let same : 0 + length prefix ≡ length prefix = omega arith in
    let t-is : t ≡ line (w (length prefix) r.0) ∷ r.2 = r.3 ∙ ap (λ (k : ℕ). line (w k r.0) ∷ r.2) same in
    let q = first_is rest (line (w (length prefix) r.0)) r.2 (first ∙ ap (take 1) t-is) in
    none r.0 q.0 r.1 q.1
    in
    let bad = fails now rest (rows w (0 + length prefix) fill ++ c0.2) c0.0 c0.1 e0 refuse in
    let there : done ++ ls ≡ now ++ rest = ap (λ (x : List (List ℕ)). done ++ x) is ∙ sym (append_assoc done (rows w 0 prefix) rest) in
    let number : n ≡ length now + 1 = omega (arith, n-is, start, length-append done (rows w 0 prefix), length-rows w 0 prefix) in
    rw (there, number) bad

-- the last line is missing, or isn't the last
pub end_stage : (done ls : List (List ℕ)) (at : ℕ) (f : CertFault) (c0 : Cert) → at ≡ length done + 1 → IsCert c0 → lines_of c0 ≡ done ++ (line end_words ∷ [])
    → ((c : Cert) → IsCert c → (t : List (List ℕ)) → lines_of c ≡ done ++ t → t ≡ line end_words ∷ []) → EndsAt at ls (Err f) → FailsAs (done ++ ls) f
end_stage done ls at NoMemory c0 start is0 e0 shape h = absurd h
end_stage done ls at (BadLine n) c0 start is0 e0 shape (inl h) =
    let bad = fails done ls (line end_words ∷ []) c0 is0 e0 (λ c is t e first.
    let q = first_is ls (line end_words) [] (first ∙ ap (take 1) (shape c is t e)) in h.1 q.0 q.1) in
    let number : n ≡ length done + 1 = h.0 ∙ start in
    rw number bad
end_stage done ls at (BadLine n) c0 start is0 e0 shape (inr h) =
    let now = done ++ (line end_words ∷ []) in
    let bad = fails now (h.1 ∷ h.2) [] c0 is0 (e0 ∙ sym (append-nil now)) (λ c is t e first.
    let s = shape c is (line end_words ∷ t) (e ∙ append_assoc done (line end_words ∷ []) t) in
    let none : t ≡ [] = ap (drop 1) s in
    let q : take 1 (h.1 ∷ h.2) ≡ [] = first ∙ ap (take 1) none in absurd cc) in
    let there : done ++ ls ≡ now ++ (h.1 ∷ h.2) = ap (λ (x : List (List ℕ)). done ++ x) h.3 ∙ sym (append_assoc done (line end_words ∷ []) (h.1 ∷ h.2)) in
    let number : n ≡ length now + 1 = omega (arith, h.0, start, length-append done (line end_words ∷ [])) in
    rw (there, number) bad
