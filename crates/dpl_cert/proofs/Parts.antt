-- Texts one behind the other, and the lines of a list by stretches.
use Rattle.std.proofs.Common.{◌≡◌, ℕ, ◌+◌, ◌*◌, ◌/◌, ◌%◌, ◌<◌, ◌≤◌, min}
use Rattle.std.proofs.Common.{List, [], ◌∷◌, ◌++◌, length, get_or, take, drop, map, suc, zero, refl, sym, ap, ◌∙◌, append_assoc, arith, Result, Ok, IfOk, Global}
use Rattle.std.proofs.lemmas.List.{append-nil, get_or-map, length-map, length-take-le, map-append, take_all}
use Rattle.std.proofs.Math.Nat.{add-mul, div-add-mod, mul_comm, one-mul, suc-mul, zero-mul}
use Rattle.std.proofs.Math.Seq.{take-add, take-suc}
use Rattle.std.proofs.lemmas.List.Folds.{concat-append}
use Rattle.std.specs.Prelude.{String, string_bytes}
use Rattle.std.specs.List.{concat}
use Rattle.std.specs.Fork.{slice_chunk}
use Rattle.std.specs.declared.alloc.AllocError.{AllocError}
use Rattle.dpl_cert.specs.declared.cert.StitchLine.{StitchLine}
use Rattle.dpl_cert.specs.Lines.{line, text}
use Rattle.dpl_cert.specs.Grammar.{rows, stitch_words}
use Rattle.dpl_cert.specs.Parts.{AreParts}
use Rattle.dpl_cert.proofs.Listing.{rows-append}

-- these are the lines of the list's stretches
abbrev pub ArePartsOf : {A : Type 0} → (ℕ → A → List (List ℕ)) → ℕ → List A → List (List ℕ) → Type 0
ArePartsOf words size xs rs = (k : ℕ) → k < length rs → (k * size < length xs) × (get_or rs k [] ≡ text (rows words (k * size) (slice_chunk xs size k)))

-- and these texts, as far as they were made
abbrev pub AreMadeOf : {A : Type 0} → (ℕ → A → List (List ℕ)) → ℕ → List A → List (Result (String Global) AllocError) → Type 0
AreMadeOf words size xs made = (k : ℕ) (d : Result (String Global) AllocError) → k < length made
    → (k * size < length xs) × IfOk (get_or made k d) (λ s. string_bytes s ≡ text (rows words (k * size) (slice_chunk xs size k)))

-- a text that was made
abbrev fine : String Global → Result (String Global) AllocError
fine s = Ok s

joined-push : (ss : List (String Global)) (s : String Global) → concat (map string_bytes (ss ++ (s ∷ []))) ≡ concat (map string_bytes ss) ++ string_bytes s
joined-push ss s = ap concat (map-append string_bytes ss (s ∷ [])) ∙ concat-append (map string_bytes ss) (string_bytes s ∷ [])
    ∙ ap (λ (t : List ℕ). concat (map string_bytes ss) ++ t) (append-nil (string_bytes s))

-- where no text is left, all were met
pub all-met : (met left all : List (Result (String Global) AllocError)) → length left ≡ 0 → met ++ left ≡ all → met ≡ all
all-met met [] all none is = sym (append-nil met) ∙ is
all-met met (x ∷ left) all none is = absurd (omega arith)

pub parts-none : (before : List ℕ) → AreParts [] before before
parts-none before = record { parts = []; each = refl; behind = sym (append-nil before) }

-- one text more is put
pub parts-more : (made : List (Result (String Global) AllocError)) (next : Result (String Global) AllocError) (s : String Global) (before old new : List ℕ)
    → AreParts made before old → next ≡ Ok s → new ≡ old ++ string_bytes s → AreParts (made ++ (next ∷ [])) before new
parts-more made next s before old new put is e =
    let ss = put.parts in
    record {
      parts = ss ++ (s ∷ []);
      each = ap (λ l. l ++ (next ∷ [])) put.each ∙ ap (λ r. map Ok ss ++ (r ∷ [])) is ∙ sym (map-append Ok ss (s ∷ []));
      behind = e ∙ ap (λ (t : List ℕ). t ++ string_bytes s) put.behind ∙ append_assoc before (concat (map string_bytes ss)) (string_bytes s)
          ∙ ap (λ (t : List ℕ). before ++ t) (sym (joined-push ss s));
    }

-- the lines of the first stretches
rows-to : {A : Type 0} (words : ℕ → A → List (List ℕ)) (size : ℕ) (xs : List A) (rs : List (List ℕ)) → ArePartsOf words size xs rs
    → (m : ℕ) → m ≤ length rs → concat (take m rs) ≡ text (rows words 0 (take (m * size) xs))
rows-to words size xs rs each zero le = ap (λ k. text (rows words 0 (take k xs))) (sym (zero-mul size))
rows-to words size xs rs each (suc m) le =
    let lt : m < length rs = omega arith in
    let at = each m lt in
    let front = take (m * size) xs in
    let chunk = slice_chunk xs size m in
    let len : length front ≡ m * size = length-take-le (m * size) xs (omega (arith, at.0)) in
    let number : 0 + length front ≡ m * size = omega (arith, len) in
    let cut : take (suc m * size) xs ≡ front ++ chunk = ap (λ k. take k xs) (suc-mul m size) ∙ take-add (m * size) size xs in
    let lines : rows words 0 (front ++ chunk) ≡ rows words 0 front ++ rows words (m * size) chunk = rows-append words 0 front chunk
    ∙ ap (λ (k : ℕ). rows words 0 front ++ rows words k chunk) number in
    let whole : text (rows words 0 (take (suc m * size) xs)) ≡ text (rows words 0 front) ++ text (rows words (m * size) chunk) =
    ap (λ t. text (rows words 0 t)) cut ∙ ap text lines ∙ concat-append (rows words 0 front) (rows words (m * size) chunk) in
    let before : concat (take m rs) ≡ text (rows words 0 front) = rows-to words size xs rs each m (omega arith) in
    let last : List ℕ = get_or rs m [] in
    let next : concat (take (suc m) rs) ≡ concat (take m rs) ++ last = ap concat (take-suc rs m [] lt) ∙ concat-append (take m rs) (last ∷ [])
    ∙ ap (λ (t : List ℕ). concat (take m rs) ++ t) (append-nil last) in
    next ∙ ap (λ (t : List ℕ). t ++ last) before ∙ ap (λ (t : List ℕ). text (rows words 0 front) ++ t) at.1 ∙ sym whole

covered-by : (q r size : ℕ) → r < size → q * size + r ≤ (q + min 1 r) * size
covered-by q zero size lt =
    let e : q + min 1 0 ≡ q = omega arith in
    omega (arith, ap (λ n. n * size) e)
covered-by q (suc r) size lt =
    let e : q + min 1 (suc r) ≡ q + 1 = omega arith in
    omega (arith, ap (λ n. n * size) e, add-mul q 1 size, one-mul size)

-- so many stretches cover the list
covered : (count len size : ℕ) → 0 < size → count ≡ len / size + min 1 (len % size) → len ≤ count * size
covered count len size some e =
    let all : size * (len / size) + len % size ≡ len = div-add-mod len size in
    let below : len % size < size = omega arith in
    omega (arith, all, mul_comm size (len / size), covered-by (len / size) (len % size) size below, ap (λ n. n * size) e)

-- the lines of all stretches are those of the list
pub rows-all : {A : Type 0} (words : ℕ → A → List (List ℕ)) (size : ℕ) (xs : List A) (rs : List (List ℕ)) → ArePartsOf words size xs rs
    → 0 < size → length rs ≡ length xs / size + min 1 (length xs % size) → concat rs ≡ text (rows words 0 xs)
rows-all words size xs rs each some len =
    sym (ap concat (take_all (length rs) rs (omega arith))) ∙ rows-to words size xs rs each (length rs) (omega arith)
    ∙ ap (λ t. text (rows words 0 t)) (take_all (length rs * size) xs (covered (length rs) (length xs) size some len))

-- a stitch's line doesn't tell its place
pub stitch-rows : (m n : ℕ) (xs : List StitchLine) → rows stitch_words m xs ≡ rows stitch_words n xs
stitch-rows m n [] = refl
stitch-rows m n (x ∷ xs) = ap (λ (t : List (List ℕ)). line (stitch_words n x) ∷ t) (stitch-rows (m + 1) (n + 1) xs)

parts-from : {A : Type 0} (words : ℕ → A → List (List ℕ)) (size : ℕ) (xs : List A) (made : List (Result (String Global) AllocError)) (ss : List (String Global)) (s : String Global)
    → made ≡ map Ok ss → AreMadeOf words size xs made → ArePartsOf words size xs (map string_bytes ss)
parts-from words size xs made ss s is each k lt =
    let inside : k < length ss = omega (arith, length-map ss string_bytes) in
    let known : k < length made = omega (arith, ap length is, length-map ss fine) in
    let at = each k (Ok s) known in
    let same : get_or made k (Ok s) ≡ Ok (get_or ss k s) = ap (λ l. get_or l k (Ok s)) is ∙ get_or-map Ok ss k s (Ok s) inside in
    let told : string_bytes (get_or ss k s) ≡ text (rows words (k * size) (slice_chunk xs size k)) = rw same at at.1 in
    (at.0, get_or-map string_bytes ss k s [] inside ∙ told)

pub parts-of : {A : Type 0} (words : ℕ → A → List (List ℕ)) (size : ℕ) (xs : List A) (made : List (Result (String Global) AllocError)) (ss : List (String Global))
    → made ≡ map Ok ss → AreMadeOf words size xs made → ArePartsOf words size xs (map string_bytes ss)
parts-of words size xs made [] is each = λ k lt. absurd (omega arith)
parts-of words size xs made (s ∷ ss) is each = parts-from words size xs made (s ∷ ss) s is each

-- the texts that were made of a list's stretches, one behind the other
pub all-put : {A : Type 0} (words : ℕ → A → List (List ℕ)) (size : ℕ) (xs : List A) (made : List (Result (String Global) AllocError)) (before after : List ℕ)
    → AreMadeOf words size xs made → 0 < size → length made ≡ length xs / size + min 1 (length xs % size) → AreParts made before after
    → after ≡ before ++ text (rows words 0 xs)
all-put words size xs made before after each some len put =
    let rs = map string_bytes put.parts in
    let count : length rs ≡ length made = length-map put.parts string_bytes ∙ sym (length-map put.parts fine) ∙ sym (ap length put.each) in
    put.behind ∙ ap (λ (t : List ℕ). before ++ t) (rows-all words size xs rs (parts-of words size xs made put.parts put.each each) some (count ∙ len))

-- lines whose numbers begin later
words-from : {A : Type 0} → (ℕ → A → List (List ℕ)) → ℕ → ℕ → A → List (List ℕ)
words-from words first k x = words (first + k) x

rows-from : {A : Type 0} (words : ℕ → A → List (List ℕ)) (first n : ℕ) (xs : List A) → rows (words-from words first) n xs ≡ rows words (first + n) xs
unfolding words-from
rows-from words first n [] = refl
rows-from words first n (x ∷ xs) =
    let same : first + (n + 1) ≡ first + n + 1 = omega arith in
    ap (λ (t : List (List ℕ)). line (words (first + n) x) ∷ t) (rows-from words first (n + 1) xs ∙ ap (λ k. rows words k xs) same)

-- and these texts of a list whose first line has this number
abbrev pub AreMadeFrom : {A : Type 0} → (ℕ → A → List (List ℕ)) → ℕ → ℕ → List A → List (Result (String Global) AllocError) → Type 0
AreMadeFrom words first size xs made = (k : ℕ) (d : Result (String Global) AllocError) → k < length made
    → (k * size < length xs) × IfOk (get_or made k d) (λ s. string_bytes s ≡ text (rows words (first + k * size) (slice_chunk xs size k)))

pub all-put_from : {A : Type 0} (words : ℕ → A → List (List ℕ)) (first size : ℕ) (xs : List A) (made : List (Result (String Global) AllocError)) (before after : List ℕ)
    → AreMadeFrom words first size xs made → 0 < size → length made ≡ length xs / size + min 1 (length xs % size) → AreParts made before after
    → after ≡ before ++ text (rows words first xs)
all-put_from words first size xs made before after each some len put =
    let none : first + 0 ≡ first = omega arith in
    all-put (words-from words first) size xs made before after
    (λ k d lt. ((each k d lt).0, rw (rows-from words first (k * size) (slice_chunk xs size k)) (each k d lt).1)) some len put
    ∙ ap (λ t. before ++ text t) (rows-from words first 0 xs ∙ ap (λ k. rows words k xs) none)

-- the lines of one round more
pub round-more : {A : Type 0} (words : ℕ → A → List (List ℕ)) (first n : ℕ) (xs : List A) (before old new : List ℕ) → first ≤ length xs
    → old ≡ before ++ text (rows words 0 (take first xs)) → new ≡ old ++ text (rows words first (take n (drop first xs)))
    → new ≡ before ++ text (rows words 0 (take (first + n) xs))
round-more words first n xs before old new le so_far is =
    let front = take first xs in
    let next = take n (drop first xs) in
    let number : 0 + length front ≡ first = omega (arith, length-take-le first xs le) in
    let lines : rows words 0 (take (first + n) xs) ≡ rows words 0 front ++ rows words first next = ap (rows words 0) (take-add first n xs)
    ∙ rows-append words 0 front next ∙ ap (λ (k : ℕ). rows words 0 front ++ rows words k next) number in
    is ∙ ap (λ (t : List ℕ). t ++ text (rows words first next)) so_far ∙ append_assoc before (text (rows words 0 front)) (text (rows words first next))
    ∙ ap (λ (t : List ℕ). before ++ t) (sym (ap text lines ∙ concat-append (rows words 0 front) (rows words first next)))
