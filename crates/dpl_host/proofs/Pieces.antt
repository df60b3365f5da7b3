-- Prefixes of lists.
use Rattle.std.proofs.Common.{◌≡◌, ◌∙◌, ◌++◌, ◌∷◌, ◌+◌, ◌-◌, ◌≤◌, ◌<◌, ap, ap₂, sym, subst, refl, List, [], ℕ, zero, suc, take, drop}
use Rattle.std.proofs.Common.{length, arith, min, zero-add, length-append, Option, Some, None, length-drop}
use Rattle.std.proofs.Math.Seq.{take-length}
use Rattle.std.proofs.lemmas.List.{length-take, length-take-le, take_all}
use Rattle.std.specs.Prelude.{IfSome, unwrap_or}
use Rattle.dpl_host.specs.Outside.{Gave, GivesOf, Outside, file_of}

take_nothing : {X : Type 0} (k : ℕ) → ◌≡◌ {A = List X} [] (take k [])
take_nothing zero = refl
take_nothing (suc k) = refl

pub take_on : {X : Type 0} (m n : ℕ) (xs : List X) → take (m + n) xs ≡ take m xs ++ take n (drop m xs)
take_on zero n xs = ap (λ (k : ℕ). take k xs) (zero-add n)
take_on {X} (suc m) n [] = let e : suc m + n ≡ suc (m + n) = omega arith in ap (λ (k : ℕ). take {A = X} k []) e ∙ sym (take_nothing (suc (m + n))) ∙ take_nothing n
take_on (suc m) n (x ∷ xs) = let e : suc m + n ≡ suc (m + n) = omega arith in ap (λ (k : ℕ). take k (x ∷ xs)) e ∙ ap (λ l. x ∷ l) (take_on m n xs)

-- `&xs[m..]`
pub rest_is : {X : Type 0} (m : ℕ) (xs : List X) → take (length xs - m) (drop m xs) ≡ drop m xs
rest_is m xs = ap (λ (k : ℕ). take k (drop m xs)) (sym (length-drop m xs)) ∙ take-length (drop m xs)

-- a read behind the prefix that is there makes a longer prefix
pub prefix_on : (told now : Option Outside) (name bytes chunk buffer : List ℕ) (n at : ℕ)
    → IfSome told (λ o. bytes ≡ take (length bytes) (unwrap_or (file_of o name) []))
    → GivesOf now name at buffer n → now ≡ told → at ≡ length bytes → chunk ≡ take n buffer → n ≤ length buffer
    → IfSome told (λ o. bytes ++ chunk ≡ take (length (bytes ++ chunk)) (unwrap_or (file_of o name) []))
prefix_on None now name bytes chunk buffer n at prefix reads is place same fits = tt
prefix_on (Some o) now name bytes chunk buffer n at prefix reads is place same fits =
    let here : GivesOf (Some o) name at buffer n = subst (λ (x : Option Outside). GivesOf x name at buffer n) is reads in
    let given : GivesOf (Some o) name (length bytes) buffer n = subst (λ (k : ℕ). GivesOf (Some o) name k buffer n) place here in
    let file = given.0 in
    let there : unwrap_or (file_of o name) [] ≡ file = ap (λ (f : Option (List ℕ)). unwrap_or f []) given.1 in
    let got : chunk ≡ take n (drop (length bytes) file) = same ∙ given.2.bytes in
    let long : length chunk ≡ n = ap length same ∙ length-take-le n buffer fits in
    let size : length (bytes ++ chunk) ≡ length bytes + n = omega (arith, length-append bytes chunk, long) in
    let old : bytes ≡ take (length bytes) file = prefix ∙ ap (take (length bytes)) there in
    ap₂ (λ (a b : List ℕ). a ++ b) old got ∙ sym (take_on (length bytes) n file) ∙ ap₂ (λ (k : ℕ) (f : List ℕ). take k f) (sym size) (sym there)

-- a read that gives nothing into some room ends the file
pub whole_read : (told now : Option Outside) (name bytes buffer : List ℕ) (n at : ℕ)
    → IfSome told (λ o. bytes ≡ take (length bytes) (unwrap_or (file_of o name) []))
    → GivesOf now name at buffer n → now ≡ told → at ≡ length bytes → n ≡ 0 → 0 < length buffer
    → IfSome told (λ o. file_of o name ≡ Some bytes)
whole_read None now name bytes buffer n at prefix reads is place none room = tt
whole_read (Some o) now name bytes buffer n at prefix reads is place none room =
    let here : GivesOf (Some o) name at buffer n = subst (λ (x : Option Outside). GivesOf x name at buffer n) is reads in
    let file = here.0 in
    let there : unwrap_or (file_of o name) [] ≡ file = ap (λ (f : Option (List ℕ)). unwrap_or f []) here.1 in
    let ended : length file ≤ at = here.2.some none room in
    let all : take (length bytes) file ≡ file = take_all (length bytes) file (omega (arith, ended, place)) in
    here.1 ∙ ap Some (sym (prefix ∙ ap (take (length bytes)) there ∙ all))

short_of_nothing : (n : ℕ) → length (take {A = ℕ} n []) ≡ 0
short_of_nothing n = ap length (sym (take_nothing {X = ℕ} n))

no_longer : (bytes file : List ℕ) → bytes ≡ take (length bytes) file → length bytes ≤ length file
no_longer bytes file e = let l : length bytes ≡ min (length bytes) (length file) = ap length e ∙ length-take (length bytes) file in omega arith

-- more bytes than so many were read of a file that has more than so many
pub too_long : (told : Option Outside) (name bytes : List ℕ) → IfSome told (λ o. bytes ≡ take (length bytes) (unwrap_or (file_of o name) [])) → 268435456 < length bytes
    → IfSome told (λ o. (file : List ℕ) × (file_of o name ≡ Some file) × (268435456 < length file))
too_long None name bytes prefix long = tt
too_long (Some o) name bytes prefix long = go (file_of o name) refl
  where
    go : (f : Option (List ℕ)) → file_of o name ≡ f → (file : List ℕ) × (file_of o name ≡ Some file) × (268435456 < length file)
    go None e =
        let prefix' : bytes ≡ take (length bytes) [] = prefix ∙ ap (λ (f : Option (List ℕ)). take (length bytes) (unwrap_or f [])) e in
        absurd (omega (arith, no_longer bytes [] prefix'))
    go (Some file) e =
        let prefix' : bytes ≡ take (length bytes) file = prefix ∙ ap (λ (f : Option (List ℕ)). take (length bytes) (unwrap_or f [])) e in
        (file, e, omega (arith, no_longer bytes file prefix'))

-- a read behind the bytes that are there gave so many more
pub given_more : (first before now : ℕ) (bytes chunk buffer : List ℕ) (n : ℕ) (all : List ℕ) → Gave first (length bytes) before
    → Gave before n now → chunk ≡ take n buffer → n ≤ length buffer → all ≡ bytes ++ chunk
    → Gave first (length all) now
given_more first before now bytes chunk buffer n all old new same fits is =
    let long : length chunk ≡ n = ap length same ∙ length-take-le n buffer fits in
    let size : length all ≡ length bytes + n = omega (arith, ap length is, length-append bytes chunk, long) in
    omega (arith, size, old, new)
