-- Gains whose pieces rise, and where a text with fewer of them fails.
use Rattle.std.proofs.Common.{◌≡◌, ℕ, zero, suc, ◌+◌, ◌^◌, ◌<◌, ◌≤◌, List, [], ◌∷◌, ◌++◌, length, take, drop, get_or, Option, Some, None, refl, sym, ap}
use Rattle.std.proofs.Common.{subst, ◌∙◌, append_assoc, arith}
use Rattle.std.proofs.lemmas.List.{length-append}
use Rattle.std.proofs.lemmas.Fmt.{decimal_injective}
use Rattle.dpl_cert.specs.declared.cert.Gain.{Gain}
use Rattle.dpl_cert.specs.declared.cert.Cert.{Cert}
use Rattle.dpl_parse.specs.declared.fault.CertFault.{CertFault}
use Rattle.dpl_parse.specs.declared.fault.CertFault.TheVariants.{NoMemory, BadLine}
use Rattle.dpl_cert.specs.Lines.{line}
use Rattle.dpl_cert.specs.Grammar.{rows, lines_of, gain_words, IsCert, IsGain, AreRising, AreGains}
use Rattle.dpl_parse.specs.Heads.{AreStitches, AreAsMany}
use Rattle.dpl_parse.specs.Reading.{FailsAs, IsNext, StopsRising, least_after}
use Rattle.dpl_parse.specs.Spelled.{gain_proper}
use Rattle.dpl_parse.proofs.Texts.{line_injective}
use Rattle.dpl_cert.proofs.Listing.{rows-append}
use Rattle.dpl_parse.proofs.Prefixes.{fails, first_is, length-rows}

pub gain_same : (n : ℕ) (p q : Gain) → n < 2 ^ 64 → IsGain p → IsGain q → line (gain_words n p) ≡ line (gain_words n q) → p ≡ q
gain_same n p q h f g e =
    let words : gain_words n p ≡ gain_words n q = line_injective _ _ (gain_proper n p h f) (gain_proper n q h g) e in
    let a = decimal_injective p.piece q.piece f.piece g.piece cc in
    let b = decimal_injective p.d q.d f.d g.d cc in
    let c = decimal_injective p.s q.s f.s g.s cc in
    λ i. record { piece = a i; d = b i; s = c i }

-- as many gains as this, from a least piece on
fill : ℕ → ℕ → List Gain
fill least zero = []
fill least (suc n) = record { piece = least; d = 0; s = 0 } ∷ fill (least + 1) n

length-rising : (least n : ℕ) → length (fill least n) ≡ n
unfolding fill
length-rising least zero = refl
length-rising least (suc n) = ap suc (length-rising (least + 1) n)

fill_rises : (least n : ℕ) → least + n ≤ 2 ^ 64 → AreRising least (fill least n)
unfolding fill
fill_rises least zero room = tt
fill_rises least (suc n) room =
    (record { piece = omega (arith, room); d = omega arith; s = omega arith }, omega arith, fill_rises (least + 1) n (omega (arith, room)))

pub some_gains : Option ℕ → Option (List Gain)
some_gains None = None
some_gains (Some n) = Some (fill 0 n)

pub some_gains_fit : (g : Option ℕ) → AreStitches g → AreGains (some_gains g)
unfolding some_gains
some_gains_fit None is = tt
some_gains_fit (Some n) is = (omega (arith, is, length-rising 0 n), fill_rises 0 n (omega (arith, is)))

pub some_gains_many : (g : Option ℕ) → AreAsMany g (some_gains g)
unfolding some_gains
some_gains_many None = tt
some_gains_many (Some n) = length-rising 0 n

pub rising_append : (least : ℕ) (xs ys : List Gain) → AreRising least xs → AreRising (least_after least xs) ys → AreRising least (xs ++ ys)
rising_append least [] ys h k = k
rising_append least (x ∷ xs) ys h k = (h.0, h.1, rising_append (x.piece + 1) xs ys h.2 k)

pub after_push : (least : ℕ) (xs : List Gain) (g : Gain) → least_after least (xs ++ (g ∷ [])) ≡ g.piece + 1
after_push least [] g = refl
after_push least (x ∷ xs) g = after_push (x.piece + 1) xs g

pub rising_push : (least : ℕ) (xs : List Gain) (g : Gain) → AreRising least xs → IsGain g → least_after least xs ≤ g.piece → AreRising least (xs ++ (g ∷ []))
rising_push least xs g h f low = rising_append least xs (g ∷ []) h (f, low, tt)

-- rising gains leave room
rising_room : (least : ℕ) (gs : List Gain) → least ≤ 2 ^ 64 → AreRising least gs → least + length gs ≤ 2 ^ 64
rising_room least [] room h = omega (arith, room)
rising_room least (g ∷ gs) room h =
    let piece = h.0.piece in
    let more = rising_room (g.piece + 1) gs (omega (arith, piece)) h.2 in omega (arith, more, h.1)

-- the gain after some gains
gains_after : (n least : ℕ) (prefix gs : List Gain) (left : ℕ) (tail t : List (List ℕ)) → length gs ≡ length prefix + 1 + left → AreRising least prefix
    → AreRising least gs → rows gain_words n gs ++ tail ≡ rows gain_words n prefix ++ t
    → (g : Gain) × IsNext (least_after least prefix) left g × (u : List (List ℕ)) × (t ≡ line (gain_words 0 g) ∷ u)
gains_after n least [] [] left tail t len f k e = absurd (omega (arith, len))
gains_after n least [] (g ∷ gs) left tail t len f k e =
    let piece = k.0.piece in
    let room = rising_room (g.piece + 1) gs (omega (arith, piece)) k.2 in
    (g, (k.0, k.1, omega (arith, room, len)), rows gain_words (n + 1) gs ++ tail, sym e)
gains_after n least (p ∷ prefix) [] left tail t len f k e = absurd (omega (arith, len))
gains_after n least (p ∷ prefix) (g ∷ gs) left tail t len f k e =
    let first : line (gain_words 0 g) ≡ line (gain_words 0 p) = ap (λ (ls : List (List ℕ)). get_or ls 0 []) e in
    let same = gain_same 0 g p (omega arith) k.0 f.0 first in
    gains_after (n + 1) (p.piece + 1) prefix gs left tail t (omega (arith, len)) f.2
    (subst (λ (x : Gain). AreRising (x.piece + 1) gs) same k.2) (ap (drop 1) e)

-- some gains are missing
pub rising_stage : (done ls : List (List ℕ)) (count at : ℕ) (f : CertFault) → at ≡ length done + 1
    → ((gs : List Gain) → AreRising 0 gs → length gs ≡ count → (c : Cert) × IsCert c × (t : List (List ℕ)) × (lines_of c ≡ done ++ (rows gain_words 0 gs ++ t)))
    → ((c : Cert) → IsCert c → (t : List (List ℕ)) → lines_of c ≡ done ++ t → (gs : List Gain) × AreRising 0 gs × (length gs ≡ count)
    × (u : List (List ℕ)) × (t ≡ rows gain_words 0 gs ++ u))
    → StopsRising count at ls f → FailsAs (done ++ ls) f
rising_stage done ls count at NoMemory start wit shape s = tt
rising_stage done ls count at (BadLine n) start wit shape (prefix, rest, left, count-is, rising, room, n-is, is, none) =
    let more = fill (least_after 0 prefix) (left + 1) in
    let many = length-rising (least_after 0 prefix) (left + 1) in
    let filled : length (prefix ++ more) ≡ count = omega (arith, length-append prefix more, many, count-is) in
    let c0 = wit (prefix ++ more) (rising_append 0 prefix more rising (fill_rises (least_after 0 prefix) (left + 1) (omega (arith, room)))) filled in
    let now = done ++ rows gain_words 0 prefix in
    let e0 : lines_of c0.0 ≡ now ++ (rows gain_words (0 + length prefix) more ++ c0.2) =
    c0.3 ∙ ap (λ (x : List (List ℕ)). done ++ (x ++ c0.2)) (rows-append gain_words 0 prefix more) ∙ ap (λ (x : List (List ℕ)). done ++ x)
    (append_assoc (rows gain_words 0 prefix) (rows gain_words (0 + length prefix) more) c0.2)
    ∙ sym (append_assoc done (rows gain_words 0 prefix) (rows gain_words (0 + length prefix) more ++ c0.2)) in
    let refuse : (c : Cert) → IsCert c → (t : List (List ℕ)) → lines_of c ≡ now ++ t → take 1 rest ≡ take 1 t → ⊥ = λ c isc t e first.
    let s = shape c isc (rows gain_words 0 prefix ++ t) (e ∙ append_assoc done (rows gain_words 0 prefix) t) in
    let r = gains_after 0 0 prefix s.0 left s.3 t (s.2 ∙ count-is) rising s.1 (sym s.4) in
    let q = first_is rest (line (gain_words 0 r.0)) r.2 (first ∙ ap (take 1) r.3) in
    none r.0 q.0 r.1 q.1
    in
    let bad = fails now rest (rows gain_words (0 + length prefix) more ++ c0.2) c0.0 c0.1 e0 refuse in
    let there : done ++ ls ≡ now ++ rest = ap (λ (x : List (List ℕ)). done ++ x) is ∙ sym (append_assoc done (rows gain_words 0 prefix) rest) in
    let number : n ≡ length now + 1 = omega (arith, n-is, start, length-append done (rows gain_words 0 prefix), length-rows gain_words 0 prefix) in
    rw (there, number) bad
