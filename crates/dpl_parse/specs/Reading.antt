-- What reading a certificate gives.
use Rattle.std.specs.Prelude.{◌≡◌, ◌≢◌, ℕ, ◌+◌, ◌^◌, ◌<◌, ◌≤◌, List, [], ◌∷◌, ◌++◌, length, take, Result, Ok, Err, Option, Some, None, ◌⊎◌}
use Rattle.std.specs.List.{AllByRecursion}
use Rattle.dpl_cert.specs.declared.cert.Cert.{Cert}
use Rattle.dpl_cert.specs.declared.cert.Gain.{Gain}
use Rattle.dpl_parse.specs.declared.fault.CertFault.{CertFault}
use Rattle.dpl_parse.specs.declared.fault.CertFault.TheVariants.{NoMemory, BadLine}
use Rattle.dpl_cert.specs.Lines.{line, lines}
use Rattle.dpl_cert.specs.Grammar.{rows, lines_of, gain_words, end_words, IsCert, IsText, IsGain, AreRising}

-- the first n of these lines are the first n lines of a certificate
abbrev pub BeginsLike : List (List ℕ) → ℕ → Type 0
BeginsLike ls n = (c : Cert) × IsCert c × (take n ls ≡ take n (lines_of c))

-- the first n lines are those of no certificate, and n is the least such number
pub record IsFirstBad (ls : List (List ℕ)) (n : ℕ) : Type 0 where
  pub bad : BeginsLike ls n → ⊥
  pub good : (k : ℕ) → k < n → BeginsLike ls k

abbrev pub FailsAs : List (List ℕ) → CertFault → Type 0
FailsAs ls NoMemory = Unit {0}
FailsAs ls (BadLine n) = IsFirstBad ls n

-- what is read of these lines
abbrev pub Answers : List (List ℕ) → Result Cert CertFault → Type 0
Answers ls (Ok c) = IsCert c × (ls ≡ lines_of c)
Answers ls (Err e) = FailsAs ls e

-- some rows come first, and then comes none, though there are fewer than were to come
abbrev pub StopsAt : {A : Type 0} → (ℕ → A → List (List ℕ)) → (A → Type 0) → ℕ → ℕ → List (List ℕ) → CertFault → Type 0
StopsAt spelled fits count at ls NoMemory = Unit {0}
StopsAt {A} spelled fits count at ls (BadLine n) = (prefix : List A) × (rest : List (List ℕ)) × AllByRecursion fits prefix × (length prefix < count) × (n ≡ at + length prefix)
    × (ls ≡ rows spelled 0 prefix ++ rest) × ((x : A) (t : List (List ℕ)) → fits x → rest ≢ line (spelled (length prefix) x) ∷ t)

-- the least number that may come after these gains, the first of which may have this one
abbrev pub least_after : ℕ → List Gain → ℕ
least_after least [] = least
least_after least (g ∷ gains) = least_after (g.piece + 1) gains

-- a gain whose piece is no less than this, with numbers left for those still to come
abbrev pub IsNext : ℕ → ℕ → Gain → Type 0
IsNext least left g = IsGain g × (least ≤ g.piece) × (g.piece + left < 2 ^ 64)

-- some gains come first, which leave numbers for the others, and then comes none that may come next
abbrev pub StopsRising : ℕ → ℕ → List (List ℕ) → CertFault → Type 0
StopsRising count at ls NoMemory = Unit {0}
StopsRising count at ls (BadLine n) = (prefix : List Gain) × (rest : List (List ℕ)) × (left : ℕ) × (count ≡ length prefix + 1 + left) × AreRising 0 prefix
    × (least_after 0 prefix + left < 2 ^ 64) × (n ≡ at + length prefix) × (ls ≡ rows gain_words 0 prefix ++ rest)
    × ((g : Gain) (t : List (List ℕ)) → IsNext (least_after 0 prefix) left g → rest ≢ line (gain_words (length prefix) g) ∷ t)

abbrev pub StopsGains : Option ℕ → ℕ → List (List ℕ) → CertFault → Type 0
StopsGains None at ls NoMemory = Unit {0}
StopsGains None at ls (BadLine n) = ⊥
StopsGains (Some count) at ls f = StopsRising count at ls f

-- the line at this number is the last one, and nothing stands after it
abbrev pub EndsAt : ℕ → List (List ℕ) → Result (Unit {0}) CertFault → Type 0
EndsAt at ls (Ok u) = ls ≡ line end_words ∷ []
EndsAt at ls (Err NoMemory) = ⊥
EndsAt at ls (Err (BadLine n)) = ((n ≡ at) × ((t : List (List ℕ)) → ls ≢ line end_words ∷ t)) ⊎ ((n ≡ at + 1) × (l : List ℕ) × (t : List (List ℕ)) × (ls ≡ line end_words ∷ l ∷ t))

-- the first n lines of the text are the first n lines of a text of the grammar
abbrev pub Begins : List ℕ → ℕ → Type 0
Begins bytes n = (c : Cert) × (other : List ℕ) × IsText c other × (take n (lines bytes) ≡ take n (lines other))

-- n is the least number such that the first n lines of the text are the first n lines of no text of the grammar
pub record IsBadLine (bytes : List ℕ) (n : ℕ) : Type 0 where
  pub bad : Begins bytes n → ⊥
  pub good : (k : ℕ) → k < n → Begins bytes k

abbrev pub IsRefusal : List ℕ → CertFault → Type 0
IsRefusal bytes NoMemory = Unit {0}
IsRefusal bytes (BadLine n) = IsBadLine bytes n
