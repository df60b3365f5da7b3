-- The calls of a host, and the list that it may keep of them.
use Rattle.std.specs.Prelude.{◌≡◌, ℕ, List, [], ◌∷◌, ◌++◌, All, Option, Some, IfSome}

-- a call, and of which file
pub data Call : Type 0 where
  Read : List ℕ → Call
  Create : List ℕ → Call
  Append : List ℕ → Call
  Say : Call

-- Where a host keeps its calls now, it kept them before, and those that came behind are so: it may stop keeping them, and never begins again.
pub record Logged (before now : Option (List Call)) (P : List Call → Type 0) : Type 0 where
  pub behind : IfSome now (λ l. (k calls : List Call) × (before ≡ Some k) × (l ≡ k ++ calls) × P calls)

-- one call came behind, which is this one
abbrev pub Logs : Option (List Call) → Call → Option (List Call) → Type 0
Logs before call now = Logged before now (λ calls. calls ≡ call ∷ [])

-- all of them are reads of a file
abbrev pub AreReadsOf : List ℕ → List Call → Type 0
AreReadsOf name calls = All (λ call. call ≡ Read name) calls

-- a file is created, and then appended to
abbrev pub IsWritingOf : List ℕ → List Call → Type 0
IsWritingOf name calls = (appends : List Call) × (calls ≡ Create name ∷ appends) × All (λ call. call ≡ Append name) appends

-- something is said, by any number of calls
abbrev pub AreSays : List Call → Type 0
AreSays calls = All (λ call. call ≡ Say) calls
