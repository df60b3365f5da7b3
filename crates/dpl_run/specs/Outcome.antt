-- What a run leaves: its answer, the files that it wrote, and what it said.
use Rattle.std.specs.Prelude.{◌≡◌, ◌⊎◌, ◌<◌, ◌^◌, ◌-◌, ℕ, Bool, true, false, List, [], ◌∷◌, Option, option_map, IfSome}
use Rattle.clap.specs.Walk.{Text}
use Rattle.dpl_host.specs.Outside.{IsPartSaid, IsPartWritten, Outside, Rose, with_file, with_said}
use Rattle.dpl_run.specs.declared.status.Status.{Status}
use Rattle.dpl_run.specs.declared.status.Status.TheVariants.{Done, Conflict, Refused, Usage, ReadFault, WriteFault, NoMemory, CheckNo}

-- the code with which the program ends
abbrev pub code_of : Status → ℕ
code_of Done = 0
code_of Conflict = 1
code_of Refused = 2
code_of Usage = 3
code_of ReadFault = 4
code_of WriteFault = 5
code_of NoMemory = 6
code_of CheckNo = 7

-- what is to be done: the answer, the files that are written, in order, and the text that is said
pub record Outcome : Type 0 where
  pub status : Status
  pub writes : List (Text × List ℕ)
  pub line : List ℕ

-- nothing but an answer
abbrev pub silent : Status → Outcome
silent status = record { status = status; writes = []; line = [] }

-- an answer and a text
abbrev pub says : Status → List ℕ → Outcome
says status line = record { status = status; writes = []; line = line }

-- the files written, in order
abbrev pub written : List (Text × List ℕ) → Outside → Outside
written [] o = o
written (w ∷ ws) o = written ws (with_file w.0 w.1 o)

-- the files written, and then the text said
abbrev pub carried_out : Outcome → Outside → Outside
carried_out x o = with_said x.line (written x.writes o)

-- a run cut short: the first files whole, then one that is a prefix or as it was, and no later one touched; or all files, and a prefix of the text
abbrev pub IsPartDone : List (Text × List ℕ) → List ℕ → Option Outside → Option Outside → Type 0
IsPartDone [] line old new = IsPartSaid line old new
IsPartDone (w ∷ ws) line old new = IsPartWritten w.0 w.1 old new ⊎ IsPartDone ws line (option_map (with_file w.0 w.1) old) new

-- an answer to what was asked, and no fault of the outside's
abbrev pub is_answered : Status → Bool
is_answered ReadFault = false
is_answered WriteFault = false
is_answered NoMemory = false
is_answered _ = true

-- What an answer tells of the calls that failed, by the count of failed reads and that of the other failed calls, before and now. A failed
-- read is answered as one, and so is another failed call; at any other answer, out of memory too, no call failed.
abbrev pub TellsFaults : Status → ℕ → ℕ → ℕ → ℕ → Type 0
TellsFaults ReadFault reads reads_now writes writes_now = Rose reads reads_now × (writes_now ≡ writes)
TellsFaults WriteFault reads reads_now writes writes_now = (reads_now ≡ reads) × Rose writes writes_now
TellsFaults _ reads reads_now writes writes_now = (reads_now ≡ reads) × (writes_now ≡ writes)

-- the outside is o, where it tells
abbrev pub Shows : Option Outside → Outside → Type 0
Shows told o = IfSome told (λ x. x ≡ o)

-- a count that has not moved, and stands below its last value
abbrev pub IsStill : ℕ → ℕ → Type 0
IsStill before now = (now ≡ before) × (before < 2 ^ 64 - 1)
