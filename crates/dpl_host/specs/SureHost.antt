-- What is seen of a host that never fails.
use Rattle.std.specs.Prelude.{ℕ, ◌+◌, ◌-◌, ◌^◌, List, Option, None, min}
use Rattle.dpl_host.specs.Calls.{Call}
use Rattle.dpl_host.specs.Outside.{Files, Outside}
use Rattle.dpl_host.specs.Memory.{files_of}
use Rattle.dpl_host.specs.declared.sure.SureHost.{SureHost}

-- It tells nothing.
abbrev pub untold : Option Outside
untold = None

-- It keeps no list of its calls.
abbrev pub unlogged : Option (List Call)
unlogged = None

-- None of its calls fails.
abbrev pub no_faults : ℕ
no_faults = 0

-- the files that it reads
abbrev pub borrowed : SureHost → Files
borrowed h = files_of h.files.now.entries

-- a count of bytes, which stands still at its last value
abbrev pub counted : ℕ → ℕ → ℕ
counted taken n = min (taken + n) (2 ^ 64 - 1)
