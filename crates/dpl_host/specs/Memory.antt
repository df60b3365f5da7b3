-- What a host in memory keeps.
use Rattle.std.specs.Prelude.{ℕ, List, map as list_map, String, Vec}
use Rattle.std.specs.String.{string_bytes}
use Rattle.std.specs.FinMap as map
use Rattle.std.specs.declared.alloc.Global.{Global}
use Rattle.dpl_host.specs.Outside.{Files}

-- the bytes of a name and of its file
abbrev pub entry_of : String Global × Vec ℕ Global → List ℕ × List ℕ
entry_of e = (string_bytes e.0, e.1.items)

abbrev pub files_of : List (String Global × Vec ℕ Global) → Files
files_of entries = map.from_entries (list_map entry_of entries)
