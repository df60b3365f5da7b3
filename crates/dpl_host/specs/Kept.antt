-- The calls that a host in memory keeps.
use Rattle.std.specs.Prelude.{ℕ, List, Option, map, option_map}
use Rattle.std.specs.String.{string_bytes}
use Rattle.dpl_host.specs.Calls.{Append, Call, Create, Read, Say}
use Rattle.dpl_host.specs.declared.memory.Kind.{Kind}
use Rattle.dpl_host.specs.declared.memory.Kind.TheVariants.{Read as AsRead, Create as AsCreate, Append as AsAppend, Say as AsSay}
use Rattle.dpl_host.specs.declared.calls.Call.{Call as Kept}
use Rattle.dpl_host.specs.declared.calls.Calls.{Calls}

-- a call by its kind and the name of its file
abbrev pub call_of : Kind → List ℕ → Call
call_of AsRead name = Read name
call_of AsCreate name = Create name
call_of AsAppend name = Append name
call_of AsSay name = Say

abbrev pub call_view : Kept → Call
call_view c = call_of c.kind (string_bytes c.name)

abbrev pub calls_of : Calls → Option (List Call)
calls_of c = option_map (λ list. map call_view list.items) c.list
