-- What is seen of a host in memory.
use Rattle.std.specs.Prelude.{◌&&◌, ◌==◌, ◌+◌, ◌-◌, ◌^◌, ℕ, Bool, true, false, List, Option, min}
use Rattle.std.specs.List.{list_any}
use Rattle.dpl_host.specs.Calls.{Call}
use Rattle.dpl_host.specs.Kept.{calls_of}
use Rattle.dpl_host.specs.Outside.{Outside}
use Rattle.dpl_host.specs.Memory.{files_of}
use Rattle.dpl_host.specs.declared.memory.Kind.{Kind}
use Rattle.dpl_host.specs.declared.memory.Kind.TheVariants.{Read, Create, Append, Say}
use Rattle.dpl_host.specs.declared.memory.MemHost.{MemHost}

abbrev pub outside_of : MemHost → Outside
outside_of h = record { files = files_of h.files.entries; said = h.said.items }

-- its calls, where it still keeps them
abbrev pub log_of : MemHost → Option (List Call)
log_of h = calls_of h.calls

abbrev pub same_kind : Kind → Kind → Bool
same_kind Read Read = true
same_kind Create Create = true
same_kind Append Append = true
same_kind Say Say = true
same_kind _ _ = false

-- the call of this kind and number is to fail
abbrev pub lists : List (Kind × ℕ) → Kind → ℕ → Bool
lists failing kind number = list_any (λ f. same_kind f.0 kind && (f.1 == number)) failing

-- a count that stands still at its last value
abbrev pub next_count : ℕ → ℕ
next_count n = min (n + 1) (2 ^ 64 - 1)

abbrev pub read_is_listed : MemHost → Bool
read_is_listed h = lists h.failing.items Read h.reads

abbrev pub create_is_listed : MemHost → Bool
create_is_listed h = lists h.failing.items Create h.creates

abbrev pub append_is_listed : MemHost → Bool
append_is_listed h = lists h.failing.items Append h.appends

abbrev pub say_is_listed : MemHost → Bool
say_is_listed h = lists h.failing.items Say h.says

abbrev pub refusals : MemHost → ℕ
refusals h = h.refused

-- what a host goes by: what it is to do, and how many calls of each kind there were
pub record Plan : Type 0 where
  pub step : ℕ
  pub failing : List (Kind × ℕ)
  pub reads : ℕ
  pub creates : ℕ
  pub appends : ℕ
  pub says : ℕ

abbrev pub plan_of : MemHost → Plan
plan_of h = record { step = h.step.bytes; failing = h.failing.items; reads = h.reads; creates = h.creates; appends = h.appends; says = h.says }
