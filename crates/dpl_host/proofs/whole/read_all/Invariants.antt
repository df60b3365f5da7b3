use Rattle.std.proofs.Common.{length, ◌-◌, ◌≡◌, take, []}
use Rattle.std.specs.Prelude.{IfSome, unwrap_or}
use Rattle.dpl_host.specs.Calls.{AreReadsOf, Logged}
use Rattle.dpl_host.specs.Outside.{Gave, file_of}
use Rattle.dpl_host.proofs.whole.read_all.Given as goal

abbrev pub invariant-loop-chunk : goal.invariant-loop-chunk
invariant-loop-chunk g l = record {
  prefix : IfSome (g.H.Host.told l.fn.host) (λ o. (l.bytes.items ≡ take (length l.bytes.items) (unwrap_or (file_of o l.name) [])));
  same : g.H.Host.told l.host ≡ g.H.Host.told l.fn.host;
  counted : g.H.Host.read_faults l.host ≡ g.H.Host.read_faults l.fn.host;
  others : g.H.Host.write_faults l.host ≡ g.H.Host.write_faults l.fn.host;
  given : Gave (g.H.Host.given l.fn.host) (length l.bytes.items) (g.H.Host.given l.host);
  logged : Logged (g.H.Host.log l.fn.host) (g.H.Host.log l.host) (AreReadsOf l.name);
}

abbrev pub decreases-loop-chunk : goal.decreases-loop-chunk
decreases-loop-chunk g l = 268435457 - length l.bytes.items
