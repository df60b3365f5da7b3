use Rattle.std.proofs.Common.{◌≡◌, drop, map}
use Rattle.std.specs.Prelude.{string_bytes}
use Rattle.dpl_host.specs.Calls.{Logged}
use Rattle.dpl_run.specs.View.{write_view}
use Rattle.dpl_run.proofs.Leads.{LeadsTo}
use Rattle.dpl_run.proofs.Parts.{LeftTo}
use Rattle.dpl_run.proofs.output.perform.Given as goal

abbrev pub invariant-loop-write : goal.invariant-loop-write
invariant-loop-write g l = record {
  left : LeftTo (map write_view l.output.writes.items) (map write_view (drop l.write-index l.write-items)) (string_bytes l.output.line)
      (g.H.Host.told l.fn.host) (g.H.Host.told l.host);
  counted : g.H.Host.write_faults l.host ≡ g.H.Host.write_faults l.fn.host;
  others : g.H.Host.read_faults l.host ≡ g.H.Host.read_faults l.fn.host;
  calls : Logged (g.H.Host.log l.fn.host) (g.H.Host.log l.host)
      (LeadsTo (map write_view l.output.writes.items) (map write_view (drop l.write-index l.write-items)));
}
