use Rattle.std.proofs.Common.{length, ◌-◌, ◌≡◌, ◌≤◌, take}
use Rattle.std.specs.Prelude.{option_map}
use Rattle.dpl_host.specs.Calls.{AreSays, Logged}
use Rattle.dpl_host.specs.Outside.{with_said}
use Rattle.dpl_host.proofs.whole.say_all.Given as goal

abbrev pub invariant-loop-done : goal.invariant-loop-done
invariant-loop-done g l = record {
  within : l.done ≤ length l.bytes;
  said : g.H.Host.told l.host ≡ option_map (with_said (take l.done l.bytes)) (g.H.Host.told l.fn.host);
  counted : g.H.Host.write_faults l.host ≡ g.H.Host.write_faults l.fn.host;
  others : g.H.Host.read_faults l.host ≡ g.H.Host.read_faults l.fn.host;
  logged : Logged (g.H.Host.log l.fn.host) (g.H.Host.log l.host) AreSays;
}

abbrev pub decreases-loop-done : goal.decreases-loop-done
decreases-loop-done g l = length l.bytes - l.done
