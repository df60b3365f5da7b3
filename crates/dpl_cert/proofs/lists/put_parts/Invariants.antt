use Rattle.std.proofs.Common.{◌≡◌, ◌++◌}
use Rattle.std.specs.Prelude.{string_bytes}
use Rattle.dpl_cert.specs.Parts.{AreParts}
use Rattle.dpl_cert.proofs.lists.put_parts.Given as goal

abbrev pub invariant-loop-part : goal.invariant-loop-part
invariant-loop-part l =
    record {
      all : l.yielded ++ l.part-iterator.rest.items ≡ l.fn.parts.items;
      put : AreParts l.yielded (string_bytes l.fn.out) (string_bytes l.out);
    }
