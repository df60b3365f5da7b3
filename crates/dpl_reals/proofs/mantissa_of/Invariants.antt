use Rattle.std.proofs.Common.{◌≡◌, ◌<◌, ◌^◌, ◌+◌, ◌*◌, take}
use Rattle.std.specs.Prelude.{fold}
use Rattle.dpl_reals.proofs.mantissa_of.Given as goal

abbrev pub invariant-loop-byte : goal.invariant-loop-byte
invariant-loop-byte l = record {
  value : l.mantissa ≡ fold (λ n b. n * 256 + b) 0 (take l.byte-index l.bytes);
  small : l.mantissa < 256 ^ l.byte-index;
}
