use Rattle.std.proofs.Common.{rules}
use Rattle.std.proofs.lemmas.List.Sorted.{answers_always}
use Rattle.dpl_bars.proofs.AloneLaws.{lefts-rise}
use Rattle.dpl_bars.proofs.alone.sort_by_left.Goals as goal

pub returns-clause-rise : goal.returns-clause-rise
returns-clause-rise c = lefts-rise _ (c.sort_unstable_by_key.ensures.sorted (λ r. r.x0) (answers_always _ _ _ (λ f a r g q. search rules)))
