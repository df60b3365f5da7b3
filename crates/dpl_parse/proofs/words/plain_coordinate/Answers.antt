use Rattle.std.proofs.Common.{sym, arith, ◌∙◌}
use Rattle.std.proofs.lemmas.Fmt.{decimal_injective}
use Rattle.dpl_parse.proofs.words.plain_coordinate.Goals as goal

pub returns-then-n-gt1000000000-clause-none : goal.returns-then-n-gt1000000000-clause-none
returns-then-n-gt1000000000-clause-none c = λ n h is.
    let e = c.in_ok-n.ensures.found in
    let same = decimal_injective c.in_ok-n.n n (omega arith) (omega arith) (sym e.1 ∙ is) in omega arith
