use Rattle.std.proofs.Common.{sym, arith, ◌∙◌, ◌≡◌, ◌-◌, ◌+◌, ap}
use Rattle.std.proofs.lemmas.Int.{ints}
use Rattle.std.proofs.lemmas.Fmt.{decimal_injective}
use Rattle.std.specs.Fmt.{decimal}
use Rattle.dpl_parse.proofs.words.negative_coordinate.Goals as goal

pub returns-then-n-eq0-clause-none : goal.returns-then-n-eq0-clause-none
returns-then-n-eq0-clause-none c = λ n h is.
    let e = c.in_ok-n.ensures.found in
    let same = decimal_injective c.in_ok-n.n (n + 1) (omega arith) (omega arith) (sym e.1 ∙ is) in omega arith

pub returns-then-n-gt1000000000-clause-none : goal.returns-then-n-gt1000000000-clause-none
returns-then-n-gt1000000000-clause-none c = λ n h is.
    let e = c.in_ok-n.ensures.found in
    let same = decimal_injective c.in_ok-n.n (n + 1) (omega arith) (omega arith) (sym e.1 ∙ is) in omega arith

pub returns-clause-found : goal.returns-clause-found
returns-clause-found c =
    let n = c.in_ok-n.n in
    let e = c.in_ok-n.ensures.found in
    let back : n - 1 + 1 ≡ n = omega arith in
    (n - 1, omega (arith, ints), omega arith, e.1 ∙ ap decimal (sym back))
