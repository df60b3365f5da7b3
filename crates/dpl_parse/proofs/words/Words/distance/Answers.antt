use Rattle.std.proofs.Common.{◌≡◌, arith}
use Rattle.std.specs.Fmt.{decimal}
use Rattle.std.proofs.lemmas.Fmt.{decimal_injective}
use Rattle.dpl_parse.proofs.words.Words.distance.Goals as goal

pub returns-then-n-lt1-clause-none : goal.returns-then-n-lt1-clause-none
returns-then-n-lt1-clause-none c = λ n t f e.
    let b = c.in_ok-n.ensures.found in
    let bb = b.1 in
    let same : decimal c.in_ok-n.n ≡ decimal n = cc in
    let equal = decimal_injective c.in_ok-n.n n b.0 (omega arith) same in
    omega arith

pub returns-then-n-gt1000000-clause-none : goal.returns-then-n-gt1000000-clause-none
returns-then-n-gt1000000-clause-none c = λ n t f e.
    let b = c.in_ok-n.ensures.found in
    let bb = b.1 in
    let same : decimal c.in_ok-n.n ≡ decimal n = cc in
    let equal = decimal_injective c.in_ok-n.n n b.0 (omega arith) same in
    omega arith
