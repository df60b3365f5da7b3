use Rattle.std.proofs.Common.{◌≡◌, ◌≢◌, ◌/◌, ◌*◌, ◌+◌, List, ℕ, arith}
use Rattle.std.proofs.lemmas.Fmt.{decimal_injective}
use Rattle.dpl_parse.specs.declared.heads.CycleCount.{CycleCount}
use Rattle.dpl_parse.specs.Heads.{IsCycleCount, cycle_count_words}
use Rattle.dpl_parse.proofs.Leading.{after, before}
use Rattle.dpl_parse.proofs.Numerals.{given_none}
use Rattle.dpl_parse.proofs.heads.CycleCountRow.read.Goals as goal

abbrev Unread : List (List ℕ) → ℕ → Type 0
Unread w n = (x : CycleCount) → IsCycleCount x → w ≢ cycle_count_words n x

pub returns-in_err-literal-clause-none : goal.returns-in_err-literal-clause-none
returns-in_err-literal-clause-none c = given_none {P = Unread c.args.words.now c.args._n} _ (λ x f e. c.in_err-literal.ensures.none _ e)

pub returns-in_err-len-clause-none : goal.returns-in_err-len-clause-none
returns-in_err-len-clause-none c =
    given_none {P = Unread c.args.words.now c.args._n} _ (λ x f e. c.in_err-len.ensures.none x.len _ f.fits (after c.in_ok-literal.ensures.found e))

pub returns-in_err-end-clause-none : goal.returns-in_err-end-clause-none
returns-in_err-end-clause-none c =
    given_none {P = Unread c.args.words.now c.args._n} _ (λ x f e.
    c.in_err-end.ensures.none (after c.in_ok-len.ensures.found.1 (after c.in_ok-literal.ensures.found e)))

pub returns-then-len-lt3-clause-none : goal.returns-then-len-lt3-clause-none
returns-then-len-lt3-clause-none c = λ x f e.
    let b = c.in_ok-len.ensures.found in
    let equal = decimal_injective c.in_ok-len.len x.len b.0 f.fits (before b.1 (after c.in_ok-literal.ensures.found e)) in
    let long = f.long in
    omega arith

pub returns-then-len-ne1-clause-none : goal.returns-then-len-ne1-clause-none
returns-then-len-ne1-clause-none c = λ x f e.
    let b = c.in_ok-len.ensures.found in
    let equal = decimal_injective c.in_ok-len.len x.len b.0 f.fits (before b.1 (after c.in_ok-literal.ensures.found e)) in
    let half = f.odd.0 in
    let odd : x.len ≡ half * 2 + 1 = f.odd.1 in
    omega arith

pub returns-clause-found : goal.returns-clause-found
returns-clause-found c =
    let n = c.in_ok-len.len in
    let b = c.in_ok-len.ensures.found in (
      record { long = omega arith; odd = (n / 2, omega arith); fits = b.0 },
      rw (c.in_ok-literal.ensures.found, b.1, c.in_ok-end.ensures.found),
    )
