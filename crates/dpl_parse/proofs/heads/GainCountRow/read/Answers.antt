use Rattle.std.proofs.Common.{◌≢◌, List, ℕ}
use Rattle.dpl_parse.specs.declared.heads.GainCount.{GainCount}
use Rattle.dpl_parse.specs.Heads.{IsGainCount, gain_count_words}
use Rattle.dpl_parse.proofs.Leading.{after}
use Rattle.dpl_parse.proofs.Numerals.{given_none}
use Rattle.dpl_parse.proofs.heads.GainCountRow.read.Goals as goal

abbrev Unread : List (List ℕ) → ℕ → Type 0
Unread w n = (x : GainCount) → IsGainCount x → w ≢ gain_count_words n x

pub returns-in_err-literal-clause-none : goal.returns-in_err-literal-clause-none
returns-in_err-literal-clause-none c = given_none {P = Unread c.args.words.now c.args._n} _ (λ x f e. c.in_err-literal.ensures.none _ e)

pub returns-in_err-len-clause-none : goal.returns-in_err-len-clause-none
returns-in_err-len-clause-none c =
    given_none {P = Unread c.args.words.now c.args._n} _ (λ x f e. c.in_err-len.ensures.none x.len _ f (after c.in_ok-literal.ensures.found e))

pub returns-in_err-end-clause-none : goal.returns-in_err-end-clause-none
returns-in_err-end-clause-none c =
    given_none {P = Unread c.args.words.now c.args._n} _ (λ x f e.
    c.in_err-end.ensures.none (after c.in_ok-len.ensures.found.1 (after c.in_ok-literal.ensures.found e)))

pub returns-clause-found : goal.returns-clause-found
returns-clause-found c =
    let n = c.in_ok-len.ensures.found in (n.0, rw (c.in_ok-literal.ensures.found, n.1, c.in_ok-end.ensures.found))
