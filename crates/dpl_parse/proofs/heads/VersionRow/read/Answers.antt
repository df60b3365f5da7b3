use Rattle.std.proofs.Common.{◌≢◌, List, ℕ}
use Rattle.dpl_cert.specs.declared.cert.Version.{Version}
use Rattle.dpl_cert.specs.Grammar.{version_words}
use Rattle.dpl_parse.proofs.Leading.{after}
use Rattle.dpl_parse.proofs.Numerals.{given_none}
use Rattle.dpl_parse.proofs.heads.VersionRow.read.Goals as goal

abbrev Unread : List (List ℕ) → Type 0
Unread w = (x : Version) → Unit {0} → w ≢ version_words x

pub returns-in_err-literal-clause-none : goal.returns-in_err-literal-clause-none
returns-in_err-literal-clause-none c = given_none {P = Unread c.args.words.now} _ (λ x f e. c.in_err-literal.ensures.none _ e)

pub returns-in_err-end-clause-none : goal.returns-in_err-end-clause-none
returns-in_err-end-clause-none c =
    given_none {P = Unread c.args.words.now} _ (λ x f e.
    c.in_err-end.ensures.none (after c.in_ok-word.ensures.found (after c.in_ok-literal.ensures.found e)))
