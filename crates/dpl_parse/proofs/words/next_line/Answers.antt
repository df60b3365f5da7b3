use Rattle.std.proofs.Common.{◌≢◌, ◌+◌, ◌++◌, ◌∷◌, List, ℕ, []}
use Rattle.dpl_cert.specs.Lines.{lines}
use Rattle.dpl_parse.proofs.Numerals.{given_none}
use Rattle.dpl_parse.proofs.Texts.{rest_is, lines_cut, lines_lacking, cut_at, nowhere_lacks}
use Rattle.dpl_parse.proofs.words.next_line.Goals as goal

pub returns-in_err-at-clause-none : goal.returns-in_err-at-clause-none
returns-in_err-at-clause-none c =
    given_none {P = (l : List ℕ) (t : List (List ℕ)) → lines c.args.bytes.now ≢ (l ++ 10 ∷ []) ∷ t} _
    (λ l t is. lines_lacking c.args.bytes.now l t (nowhere_lacks 10 c.args.bytes.now c.in_err-at.ensures) is)

pub returns-clause-found : goal.returns-clause-found
returns-clause-found c =
    rw (rest_is (c.in_ok-at.at + 1) c.args.bytes.now) (lines_cut _ _ _ (cut_at 10 c.args.bytes.now c.in_ok-at.at c.in_ok-at.ensures.0 c.in_ok-at.ensures.1))
