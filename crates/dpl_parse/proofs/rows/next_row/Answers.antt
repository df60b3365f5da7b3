use Rattle.std.proofs.Common.{◌≡◌, ◌≢◌, arith, List, ℕ, ◌∷◌, [], ◌++◌, sym, ap, ◌∙◌}
use Rattle.dpl_cert.specs.Lines.{line, lines}
use Rattle.dpl_parse.proofs.Texts.{line_is, line_words}
use Rattle.dpl_parse.proofs.Numerals.{given_none}
use Rattle.dpl_parse.proofs.rows.next_row.Goals as goal

pub returns-clause-found : goal.returns-clause-found
returns-clause-found g c =
    let row = c.in_ok-row.ensures.found in
    (row.0, c.in_ok-text.ensures.found ∙ ap (λ (l : List ℕ). l ∷ lines c.in_ok-text.rest.now) (line_is c.in_ok-text.text.now _ (sym c.of-words.ensures ∙ row.1)))

pub returns-in_err-row-clause-none : goal.returns-in_err-row-clause-none
returns-in_err-row-clause-none g c =
    given_none {P = (x : _) (t : List (List ℕ)) → g.T.Row.fits x → lines c.args.bytes.now ≢ line (g.T.Row.spelled c.args.n x) ∷ t} _ (λ x t f e.
    let h = c.in_ok-text.ensures.found in
    let same : c.in_ok-text.text.now ++ (10 ∷ []) ≡ line (g.T.Row.spelled c.args.n x) = cc in
    c.in_err-row.ensures.none x f (c.of-words.ensures ∙ line_words c.in_ok-text.text.now (g.T.Row.spelled c.args.n x)
    (g.met.T.Row.proper c.args.n x (omega (arith, c.ranges.n)) f) same))
