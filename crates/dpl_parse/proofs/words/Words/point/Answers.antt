use Rattle.std.proofs.Common.{◌≢◌, ◌∷◌, List, ℕ}
use Rattle.std.specs.Fmt.{signed_decimal}
use Rattle.dpl_spec_split.specs.declared.Pt.{Pt}
use Rattle.dpl_cert.specs.Grammar.{IsPoint}
use Rattle.dpl_parse.proofs.Leading.{after}
use Rattle.dpl_parse.proofs.Numerals.{given_none}
use Rattle.dpl_parse.proofs.words.Words.point.Goals as goal

abbrev Unread : List (List ℕ) → Type 0
Unread w = (p : Pt) (t : List (List ℕ)) → IsPoint p → w ≢ signed_decimal p.x ∷ signed_decimal p.y ∷ t

pub returns-in_err-x-clause-none : goal.returns-in_err-x-clause-none
returns-in_err-x-clause-none c = given_none {P = Unread c.args.self.now} _ (λ p t f e. c.in_err-x.ensures.none p.x _ f.x e)

pub returns-in_err-y-clause-none : goal.returns-in_err-y-clause-none
returns-in_err-y-clause-none c =
    given_none {P = Unread c.args.self.now} _ (λ p t f e. c.in_err-y.ensures.none p.y t f.y (after c.in_ok-x.ensures.found.1 e))
