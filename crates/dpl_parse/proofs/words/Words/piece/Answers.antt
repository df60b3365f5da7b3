use Rattle.std.proofs.Common.{◌≡◌, ◌≢◌, ◌∷◌, [], List, ℕ, refl}
use Rattle.std.specs.Prelude.{codes}
use Rattle.std.specs.Fmt.{decimal, signed_decimal}
use Rattle.dpl_spec_split.specs.declared.Pt.{Pt}
use Rattle.dpl_cert.specs.declared.cert.PlaceLine.{PlaceLine}
use Rattle.dpl_cert.specs.declared.cert.PlaceLine.TheVariants.{Piece, Anchor}
use Rattle.dpl_cert.specs.Grammar.{IsPlace, IsNumber, IsPoint, place_words}
use Rattle.dpl_parse.proofs.Leading.{after}
use Rattle.dpl_parse.proofs.Numerals.{given_none}
use Rattle.dpl_parse.proofs.words.Words.piece.Goals as goal

abbrev Unread : List (List ℕ) → Type 0
Unread w = (p : PlaceLine) → IsPlace p → codes "piece" ∷ w ≢ place_words 0 p

no_number : (w : List (List ℕ)) → ((n : ℕ) (t : List (List ℕ)) → IsNumber n → w ≢ decimal n ∷ t) → Unread w
no_number w none (Piece k key) f e = none k _ f.0 (after refl e)
no_number w none (Anchor b) f e = absurd cc

no_point : (w a : List (List ℕ)) (n : List ℕ) → w ≡ n ∷ a
    → ((p : Pt) (t : List (List ℕ)) → IsPoint p → a ≢ signed_decimal p.x ∷ signed_decimal p.y ∷ t) → Unread w
no_point w a n h none (Piece k key) f e = none key [] f.1 (after h (after refl e))
no_point w a n h none (Anchor b) f e = absurd cc

pub returns-in_err-piece-clause-none : goal.returns-in_err-piece-clause-none
returns-in_err-piece-clause-none c = given_none {P = Unread c.args.self.now} _ (no_number c.args.self.now c.in_err-piece.ensures.none)

pub returns-in_err-key-clause-none : goal.returns-in_err-key-clause-none
returns-in_err-key-clause-none c =
    given_none {P = Unread c.args.self.now} _ (no_point c.args.self.now _ _ c.in_ok-piece.ensures.found.1 c.in_err-key.ensures.none)
