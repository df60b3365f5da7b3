use Rattle.std.proofs.Common.{sym, ◌∙◌}
use Rattle.std.proofs.lemmas.Bool.{false≢true}
use Rattle.dpl_check.proofs.place.is_near_line.Goals as goal

pub returns-then-not-is_of_piece : goal.returns-then-not-is_of_piece
returns-then-not-is_of_piece c = (λ test. absurd (false≢true test), λ line. absurd (false≢true (sym c.if-not-is_of_piece.true ∙ c.is_of_piece.ensures.1 line.from)))

pub returns-then-not-is_of_piece-2 : goal.returns-then-not-is_of_piece-2
returns-then-not-is_of_piece-2 c = (λ test. absurd (false≢true test), λ line. absurd (false≢true (sym c.if-not-is_of_piece-2.true ∙ c.is_of_piece-2.ensures.1 line.to)))

pub returns : goal.returns
returns c = (
  λ test. record {
    from = c.is_of_piece.ensures.0 c.if-not-is_of_piece.false;
    to = c.is_of_piece-2.ensures.0 c.if-not-is_of_piece-2.false;
    near = c.are_near.ensures.0 test;
  },
  λ line. c.are_near.ensures.1 line.near,
)
