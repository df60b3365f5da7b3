use Rattle.std.proofs.Common.{sym, ◌∙◌}
use Rattle.std.proofs.lemmas.Bool.{false≢true}
use Rattle.dpl_check.proofs.place.shows_mark.Goals as goal

pub is_of_piece-requires-clause-items : goal.is_of_piece-requires-clause-items
is_of_piece-requires-clause-items c = rw (c.items-parts.ensures.value, c.parts.ensures.value) c.requires.items

pub is_of_piece-requires-clause-point : goal.is_of_piece-requires-clause-point
is_of_piece-requires-clause-point c = rw c.in-Mark.is at c.requires.line

pub is_of_piece-requires-clause-parts : goal.is_of_piece-requires-clause-parts
is_of_piece-requires-clause-parts c = rw c.items-parts.ensures.value c.items-parts.ensures.parts

pub returns-then-not-is_of_piece : goal.returns-then-not-is_of_piece
returns-then-not-is_of_piece c = (
  λ test. absurd (false≢true test),
  λ shown. absurd (false≢true (sym c.if-not-is_of_piece.true ∙ c.is_of_piece.ensures.1
      (rw (c.items-parts.ensures.value, c.parts.ensures.value) (rw c.in-Mark.is at shown).0))),
)

pub returns : goal.returns
returns c =
    let of_piece = rw (c.items-parts.ensures.value, c.parts.ensures.value) at (c.is_of_piece.ensures.0 c.if-not-is_of_piece.false) in
    rw c.in-Mark.is (λ test. (of_piece, c.is_marked_against.ensures.0 test), λ shown. c.is_marked_against.ensures.1 shown.1)
