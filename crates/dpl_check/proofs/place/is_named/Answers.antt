use Rattle.dpl_check.proofs.place.is_named.Goals as goal

pub returns-in-Piece : goal.returns-in-Piece
returns-in-Piece c = rw c.in-Piece.is (
  λ test. (let keyed = c.is_keyed.ensures.0 test in (keyed.known, keyed.key)),
  λ named. c.is_keyed.ensures.1 (record { known = named.0; key = named.1 }),
)
