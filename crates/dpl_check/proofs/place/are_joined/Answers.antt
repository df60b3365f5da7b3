use Rattle.dpl_check.proofs.place.are_joined.Goals as goal

pub returns-in-Piece-next : goal.returns-in-Piece-next
returns-in-Piece-next c = rw (c.in-Piece.is, c.in-Piece-next.is) c.shows_conflict.ensures

pub returns-in-Anchor-next : goal.returns-in-Anchor-next
returns-in-Anchor-next c = rw (c.in-Piece.is, c.in-Anchor-next.is) c.shows_mark.ensures

pub returns-in-Piece-next-2 : goal.returns-in-Piece-next-2
returns-in-Piece-next-2 c = rw (c.in-Anchor.is, c.in-Piece-next-2.is) c.shows_mark-in-Piece-next-2.ensures

pub returns-in-Anchor-next-2 : goal.returns-in-Anchor-next-2
returns-in-Anchor-next-2 c = rw (c.in-Anchor.is, c.in-Anchor-next-2.is) c.shows_anchors.ensures
