use Rattle.std.proofs.Common.{inl, inr, subst, arith}
use Rattle.std.proofs.lemmas.Bool.{cases_eq, false≢true}
use Rattle.std.proofs.lemmas.List.{length-map}
use Rattle.dpl_sides.specs.declared.piece.Piece.{Piece}
use Rattle.dpl_sides.specs.Pieces.{parts_in}
use Rattle.dpl_sides.proofs.StandingLaws.{has-piece, has-slab, piece-has, HasSlab}
use Rattle.dpl_sides.proofs.standing.beside.Goals as goal

pub returns-then-some_stands-clause-some : goal.returns-then-some_stands-clause-some
returns-then-some_stands-clause-some c =
    piece-has c.args.pieces.now c.loop-k.k c.index-pieces-k.result c.rects.result.now c.loop-k-test.true c.rects.ensures.value
    c.args.side c.args.from c.args.zone.now (omega arith) (c.some_stands.ensures.0 c.if-some_stands.true)

pub loop-k-preserved : goal.loop-k-preserved
loop-k-preserved c j l h = elim (cases_eq j c.loop-k.k) [
  | inl e ↦ false≢true (c.if-some_stands.ensures.1
      (has-piece c.args.pieces.now c.loop-k.k c.index-pieces-k.result c.rects.result.now c.loop-k-test.true c.rects.ensures.value
      c.args.side c.args.from c.args.zone.now (subst (HasSlab c.args.side (parts_in c.args.pieces.now) c.args.from c.args.zone.now) e h)))
  | inr ne ↦ c.loop-k.invariant j (omega (arith, l, ne)) h
]

pub returns-clause-none : goal.returns-clause-none
returns-clause-none c none k stands =
    let h : HasSlab c.args.side (parts_in c.args.pieces.now) c.args.from c.args.zone.now k = has-slab (parts_in c.args.pieces.now) c.args.from c.args.zone.now k c.args.side stands in
    c.loop-k.invariant k (omega (arith, h.high, c.loop-k-test.false, length-map c.args.pieces.now (λ y. let u : Piece = y in u.part))) h
