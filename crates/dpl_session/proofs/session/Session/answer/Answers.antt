use Rattle.std.proofs.Common.{ℕ, List, length, subst, sym}
use Rattle.dpl_spec_split.specs.Pieces.{Conflict}
use Rattle.dpl_spec_split.specs.Cycle.{IsReported}
use Rattle.dpl_piece.specs.View.{cut_view}
use Rattle.dpl_session.specs.declared.verdict.Verdict.{Verdict}
use Rattle.dpl_session.specs.Answered.{Decides}
use Rattle.dpl_session.proofs.session.Session.answer.Goals as goal

pub returns-in-Even : goal.returns-in-Even
returns-in-Even c =
    let s = c.self.inside in
    let (features, is) = c.self.invariant.cut in
    let d = subst (λ (v : Verdict). Decides (Conflict s.spacing s.pieces.parts s.pieces.owners) (length s.pieces.parts) s.pieces.sides v) c.in-Even.is c.self.invariant.decided in
    rw (← c.self.view_is) (cut_view features s.pieces, is, (c.parts-pieces.ensures.value, d.0, d.1))

pub returns-in-Odd : goal.returns-in-Odd
returns-in-Odd c =
    let s = c.self.inside in
    let (features, is) = c.self.invariant.cut in
    let d = subst (λ (v : Verdict). Decides (Conflict s.spacing s.pieces.parts s.pieces.owners) (length s.pieces.parts) s.pieces.sides v) c.in-Odd.is c.self.invariant.decided in
    let cycle = subst (λ (l : List ℕ). IsReported (Conflict s.spacing s.pieces.parts s.pieces.owners) l) (sym c.items.ensures) d.1 in
    rw (← c.self.view_is) (cut_view features s.pieces, is, (c.parts-pieces.ensures.value, d.0, cycle))
