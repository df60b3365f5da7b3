use Rattle.std.proofs.Common.{◌≡◌, ◌∙◌, length, refl, arith}
use Rattle.std.proofs.lemmas.Result.{IfOk-from_err}
use Rattle.dpl_piece.proofs.Sides.{adds-longer}
use Rattle.dpl_piece.proofs.MadeLaws.{both-ok}
use Rattle.dpl_piece.proofs.rest.Cutting.add_cut.Goals as goal

pub note_sides-requires-clause-from : goal.note_sides-requires-clause-from
note_sides-requires-clause-from c =
    let long = adds-longer c.args.feature _ c.args.number c.args.self.now.pieces.items _ (c.in_ok-add_pieces.ensures.adds _ c.in_ok-parts.ensures) in
    rw c.deref.ensures.value (omega (arith, long, c.len-from.ensures, c.args.self.now.pieces.ok.0))

pub returns : goal.returns
returns c =
    let from : c.len-from.result ≡ length c.args.self.now.pieces.items = c.len-from.ensures ∙ c.args.self.now.pieces.ok.0 in
    both-ok c.note_sides.result _ _ _
    (λ firsts seconds. record {
      pieces = c.in_ok-add_pieces.ensures.adds _ c.in_ok-parts.ensures;
      wholes = c.in_ok-add_pieces.ensures.keeps _ c.in_ok-parts.ensures;
      made = refl;
      firsts = firsts;
      seconds = seconds;
    })
    (rw (from, c.deref.ensures.value) at c.note_sides.ensures.firsts)
    (rw (from, c.deref.ensures.value) at c.note_sides.ensures.seconds)

pub returns-in_err-parts : goal.returns-in_err-parts
returns-in_err-parts c = IfOk-from_err _ _ c.from_residual.ensures.0

pub returns-in_err-add_pieces : goal.returns-in_err-add_pieces
returns-in_err-add_pieces c = IfOk-from_err _ _ c.from_residual-in_err-add_pieces.ensures.0
