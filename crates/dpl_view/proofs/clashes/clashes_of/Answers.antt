use Rattle.std.proofs.Common.{◌∙◌, sym}
use Rattle.std.specs.Prelude.{None}
use Rattle.std.proofs.lemmas.Result.{IfOk-weaker, IfOk-from_err}
use Rattle.dpl_answer.proofs.Planned.{conflicts_completed}
use Rattle.dpl_piece.specs.View.{cut_view}
use Rattle.dpl_view.proofs.ViewLaws.{even_none, even_clashes}
use Rattle.dpl_view.proofs.TangleLaws.{tangled-none}
use Rattle.dpl_spec_split.specs.Decomposition.{conflicts}
use Rattle.dpl_view.proofs.clashes.clashes_of.Goals as goal

pub returns-in-Even : goal.returns-in-Even
returns-in-Even c =
    let are = conflicts_completed None c.args.spacing c.args.cut.pieces c.in_ok-cut.cut.pieces c.args.conflicts.now c.in_ok-cut.ensures.pieces c.requires.conflicts in
    let (sums, even) = rw c.in-Even.is at are in (
      c.in_ok-cut.cut.pieces,
      c.in_ok-cut.ensures.pieces,
      λ features many.
          let cut = cut_view features c.in_ok-cut.cut.pieces in
          let none = even_none c.args.spacing cut _ sums even in
          record {
            clashes = even_clashes c.args.spacing c.args.overlap cut none c.new.result.items c.new.ensures.items;
            tangled = tangled-none (conflicts c.args.spacing cut) none;
          },
    )

pub odd_clashes-requires-clause-keys : goal.odd_clashes-requires-clause-keys
odd_clashes-requires-clause-keys c = λ key. c.requires.keys c.in_ok-cut.cut.pieces key c.in_ok-cut.ensures.pieces

pub returns : goal.returns
returns c = IfOk-weaker c.odd_clashes.result _ _
    (λ found are. (
      c.in_ok-cut.cut.pieces,
      c.in_ok-cut.ensures.pieces,
      λ features many. are features (many ∙ sym c.in_ok-cut.ensures.features),
    ))
    c.odd_clashes.ensures

pub returns-in_err-cut : goal.returns-in_err-cut
returns-in_err-cut c = IfOk-from_err _ _ c.from_residual.ensures.0
