use Rattle.std.proofs.Common.{ℕ, List, [], subst}
use Rattle.std.proofs.lemmas.Result.{IfOk-from_err}
use Rattle.std.specs.List.{AllZip, Contains}
use Rattle.std.proofs.lemmas.List.Elements.{All-contains}
use Rattle.dpl_spec_split.specs.Graphs.{IsOddCycle, graph_of}
use Rattle.dpl_spec_split.specs.Pieces.{Conflict}
use Rattle.dpl_piece.specs.View.{cut_view}
use Rattle.dpl_view.specs.Clashes.{IsToldOf}
use Rattle.dpl_spec_split.specs.Decomposition.{conflicts}
use Rattle.dpl_answer.proofs.Deciding.{same_conflicts}
use Rattle.dpl_view.proofs.TangleLaws.{tangled-same}
use Rattle.dpl_view.proofs.ViewLaws.{odd_each, odd_clashes}
use Rattle.dpl_view.proofs.clashes.odd_clashes.Goals as goal

pub told-requires-clause-odd : goal.told-requires-clause-odd
told-requires-clause-odd c = λ x there.
    let pieces = c.args.cut.now.pieces in
    let cycles = c.in_ok-cycles.cycles in
    All-contains (IsOddCycle (Conflict c.args.spacing pieces.parts pieces.owners)) cycles.items x
    (odd_each c.args.spacing (cut_view [] pieces) c.args.edges.now cycles.items c.requires.edges c.in_ok-cycles.ensures.odd)
    (subst (λ (xs : List (List ℕ)). Contains xs x) c.deref.ensures.value there)

pub returns : goal.returns
returns c = λ features many.
    let pieces = c.args.cut.now.pieces in
    let cut = cut_view features pieces in
    let cycles = c.in_ok-cycles.cycles in
    record {
      clashes = odd_clashes c.args.spacing c.args.overlap cut c.args.edges.now cycles.items c.in_ok-clashes.clashes.items c.requires.edges
          c.in_ok-cycles.ensures.cycles c.in_ok-cycles.ensures.odd
          (subst (λ (xs : List (List ℕ)). AllZip (IsToldOf c.args.spacing c.args.overlap cut) xs c.in_ok-clashes.clashes.items) c.deref.ensures.value
          (c.in_ok-clashes.ensures features many));
      tangled = tangled-same (graph_of c.args.edges.now) (conflicts c.args.spacing cut) (same_conflicts c.args.spacing cut c.args.edges.now c.requires.edges)
          c.in_ok-edges.edges c.in_ok-edges.ensures;
    }

pub returns-in_err-cycles : goal.returns-in_err-cycles
returns-in_err-cycles c = IfOk-from_err _ _ c.from_residual.ensures.0

pub returns-in_err-clashes : goal.returns-in_err-clashes
returns-in_err-clashes c = IfOk-from_err _ _ c.from_residual-in_err-clashes.ensures.0

pub returns-in_err-edges : goal.returns-in_err-edges
returns-in_err-edges c = IfOk-from_err _ _ c.from_residual-in_err-edges.ensures.0
