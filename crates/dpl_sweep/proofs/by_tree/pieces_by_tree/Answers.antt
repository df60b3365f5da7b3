use Rattle.std.proofs.Common.{length, ◌-◌, get_or, refl, rules, w32, arith, FitsSigned}
use Rattle.std.specs.Prelude.{pos}
use Rattle.std.proofs.lemmas.Int.{to_z-of_z}
use Rattle.std.proofs.lemmas.List.Elements.{Contains-get_or}
use Rattle.dpl_sweep.specs.declared.edge.Edge.{Edge}
use Rattle.dpl_sweep.proofs.PassLaws.{first-least, all-left, closed-apart, closed-covers}
use Rattle.std.proofs.lemmas.Result.{IfOk-from_err}
use Rattle.dpl_sweep.proofs.by_tree.pieces_by_tree.Goals as goal

abbrev zero : Edge
zero = record { x = pos 0; y0 = pos 0; y1 = pos 0; a = pos 0; b = pos 0 }

pub pass-requires-clause-first : goal.pass-requires-clause-first
pass-requires-clause-first c e e_in =
    let first : FitsSigned w32 (get_or c.args.edges.now 0 zero).x = search rules in
    rw (to_z-of_z w32 _ first) (first-least c.args.edges.now zero e c.requires.rise e_in)

pub put_down-requires-clause-rows : goal.put_down-requires-clause-rows
put_down-requires-clause-rows c =
    let first : FitsSigned w32 (get_or c.args.edges.now 0 zero).x = search rules in
    let last : Edge = get_or c.args.edges.now (length c.args.edges.now - 1) zero in
    let there = Contains-get_or c.args.edges.now (length c.args.edges.now - 1) zero (grind arith) in (
      last.x,
      c.in_ok-bands.ensures.rows last.x (rw (to_z-of_z w32 _ first) (first-least c.args.edges.now zero last c.requires.rise there))
          (all-left c.args.edges.now zero c.requires.rise),
    )

pub returns-clause-apart : goal.returns-clause-apart
returns-clause-apart c =
    let last : Edge = get_or c.args.edges.now (length c.args.edges.now - 1) zero in
    closed-apart _ _ _ _ last.x _ _ _ _ (record { none = refl; a = refl; b = refl }) (all-left c.args.edges.now zero c.requires.rise)
    c.requires.closed c.in_ok-bands.ensures c.in_ok-put_down.ensures

pub returns-clause-covers : goal.returns-clause-covers
returns-clause-covers c =
    let last : Edge = get_or c.args.edges.now (length c.args.edges.now - 1) zero in
    closed-covers _ _ _ _ last.x _ _ _ _ (record { none = refl; a = refl; b = refl }) (all-left c.args.edges.now zero c.requires.rise)
    c.requires.closed c.in_ok-bands.ensures c.in_ok-put_down.ensures

pub returns-in_err-bands-clause-apart : goal.returns-in_err-bands-clause-apart
returns-in_err-bands-clause-apart c = IfOk-from_err _ _ c.from_residual.ensures.0

pub returns-in_err-bands-clause-covers : goal.returns-in_err-bands-clause-covers
returns-in_err-bands-clause-covers c = IfOk-from_err _ _ c.from_residual.ensures.0

pub returns-in_err-put_down-clause-apart : goal.returns-in_err-put_down-clause-apart
returns-in_err-put_down-clause-apart c = IfOk-from_err _ _ c.from_residual-in_err-put_down.ensures.0

pub returns-in_err-put_down-clause-covers : goal.returns-in_err-put_down-clause-covers
returns-in_err-put_down-clause-covers c = IfOk-from_err _ _ c.from_residual-in_err-put_down.ensures.0

pub pass-requires-clause-rise : goal.pass-requires-clause-rise
pass-requires-clause-rise c = c.requires.rise
