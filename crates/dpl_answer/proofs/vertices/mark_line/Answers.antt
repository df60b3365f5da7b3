use Rattle.std.proofs.Common.{refl, subst, List, arith}
use Rattle.std.proofs.lemmas.Result.{IfOk-from_err}
use Rattle.dpl_spec_split.specs.declared.Rect.{Rect}
use Rattle.dpl_spec_split.specs.Squares.{Covers}
use Rattle.dpl_spec_split.specs.Loops.{AreRectsWithin, farthest}
use Rattle.dpl_answer.proofs.NearLines.{point_fits}
use Rattle.dpl_answer.proofs.vertices.mark_line.Goals as goal

pub unreachable-requires : goal.unreachable-requires
unreachable-requires c =
    let (p, in_piece, in_set) = c.requires in
    let there : Covers c.in_ok-common.common p = (c.in_ok-common.ensures.covers p).1 (in_piece, in_set) in
    let (k, r, k_in, is, has) = subst (λ (rs : List Rect). Covers rs p) (c.in_default.ensures.none.0 refl) there in
    omega (arith, k_in)

pub returns-clause-least : goal.returns-clause-least
returns-clause-least c =
    let least = c.in-Some.ensures.some in
    record {
      inside = (c.in_ok-common.ensures.covers c.in-Some.at).0 least.inside;
      first = λ q both. least.first q ((c.in_ok-common.ensures.covers q).1 both);
    }

pub returns-clause-within : goal.returns-clause-within
returns-clause-within c =
    let within = subst (λ (rs : List Rect). AreRectsWithin farthest rs) c.common.view_is c.common.invariant.1 in
    point_fits c.in_ok-common.common c.in-Some.at within c.in-Some.ensures.some.inside

pub returns-in_err-common-clause-least : goal.returns-in_err-common-clause-least
returns-in_err-common-clause-least c = IfOk-from_err _ _ c.from_residual.ensures.0

pub returns-in_err-common-clause-within : goal.returns-in_err-common-clause-within
returns-in_err-common-clause-within c = IfOk-from_err _ _ c.from_residual.ensures.0
