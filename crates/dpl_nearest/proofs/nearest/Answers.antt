use Rattle.std.proofs.Common.{rules}
use Rattle.std.proofs.lemmas.Result.{IfOk-from_err}
use Rattle.dpl_spec_split.specs.Squares.{Covers}
use Rattle.dpl_nearest.proofs.UnitLaws.{covered_fits, has_partner, nearest_pair}
use Rattle.dpl_nearest.proofs.nearest.Goals as goal

pub unreachable-requires : goal.unreachable-requires
unreachable-requires c =
    let from = rw c.in-Some.is at c.in_ok-from.ensures in
    let none = rw c.in_default-unit.is at c.unit.ensures.none in
    none (search rules) (covered_fits c.args.a.now c.in-Some.from c.requires.within_a from.inside.0)

pub returns-in_default-2-clause-none : goal.returns-in_default-2-clause-none
returns-in_default-2-clause-none c =
    let from = rw c.in-Some.is at c.in_ok-from.ensures in
    let square = rw c.in-Some-unit.is at c.unit.ensures.some in
    let none = rw c.in_default-2.is at c.in_ok-to.ensures in
    absurd (none (has_partner c.args.spacing (Covers c.args.a.now) (Covers c.args.b.now) c.in-Some.from c.in-Some-unit.square square from))

pub returns-clause-some : goal.returns-clause-some
returns-clause-some c =
    let from = rw c.in-Some.is at c.in_ok-from.ensures in
    let square = rw c.in-Some-unit.is at c.unit.ensures.some in
    let to = rw c.in-Some-2.is at c.in_ok-to.ensures in
    nearest_pair c.args.spacing (Covers c.args.a.now) (Covers c.args.b.now) c.in-Some.from c.in-Some-2.to c.in-Some-unit.square square from to

pub returns-in_err-from-clause-none : goal.returns-in_err-from-clause-none
returns-in_err-from-clause-none c = IfOk-from_err _ _ c.from_residual.ensures.0

pub returns-in_err-from-clause-some : goal.returns-in_err-from-clause-some
returns-in_err-from-clause-some c = IfOk-from_err _ _ c.from_residual.ensures.0

pub returns-in_err-to-clause-none : goal.returns-in_err-to-clause-none
returns-in_err-to-clause-none c = IfOk-from_err _ _ c.from_residual-in_err-to.ensures.0

pub returns-in_err-to-clause-some : goal.returns-in_err-to-clause-some
returns-in_err-to-clause-some c = IfOk-from_err _ _ c.from_residual-in_err-to.ensures.0
