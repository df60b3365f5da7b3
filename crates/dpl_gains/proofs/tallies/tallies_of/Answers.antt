use Rattle.std.proofs.Common.{◌≤◌, ℕ, Bool, List, length, take, length-take, true, false, arith}
use Rattle.std.proofs.lemmas.List.Sums.{count_by-le-length}
use Rattle.std.specs.Prelude.{not, ◌&&◌}
use Rattle.std.proofs.lemmas.Result.{IfOk-from_err}
use Rattle.dpl_spec_split.specs.Colours.{colour_at, differ}
use Rattle.dpl_spec_fewer.specs.Fewer.{leaves, zones_out}
use Rattle.dpl_gains.proofs.tallies.tallies_of.Goals as goal

pub returns-in_err-tallies : goal.returns-in_err-tallies
returns-in_err-tallies c = IfOk-from_err _ _ c.from_residual.ensures.0

few-zones : (roots : List ℕ) (colours : List Bool) (root : ℕ) (wanted : Bool) (sides : List (ℕ × ℕ)) → zones_out roots colours root wanted sides ≤ length sides
few-zones roots colours root wanted sides =
    count_by-le-length (λ (side : ℕ × ℕ). leaves roots root side && not (differ wanted (differ (colour_at colours side.0) (colour_at colours side.1)))) sides

pub count-requires-clause-room_d : goal.count-requires-clause-room_d
count-requires-clause-room_d c = λ root l.
    let each = c.loop-k.invariant.each root (let m = rw c.deref_mut.ensures.value at l in omega (arith, m, c.loop-k.invariant.len)) in
    let most = few-zones c.args.roots.now c.args.letters.now root true (take c.loop-k.k c.args.sides.now) in
    let count = length-take c.loop-k.k c.args.sides.now in
    rw (c.deref_mut.ensures.value, each) (omega (arith, most, count))

pub count-requires-clause-room_s : goal.count-requires-clause-room_s
count-requires-clause-room_s c = λ root l.
    let each = c.loop-k.invariant.each root (let m = rw c.deref_mut.ensures.value at l in omega (arith, m, c.loop-k.invariant.len)) in
    let most = few-zones c.args.roots.now c.args.letters.now root false (take c.loop-k.k c.args.sides.now) in
    let count = length-take c.loop-k.k c.args.sides.now in
    rw (c.deref_mut.ensures.value, each) (omega (arith, most, count))
