use Rattle.std.proofs.Common.{◌∷◌, [], length-append, ap, length, arith}
use Rattle.std.proofs.lemmas.Result.{IfOk-from_err}
use Rattle.dpl_walk.proofs.ShortLaws.{own_none, own_more, own_all, own_targets}
use Rattle.dpl_walk.proofs.ways.own_ways.Goals as goal

pub loop-structure-init : goal.loop-structure-init
loop-structure-init c = record { each = ap length c.new-ways.ensures.items; own = own_none _ c.new-ways.ensures.items }

pub loop-structure-preserved : goal.loop-structure-preserved
loop-structure-preserved c = record {
  each = omega (arith, ap length c.in_ok-push.ensures.items, length-append c.loop-structure.ways.items (c.own_way.result ∷ []), c.loop-structure.invariant.each);
  own = own_more c.loop-structure.ways.items c.push.new.self.items c.own_way.result c.loop-structure.structure c.in_ok-push.ensures.items
      c.loop-structure.invariant.each c.own_way.ensures.target c.own_way.ensures.stays c.own_way.ensures.still c.loop-structure.invariant.own;
}

pub returns-clause-own : goal.returns-clause-own
returns-clause-own c = own_targets c.loop-structure.ways.items c.loop-structure.invariant.own

pub returns-clause-ways : goal.returns-clause-ways
returns-clause-ways c = own_all c.args.cells.now c.loop-structure.ways.items c.requires.deep (omega (arith, c.loop-structure.invariant.each)) c.loop-structure.invariant.own

pub returns-in_err-push-clause-ways : goal.returns-in_err-push-clause-ways
returns-in_err-push-clause-ways c = IfOk-from_err _ _ c.from_residual.ensures.0

pub returns-in_err-push-clause-own : goal.returns-in_err-push-clause-own
returns-in_err-push-clause-own c = IfOk-from_err _ _ c.from_residual.ensures.0
