use Rattle.dpl_shade.proofs.DealtLaws.{both-from}
use Rattle.std.proofs.lemmas.Result.{IfOk-from_err}
use Rattle.dpl_shade.proofs.dealt.add_found.Goals as goal

pub darken_by-requires : goal.darken_by-requires
darken_by-requires c = rw c.deref.ensures.value c.requires

pub returns : goal.returns
returns c = both-from c.args.shades.now c.args.other c.append.new.self c.darken_by.new.dead c.in_ok-append.ensures.items c.darken_by.ensures.sized
    (rw c.deref.ensures.value at c.darken_by.ensures.dead)

pub returns-in_err-append : goal.returns-in_err-append
returns-in_err-append c = IfOk-from_err _ _ c.from_residual.ensures.0
