use Rattle.std.proofs.Common.{◌≡◌, ◌∙◌, ap, arith, rules, w32, FitsSigned}
use Rattle.std.specs.Prelude.{pos, ◌+ℤ◌}
use Rattle.std.proofs.lemmas.Int.{ints, clamps}
use Rattle.dpl_join.specs.Strips.{strip_of}
use Rattle.dpl_join.proofs.StripLaws.{stands-below}
use Rattle.dpl_join.proofs.ruling.count_up_to.Goals as goal

pub returns : goal.returns
returns c = λ item lies.
    let last : FitsSigned w32 c.args.last = search rules in
    let value : c.strip_of.result ≡ strip_of c.args.ruling.now.first c.args.ruling.now.shift (c.args.last +ℤ pos c.args.rule) =
    c.strip_of.ensures.value ∙ ap (strip_of c.args.ruling.now.first c.args.ruling.now.shift) (omega (arith, ints, clamps)) in
    let under = stands-below c.args.ruling.now.first c.args.ruling.now.shift c.args.rule c.args.last item lies in
    omega (arith, value, under)
