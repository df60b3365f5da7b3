use Rattle.std.proofs.Common.{◌∙◌, ◌<◌, ◌^◌, ap, subst, sym, arith, rules, List, length}
use Rattle.std.proofs.lemmas.Result.{IfOk-from_err}
use Rattle.std.specs.List.{AllByRecursion}
use Rattle.dpl_cert.specs.declared.cert.PieceLine.{PieceLine}
use Rattle.dpl_cert.specs.declared.cert.StitchLine.{StitchLine}
use Rattle.dpl_cert.specs.Grammar.{IsNumber, IsPiece, IsStitch}
use Rattle.dpl_answer.proofs.lines.mask_lines.Goals as goal

pub stitches-requires : goal.stitches-requires
stitches-requires c = rw (c.sides.ensures.value, c.requires.each) c.sides.ensures.known

pub stitch_lines-requires-clause-each : goal.stitch_lines-requires-clause-each
stitch_lines-requires-clause-each c = rw (c.sides-2.ensures.value, c.zones.ensures.value) c.sides.ensures.each

pub stitch_lines-requires-clause-numbers : goal.stitch_lines-requires-clause-numbers
stitch_lines-requires-clause-numbers c =
    let few : length c.args.masks.now < 2 ^ 64 = search rules in
    rw c.sides-2.ensures.value (λ k d k_in. (let known = c.sides.ensures.known k d k_in in
    (omega (arith, known.0, few, c.requires.each), omega (arith, known.1, few, c.requires.each))))

pub stitch_lines-requires-clause-known : goal.stitch_lines-requires-clause-known
stitch_lines-requires-clause-known c =
    rw c.deref.ensures.value (λ k h. (let (side, side_in, is, differ) = (c.in_ok-numbers.ensures.exactly k).0 h in
    omega (arith, side_in, ap length c.sides.ensures.value, ap length c.sides-2.ensures.value)))

pub returns-clause-are : goal.returns-clause-are
returns-clause-are c = record {
  numbers = c.in_ok-numbers.numbers.items;
  differing = rw c.sides.ensures.value at c.in_ok-numbers.ensures;
  pieces = c.of.ensures ∙ c.in_ok-lines.ensures.lines;
  stitches = c.of-2.ensures ∙ rw (c.zones.ensures.value, c.sides-2.ensures.value, c.deref.ensures.value) at c.in_ok-stitches.ensures.lines;
}

pub returns-clause-fit : goal.returns-clause-fit
returns-clause-fit c =
    let few : length c.in_ok-stitches.stitches.items < 2 ^ 64 = search rules in
    record {
      pieces = subst (λ (ls : List PieceLine). AllByRecursion IsPiece ls) (sym c.of.ensures) c.in_ok-lines.ensures.within;
      count = subst (λ (ls : List StitchLine). IsNumber (length ls)) (sym c.of-2.ensures) few;
      stitches = subst (λ (ls : List StitchLine). AllByRecursion IsStitch ls) (sym c.of-2.ensures) c.in_ok-stitches.ensures.within;
    }

pub returns-in_err-lines-clause-are : goal.returns-in_err-lines-clause-are
returns-in_err-lines-clause-are c = IfOk-from_err _ _ c.from_residual.ensures.0

pub returns-in_err-lines-clause-fit : goal.returns-in_err-lines-clause-fit
returns-in_err-lines-clause-fit c = IfOk-from_err _ _ c.from_residual.ensures.0

pub returns-in_err-numbers-clause-are : goal.returns-in_err-numbers-clause-are
returns-in_err-numbers-clause-are c = IfOk-from_err _ _ c.from_residual-in_err-numbers.ensures.0

pub returns-in_err-numbers-clause-fit : goal.returns-in_err-numbers-clause-fit
returns-in_err-numbers-clause-fit c = IfOk-from_err _ _ c.from_residual-in_err-numbers.ensures.0

pub returns-in_err-stitches-clause-are : goal.returns-in_err-stitches-clause-are
returns-in_err-stitches-clause-are c = IfOk-from_err _ _ c.from_residual-in_err-stitches.ensures.0

pub returns-in_err-stitches-clause-fit : goal.returns-in_err-stitches-clause-fit
returns-in_err-stitches-clause-fit c = IfOk-from_err _ _ c.from_residual-in_err-stitches.ensures.0
