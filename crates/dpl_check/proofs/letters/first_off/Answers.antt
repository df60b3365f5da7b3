use Rattle.std.specs.Prelude.{pos}
use Rattle.std.proofs.Common.{rules, false}
use Rattle.std.proofs.lemmas.Bool.{false≢true}
use Rattle.dpl_cert.specs.declared.cert.PieceLine.{PieceLine}
use Rattle.dpl_check.specs.Findings.{IsOffMask}
use Rattle.dpl_check.proofs.Finding.{none-more, first-found, none-found}
use Rattle.dpl_check.proofs.letters.first_off.Goals as goal

abbrev nothing : PieceLine
nothing = record { b = false; key = record { x = pos 0; y = pos 0 } }

pub loop-k-preserved : goal.loop-k-preserved
loop-k-preserved c = none-more (IsOffMask c.args.a.now c.args.b.now) c.args.pieces.now c.loop-k.k _ (search rules) (search rules)
    (λ off. off (c.is_on_mask.ensures.0 (search rules))) c.loop-k.invariant

pub returns-then-not-is_on_mask : goal.returns-then-not-is_on_mask
returns-then-not-is_on_mask c = first-found (IsOffMask c.args.a.now c.args.b.now) c.args.pieces.now c.loop-k.k _ (search rules)
    (search rules) (λ on. false≢true (c.if-not-is_on_mask.ensures.1 on)) c.loop-k.invariant

pub returns : goal.returns
returns c = none-found (IsOffMask c.args.a.now c.args.b.now) c.args.pieces.now c.loop-k.k (search rules) nothing c.loop-k.invariant
