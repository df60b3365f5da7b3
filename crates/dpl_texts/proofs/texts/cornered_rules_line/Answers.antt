use Rattle.std.proofs.Common.{codes}
use Rattle.std.proofs.lemmas.Result.{IfOk-weaker}
use Rattle.std.specs.Fmt.{decimal}
use Rattle.std.specs.Prelude.{string_bytes}
use Rattle.dpl_texts.proofs.Numbers.{three_numbers}
use Rattle.dpl_texts.proofs.texts.cornered_rules_line.Goals as goal

pub returns : goal.returns
returns c =
    IfOk-weaker c.format.result _ _
    (λ line h. three_numbers (string_bytes line) (codes "no Rules ") (decimal c.args.rule) (decimal c.args.overlap) (decimal c.args.corner) h)
    c.format.ensures.ok
