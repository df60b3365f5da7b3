use Rattle.std.proofs.Common.{codes}
use Rattle.std.proofs.lemmas.Result.{IfOk-weaker}
use Rattle.std.specs.Fmt.{decimal}
use Rattle.std.specs.Prelude.{string_bytes}
use Rattle.dpl_texts.proofs.Numbers.{two_numbers}
use Rattle.dpl_texts.proofs.texts.plain_rules_line.Goals as goal

pub returns : goal.returns
returns c =
    IfOk-weaker c.format.result _ _
    (λ line h. two_numbers (string_bytes line) (codes "no Rules ") (decimal c.args.rule) (decimal c.args.overlap) h)
    c.format.ensures.ok
