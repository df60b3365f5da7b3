use Rattle.std.proofs.Common.{codes}
use Rattle.std.proofs.lemmas.Result.{IfOk-weaker}
use Rattle.std.specs.Fmt.{signed_decimal}
use Rattle.std.specs.Prelude.{string_bytes}
use Rattle.dpl_texts.proofs.Numbers.{four_numbers}
use Rattle.dpl_texts.proofs.texts.spacing_b_line.Goals as goal

pub returns : goal.returns
returns c =
    IfOk-weaker c.format.result _ _
    (λ line h. four_numbers (string_bytes line) (codes "no SpacingB ") (signed_decimal c.args.first.now.x)
    (signed_decimal c.args.first.now.y) (signed_decimal c.args.second.now.x) (signed_decimal c.args.second.now.y) h)
    c.format.ensures.ok
