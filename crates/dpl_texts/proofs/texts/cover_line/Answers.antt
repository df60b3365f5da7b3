use Rattle.std.proofs.Common.{codes}
use Rattle.std.proofs.lemmas.Result.{IfOk-weaker}
use Rattle.std.specs.Fmt.{signed_decimal}
use Rattle.std.specs.Prelude.{string_bytes}
use Rattle.dpl_texts.proofs.Numbers.{two_numbers}
use Rattle.dpl_texts.proofs.texts.cover_line.Goals as goal

pub returns : goal.returns
returns c =
    IfOk-weaker c.format.result _ _
    (λ line h. two_numbers (string_bytes line) (codes "no Cover ") (signed_decimal c.args.at.now.x) (signed_decimal c.args.at.now.y) h)
    c.format.ensures.ok
