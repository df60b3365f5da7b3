use Rattle.std.proofs.Common.{codes}
use Rattle.std.proofs.lemmas.Result.{IfOk-weaker}
use Rattle.std.specs.Fmt.{decimal}
use Rattle.std.specs.Prelude.{string_bytes}
use Rattle.dpl_texts.proofs.Numbers.{three_numbers}
use Rattle.dpl_texts.proofs.texts.counts_line.Goals as goal

pub returns : goal.returns
returns c =
    IfOk-weaker c.format.result _ _
    (λ line h. three_numbers (string_bytes line) (codes "no Counts ") (decimal c.args.features) (decimal c.args.pieces) (decimal c.args.zones) h)
    c.format.ensures.ok
