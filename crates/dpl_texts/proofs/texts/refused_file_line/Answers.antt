use Rattle.std.proofs.Common.{codes}
use Rattle.std.proofs.lemmas.Result.{IfOk-weaker}
use Rattle.std.specs.Fmt.{decimal}
use Rattle.std.specs.Prelude.{string_bytes}
use Rattle.dpl_cert.specs.Names.{spelling}
use Rattle.dpl_texts.proofs.Numbers.{two_numbers}
use Rattle.dpl_texts.proofs.texts.refused_file_line.Goals as goal

pub returns-in-Layout : goal.returns-in-Layout
returns-in-Layout c =
    rw c.in-Layout.is
    (IfOk-weaker c.format.result _ _
    (λ line h. two_numbers (string_bytes line) (codes "refused in ") (spelling c.args.name) (decimal c.args.at) h)
    c.format.ensures.ok)
