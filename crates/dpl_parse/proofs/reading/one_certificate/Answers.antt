use Rattle.std.proofs.Common.{sym, ap, ◌∙◌}
use Rattle.dpl_cert.specs.Lines.{lines}
use Rattle.dpl_parse.proofs.Whole.{lines-text}
use Rattle.dpl_parse.proofs.Unique.{cert_same}
use Rattle.dpl_parse.proofs.reading.one_certificate.Goals as goal

pub returns : goal.returns
returns c = λ a b bytes t u. cert_same a b t.0 u.0 (sym (lines-text a t.0) ∙ ap lines (sym t.1 ∙ u.1) ∙ lines-text b u.0)
