use Rattle.std.proofs.Common.{◌∙◌, ap, sym}
use Rattle.std.specs.Prelude.{option_map}
use Rattle.dpl_host.proofs.ByName.{files_get, of_copied}
use Rattle.dpl_host.proofs.names.file.Goals as goal

pub returns : goal.returns
returns c = of_copied c.get.result ∙ ap (option_map (λ v. v.items)) c.get.ensures.value ∙ sym (files_get c.args.files.now c.args.name.now)
