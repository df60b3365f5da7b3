use Rattle.std.proofs.Common.{◌∙◌, ap}
use Rattle.std.proofs.lemmas.Result.{IfOk-weaker}
use Rattle.clap.specs.Simple.{App, app_of, with_subcommand}
use Rattle.dpl_words.proofs.definition.with_level.Goals as goal

pub returns-in-Ok : goal.returns-in-Ok
returns-in-Ok c =
    let level = c.in-Ok.ensures in
    IfOk-weaker c.subcommand.result _ _ (λ r adds. adds.shape level.local ∙ ap (λ (a : App). with_subcommand (app_of c.args.command) a.top) level.shape)
    c.subcommand.ensures
