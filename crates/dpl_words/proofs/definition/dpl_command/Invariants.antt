use Rattle.clap.specs.Simple.{app_of}
use Rattle.dpl_words.proofs.Building.{HasLevels}
use Rattle.dpl_words.proofs.definition.dpl_command.Given as goal

-- the command so far has the subcommands of the levels that were met
abbrev pub invariant-loop-level : goal.invariant-loop-level
invariant-loop-level l = HasLevels l.level-items l.level-index (app_of l.command)
