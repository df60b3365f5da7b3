use Rattle.std.proofs.Common.{[], map, take}
use Rattle.dpl_words.specs.Definition.{rule_for, shape_with}
use Rattle.dpl_words.proofs.Building.{Is}
use Rattle.dpl_words.proofs.definition.Level.command.Given as goal

-- the command so far has the arguments that were met
abbrev pub invariant-loop-argument : goal.invariant-loop-argument
invariant-loop-argument l = Is l.command (record {
  top = shape_with l.self.name.now (map rule_for (take l.argument-index l.self.arguments.now));
  subs = [];
})
