use Rattle.dpl_words.proofs.Ranges.{some_from}
use Rattle.std.proofs.lemmas.Result.{IfOk-from_err}
use Rattle.dpl_words.proofs.values.batch_options.Goals as goal

pub number_16-requires : goal.number_16-requires
number_16-requires c = some_from 0 65535 _ c.requires.there.datatype

pub number_16-requires-2 : goal.number_16-requires-2
number_16-requires-2 c = some_from 0 65535 _ c.requires.there.a

pub number_16-requires-3 : goal.number_16-requires-3
number_16-requires-3 c = some_from 0 65535 _ c.requires.there.b

pub number_32-requires : goal.number_32-requires
number_32-requires c = some_from 1 1000000 _ c.requires.there.rule

pub number_32-requires-2 : goal.number_32-requires-2
number_32-requires-2 c = some_from 1 1000000 _ c.requires.there.overlap

pub number_32-requires-3 : goal.number_32-requires-3
number_32-requires-3 c = some_from 1 1073741824 _ c.requires.there.tile

pub number_32-requires-4 : goal.number_32-requires-4
number_32-requires-4 c = some_from 1 64 _ c.requires.there.workers

pub corner-requires : goal.corner-requires
corner-requires c = some_from 1 1000000 _ c.requires.there.rule

pub required_text-requires : goal.required_text-requires
required_text-requires c = c.requires.there.input

pub required_text-requires-2 : goal.required_text-requires-2
required_text-requires-2 c = c.requires.there.prefix

pub numbers_16-requires : goal.numbers_16-requires
numbers_16-requires c = c.requires.there.layers

pub returns-in_err-layers : goal.returns-in_err-layers
returns-in_err-layers c = IfOk-from_err _ _ c.from_residual.ensures.0
