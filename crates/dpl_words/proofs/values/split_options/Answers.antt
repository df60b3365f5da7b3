use Rattle.dpl_words.proofs.Ranges.{some_from}
use Rattle.dpl_words.proofs.values.split_options.Goals as goal

pub number_16-requires : goal.number_16-requires
number_16-requires c = some_from 0 65535 _ c.requires.there.layer

pub number_16-requires-2 : goal.number_16-requires-2
number_16-requires-2 c = some_from 0 65535 _ c.requires.there.datatype

pub number_16-requires-3 : goal.number_16-requires-3
number_16-requires-3 c = some_from 0 65535 _ c.requires.there.a

pub number_16-requires-4 : goal.number_16-requires-4
number_16-requires-4 c = some_from 0 65535 _ c.requires.there.b

pub number_32-requires : goal.number_32-requires
number_32-requires c = some_from 1 1000000 _ c.requires.there.rule

pub number_32-requires-2 : goal.number_32-requires-2
number_32-requires-2 c = some_from 1 1000000 _ c.requires.there.overlap

pub number_32-requires-3 : goal.number_32-requires-3
number_32-requires-3 c = some_from 1 1073741824 _ c.requires.there.tile

pub number_32-requires-4 : goal.number_32-requires-4
number_32-requires-4 c = some_from 1 64 _ c.requires.there.workers

pub corner-requires : goal.corner-requires
corner-requires c = some_from 1 1000000 _ c.requires.there.rule

pub required_text-requires : goal.required_text-requires
required_text-requires c = c.requires.there.input

pub required_text-requires-2 : goal.required_text-requires-2
required_text-requires-2 c = c.requires.there.output

pub required_text-requires-3 : goal.required_text-requires-3
required_text-requires-3 c = c.requires.there.certificate

pub flag-requires : goal.flag-requires
flag-requires c = c.requires.there.fewer

pub returns : goal.returns
returns c =
    rw (
      c.number_16.ensures,
      c.number_16-2.ensures,
      c.number_16-3.ensures,
      c.number_16-4.ensures,
      c.number_32.ensures,
      c.number_32-2.ensures,
      c.number_32-3.ensures,
      c.number_32-4.ensures,
      c.corner.ensures,
      c.text.ensures,
      c.given_16.ensures,
      c.given_16-2.ensures,
      c.flag.ensures,
      c.required_text.ensures,
      c.required_text-2.ensures,
      c.required_text-3.ensures,
    )
