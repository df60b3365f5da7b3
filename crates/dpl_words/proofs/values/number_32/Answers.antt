use Rattle.clap.specs.Matches.{found_of}
use Rattle.dpl_words.proofs.Numbers.{is_there, number_read, unsigned_got}
use Rattle.dpl_words.proofs.values.number_32.Goals as goal

pub unwrap-requires : goal.unwrap-requires
unwrap-requires c =
    is_there _ _ (unsigned_got 32 (found_of c.args.matches.now) c.args.id.now c.get_one.result c.get_one.ensures.none c.get_one.ensures.value) c.requires

pub returns : goal.returns
returns c =
    number_read _ _ _ (unsigned_got 32 (found_of c.args.matches.now) c.args.id.now c.get_one.result c.get_one.ensures.none c.get_one.ensures.value) c.unwrap.ensures
