use Rattle.clap.specs.Matches.{found_of}
use Rattle.dpl_words.proofs.Numbers.{flag_got}
use Rattle.dpl_words.proofs.values.flag.Goals as goal

pub returns : goal.returns
returns c = flag_got (found_of c.args.matches.now) c.args.id.now c.get_flag.result c.requires c.get_flag.ensures.value c.get_flag.ensures.other
