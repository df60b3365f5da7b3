use Rattle.clap.specs.Matches.{found_of}
use Rattle.dpl_words.proofs.Numbers.{unsigned_got}
use Rattle.dpl_words.proofs.values.given_32.Goals as goal

pub returns : goal.returns
returns c = unsigned_got 32 (found_of c.args.matches.now) c.args.id.now c.get_one.result c.get_one.ensures.none c.get_one.ensures.value
