use Rattle.std.proofs.Common.{rules, get_or, ◌≡◌}
use Rattle.dpl_parse.proofs.Texts.{rest_is}
use Rattle.dpl_parse.proofs.Numerals.{none_more, negative_none}
use Rattle.dpl_parse.proofs.words.coordinate_of.Goals as goal

pub returns-in-45-clause-none : goal.returns-in-45-clause-none
returns-in-45-clause-none c =
    let first : get_or c.args.word.now 0 0 ≡ 45 = search rules in
    none_more c.negative_coordinate.result (λ others. negative_none c.args.word.now first (λ n h is. others n h (rw rest_is is))) c.negative_coordinate.ensures.none
