use Rattle.std.proofs.Common.{rules, subst, sym}
use Rattle.dpl_parse.proofs.Numerals.{number_found, decimal_is_plain, number_parses, number_is_text, IsPlain}
use Rattle.dpl_parse.proofs.words.number_of.Goals as goal

pub returns-then-not-is_plain-clause-none : goal.returns-then-not-is_plain-clause-none
returns-then-not-is_plain-clause-none c = λ n h is.
    let plain : IsPlain c.args.word.now = subst IsPlain (sym is) (decimal_is_plain n h) in
    let t = c.if-not-is_plain.ensures.1 plain in search rules

pub returns-in_default-clause-none : goal.returns-in_default-clause-none
returns-in_default-clause-none c = λ n h is. number_is_text c.args.word.now c.in_default.ensures.cases.0 n h is

pub returns-in_default-parse-clause-none : goal.returns-in_default-parse-clause-none
returns-in_default-parse-clause-none c = λ n h is.
    let same = c.in-Ok.ensures.cases.0 in
    number_parses c.in-Ok.text.now c.in_default-parse.ensures.value.0 n h (rw same is)

pub returns-clause-found : goal.returns-clause-found
returns-clause-found c =
    let same = c.in-Ok.ensures.cases.0 in
    let plain : IsPlain c.in-Ok.text.now = rw same (c.if-not-is_plain.ensures.0 (search rules)) in
    let found = number_found c.in-Ok.text.now c.in-Ok-parse.n plain c.in-Ok-parse.ensures.value.0 in
    rw (← same) found
