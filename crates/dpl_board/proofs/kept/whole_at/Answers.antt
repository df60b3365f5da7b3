use Rattle.std.proofs.Common.{rules, ◌/◌, ◌^◌, arith}
use Rattle.std.proofs.lemmas.Nat.{shr-shr, shr_le}
use Rattle.dpl_board.proofs.Tables.{no-start, no-whole, start-size, whole-there}
use Rattle.dpl_board.proofs.kept.whole_at.Goals.{else-begins-via-then-begins+else-begins-2, else-begins-via-else-begins}
use Rattle.dpl_board.proofs.kept.whole_at.Goals as goal

pub returns-in_default : goal.returns-in_default
returns-in_default c = no-start c.args.starts.now c.args.tile c.requires.aligned c.in_default.is

pub overflow_add-whole : goal.overflow_add-whole
overflow_add-whole c = (let s = start-size c.args.starts.now c.args.tile c.in-Some.k c.requires.blocks c.in-Some.is in omega (arith, s))

pub overflow_add-whole-2 : goal.overflow_add-whole-2
overflow_add-whole-2 c = (let s = start-size c.args.starts.now c.args.tile c.in-Some.k c.requires.blocks c.in-Some.is in omega (arith, s))

pub overflow_shr-whole : goal.overflow_shr-whole
overflow_shr-whole c = (let s = start-size c.args.starts.now c.args.tile c.in-Some.k c.requires.blocks c.in-Some.is in omega (arith, s))

pub overflow_cast-whole-2 : goal.overflow_cast-whole-2
overflow_cast-whole-2 c =
    let s = start-size c.args.starts.now c.args.tile c.in-Some.k c.requires.blocks c.in-Some.is in
    let e = shr-shr c.args.tile c.in-Some.k 1 in
    let l = shr_le (c.args.tile / 2 ^ c.in-Some.k) 1 in
    omega (arith, s, e, l)

pub first_of-requires : goal.first_of-requires
first_of-requires c = (let s = start-size c.args.starts.now c.args.tile c.in-Some.k c.requires.blocks c.in-Some.is in omega (arith, s))

pub middle_of-requires : goal.middle_of-requires
middle_of-requires c = (let s = start-size c.args.starts.now c.args.tile c.in-Some.k c.requires.blocks c.in-Some.is in (omega arith, omega (arith, s)))

pub returns-then-begins-2 : goal.returns-then-begins-2
returns-then-begins-2 c =
    whole-there c.args.starts.now c.args.tile c.requires.aligned c.in-Some.k c.in-Some.is
    (rw c.first_of.ensures at (c.if-begins.ensures.0 (search rules))) (rw c.middle_of.ensures at (c.if-begins-2.ensures.0 (search rules)))

pub returns-else-begins : goal.returns-else-begins
returns-else-begins c =
    no-whole c.args.starts.now c.args.tile c.requires.aligned c.in-Some.k c.in-Some.is (λ left right. elim c.else-begins.branch [
      | else-begins-via-then-begins+else-begins-2 w ↦ absurd (let t = w.if-begins-2.ensures.1 (rw w.middle_of.ensures right) in cc)
      | else-begins-via-else-begins w ↦ absurd (let t = w.if-begins.ensures.1 (rw c.first_of.ensures left) in cc)
    ])
